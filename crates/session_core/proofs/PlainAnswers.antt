-- The answer to a command that is no split is not that of an accepted split.
use Rattle.std.proofs.Common.{◌≡◌, inl, inr, ℕ, List, subst}
use Rattle.quotient_coords.specs.Quotient.{Ground}
use Rattle.op_polynomials.specs.declared.name.OpName.{OpName}
use Rattle.op_polynomials.specs.declared.name.OpName.TheVariants as ops
use Rattle.split_state.specs.Decomposition.{Decomposition}
use Rattle.script_text.specs.declared.command.Command.{Command}
use Rattle.script_text.specs.declared.command.Command.TheVariants as commands
use Rattle.reply_text.specs.declared.refusal.Refusal.TheVariants as refusals
use Rattle.reply_text.specs.declared.reply.Reply.{Reply}
use Rattle.reply_text.specs.declared.reply.Reply.TheVariants as replies
use Rattle.session_core.specs.declared.outcome.Finish.TheVariants as outcomes
use Rattle.session_core.specs.Answers.{IsAnswer, IsNoSplit}
use Rattle.session_core.specs.Operators.{AnswersBy, TellsTrace, TellsImage, TellsValue}
use Rattle.session_core.specs.Replies.{IsAccepted, Finishes}

-- a reply of another kind is that of no accepted split
other_reply : (reply other : Reply) → reply ≡ other → (IsAccepted other → ⊥) → IsAccepted reply → ⊥
other_reply reply other same none accepted = none (subst IsAccepted same accepted)

-- an operator answers by none, where its matrix does
plain_operator : (g : Ground) (op : OpName) (P : List (List ℕ) → Reply → Type 0) (reply : Reply)
    → ((columns : List (List ℕ)) → P columns reply → IsAccepted reply → ⊥) → AnswersBy g op P reply → IsAccepted reply → ⊥
plain_operator g (ops.T n) P reply none (inl h) = other_reply reply (replies.Refused (refusals.Relation h.number h.coords)) h.told (λ a. a)
plain_operator g ops.Star P reply none (inl h) = absurd h
plain_operator g op P reply none (inr h) = none h.columns h.told

pub plain_answer : (g : Ground) (v : ℕ) (s : Decomposition) (command : Command) (reply : Reply) → IsNoSplit command → IsAnswer g v s command reply
    → IsAccepted reply → ⊥
plain_answer g v s (commands.Normal a b) reply plain h = other_reply reply _ h (λ a. a)
plain_answer g v s commands.Basis reply plain h = other_reply reply _ h (λ a. a)
plain_answer g v s (commands.Reduce terms) reply plain h = other_reply reply (replies.Coords h.0) h.1 (λ a. a)
plain_answer g v s (commands.Certify terms) reply plain h = other_reply reply (replies.Certified h.values h.coefficients) h.told (λ a. a)
plain_answer g v s (commands.Image n terms) reply plain h = other_reply reply (replies.Coords h.0) h.1 (λ a. a)
plain_answer g v s (commands.Star terms) reply plain h = other_reply reply (replies.Coords h.0) h.1 (λ a. a)
plain_answer g v s (commands.Boundary terms) reply plain h = other_reply reply (replies.Boundary h.values) h.told (λ a. a)
plain_answer g v s commands.Cusps reply plain h = other_reply reply _ h (λ a. a)
plain_answer g v s (commands.Operator op) reply plain h =
    plain_operator g op (TellsTrace g) reply (λ columns told. other_reply reply _ told (λ a. a)) h
plain_answer g v s (commands.Apply op coords) reply plain h =
    plain_operator g op (TellsImage g coords) reply (λ columns told. other_reply reply (replies.Coords told.values) told.told (λ a. a)) h
plain_answer g v s (commands.Poly op coefficients coords) reply plain h =
    plain_operator g op (TellsValue g coefficients coords) reply (λ columns told. other_reply reply (replies.Coords told.values) told.told (λ a. a)) h
plain_answer g v s (commands.Split op coefficients) reply plain h = absurd plain
plain_answer g v s commands.Show reply plain h = other_reply reply _ h (λ a. a)
plain_answer g v s (commands.Part number) reply plain h = other_reply reply (replies.Rows h.part.rows) h.told (λ a. a)
plain_answer g v s (commands.Chains n) reply plain h = other_reply reply _ h (λ a. a)

-- so it finishes its command
pub plain_finish : (g : Ground) (v : ℕ) (s : Decomposition) (command : Command) (reply : Reply) → IsNoSplit command → IsAnswer g v s command reply
    → Finishes g v s command (outcomes.Reply reply)
plain_finish g v s command reply plain h = inl (h, plain_answer g v s command reply plain h)
