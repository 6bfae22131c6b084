-- The reply to a command line, at a ground g (a level and a characteristic) and after a history of accepted splits.
--   UnlessRefused o A reply          the reply is the refusal, or A holds where there is none
--   IsAnswerTo g v s r reply         the reply answers the command that a line is read as, at version v with the splitting s
--   IsReplyAt g v s text reply       the reply to a command line there: the first refusal, else the answer
--   IsReply g history text reply     the same at the version of a history: its length and its one splitting
--   Refuses o reply                  there is a refusal, and the reply tells it
--   IsAccepted reply                 the reply is that of an accepted split
--   Prepares g v c text p            what stands between a line and its answer: its command, at the ground and at version v with c parts, which
--                                    nothing refuses
--   IsVersionAt g v s                s is the version of some history of v entries
--   FinishesSplit g s o f o' f' next sizes
--                                    the split of s by f in the operator o was accepted: o' and f' are these, next is the next version, and the
--                                    sizes are the dimensions of its parts
--   Finishes g v s c f               the command is finished by its answer, by want of memory, or by an accepted split
--   FinishesReading g v s r f        it finishes the command that a line is read as
--   FinishesLine g v s text f        a command line comes to this: its first refusal, or want of memory, or what finishes its command
use Rattle.std.specs.Prelude.{◌≡◌, ℕ, ◌⊎◌, List, length, map, Option, Some, None, Result, Ok, Err}
use Rattle.linear_algebra.specs.Integers.{residue_of}
use Rattle.quotient_coords.specs.Quotient.{Ground}
use Rattle.op_polynomials.specs.declared.entry.SplitEntry.{SplitEntry}
use Rattle.op_polynomials.specs.declared.name.OpName.{OpName}
use Rattle.split_state.specs.Decomposition.{Decomposition}
use Rattle.split_state.specs.Versions.{IsOperatorMatrix, IsVersion}
use Rattle.script_text.specs.declared.command.Command.{Command}
use Rattle.script_text.specs.declared.command.Command.TheVariants as commands
use Rattle.script_text.specs.declared.command_fault.CommandFault.{CommandFault}
use Rattle.script_text.specs.Commands.{command_of}
use Rattle.reply_text.specs.declared.refusal.Refusal.{Refusal}
use Rattle.reply_text.specs.declared.reply.Reply.{Reply}
use Rattle.reply_text.specs.declared.reply.Reply.TheVariants as replies
use Rattle.session_core.specs.declared.outcome.Finish.{Finish}
use Rattle.session_core.specs.declared.outcome.Finish.TheVariants as outcomes
use Rattle.session_core.specs.Refusals.{refusal_of, line_refusal}
use Rattle.session_core.specs.Answers.{IsAnswer, IsSplitInto, part_sizes}
use Rattle.session_core.specs.Demands.{Preparation}
use Rattle.session_core.specs.Operators.{KeepsCongruence}

abbrev pub UnlessRefused : Option Refusal → Type 0 → Reply → Type 0
UnlessRefused None answer reply = answer
UnlessRefused (Some refusal) answer reply = reply ≡ replies.Refused refusal

abbrev pub IsAnswerTo : Ground → ℕ → Decomposition → Result Command CommandFault → Reply → Type 0
IsAnswerTo g v s (Err fault) reply = ⊥
IsAnswerTo g v s (Ok command) reply = IsAnswer g v s command reply

abbrev pub IsReplyAt : Ground → ℕ → Decomposition → List ℕ → Reply → Type 0
IsReplyAt g v s text reply = UnlessRefused (line_refusal g v (length s.parts) text) (IsAnswerTo g v s (command_of text) reply) reply

pub record IsReply (g : Ground) (history : List SplitEntry) (text : List ℕ) (reply : Reply) : Type 0 where
  pub splitting : Decomposition
  pub version : IsVersion g history splitting
  pub reply_at : IsReplyAt g (length history) splitting text reply

abbrev pub Refuses : Option Refusal → Reply → Type 0
Refuses None reply = ⊥
Refuses (Some refusal) reply = reply ≡ replies.Refused refusal

abbrev pub IsAccepted : Reply → Type 0
IsAccepted (replies.Version number dims) = Unit {0}
IsAccepted reply = ⊥

pub record Prepares (g : Ground) (v parts : ℕ) (text : List ℕ) (p : Preparation) : Type 0 where
  pub at_ground : p.ground ≡ g
  pub at_version : p.version ≡ v
  pub with_parts : p.parts ≡ parts
  pub command_is : command_of text ≡ Ok p.command
  pub unrefused : refusal_of g v parts p.command ≡ None

pub record IsVersionAt (g : Ground) (v : ℕ) (s : Decomposition) : Type 0 where
  pub history : List SplitEntry
  pub count : length history ≡ v
  pub version : IsVersion g history s

pub record FinishesSplit (g : Ground) (s : Decomposition) (op : OpName) (f : List ℕ) (told : OpName) (poly : List ℕ) (next : Decomposition)
    (sizes : List ℕ) : Type 0 where
  pub op_is : told ≡ op
  pub poly_is : poly ≡ f
  pub columns : List (List ℕ)
  pub keeps : KeepsCongruence g op
  pub matrix : IsOperatorMatrix g op columns
  pub is_next : IsSplitInto s op f columns next
  pub sizes_are : sizes ≡ part_sizes next

abbrev pub Finishes : Ground → ℕ → Decomposition → Command → Finish → Type 0
Finishes g v s command (outcomes.Reply reply) = (IsAnswer g v s command reply × (IsAccepted reply → ⊥)) ⊎ (reply ≡ replies.Memory)
Finishes g v s (commands.Split op coefficients) (outcomes.Split told poly next sizes) =
    FinishesSplit g s op (map (residue_of g.characteristic) coefficients) told poly next sizes
Finishes g v s command (outcomes.Split told poly next sizes) = ⊥

abbrev pub FinishesReading : Ground → ℕ → Decomposition → Result Command CommandFault → Finish → Type 0
FinishesReading g v s (Err fault) finish = ⊥
FinishesReading g v s (Ok command) finish = Finishes g v s command finish

abbrev pub FinishesLine : Ground → ℕ → Decomposition → List ℕ → Finish → Type 0
FinishesLine g v s text (outcomes.Reply reply) = (IsReplyAt g v s text reply × (IsAccepted reply → ⊥)) ⊎ (reply ≡ replies.Memory)
FinishesLine g v s text finish = (line_refusal g v (length s.parts) text ≡ None) × FinishesReading g v s (command_of text) finish
