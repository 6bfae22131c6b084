-- The host after a line: its reply, its history, and the version that the history has.
use Rattle.std.proofs.Common.{◌≡◌, ◌+◌, ◌<◌, ◌≤◌, ℕ, ℤ, List, [], ◌∷◌, ◌++◌, length, map, None, Result, Ok, Err, refl, sym, ap, subst, inl, inr, arith}
use Rattle.std.proofs.lemmas.List.{length-append}
use Rattle.linear_algebra.specs.Integers.{residue_of}
use Rattle.quotient_coords.specs.Quotient.{Ground, dimension}
use Rattle.op_polynomials.specs.declared.entry.SplitEntry.{SplitEntry}
use Rattle.op_polynomials.specs.declared.name.OpName.{OpName}
use Rattle.split_state.specs.Decomposition.{Decomposition}
use Rattle.split_state.specs.Step.{IsStep, IsWhole}
use Rattle.split_state.specs.Versions.{IsOperatorMatrix, IsVersion}
use Rattle.split_state.proofs.Versions.{version_more, version_whole}
use Rattle.script_text.specs.declared.command.Command.{Command}
use Rattle.script_text.specs.declared.command.Command.TheVariants as commands
use Rattle.script_text.specs.declared.command_fault.CommandFault.{CommandFault}
use Rattle.script_text.specs.Commands.{command_of}
use Rattle.script_text.specs.Numbered.{NumberedLine}
use Rattle.reply_text.specs.declared.limits.TheConstants.{MAX_VERSIONS}
use Rattle.reply_text.specs.declared.reply.Reply.{Reply}
use Rattle.reply_text.specs.declared.reply.Reply.TheVariants as replies
use Rattle.session_core.specs.declared.outcome.Finish.TheVariants as outcomes
use Rattle.session_core.specs.Refusals.{line_refusal}
use Rattle.session_core.specs.Answers.{IsAnswer}
use Rattle.session_core.specs.Replies.{UnlessRefused, IsAnswerTo, IsReplyAt, IsAccepted, FinishesSplit, FinishesReading, FinishesLine, IsVersionAt}
use Rattle.session_core.specs.Hosts.{EntersLine}
use Rattle.session_core.specs.SoloRuns.{grown, unchanged, Answers}
use Rattle.session_core.proofs.LegalRuns.{split_has_room}

-- what an accepted split of a line is
pub record IsAcceptedSplit (g : Ground) (v : ℕ) (s : Decomposition) (text : List ℕ) (op : OpName) (poly : List ℕ) (next : Decomposition)
    (sizes : List ℕ) : Type 0 where
  pub reply : IsReplyAt g v s text (replies.Version (v + 1) sizes)
  pub coefficients : List ℤ
  pub split : command_of text ≡ Ok (commands.Split op coefficients)
  pub polynomial : poly ≡ map (residue_of g.characteristic) coefficients
  pub columns : List (List ℕ)
  pub operator : IsOperatorMatrix g op columns
  pub step : IsStep s op columns poly next
  pub room : v < MAX_VERSIONS

-- a split by its own operator and polynomial
split_by : (g : Ground) (v : ℕ) (s : Decomposition) (text : List ℕ) (op told : OpName) (coefficients : List ℤ) (poly : List ℕ)
    (next : Decomposition) (sizes : List ℕ)
    → command_of text ≡ Ok (commands.Split op coefficients) → line_refusal g v (length s.parts) text ≡ None
    → FinishesSplit g s op (map (residue_of g.characteristic) coefficients) told poly next sizes
    → IsAcceptedSplit g v s text told poly next sizes
split_by g v s text op told coefficients poly next sizes read none f =
    let read_told : command_of text ≡ Ok (commands.Split told coefficients) =
    subst (λ o. command_of text ≡ Ok (commands.Split o coefficients)) (sym f.op_is) read in
    let answer : IsAnswer g v s (commands.Split told coefficients) (replies.Version (v + 1) sizes) =
    subst (λ o. IsAnswer g v s (commands.Split o coefficients) (replies.Version (v + 1) sizes)) (sym f.op_is) (inr (record {
      columns = f.columns;
      keeps = f.keeps;
      matrix = f.matrix;
      told = inr (record { next = next; is_next = f.is_next; told = ap (replies.Version (v + 1)) f.sizes_are });
    })) in
    record {
      reply = subst (λ o. UnlessRefused o (IsAnswerTo g v s (command_of text) (replies.Version (v + 1) sizes)) (replies.Version (v + 1) sizes))
          (sym none)
          (subst (λ reading. IsAnswerTo g v s reading (replies.Version (v + 1) sizes)) (sym read_told) answer);
      coefficients = coefficients;
      split = read_told;
      polynomial = f.poly_is;
      columns = f.columns;
      operator = subst (λ o. IsOperatorMatrix g o f.columns) (sym f.op_is) f.matrix;
      step = subst (λ o. IsStep s o f.columns poly next) (sym f.op_is)
          (subst (λ xs. IsStep s op f.columns xs next) (sym f.poly_is) f.is_next.step);
      room = split_has_room g v (length s.parts) text told coefficients read_told none;
    }

pub accepted_split : (g : Ground) (v : ℕ) (s : Decomposition) (text : List ℕ) (op : OpName) (poly : List ℕ) (next : Decomposition) (sizes : List ℕ)
    → FinishesLine g v s text (outcomes.Split op poly next sizes) → IsAcceptedSplit g v s text op poly next sizes
accepted_split g v s text op poly next sizes (none, finished) = by (command_of text) refl finished
  where
    by : (reading : Result Command CommandFault) → command_of text ≡ reading → FinishesReading g v s reading (outcomes.Split op poly next sizes)
        → IsAcceptedSplit g v s text op poly next sizes
    by (Ok (commands.Split o coefficients)) read f = split_by g v s text o op coefficients poly next sizes read none f
    by (Ok command) read f = absurd f
    by (Err fault) read f = absurd f

-- the reply line of an accepted split, and the history and the version after it
pub accepted_line : (g : Ground) (session number : ℕ) (history : List SplitEntry) (s : Decomposition) (line : NumberedLine)
    (op : OpName) (poly : List ℕ) (next : Decomposition) (sizes : List ℕ) → IsVersion g history s
    → IsAcceptedSplit g (length history) s line.text op poly next sizes
    → Answers g session history (number, line)
    (record { number = number; version = length history; reply = replies.Version (length history + 1) sizes })
    (history ++ record { session = session; command = number; op = op; poly = poly } ∷ [])
accepted_line g session number history s line op poly next sizes version a = record {
  numbered = refl;
  version = refl;
  reply = inl (record { splitting = s; version = version; reply_at = a.reply });
  after = grown (record {
    accepted = tt;
    session = refl;
    command = refl;
    coefficients = a.coefficients;
    split = a.split;
    polynomial = a.polynomial;
  });
}

pub accepted_version : (g : Ground) (history : List SplitEntry) (s : Decomposition) (text : List ℕ) (e : SplitEntry) (next : Decomposition)
    (sizes : List ℕ) → IsVersion g history s → IsAcceptedSplit g (length history) s text e.op e.poly next sizes
    → IsVersion g (history ++ e ∷ []) next
accepted_version g history s text e next sizes version a =
    version_more g history e s next version (record { matrix = a.columns; operator = a.operator; step = a.step })

-- the reply line of a line that is no accepted split
pub plain_line : (g : Ground) (session number : ℕ) (history : List SplitEntry) (s : Decomposition) (line : NumberedLine)
    (reply : Reply) → IsVersion g history s → FinishesLine g (length history) s line.text (outcomes.Reply reply)
    → Answers g session history (number, line) (record { number = number; version = length history; reply = reply }) history
plain_line g session number history s line reply version (inl (said, plain)) = record {
  numbered = refl;
  version = refl;
  reply = inl (record { splitting = s; version = version; reply_at = said });
  after = unchanged plain;
}
plain_line g session number history s line reply version (inr memory) = record {
  numbered = refl;
  version = refl;
  reply = inr memory;
  after = unchanged (λ accepted. subst IsAccepted memory accepted);
}

-- the same as what the host enters
pub plain_enters : (g : Ground) (session number v : ℕ) (history : List SplitEntry) (s : Decomposition) (line : NumberedLine) (reply : Reply)
    → v ≡ length history → length history ≤ MAX_VERSIONS → IsVersion g history s → FinishesLine g v s line.text (outcomes.Reply reply)
    → EntersLine g session number line v history reply history s
plain_enters g session number v history s line reply count few version finished = record {
  answers = subst (λ n. Answers g session history (number, line) (record { number = number; version = n; reply = reply }) history) (sym count)
      (plain_line g session number history s line reply version (subst (λ n. FinishesLine g n s line.text (outcomes.Reply reply)) count finished));
  version = version;
  few = few;
}

pub memory_enters : (g : Ground) (session number v : ℕ) (history : List SplitEntry) (s : Decomposition) (line : NumberedLine)
    → v ≡ length history → length history ≤ MAX_VERSIONS → IsVersion g history s
    → EntersLine g session number line v history replies.Memory history s
memory_enters g session number v history s line count few version =
    plain_enters g session number v history s line replies.Memory count few version (inr refl)

pub split_enters : (g : Ground) (session number v : ℕ) (history new : List SplitEntry) (s : Decomposition) (line : NumberedLine)
    (op : OpName) (poly : List ℕ) (next : Decomposition) (sizes : List ℕ) → v ≡ length history
    → new ≡ history ++ record { session = session; command = number; op = op; poly = poly } ∷ [] → IsVersion g history s
    → FinishesLine g v s line.text (outcomes.Split op poly next sizes)
    → EntersLine g session number line v history (replies.Version (v + 1) sizes) new next
split_enters g session number v history new s line op poly next sizes count grows version finished =
    let accepted : IsAcceptedSplit g (length history) s line.text op poly next sizes =
    accepted_split g (length history) s line.text op poly next sizes
    (subst (λ n. FinishesLine g n s line.text (outcomes.Split op poly next sizes)) count finished) in
    record {
      answers = subst (λ n. Answers g session history (number, line)
          (record { number = number; version = n; reply = replies.Version (n + 1) sizes }) new) (sym count)
          (subst (λ es. Answers g session history (number, line)
          (record { number = number; version = length history; reply = replies.Version (length history + 1) sizes }) es) (sym grows)
          (accepted_line g session number history s line op poly next sizes version accepted));
      version = subst (λ es. IsVersion g es next) (sym grows)
          (accepted_version g history s line.text (record { session = session; command = number; op = op; poly = poly }) next sizes version accepted);
      few = omega (
        arith,
        accepted.room,
        ap length grows,
        length-append history (record { session = session; command = number; op = op; poly = poly } ∷ []),
      );
    }

-- the whole space is the version of no entry
pub whole_at : (g : Ground) (s : Decomposition) → IsWhole g.characteristic (dimension g.level g.characteristic) s → IsVersionAt g 0 s
whole_at g s whole = record { history = []; count = refl; version = version_whole g s whole }
