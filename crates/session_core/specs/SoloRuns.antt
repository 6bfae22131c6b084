-- The runs of one thread: the lines of a script are answered one after another, and the history grows with each accepted split.
-- g is a ground: a level and a characteristic.
--   IsHistoryAfter g s text r old new   what the history is after the reply line r to a line of session s: the entry of an accepted split stands
--                                       at its end, and else nothing changes
--   Answers g s old l r new             r is the reply line of a numbered command line l of session s at the version of the history old, and
--                                       new is the history after it
--   AnswersLines g s old ls rs new      the same of the lines of session s, each after the one before it
--   AnswersSessions g s old sessions all new
--                                       the same of sessions numbered from s on, one after another
--   CountsToldColumns script t          its number of columns is that of some distinct pairs: each is demanded by a line at the version of its
--                                       reply line, and each that is demanded by a line whose reply is not want of memory is there
--   IsSoloRun script t                  a transcript whose lines are answered one after another
--   SoloRunsAreLegal                    such a transcript is a legal run
--   SoloRunsAreUnique                   a script has one, where no reply is want of memory
--   SoloColumnsAreDemanded              then it counts the distinct pairs that its commands demand, each at its version
use Rattle.std.specs.Prelude.{◌≡◌, ℕ, ◌+◌, ◌≤◌, ◌⊎◌, List, [], ◌∷◌, ◌++◌, length}
use Rattle.std.specs.List.{AllZip, IsDistinct, enumerate_from}
use Rattle.std.specs.Set.{distinct_count}
use Rattle.field_table.specs.Table.{IsListed}
use Rattle.p1_normal.specs.Points.{symbols}
use Rattle.quotient_coords.specs.Quotient.{Ground}
use Rattle.op_polynomials.specs.declared.entry.SplitEntry.{SplitEntry}
use Rattle.script_text.specs.Numbered.{NumberedLine}
use Rattle.script_text.specs.Valid.{ScriptText}
use Rattle.reply_text.specs.declared.limits.TheConstants.{MAX_VERSIONS}
use Rattle.reply_text.specs.declared.reply.Reply.TheVariants as replies
use Rattle.reply_text.specs.declared.transcript.ReplyLine.{ReplyLine}
use Rattle.reply_text.specs.declared.transcript.Transcript.{Transcript}
use Rattle.session_core.specs.Demands.{is_pair, Has, told_demands}
use Rattle.session_core.specs.Replies.{IsReply, IsAccepted}
use Rattle.session_core.specs.Transcripts.{script_ground, IsEntry, HoldsDemand, IsLegalRun, HasNoMemory}

pub data IsHistoryAfter (g : Ground) (session : ℕ) (text : List ℕ) (r : ReplyLine) (old : List SplitEntry) : List SplitEntry → Type 0 where
  grown : {e : SplitEntry} → IsEntry g session text r e → IsHistoryAfter g session text r old (old ++ e ∷ [])
  unchanged : (IsAccepted r.reply → ⊥) → IsHistoryAfter g session text r old old

pub record Answers (g : Ground) (session : ℕ) (old : List SplitEntry) (line : ℕ × NumberedLine) (r : ReplyLine) (new : List SplitEntry) : Type 0 where
  pub numbered : r.number ≡ line.0
  pub version : r.version ≡ length old
  pub reply : IsReply g old line.1.text r.reply ⊎ (r.reply ≡ replies.Memory)
  pub after : IsHistoryAfter g session line.1.text r old new

pub data AnswersLines (g : Ground) (session : ℕ) : List SplitEntry → List (ℕ × NumberedLine) → List ReplyLine → List SplitEntry → Type 0 where
  done : {old : List SplitEntry} → AnswersLines g session old [] [] old
  next : {old mid new : List SplitEntry} {line : ℕ × NumberedLine} {lines : List (ℕ × NumberedLine)} {r : ReplyLine} {told : List ReplyLine}
      → Answers g session old line r mid → AnswersLines g session mid lines told new → AnswersLines g session old (line ∷ lines) (r ∷ told) new

pub data AnswersSessions (g : Ground) : ℕ → List SplitEntry → List (List NumberedLine) → List (List ReplyLine) → List SplitEntry → Type 0 where
  done : {session : ℕ} {old : List SplitEntry} → AnswersSessions g session old [] [] old
  next : {session : ℕ} {old mid new : List SplitEntry} {lines : List NumberedLine} {sessions : List (List NumberedLine)} {told : List ReplyLine}
      {all : List (List ReplyLine)} → AnswersLines g session old (enumerate_from 1 lines) told mid
      → AnswersSessions g (session + 1) mid sessions all new → AnswersSessions g session old (lines ∷ sessions) (told ∷ all) new

pub record CountsToldColumns (script : ScriptText) (t : Transcript) : Type 0 where
  pub pairs : List (ℕ × ℕ)
  pub distinct : IsDistinct is_pair pairs
  pub counted : t.columns ≡ length pairs
  pub only : (q : ℕ × ℕ) → Has pairs q → Has (told_demands (script_ground script) script.sessions t.sessions) q
  pub held : AllZip (AllZip (HoldsDemand (script_ground script) pairs)) script.sessions t.sessions

pub record IsSoloRun (script : ScriptText) (t : Transcript) : Type 0 where
  pub modulus : t.modulus ≡ script.space.modulus
  pub characteristic : t.characteristic ≡ script.space.characteristic
  pub symbol_count : t.symbols ≡ length (symbols script.space.modulus)
  pub few : length t.history ≤ MAX_VERSIONS
  pub answers : AnswersSessions (script_ground script) 1 [] script.sessions t.sessions t.history
  pub columns : CountsToldColumns script t

abbrev pub SoloRunsAreLegal : Type 0
SoloRunsAreLegal = (script : ScriptText) (t : Transcript) → IsSoloRun script t → IsLegalRun script t

abbrev pub SoloRunsAreUnique : Type 0
SoloRunsAreUnique = (script : ScriptText) (s t : Transcript) → IsListed script.space.characteristic
    → IsSoloRun script s → IsSoloRun script t → HasNoMemory s → HasNoMemory t → s ≡ t

abbrev pub SoloColumnsAreDemanded : Type 0
SoloColumnsAreDemanded = (script : ScriptText) (t : Transcript) → IsSoloRun script t → HasNoMemory t
    → t.columns ≡ distinct_count is_pair (told_demands (script_ground script) script.sessions t.sessions)
