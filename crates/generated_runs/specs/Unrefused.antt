-- Scripts that nothing refuses, and their transcripts.
--   IsUnrefused g text      nothing refuses the command line at the ground g, at a version that is not full, whatever the number of its parts
--   Fits script             the script has fewer commands than a history has room for, and nothing refuses one of them
--   AcceptsSplits script t  the reply to each split is that of an accepted one
--   AnswersAll script t     each reply begins with ok, so that there are as many such as commands; each split is accepted, so that there are as
--                           many versions as splits; and there are as many columns as distinct pairs that the commands demand
use Rattle.std.specs.Prelude.{◌≡◌, ◌<◌, ℕ, ℤ, true, List, length, All, None, Ok}
use Rattle.std.specs.Set.{distinct_count}
use Rattle.quotient_coords.specs.Quotient.{Ground}
use Rattle.op_polynomials.specs.declared.name.OpName.{OpName}
use Rattle.script_text.specs.declared.command.Command.TheVariants.{Split}
use Rattle.script_text.specs.Commands.{command_of}
use Rattle.script_text.specs.Numbered.{NumberedLine}
use Rattle.script_text.specs.Valid.{ScriptText, command_count}
use Rattle.reply_text.specs.declared.limits.TheConstants.{MAX_VERSIONS}
use Rattle.reply_text.specs.declared.transcript.ReplyLine.{ReplyLine}
use Rattle.reply_text.specs.declared.transcript.Transcript.{Transcript}
use Rattle.reply_text.specs.Summaries.{count_replies, is_ok}
use Rattle.session_core.specs.Demands.{is_pair, script_demand}
use Rattle.session_core.specs.Refusals.{line_refusal}
use Rattle.session_core.specs.Replies.{IsAccepted}
use Rattle.session_core.specs.Transcripts.{IsAnsweredBy, script_ground}
use Rattle.generated_runs.specs.Splits.{split_count}

abbrev pub IsUnrefused : Ground → List ℕ → Type 0
IsUnrefused g text = (v count : ℕ) → v < MAX_VERSIONS → line_refusal g v count text ≡ None

pub record Fits (script : ScriptText) : Type 0 where
  pub few : command_count script.sessions < MAX_VERSIONS
  pub unrefused : All (All (λ (line : NumberedLine). IsUnrefused (script_ground script) line.text)) script.sessions

abbrev pub AcceptsSplits : ScriptText → Transcript → Type 0
AcceptsSplits script t = (s c : ℕ) (line : NumberedLine) (r : ReplyLine) (op : OpName) (coefficients : List ℤ) → IsAnsweredBy script t s c line r
    → command_of line.text ≡ Ok (Split op coefficients) → IsAccepted r.reply

pub record AnswersAll (script : ScriptText) (t : Transcript) : Type 0 where
  pub answers : All (All (λ (r : ReplyLine). is_ok r.reply ≡ true)) t.sessions
  pub count : count_replies is_ok t.sessions ≡ command_count script.sessions
  pub accepts : AcceptsSplits script t
  pub versions : length t.history ≡ split_count script.sessions
  pub columns : t.columns ≡ distinct_count is_pair (script_demand (script_ground script) script.sessions)
