-- What legal transcripts of a script have in common.
--   HistoriesAreShort     no more entries than splits
--   NoHistoryIsFull       fewer entries than a history has room for, where there are fewer commands
--   SplitsFillHistories   as many entries as splits, where each split is accepted
--   ImagesAreFixed        one reply to each `image` line, where the script fits and the reply is no want of memory
--   AllAreAnswered        an answer to each command, where the script fits and no reply is want of memory
use Rattle.std.specs.Prelude.{◌≡◌, ◌≢◌, ◌<◌, ◌≤◌, ℕ, List, length, Ok}
use Rattle.field_table.specs.Table.{IsListed}
use Rattle.script_text.specs.declared.command.Command.TheVariants.{Image}
use Rattle.script_text.specs.declared.term.Term.{Term}
use Rattle.script_text.specs.Commands.{command_of}
use Rattle.script_text.specs.Numbered.{NumberedLine}
use Rattle.script_text.specs.Valid.{ScriptText, command_count}
use Rattle.reply_text.specs.declared.limits.TheConstants.{MAX_VERSIONS}
use Rattle.reply_text.specs.declared.reply.Reply.TheVariants.{Memory}
use Rattle.reply_text.specs.declared.transcript.ReplyLine.{ReplyLine}
use Rattle.reply_text.specs.declared.transcript.Transcript.{Transcript}
use Rattle.session_core.specs.Transcripts.{HasNoMemory, IsAnsweredBy, IsLegalRun, IsLegalTranscript}
use Rattle.generated_runs.specs.Splits.{split_count}
use Rattle.generated_runs.specs.Unrefused.{AcceptsSplits, AnswersAll, Fits}

abbrev pub HistoriesAreShort : Type 0
HistoriesAreShort = (script : ScriptText) (t : Transcript) → IsLegalTranscript script t → length t.history ≤ split_count script.sessions

abbrev pub NoHistoryIsFull : Type 0
NoHistoryIsFull = (script : ScriptText) (t : Transcript) → IsLegalTranscript script t → command_count script.sessions < MAX_VERSIONS
    → length t.history < MAX_VERSIONS

abbrev pub SplitsFillHistories : Type 0
SplitsFillHistories = (script : ScriptText) (t : Transcript) → IsLegalTranscript script t → AcceptsSplits script t
    → length t.history ≡ split_count script.sessions

abbrev pub ImagesAreFixed : Type 0
ImagesAreFixed = (script : ScriptText) (t u : Transcript) → IsListed script.space.characteristic → Fits script → IsLegalTranscript script t
    → IsLegalTranscript script u → (s c : ℕ) (line : NumberedLine) (r q : ReplyLine) (n : ℕ) (terms : List Term) → IsAnsweredBy script t s c line r
    → IsAnsweredBy script u s c line q → command_of line.text ≡ Ok (Image n terms) → r.reply ≢ Memory → q.reply ≢ Memory → r.reply ≡ q.reply

abbrev pub AllAreAnswered : Type 0
AllAreAnswered = (script : ScriptText) (t : Transcript) → IsListed script.space.characteristic → Fits script
    → IsLegalRun script t → HasNoMemory t → AnswersAll script t
