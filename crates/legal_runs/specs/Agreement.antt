-- What two legal transcripts of one script have in common.
--   AgreeUnlessMemory r q       the reply lines have one reply, unless that of one of them is want of memory
--   TellsNoVersion c            the command is none of `show`, `part` and `split`
--   StandsOnNoVersion r         so is the command that a line is read as, where it is one
--   RepliesAreFixedByVersions   what a line replies at a version v is fixed by the first v entries of the history
--   OtherRepliesAreFixed        what a line replies that is no `show`, `part` or `split` is fixed, whatever the versions and histories
--   OneSessionIsFixed           where no reply is want of memory, the replies and the history of a script of one session are fixed
--   RepliesWithoutSplitsAreFixed   where no reply is want of memory and no history has an entry, the replies are fixed
use Rattle.std.specs.Prelude.{◌≡◌, ◌⊎◌, ℕ, [], length, take, Result, Ok, Err}
use Rattle.field_table.specs.Table.{IsListed}
use Rattle.script_text.specs.declared.command.Command.{Command}
use Rattle.script_text.specs.declared.command.Command.TheVariants as commands
use Rattle.script_text.specs.declared.command_fault.CommandFault.{CommandFault}
use Rattle.script_text.specs.Commands.{command_of}
use Rattle.script_text.specs.Numbered.{NumberedLine}
use Rattle.script_text.specs.Valid.{ScriptText}
use Rattle.reply_text.specs.declared.reply.Reply.TheVariants as replies
use Rattle.reply_text.specs.declared.transcript.ReplyLine.{ReplyLine}
use Rattle.reply_text.specs.declared.transcript.Transcript.{Transcript}
use Rattle.session_core.specs.Transcripts.{HasNoMemory, IsAnsweredBy, IsLegalTranscript}

abbrev pub AgreeUnlessMemory : ReplyLine → ReplyLine → Type 0
AgreeUnlessMemory r q = (r.reply ≡ q.reply) ⊎ ((r.reply ≡ replies.Memory) ⊎ (q.reply ≡ replies.Memory))

abbrev pub TellsNoVersion : Command → Type 0
TellsNoVersion commands.Show = ⊥
TellsNoVersion (commands.Part number) = ⊥
TellsNoVersion (commands.Split op coefficients) = ⊥
TellsNoVersion command = Unit {0}

abbrev pub StandsOnNoVersion : Result Command CommandFault → Type 0
StandsOnNoVersion (Ok command) = TellsNoVersion command
StandsOnNoVersion (Err fault) = Unit {0}

abbrev pub RepliesAreFixedByVersions : Type 0
RepliesAreFixedByVersions = (script : ScriptText) (t u : Transcript) → IsListed script.space.characteristic → IsLegalTranscript script t
    → IsLegalTranscript script u → (s c : ℕ) (line : NumberedLine) (r q : ReplyLine) → IsAnsweredBy script t s c line r
    → IsAnsweredBy script u s c line q → take r.version t.history ≡ take q.version u.history → AgreeUnlessMemory r q

abbrev pub OtherRepliesAreFixed : Type 0
OtherRepliesAreFixed = (script : ScriptText) (t u : Transcript) → IsListed script.space.characteristic → IsLegalTranscript script t
    → IsLegalTranscript script u → (s c : ℕ) (line : NumberedLine) (r q : ReplyLine) → IsAnsweredBy script t s c line r
    → IsAnsweredBy script u s c line q → StandsOnNoVersion (command_of line.text) → AgreeUnlessMemory r q

abbrev pub OneSessionIsFixed : Type 0
OneSessionIsFixed = (script : ScriptText) (t u : Transcript) → IsListed script.space.characteristic → length script.sessions ≡ 1
    → IsLegalTranscript script t → IsLegalTranscript script u → HasNoMemory t → HasNoMemory u
    → (t.sessions ≡ u.sessions) × (t.history ≡ u.history)

abbrev pub RepliesWithoutSplitsAreFixed : Type 0
RepliesWithoutSplitsAreFixed = (script : ScriptText) (t u : Transcript) → IsListed script.space.characteristic
    → IsLegalTranscript script t → IsLegalTranscript script u → HasNoMemory t → HasNoMemory u → t.history ≡ [] → u.history ≡ []
    → t.sessions ≡ u.sessions
