-- The runs of a script of one session: its versions are what one thread makes of them.
--   OneSessionRunsAreSolo     a legal run is one whose lines are answered one after another, where the history is not full
--   OneSessionRunsAreUnique   a script of one session has one legal run, where no reply is want of memory and the history is not full
use Rattle.std.specs.Prelude.{◌≡◌, ◌<◌, length}
use Rattle.field_table.specs.Table.{IsListed}
use Rattle.script_text.specs.Valid.{ScriptText}
use Rattle.reply_text.specs.declared.limits.TheConstants.{MAX_VERSIONS}
use Rattle.reply_text.specs.declared.transcript.Transcript.{Transcript}
use Rattle.session_core.specs.SoloRuns.{IsSoloRun}
use Rattle.session_core.specs.Transcripts.{HasNoMemory, IsLegalRun}

abbrev pub OneSessionRunsAreSolo : Type 0
OneSessionRunsAreSolo = (script : ScriptText) (t : Transcript) → length script.sessions ≡ 1 → length t.history < MAX_VERSIONS
    → IsLegalRun script t → IsSoloRun script t

abbrev pub OneSessionRunsAreUnique : Type 0
OneSessionRunsAreUnique = (script : ScriptText) (s t : Transcript) → IsListed script.space.characteristic → length script.sessions ≡ 1
    → IsLegalRun script s → IsLegalRun script t → HasNoMemory s → HasNoMemory t → length s.history < MAX_VERSIONS → s ≡ t
