-- How many columns a legal run counts.
--   ColumnsAreBounded   no more than the distinct pairs (n, symbol) that the commands of its script demand, each at a version that is not full:
--                       a command that is refused without a look at an operator demands none
use Rattle.std.specs.Prelude.{◌≤◌}
use Rattle.std.specs.Set.{distinct_count}
use Rattle.script_text.specs.Valid.{ScriptText}
use Rattle.reply_text.specs.declared.transcript.Transcript.{Transcript}
use Rattle.session_core.specs.Demands.{is_pair, script_demand}
use Rattle.session_core.specs.Transcripts.{script_ground, IsLegalRun}

abbrev pub ColumnsAreBounded : Type 0
ColumnsAreBounded = (script : ScriptText) (t : Transcript) → IsLegalRun script t
    → t.columns ≤ distinct_count is_pair (script_demand (script_ground script) script.sessions)
