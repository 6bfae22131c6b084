use Rattle.std.proofs.Common.{length}
use Rattle.script_text.proofs.ScriptLemmas.{SoFar}
use Rattle.script_text.proofs.reading.parse_script.Given as goal

abbrev pub invariant-loop-line : goal.invariant-loop-line
invariant-loop-line l = SoFar l.reading l.number l.rest l.bytes

abbrev pub decreases-loop-line : goal.decreases-loop-line
decreases-loop-line l = length l.rest
