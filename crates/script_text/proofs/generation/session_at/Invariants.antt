use Rattle.std.proofs.Common.{◌≡◌}
use Rattle.script_text.proofs.GenerationLemmas.{HasCommands}
use Rattle.script_text.proofs.generation.session_at.Given as goal

abbrev pub invariant-loop-place : goal.invariant-loop-place
invariant-loop-place l = record {
  level : l.draws.level ≡ l.initial.draws.level;
  made : HasCommands l.initial.draws.level l.initial.draws.state l.first l.place l.session l.draws.state;
}
