use Rattle.std.proofs.Common.{◌≡◌}
use Rattle.script_text.specs.Draws.{first_state, drawn_space}
use Rattle.script_text.proofs.GenerationLemmas.{HasSessions}
use Rattle.script_text.proofs.script.Script.generate.Given as goal

abbrev pub invariant-loop-place : goal.invariant-loop-place
invariant-loop-place l = record {
  level : l.draws.level ≡ (drawn_space (first_state l.fn.seed)).0.modulus;
  made :
      HasSessions (drawn_space (first_state l.fn.seed)).0.modulus (drawn_space (first_state l.fn.seed)).1 l.place l.sessions.items
      l.draws.state;
}
