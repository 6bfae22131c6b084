use Rattle.std.proofs.Common.{◌≡◌, ◌-◌}
use Rattle.script_text.specs.Draws.{index_from}
use Rattle.script_text.proofs.DrawLemmas.{coprime_from}
use Rattle.script_text.proofs.draws.index_from.Given as goal

abbrev pub invariant-loop-n : goal.invariant-loop-n
invariant-loop-n l = coprime_from l.level l.n (l.n-end - l.n) ≡ index_from l.level l.least
