use Rattle.std.proofs.Common.{◌≡◌, map, take}
use Rattle.p1_normal.specs.Points.{symbol_at}
use Rattle.quotient_coords.specs.Quotient.{free_symbols}
use Rattle.session_core.proofs.answers.points.free_points.Given as goal

abbrev pub invariant-loop-j : goal.invariant-loop-j
invariant-loop-j l = l.points.items ≡ map (symbol_at l.space.level) (take l.j (free_symbols l.space.level l.space.characteristic))
