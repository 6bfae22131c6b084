use Rattle.std.proofs.Common.{◌≡◌, map, take}
use Rattle.cusps_boundary.specs.Cusps.{cusps}
use Rattle.p1_normal.specs.Points.{symbol_at}
use Rattle.session_core.proofs.answers.cusps.least_points.Given as goal

abbrev pub invariant-loop-c : goal.invariant-loop-c
invariant-loop-c l = l.points.items ≡ map (symbol_at l.level) (take l.c (cusps l.level))
