use Rattle.p1_normal.proofs.Factors.{Euclid}
use Rattle.p1_normal.proofs.tables.multiplier.Given as goal

abbrev pub invariant-loop-y : goal.invariant-loop-y
invariant-loop-y l = Euclid l.n l.u l.x l.y l.s l.t

abbrev pub decreases-loop-y : goal.decreases-loop-y
decreases-loop-y l = l.y
