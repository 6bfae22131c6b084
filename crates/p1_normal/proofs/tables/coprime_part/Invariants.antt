use Rattle.p1_normal.proofs.Factors.{PartSoFar}
use Rattle.p1_normal.proofs.tables.coprime_part.Given as goal

abbrev pub invariant-loop-shared : goal.invariant-loop-shared
invariant-loop-shared l = PartSoFar l.n l.s l.rest l.shared

abbrev pub decreases-loop-shared : goal.decreases-loop-shared
decreases-loop-shared l = l.rest
