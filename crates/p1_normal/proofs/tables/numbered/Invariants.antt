use Rattle.std.proofs.Common.{◌*◌}
use Rattle.p1_normal.specs.Sieving.{Sieved}
use Rattle.p1_normal.proofs.tables.numbered.Given as goal

abbrev pub invariant-loop-u : goal.invariant-loop-u
invariant-loop-u l = Sieved l.n (l.u * l.n) l.points.items l.numbers.items
