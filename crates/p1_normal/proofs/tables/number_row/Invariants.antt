use Rattle.std.proofs.Common.{◌≡◌, ◌+◌, ◌*◌, length}
use Rattle.p1_normal.specs.Sieving.{Sieved}
use Rattle.p1_normal.proofs.tables.number_row.Given as goal

abbrev pub invariant-loop-v : goal.invariant-loop-v
invariant-loop-v l = record {
  sieved : Sieved l.n (l.u * l.n + l.v) l.points.items l.numbers;
  size : length l.numbers ≡ length l.initial.numbers;
}
