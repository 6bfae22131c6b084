use Rattle.std.proofs.Common.{◌<◌, ◌^◌, All}
use Rattle.quotient_coords.proofs.RowSums.{AreCounted}
use Rattle.quotient_coords.proofs.row_sums.add_counted_rows.Given as goal

-- the rows of the counts so far are added
abbrev pub invariant-loop-k : goal.invariant-loop-k
invariant-loop-k l = record {
  counted : AreCounted l.field l.rows l.counts l.k l.fn.sums l.sums;
  room : All (λ x. x < 2 ^ 63) l.sums;
}
