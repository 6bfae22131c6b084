use Rattle.std.proofs.Common.{◌≡◌, ◌<◌, ◌^◌, All, take}
use Rattle.linear_algebra.specs.Dense.{dense}
use Rattle.linear_algebra.specs.Sparse.{sparse, sparse_rows}
use Rattle.linear_algebra.specs.Vector.{◌⊞◌, combination}
use Rattle.quotient_coords.proofs.row_sums.add_rows.Given as goal

-- the rows of the terms so far are added
abbrev pub invariant-loop-term : goal.invariant-loop-term
invariant-loop-term l = record {
  sum : dense l.field l.sums ≡ dense l.field l.fn.sums ⊞ combination (sparse l.field (take l.term-index l.terms)) (sparse_rows l.field l.rows);
  room : All (λ x. x < 2 ^ 63) l.sums;
}
