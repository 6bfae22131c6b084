use Rattle.std.proofs.Common.{◌≡◌, ◌<◌, ◌^◌, All, take}
use Rattle.linear_algebra.specs.Dense.{dense}
use Rattle.linear_algebra.specs.Residue.{residue}
use Rattle.linear_algebra.specs.Sparse.{sparse}
use Rattle.linear_algebra.specs.Vector.{◌⊞◌, ◌⊡◌}
use Rattle.quotient_coords.proofs.row_sums.add_multiple.Given as goal

-- the terms so far are added
abbrev pub invariant-loop-term : goal.invariant-loop-term
invariant-loop-term l = record {
  sum : dense l.fn.field l.sums ≡ dense l.fn.field l.fn.sums ⊞ residue l.fn.field l.c ⊡ sparse l.fn.field (take l.term-index l.terms);
  room : All (λ x. x < 2 ^ 63) l.sums;
}
