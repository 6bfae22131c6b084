use Rattle.std.proofs.Common.{◌≡◌, take, length}
use Rattle.linear_algebra.specs.Dense.{dense, dense_rows}
use Rattle.linear_algebra.specs.Vector.{◌⊞◌, combination}
use Rattle.dense_mat.specs.Accumulation.{HasRoom}
use Rattle.dense_mat.proofs.multiplication.add_image.Given as goal

-- the multiples of the columns before j are added
abbrev pub invariant-loop-j : goal.invariant-loop-j
invariant-loop-j l = record {
  sum : dense l.field l.sums ≡ dense l.field l.fn.sums ⊞ combination (dense l.field l.v) (take l.j (dense_rows l.field l.mat));
  room : HasRoom l.j l.sums;
  length : length l.sums ≡ length l.mat;
}
