use Rattle.std.proofs.Common.{◌≡◌, ◌<◌, ◌%◌, sum, map}
use Rattle.std.specs.List.{range_with_len}
use Rattle.dense_mat.specs.Matrix.{entry}
use Rattle.dense_mat.proofs.trace.diagonal_sum.Given as goal

-- the first entries are summed
abbrev pub invariant-loop-i : goal.invariant-loop-i
invariant-loop-i l = record {
  value : l.trace ≡ sum (map (λ k. entry l.mat k k) (range_with_len 0 l.i)) % l.field;
  below : l.trace < l.field;
}
