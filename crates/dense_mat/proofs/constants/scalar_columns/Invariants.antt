use Rattle.std.proofs.Common.{◌≡◌, ◌<◌, ℕ, [], length, get_or}
use Rattle.dense_mat.specs.Matrix.{scalar_column}
use Rattle.dense_mat.proofs.constants.scalar_columns.Given as goal

-- the columns before j are there
abbrev pub invariant-loop-j : goal.invariant-loop-j
invariant-loop-j l = record {
  many : length l.columns.items ≡ l.j;
  each : (i : ℕ) → i < length l.columns.items → get_or l.columns.items i [] ≡ scalar_column l.size l.c i;
}
