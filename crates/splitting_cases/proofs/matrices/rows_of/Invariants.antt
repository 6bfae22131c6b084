use Rattle.std.proofs.Common.{◌≡◌, length}
use Rattle.dense_mat.specs.Echelon.{AreRows}
use Rattle.splitting_cases.proofs.matrices.rows_of.Given as goal

abbrev pub invariant-loop-row : goal.invariant-loop-row
invariant-loop-row l = record {
  length : length l.list.items ≡ l.row-index;
  rows : AreRows l.field l.width l.list.items;
}
