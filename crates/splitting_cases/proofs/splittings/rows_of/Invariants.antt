use Rattle.std.proofs.Common.{◌≡◌, length}
use Rattle.dense_mat.specs.Echelon.{AreRows}
use Rattle.splitting_cases.proofs.splittings.rows_of.Given as goal

abbrev pub invariant-loop-row : goal.invariant-loop-row
invariant-loop-row g l = record {
  length : length l.list.items ≡ l.row-index;
  rows : AreRows l.field l.width l.list.items;
}
