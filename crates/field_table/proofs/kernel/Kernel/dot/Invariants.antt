use Rattle.std.proofs.Common.{◌≡◌, ◌<◌, ◌≤◌, ◌%◌, ◌-◌, length}
use Rattle.field_table.specs.InnerProduct.{inner_product_before}
use Rattle.field_table.proofs.kernel.Kernel.dot.Given as goal

-- the total is that of the places below `start`
abbrev pub invariant-loop-start : goal.invariant-loop-start
invariant-loop-start g l = record {
  within : l.start ≤ length l.x;
  total : l.total ≡ inner_product_before l.x l.y l.start % g.row.P;
  below : l.total < g.row.P;
}

abbrev pub decreases-loop-start : goal.decreases-loop-start
decreases-loop-start g l = length l.x - l.start
