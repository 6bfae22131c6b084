use Rattle.std.proofs.Common.{◌≡◌, ◌≤◌, ◌+◌, ◌*◌, ◌-◌}
use Rattle.field_table.specs.declared.table.TheConstants.{CHARACTERISTIC_LIMIT}
use Rattle.field_table.specs.InnerProduct.{inner_product_before}
use Rattle.field_table.proofs.products.sum_of_products.Given as goal

-- the sum is that of the places from `start` to before i
abbrev pub invariant-loop-i : goal.invariant-loop-i
invariant-loop-i l = record {
  sum : inner_product_before l.x l.y l.start + l.sum ≡ inner_product_before l.x l.y l.i;
  range : l.sum ≤ (l.i - l.start) * (CHARACTERISTIC_LIMIT * CHARACTERISTIC_LIMIT);
}
