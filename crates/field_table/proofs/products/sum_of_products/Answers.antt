use Rattle.std.proofs.Common.{get_or, arith}
use Rattle.field_table.specs.declared.table.TheConstants.{CHARACTERISTIC_LIMIT}
use Rattle.field_table.proofs.Lists.{inner_product_before_more, product_within}
use Rattle.field_table.proofs.products.sum_of_products.Goals as goal

pub loop-i-preserved : goal.loop-i-preserved
loop-i-preserved c =
    let more = inner_product_before_more c.args.x.now c.args.y.now c.loop-i.i in
    let small = product_within CHARACTERISTIC_LIMIT (get_or c.args.x.now c.loop-i.i 0) (get_or c.args.y.now c.loop-i.i 0)
    (c.requires.left c.loop-i.i 0 (omega arith)) (c.requires.right c.loop-i.i 0 (omega arith)) in
    rw (c.from.ensures, c.from-in-loop-i.ensures) (record { sum = omega (arith, more); range = omega (arith, small) })
