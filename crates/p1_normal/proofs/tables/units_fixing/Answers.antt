use Rattle.std.proofs.Common.{arith, get_or}
use Rattle.p1_normal.proofs.UnitLists.{unit_below_in}
use Rattle.p1_normal.proofs.Marking.{product_small}
use Rattle.p1_normal.proofs.tables.units_fixing.Goals as goal

pub overflow_mul-s : goal.overflow_mul-s
overflow_mul-s c = omega (
  arith,
  product_small c.args.n (get_or c.args.multipliers.now c.loop-s.s-index 0) c.args.u c.requires.level.1
      (unit_below_in c.args.n c.loop-s.s-index c.args.multipliers.now c.requires.units c.loop-s-test.true) c.requires.below,
)
