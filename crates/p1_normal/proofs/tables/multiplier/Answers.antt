use Rattle.std.proofs.Common.{arith}
use Rattle.p1_normal.proofs.Factors.{euclid_start, euclid_step, euclid_end, step_small}
use Rattle.p1_normal.proofs.tables.multiplier.Goals as goal

pub loop-y-init : goal.loop-y-init
loop-y-init c = euclid_start c.args.n c.args.u c.requires.below

pub overflow_sub-next : goal.overflow_sub-next
overflow_sub-next c = c.loop-y.invariant.low_t

pub overflow_mul-next : goal.overflow_mul-next
overflow_mul-next c = omega (
  arith,
  step_small c.args.n c.loop-y.x c.loop-y.y c.loop-y.t c.requires.level.1 c.loop-y.invariant.low_x,
)

pub overflow_add-next : goal.overflow_add-next
overflow_add-next c = omega (
  arith,
  step_small c.args.n c.loop-y.x c.loop-y.y c.loop-y.t c.requires.level.1 c.loop-y.invariant.low_x,
  c.loop-y.invariant.low_s,
  c.requires.level.1,
)

pub loop-y-preserved : goal.loop-y-preserved
loop-y-preserved c = euclid_step c.args.n c.args.u c.loop-y.x c.loop-y.y c.loop-y.s c.loop-y.t c.requires.level.0 c.loop-y-test.true c.loop-y.invariant

pub returns-clause-product : goal.returns-clause-product
returns-clause-product c = euclid_end c.args.n c.args.u c.loop-y.x c.loop-y.y c.loop-y.s c.loop-y.t (omega (arith, c.loop-y-test.false)) c.loop-y.invariant

pub returns-clause-small : goal.returns-clause-small
returns-clause-small c = c.loop-y.invariant.low_s
