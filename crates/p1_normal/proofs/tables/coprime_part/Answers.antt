use Rattle.std.proofs.Common.{arith}
use Rattle.std.proofs.Math.Nat.{div-lt_self}
use Rattle.p1_normal.proofs.Factors.{part_start, part_step, part_end}
use Rattle.p1_normal.proofs.tables.coprime_part.Goals as goal

pub loop-shared-init : goal.loop-shared-init
loop-shared-init c = part_start c.args.n c.args.s c.gcd-shared.result c.requires c.gcd-shared.ensures

pub loop-shared-smaller : goal.loop-shared-smaller
loop-shared-smaller c = div-lt_self c.loop-shared.invariant.positive c.loop-shared-test.true

pub loop-shared-preserved : goal.loop-shared-preserved
loop-shared-preserved c = part_step c.args.n c.args.s c.loop-shared.rest c.loop-shared.shared c.gcd-shared-in-loop-shared.result
    c.gcd-shared-in-loop-shared.ensures c.loop-shared.invariant

pub returns-clause-coprime : goal.returns-clause-coprime
returns-clause-coprime c = part_end c.args.n c.args.s c.loop-shared.rest c.loop-shared.shared (omega (arith, c.loop-shared-test.false)) c.loop-shared.invariant

pub returns-clause-units : goal.returns-clause-units
returns-clause-units c = c.loop-shared.invariant.whole

pub returns-clause-small : goal.returns-clause-small
returns-clause-small c = c.loop-shared.invariant.small
