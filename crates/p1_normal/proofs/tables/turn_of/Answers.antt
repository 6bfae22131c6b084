use Rattle.std.proofs.Common.{arith}
use Rattle.p1_normal.proofs.Factors.{gcd_positive, turn_found}
use Rattle.p1_normal.proofs.tables.turn_of.Goals as goal

pub nonzero_div-result : goal.nonzero_div-result
nonzero_div-result c = omega (arith, gcd_positive c.args.u c.args.n c.requires.level.0, c.gcd-divisor.ensures)

pub returns : goal.returns
returns c = turn_found c.args.n c.args.u c.gcd-divisor.result c.multiplier-s.result c.coprime_part.result c.requires.level.0 c.gcd-divisor.ensures
    c.multiplier-s.ensures.product c.coprime_part.ensures.coprime c.coprime_part.ensures.units
