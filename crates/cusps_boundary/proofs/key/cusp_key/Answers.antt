use Rattle.cusps_boundary.proofs.SymbolKeys.{divisor_positive, key_value}
use Rattle.cusps_boundary.proofs.key.cusp_key.Goals as goal

pub nonzero_rem-result : goal.nonzero_rem-result
nonzero_rem-result c = divisor_positive c.args.level.now c.symbol-p.result.u c.modulus-n.result c.divisor_of-g.result c.gcd.result
    c.modulus-n.ensures.positive c.divisor_of-g.ensures.zero c.divisor_of-g.ensures.other c.gcd.ensures

pub returns : goal.returns
returns c = record {
  key = key_value c.args.level.now c.args.k c.modulus-n.result c.divisor_of-g.result c.gcd.result c.symbol-p.result c.requires.place
      c.modulus-n.ensures.modulus c.symbol-p.ensures c.divisor_of-g.ensures.zero c.divisor_of-g.ensures.other c.gcd.ensures;
}
