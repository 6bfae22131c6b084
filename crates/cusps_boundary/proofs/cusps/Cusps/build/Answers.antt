use Rattle.cusps_boundary.proofs.CuspNumbers.{are_cusps}
use Rattle.cusps_boundary.proofs.cusps.Cusps.build.Goals as goal

pub invariant_of-result : goal.invariant_of-result
invariant_of-result c = are_cusps c.args.level.now c.modulus.result c.in_ok-least.least.items c.in_ok-least.numbers.items
    c.in_ok-opposites.opposites.items
    c.modulus.ensures.modulus c.modulus.ensures.limited c.in_ok-least.ensures.least c.in_ok-least.ensures.numbers c.in_ok-opposites.ensures
