use Rattle.std.proofs.Common.{◌<◌, length, sym, ap, subst, arith}
use Rattle.p1_normal.specs.Points.{symbols}
use Rattle.cusps_boundary.specs.Cusps.{cusps}
use Rattle.cusps_boundary.proofs.CuspNumbers.{cusp_number-lt, length-cusp_numbers, number_value}
use Rattle.cusps_boundary.proofs.cusps.Cusps.of.Goals as goal

pub index-requires : goal.index-requires
index-requires c = omega (
  arith,
  c.requires.place,
  ap (λ n. length (symbols n)) c.self.view_is,
  length-cusp_numbers c.self.inside.n,
  ap length c.self.invariant.numbered,
  c.self.inside.numbers.ok.0,
)

pub returns-clause-number : goal.returns-clause-number
returns-clause-number c = number_value c.self.inside.n c.args.self.now c.args.k c.index.result.now c.self.inside.numbers.items c.self.view_is
    c.self.invariant.numbered c.requires.place c.index.ensures

pub returns-clause-below : goal.returns-clause-below
returns-clause-below c = subst (λ x. x < length (cusps c.args.self.now))
    (sym (number_value c.self.inside.n c.args.self.now c.args.k c.index.result.now c.self.inside.numbers.items c.self.view_is
    c.self.invariant.numbered c.requires.place c.index.ensures))
    (cusp_number-lt c.args.self.now c.args.k c.requires.place)
