use Rattle.std.proofs.Common.{◌<◌, length, sym, ap, subst, arith}
use Rattle.p1_normal.specs.Points.{symbols}
use Rattle.cusps_boundary.specs.Cusps.{cusps}
use Rattle.cusps_boundary.proofs.CuspNumbers.{opposite-lt, length-opposite_numbers, opposite_value}
use Rattle.cusps_boundary.proofs.cusps.Cusps.opposite.Goals as goal

pub index-requires : goal.index-requires
index-requires c = omega (
  arith,
  c.requires.place,
  ap (λ n. length (symbols n)) c.self.view_is,
  length-opposite_numbers c.self.inside.n,
  ap length c.self.invariant.opposed,
  c.self.inside.opposites.ok.0,
)

pub returns-clause-number : goal.returns-clause-number
returns-clause-number c = opposite_value c.self.inside.n c.args.self.now c.args.k c.index.result.now c.self.inside.opposites.items c.self.view_is
    c.self.invariant.opposed c.requires.place c.index.ensures

pub returns-clause-below : goal.returns-clause-below
returns-clause-below c = subst (λ x. x < length (cusps c.args.self.now))
    (sym (opposite_value c.self.inside.n c.args.self.now c.args.k c.index.result.now c.self.inside.opposites.items c.self.view_is
    c.self.invariant.opposed c.requires.place c.index.ensures))
    (opposite-lt c.args.self.now c.args.k c.requires.place)
