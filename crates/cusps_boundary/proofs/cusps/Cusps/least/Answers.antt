use Rattle.cusps_boundary.proofs.CuspNumbers.{least_below}
use Rattle.cusps_boundary.proofs.cusps.Cusps.least.Goals as goal

pub returns-clause-below : goal.returns-clause-below
returns-clause-below c = least_below c.self.inside.n c.args.self.now c.args.c c.index.result.now c.self.inside.least.items c.self.view_is
    c.self.invariant.listed c.requires.place c.index.ensures
