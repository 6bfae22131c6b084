use Rattle.std.proofs.Common.{◌*◌, length, subst}
use Rattle.linear_algebra.specs.Coordinates.{IsKeptList}
use Rattle.p1_normal.specs.Points.{symbols}
use Rattle.manin_relations.specs.Relations.{relations}
use Rattle.quotient_coords.proofs.Spaces.{space_kept}
use Rattle.quotient_coords.proofs.space.Space.kept.Goals as goal

pub returns : goal.returns
returns c = subst (λ g. IsKeptList (relations {p = g.characteristic} g.level) (2 * length (symbols g.level)) c.kept.result.now) c.self.view_is
    (space_kept c.self.inside.level c.self.inside.field c.self.inside.echelon c.self.inside.free.places c.kept.result.now c.self.invariant.0
    c.kept.ensures)
