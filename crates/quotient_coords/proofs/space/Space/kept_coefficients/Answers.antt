use Rattle.std.proofs.Common.{length, sym, subst}
use Rattle.field_table.specs.Terms.{HasPlacesBelow}
use Rattle.field_table.proofs.TableFacts.{listed_prime}
use Rattle.p1_normal.specs.Points.{symbols}
use Rattle.quotient_coords.specs.Quotient.{HasKeptCoefficients, ground_of}
use Rattle.quotient_coords.proofs.Spaces.{has_trace}
use Rattle.quotient_coords.proofs.Unique.{coordinates_of}
use Rattle.quotient_coords.proofs.space.Space.kept_coefficients.Goals as goal

pub returns : goal.returns
returns c =
    let below : HasPlacesBelow (length (symbols c.self.inside.level)) c.args.combo.now =
    subst (λ g. HasPlacesBelow (length (symbols g.level)) c.args.combo.now) (sym c.self.view_is) c.requires.places in
    let (values, h) = coordinates_of (ground_of c.self.inside.level c.self.inside.field) c.args.combo.now
    (listed_prime c.self.inside.field c.self.invariant.0.listed) below in
    subst (λ g. HasKeptCoefficients g c.args.combo.now c.in_ok-coefficients.coefficients) c.self.view_is
    (has_trace c.self.inside.level c.self.inside.field c.self.inside.echelon c.self.inside.free.places c.args.combo.now
    c.in_ok-coefficients.coefficients values
    c.self.invariant.0 h c.in_ok-coefficients.ensures.trace c.terms-rising.ensures.combo c.in_ok-coefficients.ensures.rows
    c.in_ok-coefficients.ensures.residues)
