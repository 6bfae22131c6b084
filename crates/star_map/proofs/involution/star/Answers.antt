use Rattle.std.proofs.Common.{◌∙◌}
use Rattle.star_map.proofs.Stars.{star_value, star_places}
use Rattle.star_map.proofs.involution.star.Goals as goal

pub returns-clause-vector : goal.returns-clause-vector
returns-clause-vector c = star_value c.args.field c.args.level.now c.in_ok-image.image c.terms.result.now c.args.combo.now c.deref.result.now
    c.in_ok-image.ensures.vector (c.deref.ensures.value ∙ c.in_ok-terms.ensures) c.terms.ensures.terms c.requires.places

pub returns-clause-places : goal.returns-clause-places
returns-clause-places c = star_places c.args.field c.args.level.now c.in_ok-image.image c.args.combo.now
    (star_value c.args.field c.args.level.now c.in_ok-image.image c.terms.result.now c.args.combo.now c.deref.result.now c.in_ok-image.ensures.vector
    (c.deref.ensures.value ∙ c.in_ok-terms.ensures) c.terms.ensures.terms c.requires.places)
    c.terms-rising.ensures.combo c.in_ok-image.ensures.residues
