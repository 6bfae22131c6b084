use Rattle.session_core.proofs.AnswerLemmas.{star_told}
use Rattle.session_core.proofs.answers.coordinates.star.Goals as goal

pub returns : goal.returns
returns c =
    star_told c.args.space.now c.field-field.result c.level-2.result.now c.args.numbers.now c.in_ok-combination.combination c.in_ok-image.image
    c.in_ok-values.values
    c.field-field.ensures c.level-2.ensures c.in_ok-combination.ensures.vector c.in_ok-image.ensures.vector c.in_ok-values.ensures
