use Rattle.session_core.proofs.AnswerLemmas.{coordinates_told}
use Rattle.session_core.proofs.answers.coordinates.reduce.Goals as goal

pub returns : goal.returns
returns c =
    coordinates_told c.args.space.now c.field.result c.args.numbers.now c.in_ok-combination.combination c.in_ok-values.values
    c.field.ensures c.in_ok-combination.ensures.vector c.in_ok-values.ensures
