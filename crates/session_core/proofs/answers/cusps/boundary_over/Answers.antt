use Rattle.session_core.proofs.AnswerLemmas.{boundary_told}
use Rattle.session_core.proofs.answers.cusps.boundary_over.Goals as goal

pub returns : goal.returns
returns c =
    boundary_told c.args.space.now c.field-field.result c.args.cusps.now c.args.numbers.now c.in_ok-combination.combination c.in_ok-values.values
    c.field-field.ensures c.requires.cusps c.in_ok-combination.ensures.vector c.in_ok-values.ensures.vector c.in_ok-values.ensures.count
    c.in_ok-values.ensures.residues
