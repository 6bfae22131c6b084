use Rattle.std.proofs.Common.{◌∙◌}
use Rattle.session_core.proofs.AnswerLemmas.{certificate_told}
use Rattle.session_core.proofs.answers.coordinates.certify.Goals as goal

pub returns : goal.returns
returns c =
    certificate_told c.args.space.now c.field.result c.args.numbers.now c.in_ok-combination.combination c.in_ok-kept.kept c.of-trace.result
    c.in_ok-coords.coords
    c.field.ensures c.in_ok-combination.ensures.vector c.in_ok-coords.ensures c.in_ok-kept.ensures (c.of-trace.ensures ∙ c.into_terms.ensures.terms)
