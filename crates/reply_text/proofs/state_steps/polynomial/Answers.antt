use Rattle.std.proofs.Common.{◌∙◌}
use Rattle.reply_text.proofs.StepLemmas.{polynomial_same}
use Rattle.reply_text.proofs.state_steps.polynomial.Goals as goal

pub returns : goal.returns
returns c =
    polynomial_same c.args.field c.args.coefficients.now c.in-Ok.poly c.deref.result.now c.requires (c.deref.ensures.value
    ∙ c.in_ok-numbers.ensures) c.in-Ok.ensures.residues
