use Rattle.std.proofs.Common.{map, sym, ap, ◌∙◌}
use Rattle.linear_algebra.specs.Integers.{residue_of}
use Rattle.session_core.proofs.answers.splits.split.Goals as goal

pub returns-in-Ok-operator_matrix : goal.returns-in-Ok-operator_matrix
returns-in-Ok-operator_matrix g c = λ v.
    c.refined.ensures v c.args.coefficients.now
    (sym (c.in-Ok.ensures.residues ∙ ap (λ k. map (residue_of k) c.args.coefficients.now) c.field.ensures))
