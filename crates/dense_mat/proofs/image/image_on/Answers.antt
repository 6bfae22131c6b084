use Rattle.std.proofs.Common.{ap, map, ◌∙◌}
use Rattle.std.proofs.lemmas.Result.{IfOk-weaker}
use Rattle.linear_algebra.specs.Dense.{dense_rows}
use Rattle.stable_subspaces.specs.Operator.{apply}
use Rattle.dense_mat.proofs.Images.{basis_of-image}
use Rattle.dense_mat.proofs.image.image_on.Goals as goal

pub returns : goal.returns
returns c = IfOk-weaker c.span_of.result _ _ (λ b h. basis_of-image c.args.field c.args.part.now.width 1 (dense_rows c.args.field c.args.mat.now)
    (dense_rows c.args.field c.args.part.now.rows) _
    (c.in_ok-images.ensures.images ∙ ap (λ rows. map (apply (dense_rows c.args.field c.args.mat.now)) (dense_rows c.args.field rows))
    c.rows.ensures.rows) b h) (rw (c.deref.ensures.value, c.width.ensures) at c.span_of.ensures)
