use Rattle.std.proofs.Common.{◌≡◌, ◌∙◌, ap, replicate, set}
use Rattle.dense_mat.proofs.Scalars.{column_is}
use Rattle.dense_mat.proofs.constants.scalar_column_of.Goals as goal

pub returns : goal.returns
returns c =
    let filled : c.in_ok-column.column.items ≡ replicate c.args.size 0 = c.in_ok-column.ensures.items_if_clones_equal (λ y h. h) in
    c.of.ensures ∙ ap (λ xs. set xs c.args.j c.args.c) filled ∙ column_is c.args.size c.args.c c.args.j c.requires
