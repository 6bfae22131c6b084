use Rattle.std.proofs.Common.{◌≡◌, ◌∙◌, ap}
use Rattle.linear_algebra.specs.Dense.{dense, dense_rows}
use Rattle.stable_subspaces.specs.Operator.{apply}
use Rattle.split_state.specs.Difference.{column}
use Rattle.split_state.proofs.Differences.{option_weaker, agree_at, column_differs}
use Rattle.split_state.proofs.difference.column_difference.Goals as goal

pub returns : goal.returns
returns c =
    let left : dense c.args.field c.in_ok-left.left ≡ apply (dense_rows c.args.field c.args.a.now)
    (dense c.args.field (column c.args.o.now c.args.column)) = c.in_ok-left.ensures.image
    ∙ ap (λ xs. apply (dense_rows c.args.field c.args.a.now) (dense c.args.field xs)) c.column.ensures.numbers in
    let right : dense c.args.field c.in_ok-right.right ≡ apply (dense_rows c.args.field c.args.o.now)
    (dense c.args.field (column c.args.a.now c.args.column)) = c.in_ok-right.ensures.image
    ∙ ap (λ xs. apply (dense_rows c.args.field c.args.o.now) (dense c.args.field xs)) c.column-2.ensures.numbers in
    option_weaker c.first_unequal.result
    (λ h k l. agree_at c.args.field c.args.a.now c.args.o.now c.args.column c.in_ok-left.left c.in_ok-right.right left right k (h k l))
    (λ u h. column_differs c.args.field c.args.a.now c.args.o.now c.args.column c.in_ok-left.left c.in_ok-right.right left right
    c.in_ok-left.ensures.residues c.in_ok-right.ensures.residues c.in_ok-left.ensures.length
    (c.in_ok-right.ensures.length ∙ c.requires.other.size) u.row u.left u.right h)
    (rw (c.as_slice.ensures, c.as_slice-2.ensures, c.size.ensures) at c.first_unequal.ensures)
