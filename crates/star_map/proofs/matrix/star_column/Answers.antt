use Rattle.std.proofs.Common.{◌≡◌, ◌∷◌, [], ◌∙◌, ap, rules}
use Rattle.std.proofs.lemmas.Result.{IfOk-weaker}
use Rattle.p1_normal.specs.Actions.{image_number, matrix_star}
use Rattle.quotient_coords.specs.Quotient.{HasCoordinates}
use Rattle.star_map.proofs.Columns.{IsStarColumn, star_of_term}
use Rattle.star_map.proofs.matrix.star_column.Goals as goal

pub returns : goal.returns
returns c =
    let N = c.args.space.now.level in
    let p = c.args.space.now.characteristic in
    let one : c.of-combo.result ≡ (c.star_of-symbol.result, 1) ∷ [] = c.of-combo.ensures ∙ c.in_ok-vec.ensures.items_if_clones_equal (search rules) in
    IfOk-weaker c.coords.result (HasCoordinates c.args.space.now c.of-combo.result) (IsStarColumn N p c.args.k)
    (λ values h. star_of_term N p c.args.k c.star_of-symbol.result c.of-combo.result values
    (c.star_of-symbol.ensures.number ∙ ap (λ n. image_number n c.args.k matrix_star) c.level.ensures) one h)
    c.coords.ensures
