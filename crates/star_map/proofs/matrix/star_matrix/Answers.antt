use Rattle.std.proofs.Common.{◌≡◌, length, sym, ◌∙◌, subst, arith}
use Rattle.std.proofs.lemmas.Result.{IfOk-weaker}
use Rattle.quotient_coords.specs.Quotient.{dimension}
use Rattle.dense_mat.specs.Matrix.{IsMatrix}
use Rattle.star_map.specs.Star.{IsStarMatrix}
use Rattle.star_map.proofs.Columns.{star_all, star_more, star_square}
use Rattle.star_map.proofs.matrix.star_matrix.Goals as goal

pub loop-j-preserved : goal.loop-j-preserved
loop-j-preserved c = star_more c.args.space.now.level c.args.space.now.characteristic c.loop-j.j c.free.result c.loop-j.columns.items
    _ c.in_ok-star_column.field-0 c.free.ensures.symbol c.in_ok-push.ensures.items c.loop-j.invariant c.in_ok-star_column.ensures

pub from_columns-requires-clause-columns : goal.from_columns-requires-clause-columns
from_columns-requires-clause-columns c =
    let N = c.args.space.now.level in
    let p = c.args.space.now.characteristic in
    let whole : c.loop-j.j ≡ dimension N p = omega (arith, c.dim-j-end.ensures.dimension) in
    subst (IsMatrix c.field.result) (sym c.deref.ensures.value) (subst (λ q. IsMatrix q c.loop-j.columns.items) (sym c.field.ensures)
    (star_square N p c.loop-j.columns.items (star_all N p c.loop-j.j c.loop-j.columns.items whole c.loop-j.invariant)))

pub returns-clause-star : goal.returns-clause-star
returns-clause-star c =
    let N = c.args.space.now.level in
    let p = c.args.space.now.characteristic in
    let whole : c.loop-j.j ≡ dimension N p = omega (arith, c.dim-j-end.ensures.dimension) in
    IfOk-weaker c.from_columns.result (λ m. m ≡ c.deref.result.now) (IsStarMatrix N p)
    (λ m e. subst (IsStarMatrix N p) (sym (e ∙ c.deref.ensures.value)) (star_all N p c.loop-j.j c.loop-j.columns.items whole c.loop-j.invariant))
    c.from_columns.ensures

pub returns-clause-square : goal.returns-clause-square
returns-clause-square c = IfOk-weaker c.from_columns.result (IsStarMatrix c.args.space.now.level c.args.space.now.characteristic)
    (IsMatrix c.args.space.now.characteristic) (λ m h. star_square c.args.space.now.level c.args.space.now.characteristic m h) (returns-clause-star c)

pub returns-clause-size : goal.returns-clause-size
returns-clause-size c = IfOk-weaker c.from_columns.result (IsStarMatrix c.args.space.now.level c.args.space.now.characteristic)
    (λ m. length m ≡ dimension c.args.space.now.level c.args.space.now.characteristic) (λ m h. h.count) (returns-clause-star c)
