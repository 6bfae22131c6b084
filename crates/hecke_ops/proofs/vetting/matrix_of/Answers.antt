use Rattle.std.proofs.Common.{◌≡◌, List, sym, ◌∙◌, subst, arith}
use Rattle.std.proofs.lemmas.Result.{IfOk-weaker}
use Rattle.quotient_coords.specs.Quotient.{dimension}
use Rattle.p1_normal.specs.declared.matrix.Matrix.{Matrix}
use Rattle.dense_mat.specs.Matrix.{IsMatrix}
use Rattle.hecke_ops.specs.Operators.{AreColumns, IsHeckeMatrix}
use Rattle.hecke_ops.proofs.AllColumns.{AreFreeColumns, copies_matrix, copies_square}
use Rattle.hecke_ops.proofs.vetting.matrix_of.Goals as goal

pub from_columns-requires-clause-columns : goal.from_columns-requires-clause-columns
from_columns-requires-clause-columns c =
    let N = c.args.space.now.level in
    let p = c.args.space.now.characteristic in
    let whole : c.loop-j.j ≡ dimension N p = omega (arith, c.dim-j-end.ensures.dimension) in
    let free : AreFreeColumns N p (dimension N p) c.args.columns.now c.loop-j.free.items =
    subst (λ n. AreFreeColumns N p n c.args.columns.now c.loop-j.free.items) whole c.loop-j.invariant in
    subst (IsMatrix c.field.result) (sym c.deref.ensures.value) (subst (λ q. IsMatrix q c.loop-j.free.items) (sym c.field.ensures)
    (copies_square N p c.args.columns.now c.loop-j.free.items free c.requires.count c.requires.rows))

pub returns : goal.returns
returns c =
    let N = c.args.space.now.level in
    let p = c.args.space.now.characteristic in
    let whole : c.loop-j.j ≡ dimension N p = omega (arith, c.dim-j-end.ensures.dimension) in
    let free : AreFreeColumns N p (dimension N p) c.args.columns.now c.loop-j.free.items =
    subst (λ n. AreFreeColumns N p n c.args.columns.now c.loop-j.free.items) whole c.loop-j.invariant in
    IfOk-weaker c.from_columns.result (λ m. m ≡ c.deref.result.now)
    (λ m. (L : List Matrix) → AreColumns N p L c.args.columns.now → IsHeckeMatrix N p L m)
    (λ m e L are. subst (IsHeckeMatrix N p L) (sym (e ∙ c.deref.ensures.value)) (copies_matrix N p c.args.columns.now c.loop-j.free.items free L are))
    c.from_columns.ensures
