use Rattle.std.proofs.Common.{arith, ℕ, ◌≡◌, ◌∙◌, length, subst, ap}
use Rattle.std.proofs.lemmas.List.{with_items_is}
use Rattle.std.proofs.lemmas.Result.{IfOk-weaker}
use Rattle.linear_algebra.specs.Coordinates.{IsReduction}
use Rattle.linear_algebra.specs.Dense.{dense}
use Rattle.linear_algebra.specs.Sparse.{sparse}
use Rattle.sparse_echelon.specs.System.{System, vectors, vector}
use Rattle.sparse_echelon.proofs.Answering.{reduction_from_remainder}
use Rattle.sparse_echelon.proofs.echelon.Echelon.reduce.Goals as goal

pub returns-clause-reduction : goal.returns-clause-reduction
returns-clause-reduction c =
    let left : c.deref-2.result.now ≡ c.spread_remainder.new.acc = c.deref-2.ensures.value
    ∙ with_items_is c.in_ok-left.left c.spread_remainder.new.acc
    (omega (arith, c.in_ok-left.left.ok.0, c.spread_remainder.auto.acc, ap length c.deref_mut.ensures.value)) in
    IfOk-weaker c.from_dense.result (λ y. (p : ℕ) → sparse p y ≡ dense p c.deref-2.result.now) _
    (λ y same. subst (λ (s : System). IsReduction (vectors s) (vector s c.args.x.now) (vector s y)) c.self.view_is
    (reduction_from_remainder _ _ c.self.invariant c.args.x.now y
    (same c.self.inside.field ∙ ap (dense c.self.inside.field) left ∙ rw
    (c.deref.ensures.value, c.terms.ensures.terms) at c.spread_remainder.ensures.difference)))
    c.from_dense.ensures.vector
