use Rattle.std.proofs.Common.{arith, ℕ, ◌≡◌, ◌∙◌, length, replicate, subst, ap}
use Rattle.std.proofs.lemmas.List.{with_items_is}
use Rattle.std.proofs.lemmas.Result.{IfOk-weaker}
use Rattle.linear_algebra.specs.Dense.{dense}
use Rattle.linear_algebra.specs.Residue.{residue}
use Rattle.linear_algebra.specs.Sparse.{sparse}
use Rattle.linear_algebra.proofs.Vectors.{one-scale}
use Rattle.linear_algebra.specs.Coordinates.{AreKeptCoefficientsOf}
use Rattle.sparse_echelon.specs.System.{System, vectors, vector}
use Rattle.sparse_echelon.proofs.Answering.{trace_from_logs}
use Rattle.linear_algebra.proofs.DenseLaws.{dense-replicate}
use Rattle.sparse_echelon.proofs.Selected.{spread_only}
use Rattle.sparse_echelon.proofs.echelon.Echelon.trace.Goals as goal

pub returns-clause-trace : goal.returns-clause-trace
returns-clause-trace c =
    let sum : c.deref-2.result.now ≡ c.spread_selected.new.acc = c.deref-2.ensures.value
    ∙ with_items_is c.in_ok-coefficients.coefficients c.spread_selected.new.acc
    (omega (arith, c.in_ok-coefficients.coefficients.ok.0, c.spread_selected.auto.acc, ap length c.deref_mut.ensures.value)) in
    let filled : c.deref_mut.result.now ≡ replicate c.len.result 0 = c.deref_mut.ensures.value
    ∙ c.in_ok-coefficients.ensures.items_if_clones_equal (λ y h. h) in
    let empty = ap (dense c.self.inside.field) filled ∙ dense-replicate c.self.inside.field c.len.result in
    IfOk-weaker c.from_dense.result (λ y. (p : ℕ) → sparse p y ≡ dense p c.deref-2.result.now) _
    (λ y same. subst (λ (s : System). AreKeptCoefficientsOf (vectors s) (vector s c.args.x.now) (vector s y)) c.self.view_is
    (trace_from_logs _ _ c.self.invariant c.args.x.now y
    (same c.self.inside.field ∙ ap (dense c.self.inside.field) sum
    ∙ spread_only (residue c.self.inside.field 1) _ (dense c.self.inside.field c.deref_mut.result.now)
    (dense c.self.inside.field c.spread_selected.new.acc) empty (rw
    (c.deref.ensures.value, c.terms.ensures.terms) at c.spread_selected.ensures.sum)
    ∙ one-scale _)))
    c.from_dense.ensures.vector
