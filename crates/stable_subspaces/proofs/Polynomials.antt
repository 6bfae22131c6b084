-- Polynomials in an operator, and operators that commute with it.
use Rattle.std.proofs.Common.{◌≡◌, ℕ, zero, suc, List, [], ◌∷◌, refl, sym, ◌∙◌, ap}
use Rattle.linear_algebra.specs.Residue.{Residue}
use Rattle.linear_algebra.specs.Vector.{Vector, ◌⊞◌, ◌⊡◌, zeros}
use Rattle.linear_algebra.specs.Span.{InSpan}
use Rattle.linear_algebra.proofs.ResidueLaws.{mul_comm}
use Rattle.linear_algebra.proofs.Vectors.{plus-zeros, plus_middle, scale-plus, scale-scale, scale-zeros, combination-plus, combination-scale, combination-zeros}
use Rattle.linear_algebra.proofs.Spans.{InSpan-plus, InSpan-scale, InSpan-zeros}
use Rattle.stable_subspaces.specs.Operator.{apply, power, polynomial_at, Commute, IsStable}
use Rattle.stable_subspaces.specs.Fitting.{generalised_kernel, eventual_image}

-- a polynomial at a sum
pub polynomial_at-plus : {p : ℕ} (f : List (Residue p)) (a : List (Vector p)) (v w : Vector p)
    → polynomial_at f a (v ⊞ w) ≡ polynomial_at f a v ⊞ polynomial_at f a w
polynomial_at-plus [] a v w = sym (plus-zeros zeros)
polynomial_at-plus (c ∷ f) a v w = rw (combination-plus v w a, polynomial_at-plus f a (apply a v) (apply a w), scale-plus c v w)
    (plus_middle (c ⊡ v) (c ⊡ w) (polynomial_at f a (apply a v)) (polynomial_at f a (apply a w)))

-- at a multiple
pub polynomial_at-scale : {p : ℕ} (f : List (Residue p)) (a : List (Vector p)) (b : Residue p) (v : Vector p)
    → polynomial_at f a (b ⊡ v) ≡ b ⊡ polynomial_at f a v
polynomial_at-scale [] a b v = sym (scale-zeros b)
polynomial_at-scale (c ∷ f) a b v =
    ap (λ w. (c ⊡ (b ⊡ v)) ⊞ polynomial_at f a w) (combination-scale b v a) ∙ ap (λ w. (c ⊡ (b ⊡ v)) ⊞ w) (polynomial_at-scale f a b (apply a v))
    ∙ ap (λ w. w ⊞ (b ⊡ polynomial_at f a (apply a v))) (sym (scale-scale c b v) ∙ ap (λ e. e ⊡ v) (mul_comm c b) ∙ scale-scale b c v)
    ∙ sym (scale-plus b (c ⊡ v) (polynomial_at f a (apply a v)))

-- at 0
pub polynomial_at-zeros : {p : ℕ} (f : List (Residue p)) (a : List (Vector p)) → polynomial_at f a zeros ≡ zeros
polynomial_at-zeros [] a = refl
polynomial_at-zeros (c ∷ f) a = rw (combination-zeros a, polynomial_at-zeros f a, scale-zeros c) (plus-zeros zeros)

-- a polynomial in A commutes with what commutes with A
pub polynomial_at-commutes : {p : ℕ} (f : List (Residue p)) (a b : List (Vector p)) → Commute a b → (v : Vector p)
    → polynomial_at f a (apply b v) ≡ apply b (polynomial_at f a v)
polynomial_at-commutes [] a b h v = sym (combination-zeros b)
polynomial_at-commutes (c ∷ f) a b h v =
    ap (λ w. (c ⊡ apply b v) ⊞ polynomial_at f a w) (h.same v) ∙ ap (λ w. (c ⊡ apply b v) ⊞ w) (polynomial_at-commutes f a b h (apply a v))
    ∙ ap (λ w. w ⊞ apply b (polynomial_at f a (apply a v))) (sym (combination-scale c v b))
    ∙ sym (combination-plus (c ⊡ v) (polynomial_at f a (apply a v)) b)

-- and keeps the subspaces that A keeps
pub polynomial_at_stays : {p : ℕ} (f : List (Residue p)) (a rows : List (Vector p)) (v : Vector p) → IsStable a rows → InSpan rows v
    → InSpan rows (polynomial_at f a v)
polynomial_at_stays [] a rows v s h = InSpan-zeros rows
polynomial_at_stays (c ∷ f) a rows v s h = InSpan-plus rows (c ⊡ v) (polynomial_at f a (apply a v)) (InSpan-scale c rows v h)
    (polynomial_at_stays f a rows (apply a v) s (s.stays v h))

-- A commutes with itself
pub Commute_refl : {p : ℕ} (a : List (Vector p)) → Commute a a
Commute_refl a = record { same = λ v. refl }

-- and commuting goes both ways
pub Commute_sym : {p : ℕ} (a b : List (Vector p)) → Commute a b → Commute b a
Commute_sym a b h = record { same = λ v. sym (h.same v) }

-- powers commute with what commutes with A
pub power-commutes : {p : ℕ} (n : ℕ) (a b : List (Vector p)) → Commute a b → (v : Vector p) → power n a (apply b v) ≡ apply b (power n a v)
power-commutes zero a b h v = refl
power-commutes (suc n) a b h v = ap (apply a) (power-commutes n a b h v) ∙ h.same (power n a v)

-- what commutes with A and keeps W keeps the generalised kernel of A on W
pub generalised_kernel_stays : {p : ℕ} (a b rows : List (Vector p)) → Commute a b → IsStable b rows → (v : Vector p) → generalised_kernel a rows v
    → generalised_kernel a rows (apply b v)
generalised_kernel_stays a b rows h s v (n, k) = (
  n,
  record {
    inside = s.stays v k.inside;
    is_zero = power-commutes n a b h v ∙ ap (apply b) k.is_zero
        ∙ combination-zeros b;
  },
)

-- and the eventual image
pub eventual_image_stays : {p : ℕ} (a b rows : List (Vector p)) → Commute a b → IsStable b rows → (v : Vector p) → eventual_image a rows v
    → eventual_image a rows (apply b v)
eventual_image_stays a b rows h s v e = λ n. let k = e n in record {
  source = apply b k.source;
  inside = s.stays k.source k.inside;
  is_value =
      ap (apply b) k.is_value ∙ sym (power-commutes n a b h k.source);
}
