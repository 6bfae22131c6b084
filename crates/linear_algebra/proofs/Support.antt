-- Supports: the length of a vector, and its greatest place.
use Rattle.std.proofs.Common.{◌≡◌, ◌≢◌, ◌⊎◌, ◌<◌, ◌≤◌, ℕ, zero, suc, List, [], ◌∷◌, refl, sym, ◌∙◌, ap, subst, inl, inr, arith}
use Rattle.std.proofs.Math.Decide.{ℕ_discrete}
use Rattle.std.proofs.Math.Nat.{zero-mod}
use Rattle.linear_algebra.specs.Residue.{Residue, residue}
use Rattle.linear_algebra.specs.Vector.{Vector, ◌⊞◌, ◌⊡◌, zeros, tail, combination, minus, EndsBefore}
use Rattle.linear_algebra.specs.Span.{Each, none, more, InSpan}
use Rattle.linear_algebra.specs.Echelon.{IsGreatestPlace}
use Rattle.linear_algebra.proofs.ResidueLaws
use Rattle.linear_algebra.proofs.Differences.{sub_self}

-- a residue is 0 or not
pub zero_or_not : {p : ℕ} (a : Residue p) → (a ≡ residue p 0) ⊎ (a ≢ residue p 0)
zero_or_not {p} a = elim (ℕ_discrete a.value 0) [
  | yes e ↦ inl (ResidueLaws.same_residue a (residue p 0) (e ∙ sym (ResidueLaws.value-residue p 0 ∙ zero-mod p)))
  | no n ↦ inr (λ e. n (ap (λ b. b.value) e ∙ ResidueLaws.value-residue p 0 ∙ zero-mod p))
]

-- a longer length is a length too
pub EndsBefore-more : {p : ℕ} (d e : ℕ) (v : Vector p) → d ≤ e → EndsBefore d v → EndsBefore e v
EndsBefore-more d e v l ends k u = ends k (omega arith)

-- 0 has each length
pub EndsBefore-zeros : {p : ℕ} (d : ℕ) → EndsBefore d (zeros {p = p})
EndsBefore-zeros d k l = refl

-- sums keep the length
pub EndsBefore-plus : {p : ℕ} (d : ℕ) (v w : Vector p) → EndsBefore d v → EndsBefore d w → EndsBefore d (v ⊞ w)
EndsBefore-plus {p} d v w h g k l = rw (h k l, g k l) (ResidueLaws.add-zero (residue p 0))

-- multiples keep the length
pub EndsBefore-scale : {p : ℕ} (d : ℕ) (a : Residue p) (v : Vector p) → EndsBefore d v → EndsBefore d (a ⊡ v)
EndsBefore-scale {p} d a v h k l = rw (h k l, ResidueLaws.mul_comm a (residue p 0)) (ResidueLaws.zero-mul a)

-- differences keep the length
pub EndsBefore-minus : {p : ℕ} → 0 < p → (d : ℕ) (v w : Vector p) → EndsBefore d v → EndsBefore d w → EndsBefore d (minus v w)
EndsBefore-minus {p} positive d v w h g k l = rw (h k l, g k l) (sub_self positive (residue p 0))

-- combinations of rows of length d have length d
pub EndsBefore-combination : {p : ℕ} (d : ℕ) (c : Vector p) (rows : List (Vector p)) → Each (EndsBefore d) rows → EndsBefore d (combination c rows)
EndsBefore-combination d c [] none = EndsBefore-zeros d
EndsBefore-combination d c (r ∷ rows) (more h hs) = EndsBefore-plus d (c 0 ⊡ r) (combination (tail c) rows) (EndsBefore-scale d (c 0) r h)
    (EndsBefore-combination d (tail c) rows hs)

-- and so do the vectors of their span
pub EndsBefore-InSpan : {p : ℕ} (d : ℕ) (rows : List (Vector p)) (v : Vector p) → Each (EndsBefore d) rows → InSpan rows v → EndsBefore d v
EndsBefore-InSpan d rows v each h = subst (EndsBefore d) (sym h.is_combination) (EndsBefore-combination d h.coefficients rows each)

-- a vector of length d is 0 or has a greatest place below d
pub greatest_or_zeros : {p : ℕ} (d : ℕ) (v : Vector p) → EndsBefore d v → (v ≡ zeros) ⊎ ((k : ℕ) × (k < d) × IsGreatestPlace v k)
greatest_or_zeros zero v ends = inl (λ i k. ends k (omega arith) i)
greatest_or_zeros {p} (suc d) v ends = at_last (zero_or_not (v d)) (greatest_or_zeros d v)
  where
    shorter : v d ≡ residue p 0 → EndsBefore d v
    shorter z k l = elim (ℕ_discrete k d) [ yes same ↦ rw same z | no other ↦ ends k (omega arith) ]

    wider : (v ≡ zeros) ⊎ ((k : ℕ) × (k < d) × IsGreatestPlace v k) → (v ≡ zeros) ⊎ ((k : ℕ) × (k < suc d) × IsGreatestPlace v k)
    wider (inl z) = inl z
    wider (inr (k, l, g)) = inr (k, omega arith, g)

    at_last : (v d ≡ residue p 0) ⊎ (v d ≢ residue p 0) → (EndsBefore d v → (v ≡ zeros) ⊎ ((k : ℕ) × (k < d) × IsGreatestPlace v k))
        → (v ≡ zeros) ⊎ ((k : ℕ) × (k < suc d) × IsGreatestPlace v k)
    at_last (inl z) smaller = wider (smaller (shorter z))
    at_last (inr n) smaller = inr (d, omega arith, record { at = n; beyond = λ i l. ends i (omega arith) })
