-- Each class has one vector that is 0 at the bound places.
use Rattle.std.proofs.Common.{◌≡◌, ◌⊎◌, ◌<◌, ℕ, List, length, refl, sym, ◌∙◌, ap, inl, inr, arith}
use Rattle.linear_algebra.specs.Residue.{residue}
use Rattle.linear_algebra.specs.Vector.{Vector, zeros, combination, minus, EndsBefore}
use Rattle.linear_algebra.specs.Span.{Each, InSpan, Congruent}
use Rattle.linear_algebra.specs.Echelon.{IsGreatestPlace, IsPivot, IsReducedFromTop, IsTopBasis, remainder}
use Rattle.linear_algebra.specs.Coordinates.{IsBound, IsReduction}
use Rattle.linear_algebra.proofs.Differences.{sub_self, minus_none}
use Rattle.linear_algebra.proofs.Spans.{InSpan-trans}
use Rattle.linear_algebra.proofs.Congruence.{InSpan-minus, Congruent-zeros, InSpan_from_Congruent, Congruent_sym, Congruent_trans, Congruent-more}
use Rattle.linear_algebra.proofs.Support.{greatest_or_zeros, EndsBefore-InSpan}
use Rattle.linear_algebra.proofs.Pivots.{zero_at_leads, pivot_is_lead, lead_is_pivot}
use Rattle.linear_algebra.proofs.Reducing.{remainder_at_lead, Congruent_remainder}
use Rattle.linear_algebra.specs.Prime.{IsPrime}

-- the bound places are the pivots
pub bound_is_pivot : {p : ℕ} → 0 < p → (rows : List (Vector p)) (k : ℕ) → IsBound rows k → IsPivot rows k
bound_is_pivot positive rows k (v, h, g) = (v, InSpan_from_Congruent positive rows v h, g)

-- and each pivot is bound
pub pivot_is_bound : {p : ℕ} → 0 < p → (rows : List (Vector p)) (k : ℕ) → IsPivot rows k → IsBound rows k
pivot_is_bound positive rows k (v, h, g) = (v, Congruent-zeros positive rows v h, g)

-- and the leads of a basis that is reduced from the top
pub bound_is_lead : {p : ℕ} → 0 < p → (rows basis : List (Vector p)) (lead : ℕ → ℕ) → IsTopBasis rows basis lead → (k : ℕ) → IsBound rows k
    → (j : ℕ) × (j < length basis) × (lead j ≡ k)
bound_is_lead positive rows basis lead t k b =
    let (v, h, g) = bound_is_pivot positive rows k b in
    pivot_is_lead basis lead t.reduced k (v, InSpan-trans basis rows v t.spans h, g)

-- and each lead is bound
pub lead_is_bound : {p : ℕ} → IsPrime p → (rows basis : List (Vector p)) (lead : ℕ → ℕ) → IsTopBasis rows basis lead → (j : ℕ) → j < length basis
    → IsBound rows (lead j)
lead_is_bound prime rows basis lead t j l =
    let (v, h, g) = lead_is_pivot prime basis lead t.reduced j l in
    (v, Congruent-zeros (omega (arith, prime.above_one)) rows v (InSpan-trans rows basis v t.inside h), g)

-- two vectors of one class that are 0 at the bound places are equal
pub reduction_once : {p : ℕ} → 0 < p → (d : ℕ) (rows : List (Vector p)) → Each (EndsBefore d) rows → (x y z : Vector p) → IsReduction rows x y
    → IsReduction rows x z → y ≡ z
reduction_once {p} positive d rows ends x y z h k = minus_none positive y z
    (by_support (greatest_or_zeros d (minus y z) (EndsBefore-InSpan d rows (minus y z) ends same)))
  where
    same : Congruent rows y z
    same = Congruent_trans positive rows y x z (Congruent_sym positive rows x y h.congruent) k.congruent

    by_support : (minus y z ≡ zeros) ⊎ ((i : ℕ) × (i < d) × IsGreatestPlace (minus y z) i) → minus y z ≡ zeros
    by_support (inl none) = none
    by_support (inr (i, l, g)) =
        let bound : IsBound rows i = (minus y z, Congruent-zeros positive rows (minus y z) same, g) in
        absurd (g.at (rw (h.free i bound, k.free i bound) (sub_self positive (residue p 0))))

-- the remainder by a basis that is reduced from the top is that vector
pub remainder_is_reduction : {p : ℕ} → 0 < p → (rows basis : List (Vector p)) (lead : ℕ → ℕ) → IsTopBasis rows basis lead → (x : Vector p)
    → IsReduction rows x (remainder basis lead x)
remainder_is_reduction {p} positive rows basis lead t x = record {
  congruent = Congruent-more rows basis x (remainder basis lead x) t.inside (Congruent_remainder positive basis lead x);
  free = λ k b. at_lead k (bound_is_lead positive rows basis lead t k b);
}
  where
    at_lead : (k : ℕ) → (j : ℕ) × (j < length basis) × (lead j ≡ k) → remainder basis lead x k ≡ residue p 0
    at_lead k (j, l, e) = ap (remainder basis lead x) (sym e) ∙ remainder_at_lead positive basis lead t.reduced x j l

-- a vector of the span leaves 0
pub remainder_spanned : {p : ℕ} → 0 < p → (basis : List (Vector p)) (lead : ℕ → ℕ) → IsReducedFromTop basis lead
    → (v : Vector p) → InSpan basis v → remainder basis lead v ≡ zeros
remainder_spanned positive basis lead e v h = zero_at_leads basis lead e (remainder basis lead v)
    (InSpan-minus positive basis v (combination (λ j. v (lead j)) basis) h (record { coefficients = λ j. v (lead j); is_combination = refl }))
    (λ j u. remainder_at_lead positive basis lead e v j u)
