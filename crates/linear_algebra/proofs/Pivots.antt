-- The pivots of rows reduced from the top are their greatest places, and a residue class has one member without pivot places.
use Rattle.std.proofs.Common.{◌≡◌, ◌≢◌, ◌⊎◌, ◌<◌, ◌≤◌, ℕ, zero, suc, List, length, sym, ◌∙◌, ap, inl, inr, arith}
use Rattle.std.proofs.Math.Decide.{ℕ_discrete}
use Rattle.std.proofs.lemmas.Bool.{cases_lt}
use Rattle.linear_algebra.specs.Residue.{residue}
use Rattle.linear_algebra.specs.Vector.{Vector, zeros, combination}
use Rattle.linear_algebra.specs.Span.{row, InSpan, Independent}
use Rattle.linear_algebra.specs.Prime.{IsPrime}
use Rattle.linear_algebra.proofs.Spans.{InSpan-row}
use Rattle.linear_algebra.specs.Echelon.{IsPivot, IsReducedFromTop}
use Rattle.linear_algebra.proofs.ResidueLaws
use Rattle.linear_algebra.proofs.Vectors.{combination-zeros}
use Rattle.linear_algebra.proofs.Rows.{combination_at, combination_same, combination_vanishes}

-- a vector of the span is the combination by its own entries at the leads
pub by_tops : {p : ℕ} (rows : List (Vector p)) (lead : ℕ → ℕ) (e : IsReducedFromTop rows lead) (v : Vector p) → InSpan rows v
    → v ≡ combination (λ j. v (lead j)) rows
by_tops rows lead e v h = h.is_combination ∙ combination_same h.coefficients (λ j. v (lead j)) rows
    (λ j l. sym (combination_at h.coefficients rows (lead j) j l (e.one_at j l) (λ i u n. e.alone i j u l n))
    ∙ ap (λ w. w (lead j)) (sym h.is_combination))

-- k is the lead of one of the first n rows, or of none of them
pub lead_or_not : (lead : ℕ → ℕ) (n k : ℕ) → ((j : ℕ) × (j < n) × (lead j ≡ k)) ⊎ ((j : ℕ) → j < n → lead j ≢ k)
lead_or_not lead zero k = inr (λ j l. absurd (omega arith))
lead_or_not lead (suc n) k = by_last (ℕ_discrete (lead n) k) (lead_or_not lead n k)
  where
    by_last : Dec (lead n ≡ k) → ((j : ℕ) × (j < n) × (lead j ≡ k)) ⊎ ((j : ℕ) → j < n → lead j ≢ k)
        → ((j : ℕ) × (j < suc n) × (lead j ≡ k)) ⊎ ((j : ℕ) → j < suc n → lead j ≢ k)
    by_last (yes e) rest = inl (n, omega arith, e)
    by_last (no d) (inl (j, l, e)) = inl (j, omega arith, e)
    by_last (no d) (inr others) = inr (λ j l e. at j l e (ℕ_discrete j n))
      where
        at : (j : ℕ) → j < suc n → lead j ≡ k → Dec (j ≡ n) → ⊥
        at j l e (yes same) = d (sym (ap lead same) ∙ e)
        at j l e (no apart) = others j (omega arith) e

-- the greatest place of a vector of the span is the greatest place of a row
pub pivot_is_lead : {p : ℕ} (rows : List (Vector p)) (lead : ℕ → ℕ) (e : IsReducedFromTop rows lead) (k : ℕ) → IsPivot rows k
    → (j : ℕ) × (j < length rows) × (lead j ≡ k)
pivot_is_lead {p} rows lead e k (v, h, g) = by_case (lead_or_not lead (length rows) k)
  where
    vanishes : ((j : ℕ) → j < length rows → lead j ≢ k) → v k ≡ residue p 0
    vanishes others = ap (λ w. w k) (by_tops rows lead e v h) ∙ combination_vanishes (λ j. v (lead j)) rows k (λ j l. side j l (cases_lt k (lead j)))
      where
        side : (j : ℕ) → j < length rows → (k < lead j) ⊎ (lead j ≤ k) → (v (lead j) ≡ residue p 0) ⊎ (row rows j k ≡ residue p 0)
        side j l (inl u) = inl (g.beyond (lead j) u)
        side j l (inr u) = inr (e.beyond j l k (let d : lead j ≢ k = others j l in omega arith))

    by_case : ((j : ℕ) × (j < length rows) × (lead j ≡ k)) ⊎ ((j : ℕ) → j < length rows → lead j ≢ k) → (j : ℕ) × (j < length rows) × (lead j ≡ k)
    by_case (inl found) = found
    by_case (inr others) = absurd (g.at (vanishes others))

-- each lead is the greatest place of its row
pub lead_is_pivot : {p : ℕ} → IsPrime p → (rows : List (Vector p)) (lead : ℕ → ℕ) (e : IsReducedFromTop rows lead) (j : ℕ) → j < length rows
    → IsPivot rows (lead j)
lead_is_pivot prime rows lead e j l = (
  row rows j,
  InSpan-row rows j l,
  record
      { at = λ z. ResidueLaws.one≢zero prime (sym (e.one_at j l) ∙ z); beyond = λ k u. e.beyond j l k u },
)

-- no two rows have one lead
pub leads_differ : {p : ℕ} → IsPrime p → (rows : List (Vector p)) (lead : ℕ → ℕ) (e : IsReducedFromTop rows lead) (i j : ℕ) → i < length rows
    → j < length rows → i ≢ j → lead i ≢ lead j
leads_differ prime rows lead e i j l u n same = ResidueLaws.one≢zero prime (sym (e.one_at i l) ∙ ap (row rows i) same ∙ e.alone i j l u n)

-- rows reduced from the top are independent
pub independent_from_top : {p : ℕ} (rows : List (Vector p)) (lead : ℕ → ℕ) → IsReducedFromTop rows lead → Independent rows
independent_from_top rows lead e = record {
  only_zero = λ c z j l. sym
      (combination_at c rows (lead j) j l (e.one_at j l) (λ i u n. e.alone i j u l n)) ∙ ap (λ v. v (lead j)) z;
}

-- a vector of the span that is 0 at each lead is 0
pub zero_at_leads : {p : ℕ} (rows : List (Vector p)) (lead : ℕ → ℕ) (e : IsReducedFromTop rows lead) (v : Vector p) → InSpan rows v
    → ((j : ℕ) → j < length rows → v (lead j) ≡ residue p 0) → v ≡ zeros
zero_at_leads rows lead e v h z = by_tops rows lead e v h ∙ combination_same (λ j. v (lead j)) zeros rows z ∙ combination-zeros rows
