-- A span has one basis in reduced echelon form.
use Rattle.std.proofs.Common.{◌≡◌, ◌≢◌, ◌⊎◌, ◌<◌, ◌≤◌, ℕ, zero, suc, List, length, sym, ◌∙◌, ap, subst, inl, inr, arith}
use Rattle.std.proofs.Math.Nat.{le_antisymm}
use Rattle.std.proofs.Math.Decide.{ℕ_discrete}
use Rattle.std.proofs.lemmas.Bool.{cases_lt}
use Rattle.linear_algebra.specs.Residue.{residue}
use Rattle.linear_algebra.specs.Prime.{IsPrime}
use Rattle.linear_algebra.specs.Vector.{Vector}
use Rattle.linear_algebra.specs.Span.{row, InSpan}
use Rattle.linear_algebra.specs.Echelon.{IsReducedEchelon}
use Rattle.linear_algebra.proofs.ResidueLaws
use Rattle.linear_algebra.proofs.Rows.{combination_same, combination_vanishes, same_rows}
use Rattle.linear_algebra.proofs.Echelon.{by_leads, independent_echelon}
use Rattle.linear_algebra.proofs.Dimension.{independent_le}
use Rattle.linear_algebra.proofs.Pivots.{lead_or_not}
use Rattle.linear_algebra.proofs.Spans.{Each-rows, InSpan-row}

-- the first place of a vector of the span is a lead
first_is_lead : {p : ℕ} → IsPrime p → (rows : List (Vector p)) (e : IsReducedEchelon rows) (v : Vector p) (k : ℕ) → InSpan rows v → v k ≡ residue p 1
    → ((i : ℕ) → i < k → v i ≡ residue p 0) → (j : ℕ) × (j < length rows) × (e.lead j ≡ k)
first_is_lead {p} prime rows e v k h one before = by_case (lead_or_not e.lead (length rows) k)
  where
    side : ((j : ℕ) → j < length rows → e.lead j ≢ k) → (j : ℕ) → j < length rows → (k < e.lead j) ⊎ (e.lead j ≤ k)
        → (v (e.lead j) ≡ residue p 0) ⊎ (row rows j k ≡ residue p 0)
    side others j l (inl u) = inr ((e.first j l).1 k u)
    side others j l (inr u) = inl (before (e.lead j) (let d : e.lead j ≢ k = others j l in omega arith))

    by_case : ((j : ℕ) × (j < length rows) × (e.lead j ≡ k)) ⊎ ((j : ℕ) → j < length rows → e.lead j ≢ k)
        → (j : ℕ) × (j < length rows) × (e.lead j ≡ k)
    by_case (inl found) = found
    by_case (inr others) = absurd (ResidueLaws.one≢zero prime (sym one ∙ ap (λ w. w k) (by_leads rows e v h)
        ∙ combination_vanishes (λ j. v (e.lead j)) rows k (λ j l. side others j l (cases_lt k (e.lead j)))))

-- where each value of g is one of f, and both rise, f is at most g
rising_le : (n : ℕ) (f g : ℕ → ℕ) → ((i j : ℕ) → i < j → j < n → f i < f j) → ((i j : ℕ) → i < j → j < n → g i < g j)
    → ((i : ℕ) → i < n → (j : ℕ) × (j < n) × (f j ≡ g i)) → (i : ℕ) → i < n → f i ≤ g i
rising_le n f g rf rg held i l = at i l (held i l)
  where
    mono : (i j : ℕ) → i ≤ j → j < n → f i ≤ f j
    mono i j l u = by_case (ℕ_discrete i j)
      where
        by_case : Dec (i ≡ j) → f i ≤ f j
        by_case (yes e) = rw e (omega arith)
        by_case (no d) = omega (arith, rf i j (omega arith) u)

    at : (i : ℕ) → i < n → ((j : ℕ) × (j < n) × (f j ≡ g i)) → f i ≤ g i
    at zero l (j, u, e) = omega (arith, mono 0 j (omega arith) u)
    at (suc i) l (j, u, e) = by_case (at i (omega arith) (held i (omega arith))) (cases_lt i j)
      where
        by_case : f i ≤ g i → (i < j) ⊎ (j ≤ i) → f (suc i) ≤ g (suc i)
        by_case earlier (inl v) = omega (arith, mono (suc i) j (omega arith) u)
        by_case earlier (inr v) = absurd (omega (arith, mono j i v (omega arith), rg i (suc i) (omega arith) l))

-- rows of a span have no lead before those of its basis
leads_le : {p : ℕ} → IsPrime p → (xs ys : List (Vector p)) (e : IsReducedEchelon xs) (f : IsReducedEchelon ys) → length xs ≡ length ys
    → ((v : Vector p) → InSpan ys v → InSpan xs v) → (i : ℕ) → i < length xs → e.lead i ≤ f.lead i
leads_le prime xs ys e f same from = rising_le (length xs) e.lead f.lead e.rising (λ i j l u. f.rising i j l (omega arith))
    (λ i l. let u : i < length ys = omega arith in first_is_lead prime xs e (row ys i) (f.lead i) (from (row ys i) (InSpan-row ys i u))
    (f.first i u).0 (f.first i u).1)

-- one span has one such basis
pub reduced_echelon_unique : {p : ℕ} → IsPrime p → (xs ys : List (Vector p)) → IsReducedEchelon xs → IsReducedEchelon ys
    → ((v : Vector p) → InSpan xs v → InSpan ys v) → ((v : Vector p) → InSpan ys v → InSpan xs v) → xs ≡ ys
reduced_echelon_unique {p} prime xs ys e f to from = same_rows xs ys same each
  where
    same : length xs ≡ length ys
    same = le_antisymm (independent_le prime ys xs (independent_echelon xs e) (Each-rows (InSpan ys) xs (λ j l. to (row xs j) (InSpan-row xs j l))))
        (independent_le prime xs ys (independent_echelon ys f) (Each-rows (InSpan xs) ys (λ j l. from (row ys j) (InSpan-row ys j l))))

    leads : (i : ℕ) → i < length xs → e.lead i ≡ f.lead i
    leads i l = le_antisymm (leads_le prime xs ys e f same from i l) (leads_le prime ys xs f e (sym same) to i (omega (arith, same)))

    entry : (i j : ℕ) → i < length xs → j < length xs → Dec (i ≡ j) → row xs i (e.lead j) ≡ row ys i (e.lead j)
    entry i j l u (yes d) = subst (λ k. row xs i (e.lead k) ≡ row ys i (e.lead k)) d
        ((e.first i l).0 ∙ sym (rw (leads i l) (f.first i (omega (arith, same))).0))
    entry i j l u (no d) = e.alone i j l u d ∙ sym (rw (leads j u) (f.alone i j (omega (arith, same)) (omega (arith, same)) d))

    each : (i : ℕ) → i < length xs → row xs i ≡ row ys i
    each i l = by_leads xs e (row xs i) (InSpan-row xs i l) ∙ combination_same (λ j. row xs i (e.lead j)) (λ j. row ys i (e.lead j)) xs
        (λ j u. entry i j l u (ℕ_discrete i j))
        ∙ sym (by_leads xs e (row ys i) (from (row ys i) (InSpan-row ys i (omega (arith, same)))))
