-- Rising lists.
use Rattle.std.proofs.Common.{◌≡◌, ◌≢◌, ◌⊎◌, ◌+◌, ◌<◌, ◌≤◌, ℕ, zero, suc, List, length, get_or, sym, subst, inl, inr, arith}
use Rattle.std.proofs.Math.Decide.{ℕ_discrete}
use Rattle.std.proofs.lemmas.Bool.{cases_lt}
use Rattle.std.specs.List.Sorted.{IsStrictlyIncreasing}

-- numbers that rise step by step rise
pub rising_at : (ks : List ℕ) → IsStrictlyIncreasing ks → (i j : ℕ) → i < j → j < length ks → get_or ks i 0 < get_or ks j 0
rising_at ks s i zero l u = absurd (omega arith)
rising_at ks s i (suc j) l u = by_place (ℕ_discrete i j) (rising_at ks s i j)
  where
    step : get_or ks j 0 < get_or ks (suc j) 0
    step = subst (λ m. get_or ks j 0 < get_or ks m 0) (let e : j + 1 ≡ suc j = omega arith in e) (s j (omega arith))

    by_place : Dec (i ≡ j) → (i < j → j < length ks → get_or ks i 0 < get_or ks j 0) → get_or ks i 0 < get_or ks (suc j) 0
    by_place (yes same) smaller = subst (λ m. get_or ks m 0 < get_or ks (suc j) 0) (sym same) step
    by_place (no other) smaller = omega (arith, smaller (omega arith) (omega arith), step)

-- so they differ
pub rising_apart : (ks : List ℕ) → IsStrictlyIncreasing ks → (i j : ℕ) → i < length ks → j < length ks → i ≢ j → get_or ks i 0 ≢ get_or ks j 0
rising_apart ks s i j l u n e = by_order (cases_lt i j)
  where
    by_order : (i < j) ⊎ (j ≤ i) → ⊥
    by_order (inl v) = let w : get_or ks i 0 < get_or ks j 0 = rising_at ks s i j v u in omega arith
    by_order (inr v) = let w : get_or ks j 0 < get_or ks i 0 = rising_at ks s j i (omega arith) l in omega arith
