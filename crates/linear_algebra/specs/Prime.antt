-- Prime numbers, and trial division as a test that computes (Ireland and Rosen, ch. 1).
--   IsPrime p           p is above 1, and only 1 and p divide it
--   none_divides k d p  none of the k numbers from d on divides p
--   passes_trial k p    none of the numbers from 2 to k + 1 divides p, and p is below the square of k + 2
use Rattle.std.specs.Prelude.{◌≡◌, ◌<◌, ℕ, ◌+◌, ◌*◌, ◌%◌, ◌⊎◌, Bool, true, nat_lt, nat_eq, not, ◌&&◌}
use Rattle.std.proofs.Common.{zero, suc}

pub record IsPrime (p : ℕ) : Type 0 where
  pub above_one : 1 < p
  pub only_trivial : (d : ℕ) → p % d ≡ 0 → (d ≡ 1) ⊎ (d ≡ p)

abbrev pub none_divides : ℕ → ℕ → ℕ → Bool
none_divides zero d p = true
none_divides (suc k) d p = not (nat_eq (p % d) 0) && none_divides k (suc d) p

abbrev pub passes_trial : ℕ → ℕ → Bool
passes_trial k p = nat_lt 1 p && (nat_lt p ((k + 2) * (k + 2)) && none_divides k 2 p)
