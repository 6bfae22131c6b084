-- Counts of faults.
--   next_count n               one more, up to the end of 64 bits
--   Rose before now            the count rose, or it stands at the end of 64 bits
--   HasCause before now r      the count has not fallen: it stands where the call succeeded, and it rose where the call failed
--   CountsFaults before now r  the count rose by one where the call failed, and stands where it succeeded
use Rattle.std.specs.Prelude.{◌≡◌, ℕ, ◌+◌, ◌-◌, ◌^◌, ◌≤◌, min, Result, Ok, Err, OnOk, OnErr}

abbrev pub next_count : ℕ → ℕ
next_count n = min (n + 1) (2 ^ 64 - 1)

abbrev pub Rose : ℕ → ℕ → Type 0
Rose before now = next_count before ≤ now

pub record HasCause {T E : Type 0} (before now : ℕ) (result : Result T E) : Type 0 where
  pub later : before ≤ now
  pub stands : OnOk result (now ≡ before)
  pub failed : OnErr result (Rose before now)

abbrev pub CountsFaults : {T E : Type 0} → ℕ → ℕ → Result T E → Type 0
CountsFaults before now (Ok value) = now ≡ before
CountsFaults before now (Err fault) = now ≡ next_count before
