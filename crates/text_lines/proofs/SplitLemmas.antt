-- The first of the pieces that a list of bytes is split into, by the place of the first byte that passes the test.
use Rattle.std.proofs.Common.{◌≡◌, ℕ, zero, suc, ◌+◌, ◌-◌, ◌<◌, Bool, true, false, List, [], ◌∷◌, length, get_or, take, drop, add-one, length-drop, refl, arith}
use Rattle.std.specs.List.{slice_split}
use Rattle.std.proofs.lemmas.List.{take_all}

-- a test that isn't true is false
pub not_true : (b : Bool) → (b ≡ true → ⊥) → b ≡ false
not_true true h = absurd (h refl)
not_true false h = refl

pub split-first : (p : ℕ → Bool) (bytes : List ℕ) (n : ℕ) → n < length bytes → ((k : ℕ) → k < n → p (get_or bytes k 0) ≡ false)
    → p (get_or bytes n 0) ≡ true
    → slice_split p bytes ≡ take n bytes ∷ slice_split p (drop (suc n) bytes)
split-first p [] n within before at = absurd (omega arith)
split-first p (b ∷ bytes) zero within before at = rw at refl
split-first p (b ∷ bytes) (suc n) within before at =
    rw (before 0 (omega arith), split-first p bytes n (omega arith) (λ k below. before (suc k) (omega arith)) at) refl

-- the first piece, and the slice that the code goes on with
pub split-cut : (p : ℕ → Bool) (bytes : List ℕ) (n : ℕ) → n < length bytes → ((k : ℕ) → k < n → p (get_or bytes k 0) ≡ false)
    → p (get_or bytes n 0) ≡ true
    → slice_split p bytes ≡ take n bytes ∷ slice_split p (take (length bytes - (n + 1)) (drop (n + 1) bytes))
split-cut p bytes n within before at =
    rw (take_all (length bytes - (n + 1)) (drop (n + 1) bytes) (omega (arith, length-drop (n + 1) bytes)), add-one)
    (split-first p bytes n within before at)

-- where no byte passes there is one piece
pub split-last : (p : ℕ → Bool) (bytes : List ℕ) → ((k : ℕ) → k < length bytes → p (get_or bytes k 0) ≡ false) → slice_split p bytes ≡ bytes ∷ []
split-last p [] before = refl
split-last p (b ∷ bytes) before =
    rw (before 0 (omega arith), split-last p bytes (λ k below. before (suc k) (omega arith))) refl
