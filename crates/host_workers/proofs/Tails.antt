-- The end of a list, from a place on.
use Rattle.std.proofs.Common.{suc, ◌≡◌, ℕ, ◌+◌, List, ◌∷◌, Some, refl, ◌∙◌, ap, arith}
use Rattle.std.specs.Prelude.{slice_get}

-- each item of `tail` stands in `all`, so many places later
pub record IsTail {A : Type 0} (a : ℕ) (tail all : List A) : Type 0 where
  pub at : (j : ℕ) (x : A) → slice_get tail j ≡ Some x → slice_get all (a + j) ≡ Some x

pub tail_whole : {A : Type 0} (all : List A) → IsTail 0 all all
tail_whole all = record { at = λ j x h. ap (λ n. slice_get all n) (omega arith) ∙ h }

pub tail_next : {A : Type 0} (a : ℕ) (x : A) (tail all : List A) → IsTail a (x ∷ tail) all → IsTail (a + 1) tail all
tail_next a x tail all h = record { at = λ j y here. ap (λ n. slice_get all n) (let same : a + 1 + j ≡ a + suc j = omega arith in same) ∙ h.at (suc j) y here }

pub tail_head : {A : Type 0} (a : ℕ) (x : A) (tail all : List A) → IsTail a (x ∷ tail) all → slice_get all a ≡ Some x
tail_head a x tail all h = ap (λ n. slice_get all n) (let same : a ≡ a + 0 = omega arith in same) ∙ h.at 0 x refl
