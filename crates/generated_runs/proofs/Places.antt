-- Lists of pairs: distinct ones after one another, and lists of which one holds the other.
use Rattle.std.proofs.Common.{◌≡◌, ℕ, false, List, [], ◌∷◌, ◌++◌, arith}
use Rattle.std.specs.List.{AllByRecursion, IsDistinct}
use Rattle.std.specs.Set.{is_member}
use Rattle.std.proofs.lemmas.Bool.{false_from_ne_true, or_left, or_right}
use Rattle.std.proofs.lemmas.Map.Keys.{IsDistinct-cons, IsDistinct-from_apart, IsDistinct-head, IsDistinct-tail}
use Rattle.session_core.specs.Demands.{is_pair, Has}
use Rattle.session_core.proofs.PairLemmas.{is_pair-equivalence}

-- a pair that is not in a list is apart from each there
apart_from : (x : ℕ × ℕ) (ys : List (ℕ × ℕ)) → (Has ys x → ⊥) → AllByRecursion (λ y. is_pair x y ≡ false) ys
apart_from x [] none = tt
apart_from x (y ∷ ys) none = (
  false_from_ne_true (is_pair x y) (λ e. none (or_left (is_pair x y) (is_member is_pair ys x) e)),
  apart_from x ys (λ h. none (or_right (is_pair x y) (is_member is_pair ys x) h)),
)

-- what holds of each of two lists holds of each of both together
both : (P : ℕ × ℕ → Type 0) (xs ys : List (ℕ × ℕ)) → AllByRecursion P xs → AllByRecursion P ys → AllByRecursion P (xs ++ ys)
both P [] ys a b = b
both P (x ∷ xs) ys a b = (a.0, both P xs ys a.1 b)

-- no pair is a list of distinct ones
pub distinct_nil : IsDistinct is_pair []
distinct_nil = IsDistinct-from_apart is_pair [] (λ i j d before within. absurd (omega (arith, within)))

-- and so is one
pub distinct_one : (x : ℕ × ℕ) → IsDistinct is_pair (x ∷ [])
distinct_one x = IsDistinct-cons is_pair x [] tt distinct_nil

-- and two lists of distinct ones that have none in common
pub distinct_append : (xs ys : List (ℕ × ℕ)) → IsDistinct is_pair xs → IsDistinct is_pair ys → ((q : ℕ × ℕ) → Has xs q → Has ys q → ⊥)
    → IsDistinct is_pair (xs ++ ys)
distinct_append [] ys dx dy apart = dy
distinct_append (x ∷ xs) ys dx dy apart =
    IsDistinct-cons is_pair x (xs ++ ys)
    (both (λ y. is_pair x y ≡ false) xs ys (IsDistinct-head is_pair x xs dx)
    (apart_from x ys (λ h. apart x (or_left (is_pair x x) (is_member is_pair xs x) (is_pair-equivalence.refl x)) h)))
    (distinct_append xs ys (IsDistinct-tail is_pair x xs dx) dy (λ q h k. apart q (or_right (is_pair q x) (is_member is_pair xs q) h) k))
