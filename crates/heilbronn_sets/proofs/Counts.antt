-- How many matrices Merel's set has: the entries a, b, c of one determine d.
use Rattle.std.proofs.Common.{◌≡◌, ◌+◌, ◌*◌, ◌/◌, ◌%◌, ◌<◌, ◌≤◌, ℕ, List, [], ◌∷◌, length, sym, ap, subst, inl, inr, arith}
use Rattle.std.specs.List.{flat_map}
use Rattle.std.proofs.Math.Nat.{mod-lt, div-add-mod}
use Rattle.std.proofs.lemmas.Bool.{cases_eq, cases_lt}
use Rattle.std.proofs.lemmas.List.{length-append}
use Rattle.std.proofs.lemmas.List.FromFn.{length-range_with_len}
use Rattle.heilbronn_sets.specs.Merel.{entries, merel_matrices, with_three, with_row, with_corner}
use Rattle.heilbronn_sets.proofs.Entries.{AreParts, none_past}
use Rattle.heilbronn_sets.proofs.Rows.{with_three-one, with_three-none, with_three-rest, merel_corners}

-- the length of joined pieces of a bounded length
length-flat_map_le : {X Y : Type 0} (f : X → List Y) (k : ℕ) → ((x : X) → length (f x) ≤ k) → (xs : List X) → length (flat_map f xs) ≤ length xs * k
length-flat_map_le f k h [] = omega arith
length-flat_map_le f k h (x ∷ xs) = omega (arith, length-append (f x) (flat_map f xs), h x, length-flat_map_le f k h xs)

-- the quotient and remainder of n + b c by a positive a
parts_of : (n a b c : ℕ) → b < a → AreParts n a b c ((n + b * c) / a) ((n + b * c) % a)
parts_of n a b c l = record { value = div-add-mod (n + b * c) a; below = mod-lt (n + b * c) (omega arith) }

-- three first entries have at most one last
with_three-few : (n a b c : ℕ) → length (with_three n a b c) ≤ 1
with_three-few n a b c = elim (cases_lt b a) [
  | inl l ↦ by_parts ((n + b * c) / a) ((n + b * c) % a) l (parts_of n a b c l)
  | inr l ↦ none (with_three-none n a b c (λ d k. let e = k.left in omega arith))
]
  where
    none : with_three n a b c ≡ [] → length (with_three n a b c) ≤ 1
    none e = omega (arith, ap (λ ms. length ms) e)

    by_parts : (q r : ℕ) → b < a → AreParts n a b c q r → length (with_three n a b c) ≤ 1
    by_parts q r l h = elim (cases_eq r 0) [
      | inl exact ↦ elim (cases_lt c q) [
        | inl m ↦ omega (arith, ap (λ ms. length ms) (with_three-one n a b c q r l h exact m))
        | inr m ↦ none (with_three-none n a b c (λ d k. none_past n a b c q r c d h m (omega arith) k))
      ]
      | inr some ↦ none (with_three-rest n a b c q r h some)
    ]

-- so there are at most (n + 1)^3 matrices in all
pub merel_matrices-count : (n : ℕ) → length (merel_matrices n) ≤ (n + 1) * ((n + 1) * (n + 1))
unfolding with_row with_corner
merel_matrices-count n = subst (λ ms. length ms ≤ (n + 1) * ((n + 1) * (n + 1))) (sym (merel_corners n))
    (wide ((n + 1) * (n + 1)) (with_corner n) corner)
  where
    wide : {Y : Type 0} (k : ℕ) (f : ℕ → List Y) → ((x : ℕ) → length (f x) ≤ k) → length (flat_map f (entries n)) ≤ (n + 1) * k
    wide k f h = subst (λ m. length (flat_map f (entries n)) ≤ m * k) (length-range_with_len 0 (n + 1)) (length-flat_map_le f k h (entries n))

    row : (a b : ℕ) → length (with_row n a b) ≤ n + 1
    row a b = omega (arith, wide 1 (with_three n a b) (with_three-few n a b))

    corner : (a : ℕ) → length (with_corner n a) ≤ (n + 1) * (n + 1)
    corner a = wide (n + 1) (with_row n a) (row a)
