-- The free places below a width, found one after another.
use Rattle.std.proofs.Common.{◌≡◌, ◌+◌, ◌<◌, ◌≤◌, ℕ, List, [], ◌∷◌, ◌++◌, length, get_or, Bool, true, false, not, cond, All, refl, sym, ◌∙◌, ap, subst, arith, append-nil}
use Rattle.std.specs.List.{filter, range_with_len}
use Rattle.std.proofs.lemmas.List.{map-id}
use Rattle.std.proofs.lemmas.List.FromFn.{length-range_with_len, get_or-range_with_len, filter_of_map_range_with_len_more}
use Rattle.std.proofs.lemmas.List.Elements.{All-filter, All-from_get_or}
use Rattle.std.proofs.lemmas.List.Filters.{length-filter_both}
use Rattle.linear_algebra.specs.Vector.{Vector, EndsBefore}
use Rattle.linear_algebra.specs.Span.{Each}
use Rattle.linear_algebra.specs.Echelon.{IsPivot}
use Rattle.linear_algebra.specs.Coordinates.{is_bound, free_places}
use Rattle.linear_algebra.proofs.BoundPlaces.{is_bound-IsPivot, IsPivot-is_bound}

-- the free places among the first n
pub free_before : {p : ℕ} → ℕ → List (Vector p) → ℕ → List ℕ
free_before d rows n = filter (λ k. not (is_bound d rows k)) (range_with_len 0 n)

-- none of the first 0
pub free_before-zero : {p : ℕ} (d : ℕ) (rows : List (Vector p)) → free_before d rows 0 ≡ []
unfolding free_before
free_before-zero d rows = refl

-- all of them
pub free_before-all : {p : ℕ} (d : ℕ) (rows : List (Vector p)) → free_before d rows d ≡ free_places d rows
unfolding free_before free_places
free_before-all d rows = refl

one_more : {p : ℕ} (d : ℕ) (rows : List (Vector p)) (n : ℕ) (t : Bool) → is_bound d rows n ≡ t
    → free_before d rows (n + 1) ≡ free_before d rows n ++ cond (not t) (n ∷ []) []
unfolding free_before
one_more d rows n t e =
    ap (filter (λ k. not (is_bound d rows k))) (sym (map-id (range_with_len 0 (n + 1))))
    ∙ filter_of_map_range_with_len_more (λ k. not (is_bound d rows k)) (λ k. k) 0 n n (omega arith)
    ∙ ap (λ ks. filter (λ k. not (is_bound d rows k)) ks ++ cond (not (is_bound d rows n)) (n ∷ []) []) (map-id (range_with_len 0 n))
    ∙ ap (λ b. filter (λ k. not (is_bound d rows k)) (range_with_len 0 n) ++ cond (not b) (n ∷ []) []) e

-- a pivot is not among them
pub free_before-pivot : {p : ℕ} → 0 < p → (d : ℕ) (rows : List (Vector p)) (n : ℕ) → IsPivot rows n
    → free_before d rows (n + 1) ≡ free_before d rows n
free_before-pivot positive d rows n h = one_more d rows n true (IsPivot-is_bound positive d rows n h) ∙ append-nil (free_before d rows n)

-- and every other place is
pub free_before-free : {p : ℕ} (d : ℕ) (rows : List (Vector p)) → Each (EndsBefore d) rows → (n : ℕ) → (IsPivot rows n → ⊥)
    → free_before d rows (n + 1) ≡ free_before d rows n ++ n ∷ []
free_before-free d rows ends n h = by_test (is_bound d rows n) refl
  where
    by_test : (t : Bool) → is_bound d rows n ≡ t → free_before d rows (n + 1) ≡ free_before d rows n ++ n ∷ []
    by_test true e = absurd (h (is_bound-IsPivot d rows ends n e))
    by_test false e = one_more d rows n false e

-- the free places so far are below n
pub free_before_below : {p : ℕ} (d : ℕ) (rows : List (Vector p)) (n : ℕ) → All (λ k. k < n) (free_before d rows n)
unfolding free_before
free_before_below d rows n =
    All-filter (λ k. not (is_bound d rows k)) (λ k. k < n) (range_with_len 0 n) (All-from_get_or (λ k. k < n) (range_with_len 0 n) 0 below)
  where
    below : (i : ℕ) → i < length (range_with_len 0 n) → get_or (range_with_len 0 n) i 0 < n
    below i l = let w : i < n = omega (arith, length-range_with_len 0 n) in omega (arith, get_or-range_with_len 0 n i 0 w)

-- so there are at most n
pub free_before_few : {p : ℕ} (d : ℕ) (rows : List (Vector p)) (n : ℕ) → length (free_before d rows n) ≤ n
unfolding free_before
free_before_few d rows n =
    omega (
      arith,
      length-filter_both (λ k. not (is_bound d rows k)) (λ k. not (not (is_bound d rows k))) (λ k. refl) (range_with_len 0 n),
      length-range_with_len 0 n,
    )

-- all are below the width
pub free_places_below : {p : ℕ} (d : ℕ) (rows : List (Vector p)) → All (λ k. k < d) (free_places d rows)
free_places_below d rows = subst (All (λ k. k < d)) (free_before-all d rows) (free_before_below d rows d)

-- and at most so many
pub free_places_few : {p : ℕ} (d : ℕ) (rows : List (Vector p)) → length (free_places d rows) ≤ d
free_places_few d rows = subst (λ ks. length ks ≤ d) (free_before-all d rows) (free_before_few d rows d)
