-- Coordinates modulo the span of rows: each class has one vector without bound places, and one list of coefficients over the kept rows
-- (Cohen, A Course in Computational Algebraic Number Theory, 2.3; Stein, Modular Forms: A Computational Approach, ch. 3 and 8).
--   IsBound rows k            some vector congruent to 0 has k as the greatest place of its support
--   IsReduction rows x y      y is congruent to x, and 0 at each bound place
--   unit k                    1 at place k, and 0 elsewhere
--   at_places ks c            the combination of the unit vectors at the places ks with the coefficients c
--   coefficient_lists p n     all lists of n numbers below p
--   has_greatest d k v        k is the greatest place below d of the support of v
--   is_bound d rows k         some combination of the rows, of length d, has k as its greatest place: IsBound as a test over all coefficients
--   free_places d rows        the places below d that are not bound, rising
--   IsCoordinates d rows x c  c has one entry for each free place, and the combination of these places by c is congruent to x
--   IsKept rows i             row i is no combination of the rows before it
--   IsKeptList rows n ks      ks are the numbers below n of kept rows, rising
--   rows_at rows ks           the rows with the numbers ks
--   IsOverKept rows c         c is 0 but at the numbers of kept rows
--   AreKeptCoefficients rows x y c
--                             c is over kept rows, and with these coefficients the rows add up to x - y
--   AreKeptCoefficientsOf rows x c
--                             the same of x and its reduction
use Rattle.std.specs.Prelude.{◌≡◌, ℕ, ◌+◌, ◌-◌, ◌<◌, List, [], ◌∷◌, length, map, take, Bool, nat_eq, not, ◌&&◌, All, slice_index}
use Rattle.std.specs.List.Sorted.{IsStrictlyIncreasing}
use Rattle.std.specs.List.{Contains, list_any, list_all, filter, flat_map, range_with_len}
use Rattle.std.proofs.Common.{zero, suc}
use Rattle.linear_algebra.specs.Residue.{residue}
use Rattle.linear_algebra.specs.Vector.{Vector, zeros, combination, minus, EndsBefore}
use Rattle.linear_algebra.specs.Span.{row, InSpan, Congruent}
use Rattle.linear_algebra.specs.Echelon.{IsGreatestPlace}
use Rattle.linear_algebra.specs.Dense.{dense}
use Rattle.linear_algebra.specs.Sparse.{single}

abbrev pub IsBound : {p : ℕ} → List (Vector p) → ℕ → Type 0
IsBound {p} rows k = (v : Vector p) × Congruent rows v zeros × IsGreatestPlace v k

pub record IsReduction {p : ℕ} (rows : List (Vector p)) (x y : Vector p) : Type 0 where
  pub congruent : Congruent rows x y
  pub free : (k : ℕ) → IsBound rows k → y k ≡ residue p 0

abbrev pub unit : {p : ℕ} → ℕ → Vector p
unit {p} k = single p k 1

abbrev pub at_places : {p : ℕ} → List ℕ → Vector p → Vector p
at_places ks c = combination c (map unit ks)

abbrev pub coefficient_lists : ℕ → ℕ → List (List ℕ)
coefficient_lists p zero = [] ∷ []
coefficient_lists p (suc n) = flat_map (λ a. map (λ c. a ∷ c) (coefficient_lists p n)) (range_with_len 0 p)

abbrev pub has_greatest : {p : ℕ} → ℕ → ℕ → Vector p → Bool
has_greatest d k v = not (nat_eq (v k).value 0) && list_all (λ i. nat_eq (v i).value 0) (range_with_len (k + 1) (d - (k + 1)))

unfoldable pub is_bound : {p : ℕ} → ℕ → List (Vector p) → ℕ → Bool
is_bound {p} d rows k = list_any (λ c. has_greatest d k (combination (dense p c) rows)) (coefficient_lists p (length rows))

unfoldable pub free_places : {p : ℕ} → ℕ → List (Vector p) → List ℕ
free_places d rows = filter (λ k. not (is_bound d rows k)) (range_with_len 0 d)

pub record IsCoordinates {p : ℕ} (d : ℕ) (rows : List (Vector p)) (x c : Vector p) : Type 0 where
  pub ends : EndsBefore (length (free_places d rows)) c
  pub congruent : Congruent rows x (at_places (free_places d rows) c)

pub record IsKept {p : ℕ} (rows : List (Vector p)) (i : ℕ) : Type 0 where
  pub within : i < length rows
  pub apart : InSpan (take i rows) (row rows i) → ⊥

pub record IsKeptList {p : ℕ} (rows : List (Vector p)) (n : ℕ) (ks : List ℕ) : Type 0 where
  pub rising : IsStrictlyIncreasing ks
  pub below : All (λ i. i < n) ks
  pub only : (q : ℕ) → q < length ks → IsKept rows (slice_index ks q)
  pub all : (i : ℕ) → i < n → IsKept rows i → Contains ks i

abbrev pub rows_at : {p : ℕ} → List (Vector p) → List ℕ → List (Vector p)
rows_at rows ks = map (row rows) ks

pub record IsOverKept {p : ℕ} (rows : List (Vector p)) (c : Vector p) : Type 0 where
  pub elsewhere : (i : ℕ) → (IsKept rows i → ⊥) → c i ≡ residue p 0

pub record AreKeptCoefficients {p : ℕ} (rows : List (Vector p)) (x y c : Vector p) : Type 0 where
  pub over_kept : IsOverKept rows c
  pub adds_up : combination c rows ≡ minus x y

pub record AreKeptCoefficientsOf {p : ℕ} (rows : List (Vector p)) (x c : Vector p) : Type 0 where
  pub of_reduction : (y : Vector p) → IsReduction rows x y → AreKeptCoefficients rows x y c
