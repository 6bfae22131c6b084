-- The test over all coefficients finds the bound places, and the free places are the others.
use Rattle.std.proofs.Common.{◌≡◌, ◌⊎◌, ◌+◌, ◌-◌, ◌<◌, ◌≤◌, ℕ, zero, suc, List, [], ◌∷◌, length, get_or, map, Bool, true, false, not, nat_eq, cond, refl, sym, ◌∙◌, ap, subst, inl, inr, arith, eq-eqb, eqb-true}
use Rattle.std.proofs.Math.Nat.{zero-mod}
use Rattle.std.proofs.Math.Decide.{ℕ_discrete}
use Rattle.std.proofs.lemmas.Bool.{cases_lt, and_parts, or_cases, or_left, or_right}
use Rattle.std.proofs.lemmas.List.Folds.{list_any-append}
use Rattle.std.proofs.lemmas.List.FromFn.{length-range_with_len, get_or-range_with_len}
use Rattle.std.proofs.lemmas.List.Kept.{IsStrictlyIncreasing-filter}
use Rattle.std.specs.List.{list_any, list_all, filter, flat_map, range_with_len}
use Rattle.std.specs.List.Sorted.{IsStrictlyIncreasing}
use Rattle.linear_algebra.specs.Residue.{Residue, residue}
use Rattle.linear_algebra.specs.Vector.{Vector, tail, combination, EndsBefore}
use Rattle.linear_algebra.specs.Span.{Each, InSpan}
use Rattle.linear_algebra.specs.Echelon.{IsGreatestPlace, IsPivot}
use Rattle.linear_algebra.specs.Dense.{dense}
use Rattle.linear_algebra.specs.Coordinates.{IsBound, coefficient_lists, has_greatest, is_bound, free_places}
use Rattle.linear_algebra.proofs.ResidueLaws
use Rattle.linear_algebra.proofs.Rows.{combination_same}
use Rattle.linear_algebra.proofs.Support.{EndsBefore-InSpan}
use Rattle.linear_algebra.proofs.Reductions.{bound_is_pivot, pivot_is_bound}

-- the value of the residue 0
zero_value : (p : ℕ) → (residue p 0).value ≡ 0
zero_value p = ResidueLaws.value-residue p 0 ∙ zero-mod p

-- a residue of value 0 is 0
zero_from_value : {p : ℕ} (a : Residue p) → nat_eq a.value 0 ≡ true → a ≡ residue p 0
zero_from_value {p} a t = ResidueLaws.same_residue a (residue p 0) (eqb-true a.value 0 t ∙ sym (zero_value p))

-- and the residue 0 has it
value_from_zero : {p : ℕ} (a : Residue p) → a ≡ residue p 0 → nat_eq a.value 0 ≡ true
value_from_zero {p} a e = eq-eqb a.value 0 (ap (λ b. b.value) e ∙ zero_value p)

-- a test of all numbers of a range holds of each
all_of_range : (f : ℕ → Bool) (a n : ℕ) → list_all f (range_with_len a n) ≡ true → (i : ℕ) → a ≤ i → i < a + n → f i ≡ true
all_of_range f a zero t i l u = absurd (omega arith)
all_of_range f a (suc n) t i l u =
    let (here, rest) = and_parts (f a) (list_all f (range_with_len (a + 1) n)) t in
    elim (ℕ_discrete i a) [ yes same ↦ ap f same ∙ here | no other ↦ all_of_range f (a + 1) n rest i (omega arith) (omega arith) ]

-- and what holds of each number of a range passes the test
range_of_all : (f : ℕ → Bool) (a n : ℕ) → ((i : ℕ) → a ≤ i → i < a + n → f i ≡ true) → list_all f (range_with_len a n) ≡ true
range_of_all f a zero each = refl
range_of_all f a (suc n) each = rw (each a (omega arith) (omega arith), range_of_all f (a + 1) n (λ i l u. each i (omega arith) (omega arith))) refl

-- the test has_greatest is IsGreatestPlace, for a vector of length d
pub has_greatest-IsGreatestPlace : {p : ℕ} (d k : ℕ) (v : Vector p) → EndsBefore d v → has_greatest d k v ≡ true → IsGreatestPlace v k
has_greatest-IsGreatestPlace {p} d k v ends t =
    let (some, rest) = and_parts (not (nat_eq (v k).value 0)) (list_all (λ i. nat_eq (v i).value 0) (range_with_len (k + 1) (d - (k + 1)))) t in
    record { at = λ z. at_k some z; beyond = λ i l. past rest i l (cases_lt i d) }
  where
    at_k : not (nat_eq (v k).value 0) ≡ true → v k ≡ residue p 0 → ⊥
    at_k some z = let w : nat_eq (v k).value 0 ≡ true = value_from_zero (v k) z in grind (arith, some, w)

    past : list_all (λ i. nat_eq (v i).value 0) (range_with_len (k + 1) (d - (k + 1))) ≡ true → (i : ℕ) → k < i → (i < d) ⊎ (d ≤ i)
        → v i ≡ residue p 0
    past rest i l (inl u) = zero_from_value (v i) (all_of_range (λ i. nat_eq (v i).value 0) (k + 1) (d - (k + 1)) rest i (omega arith) (omega arith))
    past rest i l (inr u) = ends i u

-- and the greatest place passes the test
pub IsGreatestPlace-has_greatest : {p : ℕ} (d k : ℕ) (v : Vector p) → IsGreatestPlace v k → has_greatest d k v ≡ true
IsGreatestPlace-has_greatest {p} d k v g = rw (
  some (nat_eq (v k).value 0) refl,
  range_of_all (λ i. nat_eq (v i).value 0) (k + 1) (d - (k + 1))
      (λ i l u. value_from_zero (v i) (g.beyond i (omega arith))),
) refl
  where
    some : (t : Bool) → nat_eq (v k).value 0 ≡ t → not (nat_eq (v k).value 0) ≡ true
    some true e = absurd (g.at (zero_from_value (v k) e))
    some false e = ap not e

-- a list on which the test holds
found : {A : Type 0} (f : A → Bool) (xs : List A) → list_any f xs ≡ true → (x : A) × (f x ≡ true)
found f [] t = absurd cc
found f (x ∷ xs) t = elim (or_cases (f x) (list_any f xs) t) [ inl here ↦ (x, here) | inr rest ↦ found f xs rest ]

-- a test of some value of g
any_map : {A B : Type 0} (f : B → Bool) (g : A → B) (xs : List A) → list_any (λ x. f (g x)) xs ≡ true → list_any f (map g xs) ≡ true
any_map f g [] t = t
any_map f g (x ∷ xs) t = elim (or_cases (f (g x)) (list_any (λ x. f (g x)) xs) t) [
  | inl here ↦ or_left (f (g x)) (list_any f (map g xs)) here
  | inr rest ↦ or_right (f (g x)) (list_any f (map g xs)) (any_map f g xs rest)
]

-- a test of some element of the list g a, for a number a of the range
any_flat_map : {B : Type 0} (f : B → Bool) (g : ℕ → List B) (s n a : ℕ) → s ≤ a → a < s + n → list_any f (g a) ≡ true
    → list_any f (flat_map g (range_with_len s n)) ≡ true
any_flat_map f g s zero a l u t = absurd (omega arith)
any_flat_map f g s (suc n) a l u t = list_any-append f (g s) (flat_map g (range_with_len (s + 1) n)) ∙ elim (ℕ_discrete a s) [
  | yes same ↦ or_left (list_any f (g s)) (list_any f (flat_map g (range_with_len (s + 1) n))) (subst (λ b. list_any f (g b) ≡ true) same t)
  | no other ↦ or_right (list_any f (g s)) (list_any f (flat_map g (range_with_len (s + 1) n)))
      (any_flat_map f g (s + 1) n a (omega arith) (omega arith) t)
]

-- the first n coefficients as numbers
values_of : {p : ℕ} → ℕ → Vector p → List ℕ
values_of zero c = []
values_of (suc n) c = (c 0).value ∷ values_of n (tail c)

-- are the coefficients again, as a vector
dense-values_of : {p : ℕ} (n : ℕ) (c : Vector p) (j : ℕ) → j < n → dense p (values_of n c) j ≡ c j
unfolding values_of dense
dense-values_of zero c j l = absurd (omega arith)
dense-values_of {p} (suc n) c zero l = ResidueLaws.same_residue (residue p (c 0).value) (c 0)
    (ResidueLaws.value-residue p (c 0).value ∙ (c 0).reduced)
dense-values_of (suc n) c (suc j) l = dense-values_of n (tail c) j (omega arith)

-- each list of residues is among the lists of coefficients
among : {p : ℕ} → 0 < p → (n : ℕ) (c : Vector p) (f : List ℕ → Bool) → f (values_of n c) ≡ true → list_any f (coefficient_lists p n) ≡ true
unfolding values_of
among positive zero c f t = or_left (f []) false t
among {p} positive (suc n) c f t =
    any_flat_map f (λ a. map (λ c. a ∷ c) (coefficient_lists p n)) 0 p (c 0).value (omega arith)
    (omega (arith, ResidueLaws.value_below positive (c 0)))
    (any_map f (λ xs. (c 0).value ∷ xs) (coefficient_lists p n) (among positive n (tail c) (λ xs. f ((c 0).value ∷ xs)) t))

-- the test finds the pivots alone, and all of them
pub is_bound-IsPivot : {p : ℕ} (d : ℕ) (rows : List (Vector p)) → Each (EndsBefore d) rows → (k : ℕ) → is_bound d rows k ≡ true → IsPivot rows k
unfolding is_bound
is_bound-IsPivot {p} d rows ends k t =
    let (c, e) = found (λ c. has_greatest d k (combination (dense p c) rows)) (coefficient_lists p (length rows)) t in
    let h : InSpan rows (combination (dense p c) rows) = record { coefficients = dense p c; is_combination = refl } in (
      combination (dense p c) rows,
      h,
      has_greatest-IsGreatestPlace d k (combination (dense p c) rows)
          (EndsBefore-InSpan d rows (combination (dense p c) rows) ends h) e,
    )

-- and it finds each pivot
pub IsPivot-is_bound : {p : ℕ} → 0 < p → (d : ℕ) (rows : List (Vector p)) (k : ℕ) → IsPivot rows k → is_bound d rows k ≡ true
unfolding is_bound
IsPivot-is_bound {p} positive d rows k (v, h, g) =
    let same : combination (dense p (values_of (length rows) h.coefficients)) rows ≡ v =
    combination_same (dense p (values_of (length rows) h.coefficients)) h.coefficients rows (dense-values_of (length rows) h.coefficients)
    ∙ sym h.is_combination in
    among positive (length rows) h.coefficients (λ c. has_greatest d k (combination (dense p c) rows))
    (ap (has_greatest d k) same ∙ IsGreatestPlace-has_greatest d k v g)

-- a place is bound or not
pub bound_or_free : {p : ℕ} → 0 < p → (d : ℕ) (rows : List (Vector p)) → Each (EndsBefore d) rows → (k : ℕ) → IsBound rows k ⊎ (IsBound rows k → ⊥)
bound_or_free {p} positive d rows ends k = by_test (is_bound d rows k) refl
  where
    by_test : (t : Bool) → is_bound d rows k ≡ t → IsBound rows k ⊎ (IsBound rows k → ⊥)
    by_test true e = inl (pivot_is_bound positive rows k (is_bound-IsPivot d rows ends k e))
    by_test false e = inr (λ b. let w : is_bound d rows k ≡ true = IsPivot-is_bound positive d rows k (bound_is_pivot positive rows k b) in grind
        (arith, e, w))

-- each element of a filter passes the test, and stands in the list
filter_only : (f : ℕ → Bool) (xs : List ℕ) (j : ℕ) → j < length (filter f xs)
    → (i : ℕ) × (i < length xs) × (get_or xs i 0 ≡ get_or (filter f xs) j 0) × (f (get_or xs i 0) ≡ true)
filter_only f [] j l = absurd (omega arith)
filter_only f (x ∷ xs) j l = by_test (f x) refl j l (filter_only f xs)
  where
    later : (j : ℕ) → (i : ℕ) × (i < length xs) × (get_or xs i 0 ≡ get_or (filter f xs) j 0) × (f (get_or xs i 0) ≡ true)
        → (i : ℕ) × (i < length (x ∷ xs)) × (get_or (x ∷ xs) i 0 ≡ get_or (filter f xs) j 0) × (f (get_or (x ∷ xs) i 0) ≡ true)
    later j (i, l, e, t) = (suc i, omega arith, e, t)

    by_test : (t : Bool) → f x ≡ t → (j : ℕ) → j < length (cond t (x ∷ filter f xs) (filter f xs))
        → ((j : ℕ) → j < length (filter f xs) → (i : ℕ) × (i < length xs) × (get_or xs i 0 ≡ get_or (filter f xs) j 0) × (f (get_or xs i 0) ≡ true))
        → (i : ℕ) × (i < length (x ∷ xs)) × (get_or (x ∷ xs) i 0 ≡ get_or (cond t (x ∷ filter f xs) (filter f xs)) j 0)
        × (f (get_or (x ∷ xs) i 0) ≡ true)
    by_test true e zero l smaller = (0, omega arith, refl, e)
    by_test true e (suc j) l smaller = later j (smaller j (omega arith))
    by_test false e j l smaller = later j (smaller j l)

-- and each element of the list that passes stands in the filter
filter_all : (f : ℕ → Bool) (xs : List ℕ) (i : ℕ) → i < length xs → f (get_or xs i 0) ≡ true
    → (j : ℕ) × (j < length (filter f xs)) × (get_or (filter f xs) j 0 ≡ get_or xs i 0)
filter_all f [] i l t = absurd (omega arith)
filter_all f (x ∷ xs) i l t = by_test (f x) refl i l t (filter_all f xs)
  where
    by_test : (b : Bool) → f x ≡ b → (i : ℕ) → i < length (x ∷ xs) → f (get_or (x ∷ xs) i 0) ≡ true
        → ((i : ℕ) → i < length xs → f (get_or xs i 0) ≡ true → (j : ℕ) × (j < length (filter f xs)) × (get_or (filter f xs) j 0 ≡ get_or xs i 0))
        → (j : ℕ) × (j < length (cond b (x ∷ filter f xs) (filter f xs)))
        × (get_or (cond b (x ∷ filter f xs) (filter f xs)) j 0 ≡ get_or (x ∷ xs) i 0)
    by_test true e zero l t smaller = (0, omega arith, refl)
    by_test false e zero l t smaller = absurd (let w : f x ≡ true = t in grind (arith, e, w))
    by_test true e (suc i) l t smaller = let (j, u, same) = smaller i (omega arith) t in (suc j, omega arith, same)
    by_test false e (suc i) l t smaller = smaller i (omega arith) t

-- the number at place i of a range from 0
pub in_range : (d i : ℕ) → i < d → get_or (range_with_len 0 d) i 0 ≡ i
in_range d i l = get_or-range_with_len 0 d i 0 l ∙ (let e : 0 + i ≡ i = omega arith in e)

-- a range rises
pub range_rising : (d : ℕ) → IsStrictlyIncreasing (range_with_len 0 d)
range_rising d k l =
    let sized : length (range_with_len 0 d) ≡ d = length-range_with_len 0 d in
    rw (in_range d k (omega arith), in_range d (k + 1) (omega arith)) (omega arith)

-- the free places rise
pub free_places_rising : {p : ℕ} (d : ℕ) (rows : List (Vector p)) → IsStrictlyIncreasing (free_places d rows)
unfolding free_places
free_places_rising d rows = IsStrictlyIncreasing-filter (λ k. not (is_bound d rows k)) (range_with_len 0 d) (range_rising d)

-- a free place is below d and not bound
pub free_place : {p : ℕ} → 0 < p → (d : ℕ) (rows : List (Vector p)) (j : ℕ) → j < length (free_places d rows)
    → (get_or (free_places d rows) j 0 < d) × (IsBound rows (get_or (free_places d rows) j 0) → ⊥)
unfolding free_places
free_place {p} positive d rows j l =
    let (i, u, e, t) = filter_only (λ k. not (is_bound d rows k)) (range_with_len 0 d) j l in
    let n : i < d = omega (arith, length-range_with_len 0 d) in
    let at_i : get_or (range_with_len 0 d) i 0 ≡ i = in_range d i n in
    let same : i ≡ get_or (filter (λ k. not (is_bound d rows k)) (range_with_len 0 d)) j 0 = sym at_i ∙ e in
    (subst (λ k. k < d) same n, λ b. clash i (subst (λ k. not (is_bound d rows k) ≡ true) at_i t) (subst (IsBound rows) (sym same) b))
  where
    clash : (i : ℕ) → not (is_bound d rows i) ≡ true → IsBound rows i → ⊥
    clash i t b = let w : is_bound d rows i ≡ true = IsPivot-is_bound positive d rows i (bound_is_pivot positive rows i b) in grind (arith, t, w)

-- and each place below d that is not bound is one
pub free_place_of : {p : ℕ} → 0 < p → (d : ℕ) (rows : List (Vector p)) → Each (EndsBefore d) rows → (k : ℕ) → k < d → (IsBound rows k → ⊥)
    → (j : ℕ) × (j < length (free_places d rows)) × (get_or (free_places d rows) j 0 ≡ k)
unfolding free_places
free_place_of {p} positive d rows ends k l free =
    let at_k : get_or (range_with_len 0 d) k 0 ≡ k = in_range d k l in
    let (j, u, e) = filter_all (λ k. not (is_bound d rows k)) (range_with_len 0 d) k (omega (arith, length-range_with_len 0 d))
    (subst (λ i. not (is_bound d rows i) ≡ true) (sym at_k) (passes (is_bound d rows k) refl)) in
    (j, u, e ∙ at_k)
  where
    passes : (t : Bool) → is_bound d rows k ≡ t → not (is_bound d rows k) ≡ true
    passes true e = absurd (free (pivot_is_bound positive rows k (is_bound-IsPivot d rows ends k e)))
    passes false e = ap not e
