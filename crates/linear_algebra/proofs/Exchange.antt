-- More vectors than places are dependent, and so are more vectors than the rows that span them.
use Rattle.std.proofs.Common.{◌≡◌, ◌≢◌, ◌⊎◌, ◌<◌, ◌≤◌, ℕ, zero, suc, List, [], ◌∷◌, ◌++◌, map, length, refl, sym, ◌∙◌, ap, subst, inl, inr, arith}
use Rattle.linear_algebra.specs.Residue.{Residue, residue, ◌⊕◌, ◌⊗◌, opposite}
use Rattle.linear_algebra.specs.Prime.{IsPrime}
use Rattle.linear_algebra.specs.Span.{Each, none, more, Dependent}
use Rattle.linear_algebra.specs.Vector.{Vector, EndsBefore, ◌⊞◌, ◌⊡◌, zeros, tail, combination}
use Rattle.linear_algebra.proofs.ResidueLaws
use Rattle.linear_algebra.proofs.Spans.{cons}
use Rattle.std.proofs.Math.ListN.{length-map}
use Rattle.std.proofs.Math.Decide.{ℕ_discrete}
use Rattle.linear_algebra.proofs.Vectors.{plus_comm, plus_assoc, plus-zeros, zero-scale, scale-zeros, scale-plus, plus_middle, plus-scale, scale-scale, combination-combinations, combination-zeros}

-- the coefficients with t for a row that stands after `before`
abbrev pub put : {p : ℕ} → Residue p → List (Vector p) → Vector p → Vector p
put t [] c = cons t c
put t (r ∷ before) c = cons (c 0) (put t before (tail c))

-- the row has the coefficient t in the combination
pub combination-put : {p : ℕ} (t : Residue p) (before after : List (Vector p)) (r c : Vector p)
    → combination (put t before c) (before ++ r ∷ after) ≡ combination c (before ++ after) ⊞ (t ⊡ r)
combination-put t [] after r c = plus_comm (t ⊡ r) (combination c after)
combination-put t (b ∷ before) after r c = rw (combination-put t before after r (tail c))
    (sym (plus_assoc (c 0 ⊡ b) (combination (tail c) (before ++ after)) (t ⊡ r)))

-- where the coefficient j of c stands in `put t before c`
place : {p : ℕ} → List (Vector p) → ℕ → ℕ
place [] j = suc j
place (r ∷ before) zero = zero
place (r ∷ before) (suc j) = suc (place before j)

-- and holds c j there
put-place : {p : ℕ} (t : Residue p) (before : List (Vector p)) (c : Vector p) (j : ℕ) → put t before c (place before j) ≡ c j
unfolding place
put-place t [] c j = refl
put-place t (r ∷ before) c zero = refl
put-place t (r ∷ before) c (suc j) = put-place t before (tail c) j

-- is at most one place further
place-le : {p : ℕ} (before : List (Vector p)) (j : ℕ) → place before j ≤ suc j
unfolding place
place-le [] j = omega arith
place-le (r ∷ before) zero = omega arith
place-le (r ∷ before) (suc j) = omega (arith, place-le before j)

-- the coefficient of r, where f gives how often r was added to each row
total : {p : ℕ} → (Vector p → Residue p) → Vector p → List (Vector p) → Residue p
total {p} f c [] = residue p 0
total f c (s ∷ rows) = (c 0 ⊗ f s) ⊕ total f (tail c) rows

-- a multiple of r added to each row
added : {p : ℕ} → (Vector p → Residue p) → Vector p → List (Vector p) → List (Vector p)
added f r [] = []
added f r (s ∷ rows) = (s ⊞ (f s ⊡ r)) ∷ added f r rows

-- adds the total to the coefficient of r
combination-added : {p : ℕ} (f : Vector p → Residue p) (c r : Vector p) (rows : List (Vector p))
    → combination c (added f r rows) ≡ combination c rows ⊞ (total f c rows ⊡ r)
unfolding total added
combination-added f c r [] = sym (ap (λ v. zeros ⊞ v) (zero-scale r) ∙ plus-zeros zeros)
combination-added f c r (s ∷ rows) = rw (
  combination-added f (tail c) r rows,
  scale-plus (c 0) s (f s ⊡ r),
  ← (scale-scale (c 0) (f s) r),
  plus-scale
      (c 0 ⊗ f s) (total f (tail c) rows) r,
) (plus_middle (c 0 ⊡ s) (c 0 ⊗ f s ⊡ r) (combination (tail c) rows) (total f (tail c) rows ⊡ r))

-- leaves the number of rows
length-added : {p : ℕ} (f : Vector p → Residue p) (r : Vector p) (rows : List (Vector p)) → length (added f r rows) ≡ length rows
unfolding added
length-added f r [] = refl
length-added f r (s ∷ rows) = ap suc (length-added f r rows)

-- the rows are 0 at place k, or one has an inverse there
data Pivot {p : ℕ} (k : ℕ) : List (Vector p) → Type 0 where
  all_zero : {rows : List (Vector p)} → Each (λ v. v k ≡ residue p 0) rows → Pivot k rows
  found : (before after : List (Vector p)) (r : Vector p) (b : Residue p) → r k ⊗ b ≡ residue p 1 → Pivot k (before ++ r ∷ after)

-- one of the two is so
pivot : {p : ℕ} → IsPrime p → (k : ℕ) (rows : List (Vector p)) → Pivot k rows
pivot prime k [] = all_zero none
pivot {p} prime k (r ∷ rows) = here (ResidueLaws.zero_or_inverse prime (r k)) (pivot prime k rows)
  where
    later : {s : List (Vector p)} → r k ≡ residue p 0 → Pivot k s → Pivot k (r ∷ s)
    later z (all_zero e) = all_zero (more z e)
    later z (found before after q b e) = found (r ∷ before) after q b e

    here : (r k ≡ residue p 0) ⊎ ((b : Residue p) × (r k ⊗ b ≡ residue p 1)) → Pivot k rows → Pivot k (r ∷ rows)
    here (inl z) rest = later z rest
    here (inr i) rest = found [] rows r i.0 i.1

-- the multiple of r that clears place k of v, where b is the inverse of r there
clearing : {p : ℕ} → ℕ → Residue p → Vector p → Residue p
clearing k b v = opposite (v k) ⊗ b

-- leaves 0 at k
cleared : {p : ℕ} → 0 < p → (k : ℕ) (r : Vector p) (b : Residue p) → r k ⊗ b ≡ residue p 1 → (v : Vector p)
    → v k ⊕ (clearing k b v ⊗ r k) ≡ residue p 0
unfolding clearing
cleared {p} positive k r b e v =
    rw (
      ResidueLaws.mul_assoc (opposite (v k)) b (r k),
      ResidueLaws.mul_comm b (r k),
      e,
      ResidueLaws.mul_comm (opposite (v k)) (residue p 1),
      ResidueLaws.one-mul (opposite (v k)),
    ) (ResidueLaws.add-opposite positive (v k))

-- rows of length k + 1 that are cleared at k have length k
ends-added : {p : ℕ} → 0 < p → (k : ℕ) (r : Vector p) (b : Residue p) → r k ⊗ b ≡ residue p 1 → EndsBefore (suc k) r → (rows : List (Vector p))
    → Each (EndsBefore (suc k)) rows → Each (EndsBefore k) (added (clearing k b) r rows)
unfolding added
ends-added positive k r b e endr [] none = none
ends-added {p} positive k r b e endr (v ∷ rows) (more endv ends) = more ends_now (ends-added positive k r b e endr rows ends)
  where
    beyond : (i : ℕ) → suc k ≤ i → v i ⊕ (clearing k b v ⊗ r i) ≡ residue p 0
    beyond i l = rw (endv i l, endr i l, ResidueLaws.mul_comm (clearing k b v) (residue p 0), ResidueLaws.zero-mul (clearing k b v))
        (ResidueLaws.add-zero (residue p 0))

    ends_now : EndsBefore k (v ⊞ (clearing k b v ⊡ r))
    ends_now i l = elim (ℕ_discrete i k) [ yes same ↦ rw same (cleared positive k r b e v) | no other ↦ beyond i (omega arith) ]

-- rows of length k + 1 that are 0 at k have length k
ends_less : {p : ℕ} (k : ℕ) (rows : List (Vector p)) → Each (EndsBefore (suc k)) rows → Each (λ v. v k ≡ residue p 0) rows → Each (EndsBefore k) rows
ends_less k [] none none = none
ends_less {p} k (v ∷ rows) (more endv ends) (more z zs) = more ends_now (ends_less k rows ends zs)
  where
    ends_now : EndsBefore k v
    ends_now i l = elim (ℕ_discrete i k) [ yes same ↦ rw same z | no other ↦ endv i (omega arith) ]

-- what holds of each of a joined list holds of each of its first part
Each-append_left : {A : Type 0} {P : A → Type 0} (xs ys : List A) → Each P (xs ++ ys) → Each P xs
Each-append_left [] ys e = none
Each-append_left (x ∷ xs) ys (more h e) = more h (Each-append_left xs ys e)

-- what holds of each holds of one and of the others
Each-without : {A : Type 0} {P : A → Type 0} (xs ys : List A) (y : A) → Each P (xs ++ y ∷ ys) → P y × Each P (xs ++ ys)
Each-without [] ys y (more h e) = (h, e)
Each-without (x ∷ xs) ys y (more h e) = let rest = Each-without xs ys y e in (rest.0, more h rest.1)

-- a combination of vectors of length 0 is 0
combination_of_zeros : {p : ℕ} (c : Vector p) (rows : List (Vector p)) → Each (EndsBefore 0) rows → combination c rows ≡ zeros
combination_of_zeros c [] none = refl
combination_of_zeros {p} c (r ∷ rows) (more z zs) =
    let e : r ≡ zeros = λ i k. z k (omega arith) i in
    rw (combination_of_zeros (tail c) rows zs, e, scale-zeros (c 0)) (plus-zeros zeros)

-- a list with one element more
pub length-one_more : {A : Type 0} (xs ys : List A) (y : A) → length (xs ++ y ∷ ys) ≡ suc (length (xs ++ ys))
length-one_more [] ys y = refl
length-one_more (x ∷ xs) ys y = ap suc (length-one_more xs ys y)

-- a dependence of the rows to which r was added is one of the rows with r
dependent_with : {p : ℕ} (f : Vector p → Residue p) (before after : List (Vector p)) (r : Vector p) → Dependent (added f r (before ++ after))
    → Dependent (before ++ r ∷ after)
dependent_with {p} f before after r (c, j, l, nonzero, zero_sum) =
    let t = total f c (before ++ after) in
    let far : place before j < length (before ++ r ∷ after) =
    omega (arith, place-le before j, length-added f r (before ++ after), length-one_more before after r) in (
      put t before c,
      place before j,
      far,
      subst (λ x. x ≢ residue p 0) (sym (put-place t before c j)) nonzero,
      combination-put t before after r c ∙ sym (combination-added f c r (before ++ after)) ∙ zero_sum,
    )

-- more vectors of length k than k are dependent
pub more_than_places : {p : ℕ} → IsPrime p → (k : ℕ) (rows : List (Vector p)) → Each (EndsBefore k) rows → k < length rows → Dependent rows
more_than_places {p} prime zero rows ends l = (
  (λ j. residue p 1),
  0,
  l,
  ResidueLaws.one≢zero prime,
  combination_of_zeros (λ j. residue p 1) rows
      ends,
)
more_than_places {p} prime (suc k) rows ends l = step (pivot prime k rows) ends l (more_than_places prime k)
  where
    step : {rows : List (Vector p)} → Pivot k rows → Each (EndsBefore (suc k)) rows → suc k < length rows
        → ((rows : List (Vector p)) → Each (EndsBefore k) rows → k < length rows → Dependent rows) → Dependent rows
    step {rows = rows} (all_zero z) ends l smaller = smaller rows (ends_less k rows ends z) (omega arith)
    step (found before after r b e) ends l smaller =
        let (end, ends') = Each-without before after r ends in
        let positive : 0 < p = omega (arith, prime.above_one) in
        dependent_with (clearing k b) before after r
        (smaller (added (clearing k b) r (before ++ after)) (ends-added positive k r b e end (before ++ after) ends')
        (omega (arith, length-added (clearing k b) r (before ++ after), length-one_more before after r)))

-- more combinations of the rows of a basis than rows are dependent
pub more_than_basis : {p : ℕ} → IsPrime p → (basis ds : List (Vector p)) → Each (EndsBefore (length basis)) ds → length basis < length ds
    → Dependent (map (λ d. combination d basis) ds)
more_than_basis {p} prime basis ds ends l =
    let (c, j, below, nonzero, zero_sum) = more_than_places prime (length basis) ds ends l in (
      c,
      j,
      subst (λ n. j < n) (sym (length-map ds (λ d. combination d basis))) below,
      nonzero,
      combination-combinations c ds basis
          ∙ rw zero_sum (combination-zeros basis),
    )
