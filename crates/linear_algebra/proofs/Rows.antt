-- Rows by their number, and the entries of combinations.
use Rattle.std.proofs.Common.{◌≡◌, ◌≢◌, ◌⊎◌, ◌+◌, ◌<◌, ℕ, zero, suc, List, [], ◌∷◌, ◌++◌, length, take, get_or, map, refl, sym, ◌∙◌, ap, inl, inr, arith, add-one}
use Rattle.linear_algebra.specs.Residue.{residue, ◌⊗◌}
use Rattle.linear_algebra.specs.Vector.{Vector, ◌⊞◌, ◌⊡◌, zeros, tail, combination}
use Rattle.linear_algebra.specs.Span.{row}
use Rattle.linear_algebra.proofs.ResidueLaws
use Rattle.linear_algebra.proofs.Vectors.{plus-zeros, zeros-plus, plus_assoc}

-- row j is the element of the list at j
pub row-get_or : {p : ℕ} (rows : List (Vector p)) (j : ℕ) → row rows j ≡ get_or rows j zeros
row-get_or [] j = refl
row-get_or (r ∷ rows) zero = refl
row-get_or (r ∷ rows) (suc j) = row-get_or rows j

-- a row of the first part of a joined list
pub row-append : {p : ℕ} (xs ys : List (Vector p)) (j : ℕ) → j < length xs → row (xs ++ ys) j ≡ row xs j
row-append [] ys j l = absurd (omega arith)
row-append (x ∷ xs) ys zero l = refl
row-append (x ∷ xs) ys (suc j) l = row-append xs ys j (omega arith)

-- the last row of a list
pub row_last : {p : ℕ} (xs : List (Vector p)) (r : Vector p) → row (xs ++ r ∷ []) (length xs) ≡ r
row_last [] r = refl
row_last (x ∷ xs) r = row_last xs r

-- the first n rows keep their numbers
pub row-take : {p : ℕ} (n : ℕ) (rows : List (Vector p)) (j : ℕ) → j < n → row (take n rows) j ≡ row rows j
row-take zero rows j l = absurd (omega arith)
row-take (suc n) [] j l = refl
row-take (suc n) (r ∷ rows) zero l = refl
row-take (suc n) (r ∷ rows) (suc j) l = row-take n rows j (omega arith)

-- row j of the values of f is the value of f at element j
pub row-map : {A : Type 0} {p : ℕ} (f : A → Vector p) (xs : List A) (j : ℕ) (d : A) → j < length xs → row (map f xs) j ≡ f (get_or xs j d)
row-map f [] j d l = absurd (omega arith)
row-map f (x ∷ xs) zero d l = refl
row-map f (x ∷ xs) (suc j) d l = row-map f xs j d (omega arith)

-- lists of as many rows that agree at each number are one list
pub same_rows : {p : ℕ} (xs ys : List (Vector p)) → length xs ≡ length ys → ((j : ℕ) → j < length xs → row xs j ≡ row ys j) → xs ≡ ys
same_rows [] [] l f = refl
same_rows [] (y ∷ ys) l f = absurd (omega arith)
same_rows (x ∷ xs) [] l f = absurd (omega arith)
same_rows (x ∷ xs) (y ∷ ys) l f = cc (f 0 (omega arith), same_rows xs ys (omega arith) (λ j u. f (suc j) (omega arith)))

-- coefficients that agree at the numbers of the rows give one combination
pub combination_same : {p : ℕ} (c d : Vector p) (rows : List (Vector p)) → ((j : ℕ) → j < length rows → c j ≡ d j)
    → combination c rows ≡ combination d rows
combination_same c d [] same = refl
combination_same c d (r ∷ rows) same = rw (same 0 (omega arith), combination_same (tail c) (tail d) rows (λ j l. same (suc j) (omega arith)))

-- a combination with one more row
pub combination_last : {p : ℕ} (c : Vector p) (xs : List (Vector p)) (r : Vector p)
    → combination c (xs ++ r ∷ []) ≡ combination c xs ⊞ (c (length xs) ⊡ r)
combination_last c [] r = plus-zeros (c 0 ⊡ r) ∙ sym (zeros-plus (c 0 ⊡ r))
combination_last c (x ∷ xs) r = ap (λ v. (c 0 ⊡ x) ⊞ v) (combination_last (tail c) xs r)
    ∙ sym (plus_assoc (c 0 ⊡ x) (combination (tail c) xs) (c (suc (length xs)) ⊡ r))

-- the same for n + 1 as a successor
combination-take_suc : {p : ℕ} (c : Vector p) (rows : List (Vector p)) (n : ℕ) → n < length rows
    → combination c (take (suc n) rows) ≡ combination c (take n rows) ⊞ (c n ⊡ row rows n)
combination-take_suc c [] n l = absurd (omega arith)
combination-take_suc c (r ∷ rows) zero l = plus-zeros (c 0 ⊡ r) ∙ sym (zeros-plus (c 0 ⊡ r))
combination-take_suc c (r ∷ rows) (suc n) l = ap (λ v. (c 0 ⊡ r) ⊞ v) (combination-take_suc (tail c) rows n (omega arith))
    ∙ sym (plus_assoc (c 0 ⊡ r) (combination (tail c) (take n rows)) (c (suc n) ⊡ row rows n))

-- a combination of the first n + 1 rows
pub combination-take : {p : ℕ} (c : Vector p) (rows : List (Vector p)) (n : ℕ) → n < length rows
    → combination c (take (n + 1) rows) ≡ combination c (take n rows) ⊞ (c n ⊡ row rows n)
combination-take c rows n l = ap (λ m. combination c (take m rows)) (add-one n) ∙ combination-take_suc c rows n l

-- where each row or its coefficient is 0 at k, so is the combination
pub combination_vanishes : {p : ℕ} (c : Vector p) (rows : List (Vector p)) (k : ℕ)
    → ((j : ℕ) → j < length rows → (c j ≡ residue p 0) ⊎ (row rows j k ≡ residue p 0)) → combination c rows k ≡ residue p 0
combination_vanishes c [] k each = refl
combination_vanishes {p} c (r ∷ rows) k each = rw (
  combination_vanishes (tail c) rows k (λ j l. each (suc j) (omega arith)),
  first
      (each 0 (omega arith)),
) (ResidueLaws.add-zero (residue p 0))
  where
    first : (c 0 ≡ residue p 0) ⊎ (r k ≡ residue p 0) → c 0 ⊗ r k ≡ residue p 0
    first (inl z) = rw z (ResidueLaws.zero-mul (r k))
    first (inr z) = rw (z, ResidueLaws.mul_comm (c 0) (residue p 0)) (ResidueLaws.zero-mul (c 0))

-- where each row is 0 at k, so is the combination
pub combination_none : {p : ℕ} (c : Vector p) (rows : List (Vector p)) (k : ℕ) → ((i : ℕ) → i < length rows → row rows i k ≡ residue p 0)
    → combination c rows k ≡ residue p 0
combination_none c [] k none = refl
combination_none {p} c (r ∷ rows) k none =
    rw (
      combination_none (tail c) rows k (λ i l. none (suc i) (omega arith)),
      none 0 (omega arith),
      ResidueLaws.mul_comm (c 0) (residue p 0),
      ResidueLaws.zero-mul (c 0),
    ) (ResidueLaws.add-zero (residue p 0))

-- where only row j is not 0 at k, and is 1 there, a combination has its coefficient of row j at k
pub combination_at : {p : ℕ} (c : Vector p) (rows : List (Vector p)) (k j : ℕ) → j < length rows → row rows j k ≡ residue p 1
    → ((i : ℕ) → i < length rows → i ≢ j → row rows i k ≡ residue p 0) → combination c rows k ≡ c j
combination_at c [] k j l one others = absurd (omega arith)
combination_at {p} c (r ∷ rows) k zero l one others =
    rw (
      combination_none (tail c) rows k (λ i u. others (suc i) (omega arith) (omega arith)),
      one,
      ResidueLaws.mul_comm (c 0) (residue p 1),
      ResidueLaws.one-mul (c 0),
    ) (ResidueLaws.add-zero (c 0))
combination_at {p} c (r ∷ rows) k (suc j) l one others =
    rw (
      combination_at (tail c) rows k j (omega arith) one (λ i u n. others (suc i) (omega arith) (omega arith)),
      others 0 (omega arith)
          (omega arith),
      ResidueLaws.mul_comm (c 0) (residue p 0),
      ResidueLaws.zero-mul (c 0),
    )
    (ResidueLaws.add_comm (residue p 0) (c (suc j)) ∙ ResidueLaws.add-zero (c (suc j)))
