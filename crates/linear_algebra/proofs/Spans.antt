-- Spans: closed under sums and multiples, hold their rows, and are transitive.
use Rattle.std.proofs.Common.{◌<◌, ℕ, zero, suc, List, [], ◌∷◌, ◌++◌, map, length, length-append, get_or, sym, ◌∙◌, ap, subst, arith}
use Rattle.linear_algebra.specs.Residue.{Residue, residue}
use Rattle.linear_algebra.specs.Vector.{Vector, ◌⊞◌, ◌⊡◌, zeros, tail, combination}
use Rattle.linear_algebra.specs.Span.{Each, none, more, row, InSpan}
use Rattle.linear_algebra.proofs.Rows.{row-append}
use Rattle.linear_algebra.proofs.Vectors.{plus-zeros, zeros-plus, zero-scale, one-scale, combination-plus, combination-scale, combination-zeros}

-- a coefficient put before the others
abbrev pub cons : {p : ℕ} → Residue p → Vector p → Vector p
cons a c zero = a
cons a c (suc j) = c j

-- what holds of each and implies another fact gives that fact of each
pub Each-weaker : {A : Type 0} {P Q : A → Type 0} (xs : List A) → ((x : A) → P x → Q x) → Each P xs → Each Q xs
Each-weaker [] f none = none
Each-weaker (x ∷ xs) f (more h e) = more (f x h) (Each-weaker xs f e)

-- what holds of each value of f
pub Each-map : {A B : Type 0} {P : B → Type 0} (f : A → B) (xs : List A) → Each (λ x. P (f x)) xs → Each P (map f xs)
Each-map f [] none = none
Each-map f (x ∷ xs) (more h e) = more h (Each-map f xs e)

-- what holds of each row by its number holds of each
pub Each-rows : {p : ℕ} (P : Vector p → Type 0) (rows : List (Vector p)) → ((j : ℕ) → j < length rows → P (row rows j)) → Each P rows
Each-rows P [] f = none
Each-rows P (r ∷ rows) f = more (f 0 (omega arith)) (Each-rows P rows (λ j l. f (suc j) (omega arith)))

-- sums stay in the span
pub InSpan-plus : {p : ℕ} (rows : List (Vector p)) (v w : Vector p) → InSpan rows v → InSpan rows w → InSpan rows (v ⊞ w)
InSpan-plus rows v w h k = record {
  coefficients = h.coefficients ⊞ k.coefficients;
  is_combination =
      cc (h.is_combination, k.is_combination, combination-plus h.coefficients k.coefficients rows);
}

-- multiples stay in the span
pub InSpan-scale : {p : ℕ} (a : Residue p) (rows : List (Vector p)) (v : Vector p) → InSpan rows v → InSpan rows (a ⊡ v)
InSpan-scale a rows v h = record {
  coefficients = a ⊡ h.coefficients;
  is_combination = ap (λ w. a ⊡ w) h.is_combination
      ∙ sym (combination-scale a h.coefficients rows);
}

-- 0 is in each span
pub InSpan-zeros : {p : ℕ} (rows : List (Vector p)) → InSpan rows zeros
InSpan-zeros rows = record { coefficients = zeros; is_combination = sym (combination-zeros rows) }

-- a span grows with a row
pub InSpan-more : {p : ℕ} (r v : Vector p) (rows : List (Vector p)) → InSpan rows v → InSpan (r ∷ rows) v
InSpan-more {p} r v rows h = record {
  coefficients = cons (residue p 0) h.coefficients;
  is_combination = h.is_combination
      ∙ sym (zeros-plus (combination h.coefficients rows)) ∙ ap (λ w. w ⊞ combination h.coefficients rows) (sym (zero-scale r));
}

-- the first row is in the span
pub InSpan-first : {p : ℕ} (r : Vector p) (rows : List (Vector p)) → InSpan (r ∷ rows) r
InSpan-first {p} r rows = record {
  coefficients = cons (residue p 1) zeros;
  is_combination =
      sym (rw (combination-zeros rows, one-scale r) (plus-zeros r));
}

-- each row is in the span, by its number
pub InSpan-row : {p : ℕ} (rows : List (Vector p)) (j : ℕ) → j < length rows → InSpan rows (row rows j)
InSpan-row [] j l = absurd (omega arith)
InSpan-row (r ∷ rows) zero l = InSpan-first r rows
InSpan-row (r ∷ rows) (suc j) l = InSpan-more r (row rows j) rows (InSpan-row rows j (omega arith))

-- each row is in the span
pub Each-InSpan : {p : ℕ} (rows : List (Vector p)) → Each (InSpan rows) rows
Each-InSpan rows = Each-rows (InSpan rows) rows (InSpan-row rows)

-- each row is in the span, where rows are the values of a function
pub InSpan-map : {A : Type 0} {p : ℕ} (f : A → Vector p) (xs : List A) (j : ℕ) (d : A) → j < length xs → InSpan (map f xs) (f (get_or xs j d))
InSpan-map f [] j d l = absurd (omega arith)
InSpan-map f (x ∷ xs) zero d l = InSpan-first (f x) (map f xs)
InSpan-map f (x ∷ xs) (suc j) d l = InSpan-more (f x) (f (get_or xs j d)) (map f xs) (InSpan-map f xs j d (omega arith))

-- a combination of vectors of the span is in it
pub InSpan-combination : {p : ℕ} (basis rows : List (Vector p)) (c : Vector p) → Each (InSpan basis) rows → InSpan basis (combination c rows)
InSpan-combination basis [] c none = InSpan-zeros basis
InSpan-combination basis (r ∷ rows) c (more k ks) = InSpan-plus basis (c 0 ⊡ r) (combination (tail c) rows) (InSpan-scale (c 0) basis r k)
    (InSpan-combination basis rows (tail c) ks)

-- spans are transitive
pub InSpan-trans : {p : ℕ} (basis rows : List (Vector p)) (v : Vector p) → Each (InSpan basis) rows → InSpan rows v → InSpan basis v
InSpan-trans basis rows v each h = subst (InSpan basis) (sym h.is_combination) (InSpan-combination basis rows h.coefficients each)

-- a span grows with rows after it
pub InSpan-append_left : {p : ℕ} (xs ys : List (Vector p)) (v : Vector p) → InSpan xs v → InSpan (xs ++ ys) v
InSpan-append_left xs ys v h = InSpan-trans (xs ++ ys) xs v (Each-rows (InSpan (xs ++ ys)) xs
    (λ j l. subst (InSpan (xs ++ ys)) (row-append xs ys j l) (InSpan-row (xs ++ ys) j (omega (arith, length-append xs ys))))) h

-- and before it
pub InSpan-append_right : {p : ℕ} (xs ys : List (Vector p)) (v : Vector p) → InSpan ys v → InSpan (xs ++ ys) v
InSpan-append_right [] ys v h = h
InSpan-append_right (x ∷ xs) ys v h = InSpan-more x v (xs ++ ys) (InSpan-append_right xs ys v h)

-- what holds of each of two lists holds of each of the joined list
pub Each-append : {A : Type 0} {P : A → Type 0} (xs ys : List A) → Each P xs → Each P ys → Each P (xs ++ ys)
Each-append [] ys none g = g
Each-append (x ∷ xs) ys (more h e) g = more h (Each-append xs ys e g)
