-- Congruence modulo the span of rows: it is kept where a multiple of a vector of the span is added.
use Rattle.std.proofs.Common.{◌≡◌, ◌-◌, ◌<◌, ℕ, suc, List, [], ◌∷◌, length, sym, ◌∙◌, ap, subst, arith}
use Rattle.linear_algebra.specs.Residue.{Residue, residue, ◌⊕◌, ◌⊗◌, ◌⊖◌}
use Rattle.linear_algebra.specs.Vector.{Vector, ◌⊞◌, ◌⊡◌, zeros, tail, combination, minus}
use Rattle.linear_algebra.specs.Span.{Each, row, InSpan, Congruent}
use Rattle.linear_algebra.proofs.Differences.{sub-add, sub_self, opposite-times, minus-times, minus-zeros, minus_flip, minus_chain, minus_and_plus, plus-minus-plus, scale-minus}
use Rattle.linear_algebra.proofs.Vectors.{combination-zeros}
use Rattle.linear_algebra.proofs.Spans.{InSpan-plus, InSpan-scale, InSpan-trans}

-- each vector is congruent to itself
pub Congruent_refl : {p : ℕ} → 0 < p → (rows : List (Vector p)) (v : Vector p) → Congruent rows v v
Congruent_refl {p} positive rows v = record {
  coefficients = zeros;
  is_combination = (λ i k. sub_self positive (v k) i)
      ∙ sym (combination-zeros rows);
}

-- a multiple of a vector of the span may be added
pub Congruent-add : {p : ℕ} → 0 < p → (rows : List (Vector p)) (a : Residue p) (x y z r : Vector p) → Congruent rows x y → InSpan rows r
    → z ≡ y ⊞ a ⊡ r → Congruent rows x z
Congruent-add {p} positive rows a x y z r h k e = subst (InSpan rows) (sym (ap (minus x) e ∙ whole))
    (InSpan-plus rows (minus x y) (residue p (p - 1) ⊡ (a ⊡ r)) h (InSpan-scale (residue p (p - 1)) rows (a ⊡ r) (InSpan-scale a rows r k)))
  where
    whole : minus x (y ⊞ a ⊡ r) ≡ minus x y ⊞ (residue p (p - 1) ⊡ (a ⊡ r))
    whole = λ i q. (sub-add positive (x q) (y q) (a ⊗ r q) ∙ ap (λ t. (x q ⊖ y q) ⊕ t) (opposite-times positive (a ⊗ r q))) i

-- a vector is congruent to 0 exactly where it is in the span
pub Congruent-zeros : {p : ℕ} → 0 < p → (rows : List (Vector p)) (v : Vector p) → InSpan rows v → Congruent rows v zeros
Congruent-zeros positive rows v h = subst (InSpan rows) (sym (minus-zeros positive v)) h

-- and a vector that is congruent to 0 is in the span
pub InSpan_from_Congruent : {p : ℕ} → 0 < p → (rows : List (Vector p)) (v : Vector p) → Congruent rows v zeros → InSpan rows v
InSpan_from_Congruent positive rows v h = subst (InSpan rows) (minus-zeros positive v) h

-- differences stay in the span
pub InSpan-minus : {p : ℕ} → 0 < p → (rows : List (Vector p)) (v w : Vector p) → InSpan rows v → InSpan rows w → InSpan rows (minus v w)
InSpan-minus {p} positive rows v w h k = subst (InSpan rows) (sym (minus-times positive v w))
    (InSpan-plus rows v (residue p (p - 1) ⊡ w) h (InSpan-scale (residue p (p - 1)) rows w k))

-- congruence goes both ways
pub Congruent_sym : {p : ℕ} → 0 < p → (rows : List (Vector p)) (x y : Vector p) → Congruent rows x y → Congruent rows y x
Congruent_sym {p} positive rows x y h = subst (InSpan rows) (sym (minus_flip positive x y)) (InSpan-scale (residue p (p - 1)) rows (minus x y) h)

-- congruence is transitive
pub Congruent_trans : {p : ℕ} → 0 < p → (rows : List (Vector p)) (x y z : Vector p) → Congruent rows x y → Congruent rows y z → Congruent rows x z
Congruent_trans positive rows x y z h k = subst (InSpan rows) (minus_chain positive x y z) (InSpan-plus rows (minus x y) (minus y z) h k)

-- sums of congruent vectors are congruent
pub Congruent-plus : {p : ℕ} → 0 < p → (rows : List (Vector p)) (x x' y y' : Vector p) → Congruent rows x x' → Congruent rows y y'
    → Congruent rows (x ⊞ y) (x' ⊞ y')
Congruent-plus positive rows x x' y y' h k = subst (InSpan rows) (sym (plus-minus-plus positive x y x' y'))
    (InSpan-plus rows (minus x x') (minus y y') h k)

-- equal multiples of congruent vectors are congruent
pub Congruent-scale : {p : ℕ} → 0 < p → (rows : List (Vector p)) (a : Residue p) (x y : Vector p) → Congruent rows x y
    → Congruent rows (a ⊡ x) (a ⊡ y)
Congruent-scale positive rows a x y h = subst (InSpan rows) (scale-minus positive a x y) (InSpan-scale a rows (minus x y) h)

-- combinations of rows that are congruent one by one are congruent
pub Congruent-combination : {p : ℕ} → 0 < p → (rows : List (Vector p)) (c : Vector p) (xs ys : List (Vector p)) → length xs ≡ length ys
    → ((j : ℕ) → j < length xs → Congruent rows (row xs j) (row ys j)) → Congruent rows (combination c xs) (combination c ys)
Congruent-combination positive rows c [] [] l each = Congruent_refl positive rows zeros
Congruent-combination positive rows c [] (y ∷ ys) l each = absurd (omega arith)
Congruent-combination positive rows c (x ∷ xs) [] l each = absurd (omega arith)
Congruent-combination positive rows c (x ∷ xs) (y ∷ ys) l each = Congruent-plus positive rows (c 0 ⊡ x) (c 0 ⊡ y) (combination (tail c) xs)
    (combination (tail c) ys)
    (Congruent-scale positive rows (c 0) x y (each 0 (omega arith))) (Congruent-combination positive rows (tail c) xs ys (omega arith)
    (λ j u. each (suc j) (omega arith)))

-- what is congruent modulo rows of a span is congruent modulo the span
pub Congruent-more : {p : ℕ} (basis rows : List (Vector p)) (x y : Vector p) → Each (InSpan basis) rows → Congruent rows x y → Congruent basis x y
Congruent-more basis rows x y each h = InSpan-trans basis rows (minus x y) each h

-- a vector congruent to one of the span is in it
pub InSpan-Congruent : {p : ℕ} → 0 < p → (rows : List (Vector p)) (x y : Vector p) → Congruent rows x y → InSpan rows y → InSpan rows x
InSpan-Congruent positive rows x y h k = subst (InSpan rows) (minus_and_plus positive x y) (InSpan-plus rows (minus x y) y h k)
