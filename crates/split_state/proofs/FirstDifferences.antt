-- A matrix and a list of operators have one first difference.
use Rattle.std.proofs.Common.{◌≡◌, ◌⊎◌, ◌<◌, ◌≤◌, ℕ, List, [], length, get_or, sym, ◌∙◌, ap, subst, arith, inl, inr, mod-eq_of_lt}
use Rattle.std.proofs.lemmas.Bool.{cases_lt}
use Rattle.std.proofs.lemmas.List.{get_or_default}
use Rattle.op_polynomials.specs.declared.name.OpName.{OpName}
use Rattle.linear_algebra.specs.Dense.{dense, dense_rows}
use Rattle.linear_algebra.specs.Residue.{residue}
use Rattle.linear_algebra.proofs.ResidueLaws.{mod_from_residue}
use Rattle.split_state.specs.Decomposition.{Decomposition}
use Rattle.stable_subspaces.specs.Operator.{apply}
use Rattle.split_state.specs.Difference.{column, Agree, AgreeAll, AgreesWithListed, IsColumnDifference, IsDifference, IsDifferenceAmong, IsFirstDifference}

-- numbers below p with one residue are one
below_once : (p x y : ℕ) → x < p → y < p → residue p x ≡ residue p y → x ≡ y
below_once p x y l m e = sym (mod-eq_of_lt l) ∙ mod_from_residue p x y e ∙ mod-eq_of_lt m

-- places of which neither is before the other are one
place_once : (k n : ℕ) → (k < n → ⊥) → (n < k → ⊥) → k ≡ n
place_once k n f g = at (cases_lt k n) (cases_lt n k)
  where
    at : (k < n) ⊎ (n ≤ k) → (n < k) ⊎ (k ≤ n) → k ≡ n
    at (inl u) w = absurd (f u)
    at (inr u) (inl w) = absurd (g w)
    at (inr u) (inr w) = omega arith

-- the entries of a difference do not agree
disagree : (p : ℕ) (a o : List (List ℕ)) (i j x y : ℕ) → IsColumnDifference p a o i j x y → Agree p a o i j → ⊥
disagree p a o i j x y h e = h.differ (below_once p x y h.left_below h.right_below (h.left ∙ e ∙ sym h.right))

-- a column has one first difference
column_once : (p : ℕ) (a o : List (List ℕ)) (j i x y k z w : ℕ) → IsColumnDifference p a o i j x y → IsColumnDifference p a o k j z w
    → (i ≡ k) × (x ≡ z) × (y ≡ w)
column_once p a o j i x y k z w h g = (
  row,
  below_once p x z h.left_below g.left_below (h.left ∙ left ∙ sym g.left),
  below_once p y w h.right_below g.right_below (h.right ∙ right ∙ sym g.right),
)
  where
    row : i ≡ k
    row = place_once i k (λ u. disagree p a o i j x y h (g.rows_before i u)) (λ u. disagree p a o k j z w g (h.rows_before k u))

    left : apply (dense_rows p a) (dense p (column o j)) i ≡ apply (dense_rows p a) (dense p (column o j)) k
    left = ap (λ r. apply (dense_rows p a) (dense p (column o j)) r) row

    right : apply (dense_rows p o) (dense p (column a j)) i ≡ apply (dense_rows p o) (dense p (column a j)) k
    right = ap (λ r. apply (dense_rows p o) (dense p (column a j)) r) row

-- two matrices have one first difference
difference_once : (p : ℕ) (a o : List (List ℕ)) (i j x y k l z w : ℕ) → IsDifference p a o i j x y → IsDifference p a o k l z w
    → (i ≡ k) × (j ≡ l) × (x ≡ z) × (y ≡ w)
difference_once p a o i j x y k l z w h g = let (row, left, right) = one in (row, column_is, left, right)
  where
    column_is : j ≡ l
    column_is = place_once j l (λ u. disagree p a o i j x y h.first (g.columns_before j u i h.first.row_within))
        (λ u. disagree p a o k l z w g.first (h.columns_before l u k g.first.row_within))

    one : (i ≡ k) × (x ≡ z) × (y ≡ w)
    one = column_once p a o j i x y k z w h.first (subst (λ c. IsColumnDifference p a o k c z w) (sym column_is) g.first)

-- what agrees everywhere has no difference
none_where_all_agree : (p : ℕ) (a o : List (List ℕ)) (i j x y : ℕ) → IsDifference p a o i j x y → AgreeAll p a o → ⊥
none_where_all_agree p a o i j x y h e = disagree p a o i j x y h.first (e j h.column_within i h.first.row_within)

-- a matrix and operators have one first difference
pub among_once : (p : ℕ) (a : List (List ℕ)) (names : List OpName) (matrices : List (List (List ℕ))) → length matrices ≡ length names
    → (op other : OpName) (i j x y k l z w : ℕ) → IsDifferenceAmong p a names matrices op i j x y → IsDifferenceAmong p a names matrices other k l z w
    → (op ≡ other) × (i ≡ k) × (j ≡ l) × (x ≡ z) × (y ≡ w)
among_once p a names matrices many op other i j x y k l z w h g = let (row, column_is, left, right) = one in (name, row, column_is, left, right)
  where
    operator : h.operator ≡ g.operator
    operator = place_once h.operator g.operator
        (λ u. none_where_all_agree p a (get_or matrices h.operator []) i j x y h.difference (g.before h.operator u))
        (λ u. none_where_all_agree p a (get_or matrices g.operator []) k l z w g.difference (h.before g.operator u))

    one : (i ≡ k) × (j ≡ l) × (x ≡ z) × (y ≡ w)
    one = difference_once p a (get_or matrices h.operator []) i j x y k l z w h.difference
        (subst (λ n. IsDifference p a (get_or matrices n []) k l z w) (sym operator) g.difference)

    name : op ≡ other
    name = sym h.named ∙ get_or_default names h.operator op other (omega (arith, many, h.within)) ∙ ap (λ n. get_or names n other) operator ∙ g.named

-- and none where the matrix agrees with each
pub none_where_listed_agree : (s : Decomposition) (a : List (List ℕ)) (op : OpName) (i j x y : ℕ) → AgreesWithListed s a
    → IsFirstDifference s a op i j x y → ⊥
none_where_listed_agree s a op i j x y e h =
    none_where_all_agree s.characteristic a (get_or s.matrices h.operator []) i j x y h.difference (e.agree h.operator h.within)
