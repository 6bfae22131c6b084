-- Spans of rows, independence, and congruence modulo rows (Axler, Linear Algebra Done Right, ch. 2).
--   Each P xs           each element of xs satisfies P
--   row rows j          row j of the list, or 0 past the last
--   InSpan rows v       v is a combination of the rows
--   Independent rows    only the coefficients 0 combine the rows to 0
--   Dependent rows      some coefficients that are not all 0 combine the rows to 0
--   SameSpan xs ys      the combinations of xs are those of ys
--   IsBasis rows basis  basis is independent and has the span of the rows
--   IsRank rows n       the span of the rows has a basis of n vectors
--   Congruent rows x y  x - y is a combination of the rows
use Rattle.std.specs.Prelude.{◌≡◌, ◌≢◌, ℕ, List, [], ◌∷◌, ◌<◌, length}
use Rattle.std.proofs.Common.{zero, suc}
use Rattle.linear_algebra.specs.Residue.{residue}
use Rattle.linear_algebra.specs.Vector.{Vector, zeros, combination, minus}

pub data Each {A : Type 0} (P : A → Type 0) : List A → Type 0 where
  none : Each P []
  more : {x : A} {xs : List A} → P x → Each P xs → Each P (x ∷ xs)

abbrev pub row : {p : ℕ} → List (Vector p) → ℕ → Vector p
row [] j = zeros
row (r ∷ rs) zero = r
row (r ∷ rs) (suc j) = row rs j

pub record InSpan {p : ℕ} (rows : List (Vector p)) (v : Vector p) : Type 0 where
  pub coefficients : Vector p
  pub is_combination : v ≡ combination coefficients rows

pub record Independent {p : ℕ} (rows : List (Vector p)) : Type 0 where
  pub only_zero : (c : Vector p) → combination c rows ≡ zeros → (j : ℕ) → j < length rows → c j ≡ residue p 0

abbrev pub Dependent : {p : ℕ} → List (Vector p) → Type 0
Dependent {p} rows = (c : Vector p) × (j : ℕ) × (j < length rows) × (c j ≢ residue p 0) × (combination c rows ≡ zeros)

pub record SameSpan {p : ℕ} (xs ys : List (Vector p)) : Type 0 where
  pub forth : (v : Vector p) → InSpan xs v → InSpan ys v
  pub back : (v : Vector p) → InSpan ys v → InSpan xs v

pub record IsBasis {p : ℕ} (rows basis : List (Vector p)) : Type 0 where
  pub independent : Independent basis
  pub same : SameSpan rows basis

pub record IsRank {p : ℕ} (rows : List (Vector p)) (n : ℕ) : Type 0 where
  pub basis : List (Vector p)
  pub is_basis : IsBasis rows basis
  pub size : length basis ≡ n

abbrev pub Congruent : {p : ℕ} → List (Vector p) → Vector p → Vector p → Type 0
Congruent rows x y = InSpan rows (minus x y)
