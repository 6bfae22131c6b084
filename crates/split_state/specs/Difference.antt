-- The first place at which the products of a matrix A and a listed one o, in both orders, differ (Horn and Johnson, Matrix Analysis, 0.7
-- and 2.4: A·o - o·A is the commutator). Matrices are lists of columns, each a list of numbers.
--   column m j                   column j of the matrix
--   Agree p a o i j              A·o and o·A have one residue in row i of column j
--   AgreeAll p a o               they have in every place
--   AgreesWithListed s a         they have for each listed operator of the splitting
--   IsFirstUnequal xs ys k x y   x and y stand at place k of the two lists, which differ there and nowhere before it
--   IsColumnDifference p a o i j x y
--                                x and y, below p, are the entries of A·o and o·A in row i of column j; they differ, those of earlier rows agree
--   IsDifference p a o i j x y   the same, and all earlier columns agree
--   IsDifferenceAmong p a names matrices name i j x y
--                                the same at the first of these operators with a difference, which has this name
--   IsFirstDifference s a name i j x y
--                                the same among the listed operators of the splitting
use Rattle.std.specs.Prelude.{◌≡◌, ◌≢◌, ◌<◌, ℕ, List, [], length, slice_index, slice_index_or}
use Rattle.op_polynomials.specs.declared.name.OpName.{OpName}
use Rattle.linear_algebra.specs.Dense.{dense, dense_rows}
use Rattle.linear_algebra.specs.Residue.{residue}
use Rattle.stable_subspaces.specs.Operator.{apply}
use Rattle.split_state.specs.Decomposition.{Decomposition}

abbrev pub column : List (List ℕ) → ℕ → List ℕ
column m j = slice_index_or m j []

abbrev pub Agree : ℕ → List (List ℕ) → List (List ℕ) → ℕ → ℕ → Type 0
Agree p a o i j = apply (dense_rows p a) (dense p (column o j)) i ≡ apply (dense_rows p o) (dense p (column a j)) i

abbrev pub AgreeAll : ℕ → List (List ℕ) → List (List ℕ) → Type 0
AgreeAll p a o = (j : ℕ) → j < length a → (i : ℕ) → i < length a → Agree p a o i j

pub record AgreesWithListed (s : Decomposition) (a : List (List ℕ)) : Type 0 where
  pub agree : (k : ℕ) → k < length s.matrices → AgreeAll s.characteristic a (slice_index_or s.matrices k [])

pub record IsColumnDifference (p : ℕ) (a o : List (List ℕ)) (i j x y : ℕ) : Type 0 where
  pub row_within : i < length a
  pub left_below : x < p
  pub right_below : y < p
  pub left : residue p x ≡ apply (dense_rows p a) (dense p (column o j)) i
  pub right : residue p y ≡ apply (dense_rows p o) (dense p (column a j)) i
  pub differ : x ≢ y
  pub rows_before : (k : ℕ) → k < i → Agree p a o k j

pub record IsFirstUnequal (xs ys : List ℕ) (k x y : ℕ) : Type 0 where
  pub within : k < length xs
  pub left : x ≡ slice_index xs k
  pub right : y ≡ slice_index ys k
  pub differ : x ≢ y
  pub before : (i : ℕ) → i < k → slice_index xs i ≡ slice_index ys i

pub record IsDifference (p : ℕ) (a o : List (List ℕ)) (i j x y : ℕ) : Type 0 where
  pub column_within : j < length a
  pub first : IsColumnDifference p a o i j x y
  pub columns_before : (c : ℕ) → c < j → (k : ℕ) → k < length a → Agree p a o k c

pub record IsDifferenceAmong (p : ℕ) (a : List (List ℕ)) (names : List OpName) (matrices : List (List (List ℕ)))
    (name : OpName) (i j x y : ℕ) : Type 0 where
  pub operator : ℕ
  pub within : operator < length matrices
  pub named : slice_index_or names operator name ≡ name
  pub difference : IsDifference p a (slice_index_or matrices operator []) i j x y
  pub before : (k : ℕ) → k < operator → AgreeAll p a (slice_index_or matrices k [])

abbrev pub IsFirstDifference : Decomposition → List (List ℕ) → OpName → ℕ → ℕ → ℕ → ℕ → Type 0
IsFirstDifference s a name i j x y = IsDifferenceAmong s.characteristic a s.names s.matrices name i j x y
