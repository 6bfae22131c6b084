-- Splittings of the vectors of one length by operators that commute (Axler, Linear Algebra Done Right, 1.C, 5.E and 8.B).
--   Decomposition       the characteristic, the length d of the vectors, the parts, and the operators by name and matrix, in two lists of one length
--   vectors p parts     the basis of each part, as vectors
--   Keeps p parts a     the matrix a sends each part into itself
--   Centralises p matrices a   the matrix a commutes with each of these
--   IsNonzero p b       the part has a vector other than 0
--   IsSized p d m       the matrix has size d and residues below p
--   MatchesListed s op m   where the name is listed, its matrix is m
--   IsSplitting s       parts whose direct sum is the space, each nonzero and kept by each listed matrix and by each matrix of size d that
--                       commutes with every listed one, and listed matrices that commute
use Rattle.std.specs.Prelude.{◌≡◌, ◌≢◌, ℕ, List, [], ◌<◌, length, map, slice_index_or}
use Rattle.op_polynomials.specs.declared.name.OpName.{OpName}
use Rattle.field_table.specs.Table.{IsListed}
use Rattle.linear_algebra.specs.Dense.{dense_rows}
use Rattle.linear_algebra.specs.Span.{Each, InSpan}
use Rattle.linear_algebra.specs.Vector.{Vector, zeros, EndsBefore}
use Rattle.stable_subspaces.specs.Operator.{Commute, IsStable}
use Rattle.stable_subspaces.specs.Splitting.{IsDirectSum}
use Rattle.dense_mat.specs.Matrix.{IsMatrix}
use Rattle.dense_mat.specs.Subspace.{Subspace, IsBasisOf}

pub record Decomposition : Type 0 where
  pub characteristic : ℕ
  pub dim : ℕ
  pub parts : List Subspace
  pub names : List OpName
  pub matrices : List (List (List ℕ))

abbrev pub decomposition : ℕ → ℕ → List Subspace → List OpName → List (List (List ℕ)) → Decomposition
decomposition p d parts names matrices = record { characteristic = p; dim = d; parts = parts; names = names; matrices = matrices }

abbrev pub vectors : (p : ℕ) → List Subspace → List (List (Vector p))
vectors p parts = map (λ (b : Subspace). dense_rows p b.rows) parts

abbrev pub Keeps : (p : ℕ) → List Subspace → List (Vector p) → Type 0
Keeps p parts a = Each (λ (b : Subspace). IsStable a (dense_rows p b.rows)) parts

abbrev pub Centralises : (p : ℕ) → List (List (List ℕ)) → List (Vector p) → Type 0
Centralises p matrices a = Each (λ m. Commute a (dense_rows p m)) matrices

pub record IsNonzero (p : ℕ) (b : Subspace) : Type 0 where
  pub vector : Vector p
  pub inside : InSpan (dense_rows p b.rows) vector
  pub nonzero : vector ≢ zeros

pub record IsSized (p d : ℕ) (m : List (List ℕ)) : Type 0 where
  pub matrix : IsMatrix p m
  pub size : length m ≡ d

abbrev pub MatchesListed : Decomposition → OpName → List (List ℕ) → Type 0
MatchesListed s op m = (k : ℕ) → k < length s.names → slice_index_or s.names k op ≡ op → slice_index_or s.matrices k [] ≡ m

pub record IsSplitting (s : Decomposition) : Type 0 where
  pub listed : IsListed s.characteristic
  pub bases : Each (λ (b : Subspace). IsBasisOf s.characteristic s.dim (InSpan (dense_rows s.characteristic b.rows)) b) s.parts
  pub sized : Each (IsSized s.characteristic s.dim) s.matrices
  pub many : length s.matrices ≡ length s.names
  pub direct : IsDirectSum s.dim (vectors s.characteristic s.parts)
  pub nonzero : Each (IsNonzero s.characteristic) s.parts
  pub stable : Each (λ m. Keeps s.characteristic s.parts (dense_rows s.characteristic m)) s.matrices
  pub commute : Each (λ m. Centralises s.characteristic s.matrices (dense_rows s.characteristic m)) s.matrices
  pub kept : (a : List (Vector s.characteristic)) → length a ≡ s.dim → Each (EndsBefore s.dim) a → Centralises s.characteristic s.matrices a
      → Keeps s.characteristic s.parts a
