-- One step of a splitting by a polynomial f in an operator A (Fitting's parts: Lang, Algebra, X.7; Stein, Modular Forms: A Computational
-- Approach, 7.5).
--   value_matrix f a d          the columns of f(A), the values of f(A) at the first d unit vectors
--   IsPartOf p d P parts        the one part with the vectors of the set P, or none where P has 0 alone
--   nonzero_of b                the part in a list, or none where it has no row
--   SplitBy p d a parts news    each part is replaced by its generalised kernel and its eventual image under the matrix a, in this
--                               order, and parts with 0 alone are left out
--   Listing names matrices op m names' matrices'   the operator is listed at the end if its name is new
--   IsWhole p d s               s has the whole space as its one part, or no part where d is 0, and no operator
--   IsStep s op m f r           r has the parts of s split by f(A), where A has the columns m, and the operator listed
use Rattle.std.specs.Prelude.{◌≡◌, ℕ, List, [], ◌∷◌, ◌++◌, map, Contains, length, nat_lt, if◌then◌else◌}
use Rattle.std.specs.List.{range_with_len}
use Rattle.op_polynomials.specs.declared.name.OpName.{OpName}
use Rattle.linear_algebra.specs.Coordinates.{unit}
use Rattle.linear_algebra.specs.Dense.{dense_rows}
use Rattle.linear_algebra.specs.Residue.{Residue, residue}
use Rattle.linear_algebra.specs.Vector.{Vector, zeros, EndsBefore}
use Rattle.stable_subspaces.specs.Fitting.{generalised_kernel, eventual_image}
use Rattle.stable_subspaces.specs.Operator.{polynomial_at}
use Rattle.dense_mat.specs.Subspace.{Subspace, IsBasisOf}
use Rattle.split_state.specs.Decomposition.{Decomposition, IsNonzero}

abbrev pub value_matrix : {p : ℕ} → List (Residue p) → List (Vector p) → ℕ → List (Vector p)
value_matrix f a d = map (λ j. polynomial_at f a (unit j)) (range_with_len 0 d)

pub data IsPartOf (p d : ℕ) (P : Vector p → Type 0) : List Subspace → Type 0 where
  part : {b : Subspace} → IsBasisOf p d P b → IsNonzero p b → IsPartOf p d P (b ∷ [])
  nothing : ((v : Vector p) → P v → v ≡ zeros) → IsPartOf p d P []

abbrev pub nonzero_of : Subspace → List Subspace
nonzero_of b = if nat_lt 0 (length b.rows) then b ∷ [] else []

pub data SplitBy (p d : ℕ) (a : List (Vector p)) : List Subspace → List Subspace → Type 0 where
  done : SplitBy p d a [] []
  next : {b : Subspace} {parts kernel image news : List Subspace} → IsPartOf p d (generalised_kernel a (dense_rows p b.rows)) kernel
      → IsPartOf p d (eventual_image a (dense_rows p b.rows)) image
      → SplitBy p d a parts news → SplitBy p d a (b ∷ parts) (kernel ++ (image ++ news))

pub data Listing (names : List OpName) (matrices : List (List (List ℕ))) (op : OpName) (m : List (List ℕ)) : List OpName → List (List (List ℕ))
    → Type 0 where
  known : Contains names op → Listing names matrices op m names matrices
  new : (Contains names op → ⊥) → Listing names matrices op m (names ++ (op ∷ [])) (matrices ++ (m ∷ []))

pub record IsWhole (p d : ℕ) (s : Decomposition) : Type 0 where
  pub characteristic : s.characteristic ≡ p
  pub dim : s.dim ≡ d
  pub parts : IsPartOf p d (EndsBefore d) s.parts
  pub names : s.names ≡ []
  pub matrices : s.matrices ≡ []

pub record IsStep (s : Decomposition) (op : OpName) (m : List (List ℕ)) (f : List ℕ) (r : Decomposition) : Type 0 where
  pub characteristic : r.characteristic ≡ s.characteristic
  pub dim : r.dim ≡ s.dim
  pub parts : SplitBy s.characteristic s.dim (value_matrix (map (residue s.characteristic) f) (dense_rows s.characteristic m) s.dim) s.parts r.parts
  pub operators : Listing s.names s.matrices op m r.names r.matrices
