-- Sets of matrices of one determinant.
--   Matrices           a determinant n, and a list of matrices
--   is_determinant n   n is 1 to MAX_DET
--   is_small m         each entry has magnitude at most MAX_ENTRY
--   has_determinant n m
--                      the determinant of m is n
--   IsMatrixSet s      n is 1 to MAX_DET, each matrix of the list is small and has determinant n, and they are fewer than 2^32 - 1
--   fault_at ms k      what does not fit at place k, where the matrix there does not fit; none at no place
--   matrix_fault n m k what does not fit at the matrix m at place k: an entry, else the determinant
--   list_fault n ms    the same at the first matrix that does not fit
--   set_fault n ms     why a list is no such set: its determinant; else, at the first matrix that does not fit, an entry, else the determinant
use Rattle.std.specs.Prelude.{◌≡◌, ℕ, ◌<◌, ◌≤◌, ◌-◌, ◌^◌, pos, unsigned_abs, Bool, not, List, All, length, position, slice_index_or, Option, Some, None, ◌&&◌, nat_le, if◌then◌else◌}
use Rattle.std.specs.Ordering.{int_eq}
use Rattle.p1_normal.specs.declared.matrix.Matrix.{Matrix}
use Rattle.p1_normal.specs.declared.matrix.TheConstants.{MAX_DET, MAX_ENTRY}
use Rattle.p1_normal.specs.Actions.{matrix, determinant, IsSmall}
use Rattle.heilbronn_sets.specs.declared.matrix_set.SetFault.{SetFault}
use Rattle.heilbronn_sets.specs.declared.matrix_set.SetFault.TheVariants.{Limit, Entry, Determinant}

pub record Matrices : Type 0 where
  pub det : ℕ
  pub list : List Matrix

abbrev pub is_determinant : ℕ → Bool
is_determinant n = nat_le 1 n && nat_le n MAX_DET

abbrev pub is_small : Matrix → Bool
is_small m = nat_le (unsigned_abs m.a) MAX_ENTRY && nat_le (unsigned_abs m.b) MAX_ENTRY && nat_le (unsigned_abs m.c) MAX_ENTRY && nat_le (unsigned_abs m.d) MAX_ENTRY

abbrev pub has_determinant : ℕ → Matrix → Bool
has_determinant n m = int_eq (determinant m) (pos n)

pub record IsMatrixSet (s : Matrices) : Type 0 where
  pub positive : 0 < s.det
  pub limited : s.det ≤ MAX_DET
  pub small : All IsSmall s.list
  pub determinants : All (λ m. determinant m ≡ pos s.det) s.list
  pub few : length s.list < 2 ^ 32 - 1

-- what does not fit at the place of the first matrix that does not
abbrev pub fault_at : List Matrix → Option ℕ → Option SetFault
fault_at ms None = None
fault_at ms (Some k) = Some (if is_small (slice_index_or ms k (matrix (pos 0) (pos 0) (pos 0) (pos 0))) then Determinant k else Entry k)

-- what does not fit at one matrix
abbrev pub matrix_fault : ℕ → Matrix → ℕ → Option SetFault
matrix_fault n m k = if is_small m && has_determinant n m then None else Some (if is_small m then Determinant k else Entry k)

-- what does not fit at the first matrix that does not
abbrev pub list_fault : ℕ → List Matrix → Option SetFault
list_fault n ms = fault_at ms (position (λ m. not (is_small m && has_determinant n m)) ms)

abbrev pub set_fault : ℕ → List Matrix → Option SetFault
set_fault n ms = if is_determinant n then list_fault n ms else Some (Limit n)
