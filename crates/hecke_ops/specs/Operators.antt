-- Hecke operators on the quotient of the combinations of symbols by the relations (Stein, Modular Forms: A Computational Approach,
-- chapters 3 and 8; Merel, Universal Fourier expansions of modular forms, 1994). N is a level with m symbols, p a prime, and L a list of
-- matrices of one determinant that is coprime to N.
--   relation_sum N L k             the sum of relation k over L
--   SendsToZero N p L k            the sum of relation k is congruent to 0
--   IsFirstFailing N p L k values  k is the least relation whose sum has coordinates other than 0, and these are the values
--   KeepsRelations N p L           the sum of each relation is congruent to 0: sums over L keep congruence
--   AreColumns N p L columns       the columns of all symbols over L, in order
--   IsHeckeMatrix N p L columns    column j is the coordinates of the sum of free symbol j over L
--   IsOperator N p L columns       sums over L keep congruence, and the columns are the matrix
--   HeckeOperator                  what an operator says: its level, its characteristic, and the columns of its matrix
--   IsSomeOperator a               it is an operator over some list of matrices
use Rattle.std.specs.Prelude.{◌≡◌, ◌≢◌, ℕ, ◌*◌, ◌<◌, List, [], length, replicate, slice_index_or}
use Rattle.linear_algebra.specs.Vector.{Vector, zeros}
use Rattle.linear_algebra.specs.Coordinates.{unit}
use Rattle.p1_normal.specs.declared.matrix.Matrix.{Matrix}
use Rattle.p1_normal.specs.Points.{symbols}
use Rattle.manin_relations.specs.Relations.{relation, Congruent}
use Rattle.quotient_coords.specs.Quotient.{AreCoordinates, dimension, ground_of}
use Rattle.quotient_coords.specs.Maps.{IsMatrixOf}
use Rattle.hecke_columns.specs.Hecke.{IsColumn, hecke_sum}

-- the sum of a relation
abbrev pub relation_sum : {p : ℕ} → ℕ → List Matrix → ℕ → Vector p
relation_sum N L k = hecke_sum N L (relation N k)

-- it is congruent to 0
abbrev pub SendsToZero : ℕ → ℕ → List Matrix → ℕ → Type 0
SendsToZero N p L k = Congruent {p = p} N (relation_sum N L k) zeros

-- the least relation for which it is not, with its coordinates
pub record IsFirstFailing (N p : ℕ) (L : List Matrix) (k : ℕ) (values : List ℕ) : Type 0 where
  pub within : k < 2 * length (symbols N)
  pub coordinates : AreCoordinates {p = p} N (relation_sum N L k) values
  pub nonzero : values ≢ replicate (dimension N p) 0
  pub before : (i : ℕ) → i < k → SendsToZero N p L i

-- it is for every relation
pub record KeepsRelations (N p : ℕ) (L : List Matrix) : Type 0 where
  pub each : (k : ℕ) → k < 2 * length (symbols N) → SendsToZero N p L k

-- the columns of all symbols
pub record AreColumns (N p : ℕ) (L : List Matrix) (columns : List (List ℕ)) : Type 0 where
  pub count : length columns ≡ length (symbols N)
  pub each : (k : ℕ) → k < length (symbols N) → IsColumn (ground_of N p) L k (slice_index_or columns k [])

-- those of the free symbols
abbrev pub IsHeckeMatrix : ℕ → ℕ → List Matrix → List (List ℕ) → Type 0
IsHeckeMatrix N p L columns = IsMatrixOf N (λ k. hecke_sum {p = p} N L (unit k)) columns

-- an operator over a list of matrices
pub record IsOperator (N p : ℕ) (L : List Matrix) (columns : List (List ℕ)) : Type 0 where
  pub keeps : KeepsRelations N p L
  pub matrix : IsHeckeMatrix N p L columns

pub record HeckeOperator : Type 0 where
  pub level : ℕ
  pub characteristic : ℕ
  pub columns : List (List ℕ)

-- an operator over some list of matrices
pub record IsSomeOperator (a : HeckeOperator) : Type 0 where
  pub matrices : List Matrix
  pub is_operator : IsOperator a.level a.characteristic matrices a.columns
