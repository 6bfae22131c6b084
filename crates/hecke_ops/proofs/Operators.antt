-- The matrix of an operator gives the coordinates of sums.
use Rattle.std.proofs.Common.{◌≡◌, ◌<◌, ℕ, List, length, subst}
use Rattle.linear_algebra.specs.Prime.{IsPrime}
use Rattle.linear_algebra.specs.Vector.{Vector}
use Rattle.linear_algebra.specs.Dense.{dense, dense_rows}
use Rattle.linear_algebra.specs.Coordinates.{IsCoordinates, unit}
use Rattle.field_table.specs.Residues.{AreResidues}
use Rattle.stable_subspaces.specs.Operator.{apply}
use Rattle.p1_normal.specs.declared.matrix.Matrix.{Matrix}
use Rattle.p1_normal.specs.Points.{symbols}
use Rattle.manin_relations.specs.Relations.{relations}
use Rattle.quotient_coords.specs.Quotient.{AreCoordinates, dimension}
use Rattle.quotient_coords.proofs.Maps.{coordinates_of_image, matrix_heights, matrix_of_image, matrix_once, matrix_residues}
use Rattle.hecke_columns.specs.Hecke.{hecke_sum}
use Rattle.dense_mat.specs.Matrix.{IsMatrix}
use Rattle.hecke_ops.specs.Operators.{HeckeOperator, IsHeckeMatrix, IsOperator, IsSomeOperator}
use Rattle.hecke_ops.proofs.Sums.{hecke_sum-combination, Congruent-hecke_sum}

-- the matrix times the coordinates of x is the coordinates of the sum of x
pub matrix_of_sum : (N p : ℕ) (L : List Matrix) (columns : List (List ℕ)) (x c : Vector p) → 0 < p → IsOperator N p L columns
    → IsCoordinates (length (symbols N)) (relations N) x c
    → IsCoordinates (length (symbols N)) (relations N) (hecke_sum N L x) (apply (dense_rows p columns) c)
matrix_of_sum N p L columns x c positive h = matrix_of_image N positive (hecke_sum N L) (hecke_sum-combination N L) columns h.matrix
    (Congruent-hecke_sum positive h.keeps) x c

-- so lists of residues with that product are the coordinates
pub coordinates_of_sum : (N p : ℕ) (L : List Matrix) (columns : List (List ℕ)) (x : Vector p) (values images : List ℕ) → 0 < p
    → IsOperator N p L columns → AreCoordinates N x values → length images ≡ dimension N p → AreResidues p images
    → dense p images ≡ apply (dense_rows p columns) (dense p values) → AreCoordinates N (hecke_sum N L x) images
coordinates_of_sum N p L columns x values images positive h = coordinates_of_image N positive (hecke_sum N L) (hecke_sum-combination N L) columns
    h.matrix (Congruent-hecke_sum positive h.keeps) x values images

-- a list of matrices has one matrix on the quotient
pub hecke_matrix_once : (N p : ℕ) (L : List Matrix) (columns others : List (List ℕ)) → IsPrime p → IsHeckeMatrix N p L columns
    → IsHeckeMatrix N p L others → columns ≡ others
hecke_matrix_once N p L columns others prime h k = matrix_once prime N (λ k. hecke_sum {p = p} N L (unit k)) columns others h k

-- an operator with its parts
abbrev operator_with : ℕ → ℕ → List (List ℕ) → HeckeOperator
operator_with N p columns = record { level = N; characteristic = p; columns = columns }

-- the matrix is a square of residues
hecke_square : (N p : ℕ) (L : List Matrix) (columns : List (List ℕ)) → IsHeckeMatrix N p L columns → IsMatrix p columns
hecke_square N p L columns h = record {
  sized = matrix_heights N (λ k. hecke_sum {p = p} N L (unit k)) columns h;
  residues = matrix_residues N (λ k. hecke_sum {p = p} N L (unit k)) columns h;
}

-- so the matrix of an operator is a square of residues
pub operator_square : (N p : ℕ) (columns : List (List ℕ)) (a : HeckeOperator) → operator_with N p columns ≡ a
    → IsSomeOperator (operator_with N p columns) → IsMatrix a.characteristic columns
operator_square N p columns a same h =
    subst (λ b. IsMatrix b.characteristic columns) same (hecke_square N p h.matrices columns h.is_operator.matrix)

-- of the dimension
pub operator_size : (N p : ℕ) (columns : List (List ℕ)) (a : HeckeOperator) → operator_with N p columns ≡ a
    → IsSomeOperator (operator_with N p columns) → length columns ≡ dimension a.level a.characteristic
operator_size N p columns a same h = subst (λ b. length columns ≡ dimension b.level b.characteristic) same h.is_operator.matrix.count
