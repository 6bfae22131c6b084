-- Sums over one matrix.
use Rattle.std.proofs.Common.{◌≡◌, ◌<◌, ℕ, List, [], ◌∷◌, length, sym, ◌∙◌, subst}
use Rattle.linear_algebra.specs.Coordinates.{unit}
use Rattle.linear_algebra.proofs.SparseLaws.{sparse-one}
use Rattle.p1_normal.specs.declared.matrix.Matrix.{Matrix}
use Rattle.p1_normal.specs.Points.{symbols}
use Rattle.p1_normal.specs.Actions.{image_number}
use Rattle.quotient_coords.specs.Quotient.{AreCoordinates, ground_of}
use Rattle.hecke_columns.specs.Hecke.{IsColumn, hecke_sum}
use Rattle.hecke_columns.proofs.Hits.{sparse-hits}
use Rattle.hecke_columns.proofs.Sums.{hecke_sum-unit}

-- the sum of a symbol over one matrix is its image
pub one_matrix : (p N k : ℕ) (m : Matrix) → k < length (symbols N)
    → hecke_sum {p = p} N (m ∷ []) (unit k) ≡ unit (image_number N k m)
one_matrix p N k m l = hecke_sum-unit N (m ∷ []) k l ∙ sym (sparse-hits p N (m ∷ []) k) ∙ sparse-one p (image_number N k m, 1)

-- so its column is the coordinates of the image
pub one_matrix_column : (N p k : ℕ) (m : Matrix) (values : List ℕ) → k < length (symbols N)
    → AreCoordinates N (unit {p = p} (image_number N k m)) values → IsColumn (ground_of N p) (m ∷ []) k values
one_matrix_column N p k m values l h = subst (λ v. AreCoordinates N v values) (sym (one_matrix p N k m l)) h
