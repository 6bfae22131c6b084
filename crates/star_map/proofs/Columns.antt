-- The matrix of star, column after column, and what it gives.
use Rattle.std.proofs.Common.{◌≡◌, ◌+◌, ◌<◌, ℕ, List, [], ◌∷◌, ◌++◌, length, get_or, map, sym, ◌∙◌, subst}
use Rattle.linear_algebra.specs.Prime.{IsPrime}
use Rattle.linear_algebra.specs.Vector.{Vector, combination}
use Rattle.linear_algebra.specs.Dense.{dense, dense_rows}
use Rattle.linear_algebra.specs.Coordinates.{IsCoordinates, unit}
use Rattle.linear_algebra.proofs.SparseLaws.{sparse-one}
use Rattle.linear_algebra.proofs.Vectors.{combination-combinations}
use Rattle.field_table.specs.Residues.{AreResidues}
use Rattle.p1_normal.specs.Actions.{image_number, matrix_star}
use Rattle.p1_normal.specs.Points.{symbols}
use Rattle.manin_relations.specs.Relations.{relations}
use Rattle.quotient_coords.specs.Quotient.{AreCoordinates, HasCoordinates, dimension, free_symbols, ground_of}
use Rattle.quotient_coords.specs.Maps.{IsMatrixOf}
use Rattle.quotient_coords.proofs.Maps.{AreFirst, first_more, matrix_heights, matrix_residues, matrix_of_same, matrix_once}
use Rattle.quotient_coords.proofs.Maps.{matrix_of_image, coordinates_of_image}
use Rattle.stable_subspaces.specs.Operator.{apply}
use Rattle.dense_mat.specs.Matrix.{IsMatrix}
use Rattle.star_map.specs.Star.{IsStarMatrix, star}
use Rattle.star_map.proofs.Stars.{star_symbols, star-unit, star-congruent}

-- the values are the coordinates of (-u:v), for symbol k = (u:v)
abbrev pub IsStarColumn : ℕ → ℕ → ℕ → List ℕ → Type 0
IsStarColumn N p k values = AreCoordinates N (unit {p = p} (image_number N k matrix_star)) values

-- the coordinates of one term
pub star_of_term : (N p k s : ℕ) (terms : List (ℕ × ℕ)) (values : List ℕ) → s ≡ image_number N k matrix_star → terms ≡ (s, 1) ∷ []
    → HasCoordinates (ground_of N p) terms values → IsStarColumn N p k values
star_of_term N p k s terms values is_star e h = subst (λ i. AreCoordinates N (unit {p = p} i) values) is_star
    (subst (λ v. AreCoordinates N v values) (sparse-one p (s, 1)) (subst (λ ts. HasCoordinates (ground_of N p) ts values) e h))

-- the columns of the first n free symbols
abbrev pub AreFirstStarColumns : ℕ → ℕ → ℕ → List (List ℕ) → Type 0
AreFirstStarColumns N p n columns = AreFirst (λ j. IsStarColumn N p (get_or (free_symbols N p) j 0)) n columns

-- one more
pub star_more : (N p n k : ℕ) (columns pushed : List (List ℕ)) (values : List ℕ) → k ≡ get_or (free_symbols N p) n 0
    → pushed ≡ columns ++ values ∷ [] → AreFirstStarColumns N p n columns → IsStarColumn N p k values → AreFirstStarColumns N p (n + 1) pushed
star_more N p n k columns pushed values is_free e h column =
    first_more (λ j. IsStarColumn N p (get_or (free_symbols N p) j 0)) n columns pushed values e h
    (subst (λ i. IsStarColumn N p i values) is_free column)

-- all of them
pub star_all : (N p n : ℕ) (columns : List (List ℕ)) → n ≡ dimension N p → AreFirstStarColumns N p n columns → IsStarMatrix N p columns
star_all N p n columns whole h = record { count = h.count ∙ whole; each = λ j l. h.each j (subst (λ d. j < d) (sym whole) l) }

-- a square of residues
pub star_square : (N p : ℕ) (columns : List (List ℕ)) → IsStarMatrix N p columns → IsMatrix p columns
star_square N p columns h = record {
  sized = matrix_heights N (λ k. unit {p = p} (image_number N k matrix_star)) columns h;
  residues = matrix_residues N (λ k. unit {p = p} (image_number N k matrix_star)) columns h;
}

-- star of a combination is the combination of the stars
star-combination : {p : ℕ} (N : ℕ) (c : Vector p) (rows : List (Vector p)) → star N (combination c rows) ≡ combination c (map (star N) rows)
star-combination N c rows = sym (combination-combinations c rows (star_symbols N))

-- column j is the coordinates of the star of free symbol j
stars_of_units : (N p : ℕ) (columns : List (List ℕ)) → IsStarMatrix N p columns → IsMatrixOf N (λ k. star {p = p} N (unit k)) columns
stars_of_units N p columns h = matrix_of_same N (λ k. unit {p = p} (image_number N k matrix_star)) (λ k. star {p = p} N (unit k)) columns
    (λ k l. sym (star-unit N k l)) h

-- the matrix times the coordinates of x is the coordinates of star of x
pub star_of_coordinates : (N p : ℕ) (columns : List (List ℕ)) (x c : Vector p) → 0 < p → IsStarMatrix N p columns
    → IsCoordinates (length (symbols N)) (relations N) x c
    → IsCoordinates (length (symbols N)) (relations N) (star N x) (apply (dense_rows p columns) c)
star_of_coordinates N p columns x c positive h = matrix_of_image N positive (star N) (star-combination N) columns (stars_of_units N p columns h)
    (λ x y. star-congruent p N x y positive) x c

-- so lists of residues with that product are the coordinates
pub stars_of_lists : (N p : ℕ) (columns : List (List ℕ)) (x : Vector p) (values images : List ℕ) → 0 < p → IsStarMatrix N p columns
    → AreCoordinates N x values → length images ≡ dimension N p → AreResidues p images
    → dense p images ≡ apply (dense_rows p columns) (dense p values) → AreCoordinates N (star N x) images
stars_of_lists N p columns x values images positive h = coordinates_of_image N positive (star N) (star-combination N) columns
    (stars_of_units N p columns h) (λ x y. star-congruent p N x y positive) x values images

-- there is one matrix of star
pub star_matrix_once : (N p : ℕ) (columns others : List (List ℕ)) → IsPrime p → IsStarMatrix N p columns → IsStarMatrix N p others
    → columns ≡ others
star_matrix_once N p columns others prime h k = matrix_once prime N (λ k. unit {p = p} (image_number N k matrix_star)) columns others h k
