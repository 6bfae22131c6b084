-- The star involution on combinations of symbols: (u:v) becomes (-u:v) (Stein, Modular Forms: A
-- Computational Approach, chapter 8; Cremona, Algorithms for Modular Elliptic Curves, 2.5). N is a
-- level with m symbols.
--   star N x              the sum over all symbols (u:v) of x's residue there times the symbol
--                         (-u:v)
--   star_terms N terms    the terms with the symbol (-u:v) in the place of each symbol (u:v)
--   IsStarMatrix N p columns
--                         column j is the coordinates of (-u:v), for free symbol j = (u:v) over the
--                         field of characteristic p
use Rattle.std.specs.Prelude.{ℕ, ℤ, pos, List, length, map}
use Rattle.std.specs.List.{range_with_len}
use Rattle.linear_algebra.specs.Vector.{Vector, combination}
use Rattle.linear_algebra.specs.Coordinates.{unit}
use Rattle.p1_normal.specs.Points.{symbols}
use Rattle.p1_normal.specs.Actions.{image_number, matrix_star}
use Rattle.quotient_coords.specs.Maps.{IsMatrixOf}

-- star of a combination
abbrev pub star : {p : ℕ} → ℕ → Vector p → Vector p
star N x =
    combination x (map (λ k. unit (image_number N k matrix_star)) (range_with_len 0 (length (symbols N))))

-- the terms of star
abbrev pub star_terms : ℕ → List (ℕ × ℕ) → List (ℕ × ℤ)
star_terms N terms = map (λ t. (image_number N t.0 matrix_star, pos t.1)) terms

-- the matrix of star
abbrev pub IsStarMatrix : ℕ → ℕ → List (List ℕ) → Type 0
IsStarMatrix N p columns = IsMatrixOf N (λ k. unit {p = p} (image_number N k matrix_star)) columns
