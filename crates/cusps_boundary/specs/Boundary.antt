-- The boundary of a combination of symbols, a combination of cusps
-- (Stein, Modular Forms: A Computational Approach, chapters 3 and 8).
-- N is a level with m symbols; a vector over the cusps has the residue of cusp c at place c.
--   boundary_of N k    the boundary of symbol x with number k: [cusp of x] - [cusp of x S]
--   boundary N x       the sum over all symbols of x's residue there times the symbol's boundary
use Rattle.std.specs.Prelude.{ℕ, length, map}
use Rattle.std.specs.List.{range_with_len}
use Rattle.linear_algebra.specs.Vector.{Vector, combination, minus}
use Rattle.linear_algebra.specs.Coordinates.{unit}
use Rattle.p1_normal.specs.Points.{symbols}
use Rattle.p1_normal.specs.Actions.{image_number, matrix_s}
use Rattle.cusps_boundary.specs.Cusps.{cusp_number}

-- the boundary of symbol k
abbrev pub boundary_of : {p : ℕ} → ℕ → ℕ → Vector p
boundary_of N k = minus (unit (cusp_number N k)) (unit (cusp_number N (image_number N k matrix_s)))

-- the boundary of a combination
abbrev pub boundary : {p : ℕ} → ℕ → Vector p → Vector p
boundary N x = combination x (map (boundary_of N) (range_with_len 0 (length (symbols N))))
