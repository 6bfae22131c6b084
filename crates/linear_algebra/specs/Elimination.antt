-- Rows eliminated one after another from the top, with the coefficients over the given rows of each row that was stored
-- (Cohen, A Course in Computational Algebraic Number Theory, 2.3).
--   IsEliminated rows n basis logs lead kept  after the first n rows: basis is a basis of their span, reduced from the top with these leads;
--                                             log j has the coefficients over kept rows that give row j of the basis; kept are the kept ones of the n rows
use Rattle.std.specs.Prelude.{◌≡◌, ◌<◌, ◌≤◌, ℕ, List, length, take}
use Rattle.linear_algebra.specs.Vector.{Vector, combination}
use Rattle.linear_algebra.specs.Span.{row}
use Rattle.linear_algebra.specs.Echelon.{IsTopBasis}
use Rattle.linear_algebra.specs.Coordinates.{IsKeptList, IsOverKept}

pub record IsEliminated {p : ℕ} (rows : List (Vector p)) (n : ℕ) (basis logs : List (Vector p)) (lead : ℕ → ℕ) (kept : List ℕ) : Type 0 where
  pub within : n ≤ length rows
  pub top : IsTopBasis (take n rows) basis lead
  pub logged : length logs ≡ length basis
  pub adds_up : (j : ℕ) → j < length basis → combination (row logs j) rows ≡ row basis j
  pub over_kept : (j : ℕ) → j < length basis → IsOverKept rows (row logs j)
  pub kept_rows : IsKeptList rows n kept
  pub as_many : length kept ≡ length basis
