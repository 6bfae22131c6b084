-- Linear maps on the quotient of the combinations of symbols by the relations (Stein, Modular Forms: A Computational Approach, chapter 3).
-- N is a level.
--   IsMatrixOf N images columns  column j is the coordinates of the image of free symbol j, where images k is the image of symbol k
use Rattle.std.specs.Prelude.{◌≡◌, ◌<◌, ℕ, List, [], length, slice_index, slice_index_or}
use Rattle.linear_algebra.specs.Vector.{Vector}
use Rattle.quotient_coords.specs.Quotient.{AreCoordinates, dimension, free_symbols}

pub record IsMatrixOf {p : ℕ} (N : ℕ) (images : ℕ → Vector p) (columns : List (List ℕ)) : Type 0 where
  pub count : length columns ≡ dimension N p
  pub each : (j : ℕ) → j < dimension N p → AreCoordinates N (images (slice_index (free_symbols N p) j)) (slice_index_or columns j [])
