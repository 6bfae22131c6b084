-- A list of numbers as a vector of residues.
--   dense p xs         the residue of each number at its place, and 0 past the end of the list
--   dense_rows p rows  each list as such a vector
use Rattle.std.specs.Prelude.{ℕ, List, slice_index, map}
use Rattle.linear_algebra.specs.Residue.{residue}
use Rattle.linear_algebra.specs.Vector.{Vector}

unfoldable pub dense : (p : ℕ) → List ℕ → Vector p
dense p xs k = residue p (slice_index xs k)

abbrev pub dense_rows : (p : ℕ) → List (List ℕ) → List (Vector p)
dense_rows p rows = map (dense p) rows
