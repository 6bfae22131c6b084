-- A list of terms, each a place and a number, as a vector of residues.
--   single p k a        the residue of a at place k, and 0 elsewhere
--   sparse p terms      the sum of the terms
--   sparse_rows p rows  each list of terms as such a vector
--   IsCombo terms       the places rise, and no number is 0
use Rattle.std.specs.Prelude.{ℕ, List, [], ◌∷◌, ◌<◌, length, nat_eq, if◌then◌else◌, All, slice_index_or, map}
use Rattle.linear_algebra.specs.Residue.{residue}
use Rattle.linear_algebra.specs.Vector.{Vector, zeros, ◌⊞◌}

unfoldable pub single : (p place a : ℕ) → Vector p
single p place a k = if nat_eq k place then residue p a else residue p 0

unfoldable pub sparse : (p : ℕ) → List (ℕ × ℕ) → Vector p
sparse p [] = zeros
sparse p (t ∷ ts) = single p t.0 t.1 ⊞ sparse p ts

abbrev pub sparse_rows : (p : ℕ) → List (List (ℕ × ℕ)) → List (Vector p)
sparse_rows p rows = map (sparse p) rows

pub record IsCombo (terms : List (ℕ × ℕ)) : Type 0 where
  pub rising : (i j : ℕ) → i < j → j < length terms → (slice_index_or terms i (0, 0)).0 < (slice_index_or terms j (0, 0)).0
  pub nonzero : All (λ t. 0 < t.1) terms
