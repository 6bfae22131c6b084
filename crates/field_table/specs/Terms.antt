-- Lists of terms, each a place and an integer.
--   residue_terms p terms   the terms with each integer's residue modulo p in its stead
--   place_at terms k        the place of term k
--   HasPlacesBelow n terms  each place is below n
use Rattle.std.specs.Prelude.{ℕ, ℤ, List, ◌<◌, map, All, slice_index_or}
use Rattle.linear_algebra.specs.Integers.{residue_of}

abbrev pub residue_terms : ℕ → List (ℕ × ℤ) → List (ℕ × ℕ)
residue_terms p terms = map (λ t. (t.0, residue_of p t.1)) terms

abbrev pub place_at : List (ℕ × ℕ) → ℕ → ℕ
place_at terms k = (slice_index_or terms k (0, 0)).0

abbrev pub HasPlacesBelow : ℕ → List (ℕ × ℕ) → Type 0
HasPlacesBelow n terms = All (λ t. t.0 < n) terms
