-- The greatest places of the rows of a basis (Cohen, A Course in Computational Algebraic Number Theory, 2.3).
--   lead l j           the greatest place of row j
--   at_leads l v       the entries of v at the greatest places
--   AreRows p n rows   each row is a list of terms with places below n and numbers below p
--   KeepsWidth p old new r  where old are such rows, of places below any n, and r has places below n, new are such rows
--   AreCleared p k heads old new r   each row of new is that of old less the multiple of r by the number that the row of heads has at place k
use Rattle.std.specs.Prelude.{◌≡◌, ◌<◌, ℕ, List, [], length, All, slice_index_or}
use Rattle.field_table.specs.Places.{PlaceList, nth_place}
use Rattle.field_table.specs.Residues.{HasResidues}
use Rattle.field_table.specs.Terms.{HasPlacesBelow}
use Rattle.linear_algebra.specs.Residue.{opposite}
use Rattle.linear_algebra.specs.Sparse.{sparse}
use Rattle.linear_algebra.specs.Vector.{Vector, ◌⊞◌, ◌⊡◌}

abbrev pub lead : PlaceList → ℕ → ℕ
lead l j = nth_place l j

abbrev pub at_leads : {p : ℕ} → PlaceList → Vector p → Vector p
at_leads l v j = v (lead l j)

pub record AreRows (p n : ℕ) (rows : List (List (ℕ × ℕ))) : Type 0 where
  pub places : All (HasPlacesBelow n) rows
  pub residues : All (HasResidues p) rows

abbrev pub KeepsWidth : ℕ → List (List (ℕ × ℕ)) → List (List (ℕ × ℕ)) → List (ℕ × ℕ) → Type 0
KeepsWidth p old new r = (n : ℕ) → AreRows p n old → HasPlacesBelow n r → AreRows p n new

abbrev pub AreCleared : ℕ → ℕ → List (List (ℕ × ℕ)) → List (List (ℕ × ℕ)) → List (List (ℕ × ℕ)) → List (ℕ × ℕ) → Type 0
AreCleared p k heads old new r = (j : ℕ) → j < length heads → sparse p (slice_index_or new j [])
    ≡ sparse p (slice_index_or old j []) ⊞ (opposite (sparse p (slice_index_or heads j []) k) ⊡ sparse p r)
