-- The places of a list of terms, by its vector.
use Rattle.std.proofs.Common.{◌<◌, ℕ, List, get_or, sym, ◌∙◌, inl, inr}
use Rattle.std.proofs.lemmas.Bool.{cases_lt}
use Rattle.std.proofs.lemmas.List.Elements.{All-get_or, All-from_get_or}
use Rattle.linear_algebra.specs.Vector.{EndsBefore}
use Rattle.linear_algebra.specs.Sparse.{sparse, IsCombo}
use Rattle.linear_algebra.proofs.SparseLaws.{sparse_at, some_residue}
use Rattle.field_table.specs.Residues.{HasResidues}
use Rattle.field_table.specs.Terms.{HasPlacesBelow}

-- a rising list of residues without zeros whose vector has length d has its places below d
pub HasPlacesBelow-from_vector : (p d : ℕ) (ts : List (ℕ × ℕ)) → IsCombo ts → HasResidues p ts → EndsBefore d (sparse p ts) → HasPlacesBelow d ts
HasPlacesBelow-from_vector p d ts combo residues ends = All-from_get_or (λ t. t.0 < d) ts (0, 0) (λ i l. elim (cases_lt (get_or ts i (0, 0)).0 d) [
  | inl below ↦ below
  | inr above ↦ absurd (some_residue p (get_or ts i (0, 0)).1 (All-get_or (λ t. 0 < t.1) ts i (0, 0) l combo.nonzero)
      (All-get_or (λ t. t.1 < p) ts i (0, 0) l residues)
      (sym (sparse_at p ts combo i l) ∙ ends (get_or ts i (0, 0)).0 above))
])
