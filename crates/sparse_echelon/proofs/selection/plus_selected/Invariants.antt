use Rattle.std.proofs.Common.{◌≡◌, ℕ, All, take}
use Rattle.field_table.specs.Residues.{HasResidues}
use Rattle.field_table.specs.Terms.{HasPlacesBelow}
use Rattle.linear_algebra.specs.Residue.{residue}
use Rattle.linear_algebra.specs.Sparse.{sparse, sparse_rows}
use Rattle.linear_algebra.specs.Vector.{◌⊞◌, ◌⊡◌, combination}
use Rattle.sparse_echelon.specs.Leads.{at_leads}
use Rattle.sparse_echelon.proofs.selection.plus_selected.Given as goal

-- the rows that the terms so far select are added
abbrev pub invariant-loop-term : goal.invariant-loop-term
invariant-loop-term l = record {
  sum : sparse l.field l.sum ≡ sparse l.field l.start ⊞ residue l.field l.factor ⊡ combination
      (at_leads l.leads (sparse l.field (take l.term-index l.selecting))) (sparse_rows l.field l.rows);
  residues : HasResidues l.field l.sum;
  places : (n : ℕ) → HasPlacesBelow n l.start → All (HasPlacesBelow n) l.rows → HasPlacesBelow n l.sum;
}
