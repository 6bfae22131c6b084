use Rattle.std.proofs.Common.{◌≡◌, length, take}
use Rattle.field_table.specs.Residues.{AreResidues}
use Rattle.linear_algebra.specs.Dense.{dense}
use Rattle.linear_algebra.specs.Residue.{residue}
use Rattle.linear_algebra.specs.Sparse.{sparse, sparse_rows}
use Rattle.linear_algebra.specs.Vector.{◌⊞◌, ◌⊡◌, combination}
use Rattle.sparse_echelon.specs.Leads.{at_leads}
use Rattle.sparse_echelon.proofs.spreading.spread_selected.Given as goal

-- the rows that the terms so far select are added
abbrev pub invariant-loop-term : goal.invariant-loop-term
invariant-loop-term l = record {
  sum : dense l.field l.acc ≡ dense l.field l.fn.acc ⊞ residue l.field l.factor ⊡ combination
      (at_leads l.leads (sparse l.field (take l.term-index l.selecting))) (sparse_rows l.field l.rows);
  residues : AreResidues l.field l.acc;
  width : length l.acc ≡ length l.fn.acc;
}
