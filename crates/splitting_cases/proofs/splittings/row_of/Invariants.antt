use Rattle.std.proofs.Common.{◌≡◌, length}
use Rattle.field_table.specs.Residues.{AreResidues}
use Rattle.splitting_cases.proofs.splittings.row_of.Given as goal

abbrev pub invariant-loop-k : goal.invariant-loop-k
invariant-loop-k l = record {
  length : length l.row.items ≡ l.k;
  residues : AreResidues l.field l.row.items;
}
