use Rattle.std.proofs.Common.{◌≡◌, map, take}
use Rattle.linear_algebra.specs.Integers.{residue_of}
use Rattle.field_table.specs.Residues.{AreResidues}
use Rattle.session_core.proofs.answers.operators.residues_of.Given as goal

abbrev pub invariant-loop-number : goal.invariant-loop-number
invariant-loop-number l = record {
  numbers : l.residues.items ≡ map (residue_of l.field) (take l.number-index l.numbers);
  residues : AreResidues l.field (map (residue_of l.field) (take l.number-index l.numbers));
}
