use Rattle.std.proofs.Common.{◌≡◌, ◌<◌, ◌^◌, length}
use Rattle.field_table.specs.Residues.{AreResidues}
use Rattle.field_bench.proofs.rounds.residues.Given as goal

abbrev pub invariant-loop-place : goal.invariant-loop-place
invariant-loop-place l = record {
  residues : AreResidues l.field l.list.items;
  width : length l.list.items ≡ l._place;
  drawn : l.state < 2 ^ 32;
}
