use Rattle.field_table.specs.Residues.{AreResidues}
use Rattle.field_bench.proofs.rounds.axpy_rounds.Given as goal

abbrev pub invariant-loop-round : goal.invariant-loop-round
invariant-loop-round l = AreResidues l.field l.sum
