use Rattle.std.proofs.Common.{◌≡◌}
use Rattle.heilbronn_sets.proofs.Faults.{FitUpTo}
use Rattle.heilbronn_sets.proofs.matrix_set.first_fault.Given as goal

abbrev pub invariant-loop-matrix : goal.invariant-loop-matrix
invariant-loop-matrix l = record {
  place : l.place ≡ l.matrix-index;
  fit : FitUpTo l.det l.list l.matrix-index;
}
