use Rattle.std.proofs.Common.{◌≤◌, ◌-◌, length}
use Rattle.sparse_echelon.specs.Occurrences.{AreBelow}
use Rattle.sparse_echelon.proofs.occurrences.no_rows.Given as goal

abbrev pub invariant-loop-alloc : goal.invariant-loop-alloc
invariant-loop-alloc l = record { within : length l.occurrences.items ≤ l.width; below : AreBelow 0 l.occurrences.items }

abbrev pub decreases-loop-alloc : goal.decreases-loop-alloc
decreases-loop-alloc l = l.width - length l.occurrences.items
