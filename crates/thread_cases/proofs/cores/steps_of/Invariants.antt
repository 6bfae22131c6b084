use Rattle.std.proofs.Common.{◌≡◌, length}
use Rattle.std.specs.List.{All}
use Rattle.shared_core.specs.Machines.{HasResidues}
use Rattle.thread_cases.proofs.cores.steps_of.Given as goal

abbrev pub invariant-loop-place : goal.invariant-loop-place
invariant-loop-place l = record {
  residues : All (HasResidues l.fn.field) l.steps.items;
  count : length l.steps.items ≡ l.place;
}
