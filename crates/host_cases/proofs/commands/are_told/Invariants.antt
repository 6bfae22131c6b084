use Rattle.std.proofs.Common.{◌≡◌}
use Rattle.host_cases.proofs.commands.are_told.Given as goal

abbrev pub invariant-loop-row : goal.invariant-loop-row
invariant-loop-row l = l.host.sessions ≡ 1
