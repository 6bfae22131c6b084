use Rattle.std.proofs.Common.{◌≡◌}
use Rattle.thread_cases.proofs.versions.commit_often.Given as goal

abbrev pub invariant-loop : goal.invariant-loop
invariant-loop l = l.state.setting ≡ l.fn.state.setting
