use Rattle.std.proofs.Common.{◌+◌, ◌*◌, length}
use Rattle.host_workers.proofs.sessions.+fn-run_sessions-join_mut+arg3+run_sessions.Given as goal

abbrev pub decreases-join_mut+arg3 : goal.decreases-join_mut+arg3
decreases-join_mut+arg3 g l = 2 * length l.rest.now + 1

abbrev pub decreases-run_sessions : goal.decreases-run_sessions
decreases-run_sessions g l = 2 * length l.works.now
