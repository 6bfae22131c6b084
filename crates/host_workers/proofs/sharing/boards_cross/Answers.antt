use Rattle.host_workers.proofs.Crossing.{boards-sync}
use denote.Param.Send.{sendable}
use Rattle.host_workers.proofs.sharing.boards_cross.Goals as goal

pub is_shared-requires-sync-T : goal.is_shared-requires-sync-T
is_shared-requires-sync-T c κs = search (boards-sync, sendable)
