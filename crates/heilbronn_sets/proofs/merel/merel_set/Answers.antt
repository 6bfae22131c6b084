use Rattle.std.proofs.Common.{arith}
use Rattle.heilbronn_sets.proofs.Members.{IsMatrixSet-merel_matrices}
use Rattle.heilbronn_sets.proofs.merel.merel_set.Goals as goal

pub whole-requires : goal.whole-requires
whole-requires c = record { set = IsMatrixSet-merel_matrices c.args.n c.in_ok-list.list.items (omega arith) (omega arith) c.in_ok-list.ensures.items }
