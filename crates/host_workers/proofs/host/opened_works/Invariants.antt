use Rattle.std.proofs.Common.{◌≡◌, ◌+◌, ◌++◌, length, map, take}
use Rattle.std.specs.List.{AllZip}
use Rattle.std.specs.Vec.Iter.{into_iter_items, into_iter_len}
use Rattle.host_workers.specs.declared.work.SessionWork.{SessionWork}
use Rattle.host_workers.specs.Works.{HasRoom}
use Rattle.host_workers.proofs.host.opened_works.Given as goal

abbrev pub invariant-loop-session : goal.invariant-loop-session
invariant-loop-session l = record {
  columns : map (λ (w : SessionWork). w.columns) l.works.items ++ into_iter_items l.columns ≡ l.fn.columns.items;
  splits : map (λ (w : SessionWork). w.splits) l.works.items ++ into_iter_items l.splits ≡ l.fn.splits.items;
  column_count : into_iter_len l.columns + l.session-index ≡ length l.sessions;
  split_count : into_iter_len l.splits + l.session-index ≡ length l.sessions;
  room : AllZip HasRoom (take l.session-index l.sessions) l.works.items;
}
