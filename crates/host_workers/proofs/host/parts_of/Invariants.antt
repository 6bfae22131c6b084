use Rattle.std.proofs.Common.{◌≡◌, map}
use Rattle.host_workers.specs.declared.work.SessionWork.{SessionWork}
use Rattle.host_workers.proofs.host.parts_of.Given as goal

abbrev pub invariant-loop-work : goal.invariant-loop-work
invariant-loop-work l = record {
  columns : l.columns.items ≡ map (λ (w : SessionWork). w.columns) l.yielded;
  splits : l.splits.items ≡ map (λ (w : SessionWork). w.splits) l.yielded;
  replies : l.all.items ≡ map (λ (w : SessionWork). w.replies.items) l.yielded;
}
