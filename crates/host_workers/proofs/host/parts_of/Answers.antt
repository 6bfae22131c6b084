use Rattle.std.proofs.Common.{◌≡◌, map, ap, sym, ◌∙◌}
use Rattle.std.proofs.lemmas.List.{map-id}
use Rattle.std.proofs.lemmas.Iterator.Adapters.{YieldsList-from_vec}
use Rattle.std.proofs.lemmas.Iterator.Consumers.{YieldsList-end}
use Rattle.host_workers.specs.declared.work.SessionWork.{SessionWork}
use Rattle.host_workers.proofs.host.parts_of.Goals as goal

pub returns : goal.returns
returns c =
    let gives = c.into_iter-work-iterator.ensures.into_iter_gives in
    let yielded : c.loop-work.yielded ≡ c.args.works.items = sym (map-id c.loop-work.yielded)
    ∙ (YieldsList-end (YieldsList-from_vec {s = c.into_iter-work-iterator.result} c.args.works.items gives.0 (gives.1 ∙ c.args.works.ok.0))
    c.loop-work.yielded c.loop-work.work-iterator c.loop-work.yielded_by c.next.result c.next.new.self c.in-None.is c.next.ensures.steps).0 in
    record {
      columns = c.loop-work.invariant.columns ∙ ap (map (λ (w : SessionWork). w.columns)) yielded;
      splits = c.loop-work.invariant.splits ∙ ap (map (λ (w : SessionWork). w.splits)) yielded;
      replies = c.of-2.ensures ∙ c.loop-work.invariant.replies ∙ ap (map (λ (w : SessionWork). w.replies.items)) yielded;
    }
