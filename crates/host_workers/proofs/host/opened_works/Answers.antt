use Rattle.std.proofs.Common.{◌≡◌, ◌++◌, [], ◌∷◌, sym, ◌∙◌, arith}
use Rattle.std.specs.Vec.Iter.{into_iter_items, into_iter_len}
use Rattle.host_workers.specs.declared.work.SessionWork.{SessionWork}
use Rattle.host_workers.specs.Works.{HasRoom}
use Rattle.host_workers.proofs.ListSteps.{moved_all, moved_more, zip_more}
use Rattle.host_workers.proofs.host.opened_works.Goals as goal

pub loop-session-preserved : goal.loop-session-preserved
loop-session-preserved c =
    let pushed : c.push.new.self.items ≡ c.loop-session.works.items ++ c.in_ok-opened_work.field-0 ∷ [] = c.in_ok-push.ensures.items in
    record {
      columns = moved_more (λ (w : SessionWork). w.columns) c.loop-session.works.items c.push.new.self.items c.in_ok-opened_work.field-0
          c.in-Some.column_pass (into_iter_items c.loop-session.columns) (into_iter_items c.next.new.self) c.args.columns.items
          c.loop-session.invariant.columns c.in-Some.ensures.items c.in_ok-opened_work.ensures.columns pushed;
      splits = moved_more (λ (w : SessionWork). w.splits) c.loop-session.works.items c.push.new.self.items c.in_ok-opened_work.field-0
          c.in-Some-next.split_pass (into_iter_items c.loop-session.splits) (into_iter_items c.next-in-loop-session.new.self) c.args.splits.items
          c.loop-session.invariant.splits c.in-Some-next.ensures.items c.in_ok-opened_work.ensures.splits pushed;
      column_count = let e = c.in-Some.ensures.len in omega arith;
      split_count = let e = c.in-Some-next.ensures.len in omega arith;
      room = zip_more HasRoom c.args.sessions.now c.loop-session.works.items c.push.new.self.items c.loop-session.session-index
          c.session-item.result c.in_ok-opened_work.field-0 c.loop-session-test.true c.session-item.is c.loop-session.invariant.room
          c.in_ok-opened_work.ensures.room pushed;
    }

pub returns-clause-columns : goal.returns-clause-columns
returns-clause-columns c =
    let left = c.loop-session.invariant.column_count in
    let none : into_iter_len c.loop-session.columns ≡ 0 = omega arith in
    moved_all (λ (w : SessionWork). w.columns) c.loop-session.works.items (into_iter_items c.loop-session.columns) c.args.columns.items
    c.loop-session.invariant.columns (sym c.loop-session.columns.rest.ok.0 ∙ none)

pub returns-clause-splits : goal.returns-clause-splits
returns-clause-splits c =
    let left = c.loop-session.invariant.split_count in
    let none : into_iter_len c.loop-session.splits ≡ 0 = omega arith in
    moved_all (λ (w : SessionWork). w.splits) c.loop-session.works.items (into_iter_items c.loop-session.splits) c.args.splits.items
    c.loop-session.invariant.splits (sym c.loop-session.splits.rest.ok.0 ∙ none)
