use Rattle.std.proofs.Common.{refl, sym, ap, subst, ◌∙◌, ◌++◌, ◌∷◌, [], arith}
use Rattle.std.proofs.lemmas.List.{replicate-append-replicate}
use Rattle.split_state.specs.Versions.{IsVersion}
use Rattle.shared_core.specs.Learning.{AreLearnt, counts}
use Rattle.shared_core.proofs.LearntLemmas.{AreLearnt-nil, AreLearnt-nothing, counts-push}
use Rattle.shared_core.proofs.run.nothing_learnt.Goals as goal

pub loop-init : goal.loop-init
loop-init c = record {
  learnt = subst (AreLearnt c.args.versions.now.setting c.args.versions.now.entries) (sym c.in_ok-learnt.ensures.items) (AreLearnt-nil _ _);
  counts_are = ap counts c.in_ok-learnt.ensures.items;
  count = c.in_ok-learnt.ensures.len;
  room = omega (arith, c.in_ok-learnt.ensures.capacity);
}

pub loop-preserved : goal.loop-preserved
loop-preserved c =
    let version = subst (IsVersion c.args.versions.now.setting c.args.versions.now.entries) (sym c.in_ok-splitting.ensures.cases) c.newest.ensures in
    record {
      learnt = subst (AreLearnt c.args.versions.now.setting c.args.versions.now.entries) (sym c.push_reserved.ensures.items)
          (AreLearnt-nothing _ _ _
          (record { count = 0; splitting = c.in_ok-splitting.splitting }) c.loop.invariant.learnt c.requires.none refl version);
      counts_are = ap counts c.push_reserved.ensures.items ∙ counts-push c.loop.learnt.items
          (record { count = 0; splitting = c.in_ok-splitting.splitting }) ∙ ap (λ l. l ++ 0 ∷ []) c.loop.invariant.counts_are
          ∙ replicate-append-replicate c.loop.counter 1 0;
      count = omega (arith, c.push_reserved.ensures.len, c.loop.invariant.count);
      room = omega (arith, c.push_reserved.ensures.capacity, c.loop.invariant.room);
    }
