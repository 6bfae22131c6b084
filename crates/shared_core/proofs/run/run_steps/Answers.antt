use Rattle.std.proofs.Common.{◌≡◌, ◌<◌, ◌+◌, length, take, ◌++◌, ◌∷◌, [], sym, ap, subst, ◌∙◌, arith}
use Rattle.std.proofs.lemmas.List.{take_more}
use Rattle.shared_core.specs.Core.{IsRun, core_start}
use Rattle.shared_core.specs.Machines.{core_state}
use Rattle.shared_core.proofs.RunLemmas.{IsRun-push}
use Rattle.shared_core.proofs.run.run_steps.Goals as goal

pub loop-place-preserved : goal.loop-place-preserved
loop-place-preserved c =
    let within : c.loop-place.place < length c.args.steps.now = omega arith in
    let taken : take (c.loop-place.place + 1) c.args.steps.now ≡ take c.loop-place.place c.args.steps.now ++ c.index-steps-place.result ∷ []
    = take_more c.args.steps.now c.loop-place.place c.index-steps-place.result within
    ∙ ap (λ s. take c.loop-place.place c.args.steps.now ++ s ∷ []) (sym c.index-steps-place.is) in
    record {
      machine = c.in_ok-outcome.ensures.machine;
      run = subst (λ l. IsRun c.args.space.now c.args.sessions (core_start c.args.sessions) l c.push_reserved.new.self.items
          (core_state c.run_act.new.machine)) (sym taken)
          (subst (λ l. IsRun c.args.space.now c.args.sessions (core_start c.args.sessions)
          (take c.loop-place.place c.args.steps.now ++ c.index-steps-place.result ∷ []) l (core_state c.run_act.new.machine))
          (sym c.push_reserved.ensures.items)
          (IsRun-push _ _ _ _ _ _ c.index-steps-place.result _ _ c.loop-place.invariant.run
          (c.is_legal.ensures.0 c.if-not-is_legal.false) c.in_ok-outcome.ensures.done));
      count = omega (arith, c.push_reserved.ensures.len, c.loop-place.invariant.count);
      room = omega (arith, c.push_reserved.ensures.capacity, c.loop-place.invariant.room);
    }
