use Rattle.std.proofs.Math.Decide.{ℕ_discrete}
use Rattle.field_table.proofs.Gathering.{gathered_some, gathered_zero, IsRun}
use Rattle.field_table.proofs.gather.sums_by_place.Goals as goal

pub loop-start-preserved : goal.loop-start-preserved
loop-start-preserved c =
    let run : IsRun c.args.field c.args.terms.now c.loop-start.start c.run_from-run.result.sum c.run_from-run.result.end =
    record {
      after = c.run_from-run.ensures.after;
      within = c.run_from-run.ensures.within;
      ended = c.run_from-run.ensures.ended;
      total =
          c.run_from-run.ensures.sum;
      below = c.run_from-run.ensures.below;
    } in
    elim (ℕ_discrete c.run_from-run.result.sum 0) [
      | yes none ↦ rw (c.in_ok-push_nonzero.ensures.zero none) (gathered_zero _ _ _ _ _ _ c.requires.order run c.loop-start-test.true
          c.loop-start.invariant none)
      | no some ↦ rw (c.in_ok-push_nonzero.ensures.some some) (gathered_some _ _ _ _ _ _ c.requires.order run c.loop-start-test.true
          c.loop-start.invariant some)
    ]
