use Rattle.std.proofs.Common.{arith, refl}
use Rattle.hecke_columns.proofs.StepSums.{counted_none_stepped, counted_more_stepped, counted_all_stepped}
use Rattle.hecke_columns.proofs.walk.add_steps.Goals as goal

pub loop-step-init : goal.loop-step-init
loop-step-init c = counted_none_stepped c.args.level.now c.args.field c.args.k c.args.steps.now c.args.counts.now c.requires.place
    c.requires.residues

pub loop-step-preserved : goal.loop-step-preserved
loop-step-preserved c = counted_more_stepped c.args.level.now c.args.field c.args.k c.args.steps.now c.loop-step.step-index c.args.counts.now
    c.loop-step.counts c.loop-step.hit c.image_after-hit.result c.add.result _ _ c.requires.place c.requires.invertible c.loop-step-test.true refl
    c.image_after-hit.ensures.number c.image_after-hit.ensures.below
    (omega (arith, c.image_after-hit.ensures.below, c.requires.count, c.loop-step.auto.counts)) c.add.ensures.value c.add.ensures.below
    c.loop-step.invariant

pub returns-clause-sum : goal.returns-clause-sum
returns-clause-sum c = counted_all_stepped c.args.level.now c.args.field c.args.k c.args.steps.now c.loop-step.step-index c.args.counts.now
    c.loop-step.counts c.loop-step.hit (omega arith) c.loop-step.invariant
