use Rattle.std.proofs.Common.{arith, refl, rules}
use Rattle.hecke_columns.proofs.StepSums.{listed_none, listed_more, listed_all}
use Rattle.hecke_columns.proofs.walk.hits_of.Goals as goal

pub loop-step-init : goal.loop-step-init
loop-step-init c = listed_none c.args.level.now c.args.k c.args.steps.now _ c.requires.place (search rules)

pub loop-step-preserved : goal.loop-step-preserved
loop-step-preserved c = listed_more c.args.level.now c.args.k c.args.steps.now c.loop-step.step-index c.loop-step.hits.items c.push.new.self.items
    c.loop-step.hit c.image_after-hit.result _ _ c.requires.place c.requires.invertible c.loop-step-test.true refl
    c.image_after-hit.ensures.number c.image_after-hit.ensures.below c.in_ok-push.ensures.items c.loop-step.invariant

pub returns : goal.returns
returns c = record {
  hits = listed_all c.args.level.now c.args.k c.args.steps.now c.loop-step.step-index c.loop-step.hits.items c.loop-step.hit (omega arith)
      c.loop-step.invariant;
  places = c.loop-step.invariant.places;
}
