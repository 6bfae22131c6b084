use Rattle.hecke_columns.proofs.StepSums.{AreStepped}
use Rattle.hecke_columns.proofs.walk.add_steps.Given as goal

-- the images along the steps so far are counted
abbrev pub invariant-loop-step : goal.invariant-loop-step
invariant-loop-step l = AreStepped l.level l.field l.k l.steps l.step-index l.fn.counts l.counts l.hit
