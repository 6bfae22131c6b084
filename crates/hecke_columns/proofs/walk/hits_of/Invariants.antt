use Rattle.hecke_columns.proofs.StepSums.{AreListed}
use Rattle.hecke_columns.proofs.walk.hits_of.Given as goal

-- the images along the steps so far are listed
abbrev pub invariant-loop-step : goal.invariant-loop-step
invariant-loop-step l = AreListed l.level l.k l.steps l.step-index l.hits.items l.hit
