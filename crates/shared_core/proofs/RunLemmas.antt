-- Runs of steps, one step longer.
use Rattle.std.proofs.Common.{ℕ, List, [], ◌∷◌, ◌++◌, refl, ap, subst}
use Rattle.quotient_coords.specs.Quotient.{Ground}
use Rattle.shared_core.specs.declared.step.CoreStep.{CoreStep}
use Rattle.shared_core.specs.declared.step.Outcome.{Outcome}
use Rattle.shared_core.specs.Core.{CoreState, IsLegalStep, IsStep, IsRun}

pub IsRun-push : (setting : Ground) (sessions : ℕ) (s mid t : CoreState) (steps : List CoreStep) (step : CoreStep) (outcomes : List Outcome)
    (o : Outcome) → IsRun setting sessions s steps outcomes mid
    → IsLegalStep setting sessions mid step → IsStep setting mid step o t → IsRun setting sessions s (steps ++ step ∷ []) (outcomes ++ o ∷ []) t
IsRun-push setting sessions s mid t [] step outcomes o run legal does = (
  o,
  t,
  [],
  subst (λ x. IsLegalStep setting sessions x step) run.1 legal,
  subst (λ x. IsStep setting x step o t) run.1 does,
  ap
      (λ l. l ++ o ∷ []) run.0,
  (refl, refl),
)
IsRun-push setting sessions s mid t (x ∷ steps) step outcomes o run legal does = (
  run.0,
  run.1,
  run.2 ++ o ∷ [],
  run.3,
  run.4,
  ap
      (λ l. l ++ o ∷ []) run.5,
  IsRun-push setting sessions run.1 mid t steps step run.2 o run.6 legal does,
)
