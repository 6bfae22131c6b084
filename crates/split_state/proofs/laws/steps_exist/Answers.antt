use Rattle.split_state.proofs.NextSteps.{step_exists}
use Rattle.split_state.proofs.laws.steps_exist.Goals as goal

pub returns : goal.returns
returns c = record { law = step_exists }
