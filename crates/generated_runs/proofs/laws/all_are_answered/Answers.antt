use Rattle.generated_runs.proofs.Answering.{all_answered}
use Rattle.generated_runs.proofs.laws.all_are_answered.Goals as goal

pub returns : goal.returns
returns c = record { law = all_answered }
