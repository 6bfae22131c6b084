use Rattle.generated_runs.proofs.Histories.{full_count}
use Rattle.generated_runs.proofs.laws.splits_fill_histories.Goals as goal

pub returns : goal.returns
returns c = record { law = full_count }
