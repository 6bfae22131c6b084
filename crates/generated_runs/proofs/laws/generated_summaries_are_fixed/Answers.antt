use Rattle.generated_runs.proofs.Summaries.{figures_fixed, summaries_fixed}
use Rattle.generated_runs.proofs.laws.generated_summaries_are_fixed.Goals as goal

pub returns : goal.returns
returns c = record { figures = figures_fixed; summaries = summaries_fixed }
