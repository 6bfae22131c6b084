use Rattle.generated_runs.proofs.Summaries.{generated_fits, sums_fixed}
use Rattle.generated_runs.proofs.laws.generated_images_are_fixed.Goals as goal

pub returns : goal.returns
returns c = record { fit = generated_fits; sums = sums_fixed }
