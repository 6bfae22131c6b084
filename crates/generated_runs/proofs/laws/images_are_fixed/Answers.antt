use Rattle.generated_runs.proofs.FixedImages.{image_fixed}
use Rattle.generated_runs.proofs.laws.images_are_fixed.Goals as goal

pub returns : goal.returns
returns c = record { law = image_fixed }
