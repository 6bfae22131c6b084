use Rattle.session_core.proofs.OperatorLemmas.{answers_are_sums}
use Rattle.session_core.proofs.laws.images_are_sums.Goals as goal

pub returns : goal.returns
returns c = record { law = answers_are_sums }
