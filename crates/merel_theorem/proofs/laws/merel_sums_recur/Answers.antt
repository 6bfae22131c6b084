use Rattle.merel_theorem.proofs.Powers.{recurrence, powers}
use Rattle.merel_theorem.proofs.laws.merel_sums_recur.Goals as goal

pub returns : goal.returns
returns c = record { recur = recurrence; powers = powers }
