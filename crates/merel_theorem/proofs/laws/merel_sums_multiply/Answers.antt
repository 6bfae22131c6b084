use Rattle.merel_theorem.proofs.Multiplied.{one_congruent, multiplied}
use Rattle.merel_theorem.proofs.laws.merel_sums_multiply.Goals as goal

pub returns : goal.returns
returns c = record { one = one_congruent; multiply = multiplied }
