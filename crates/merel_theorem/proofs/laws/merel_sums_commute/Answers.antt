use Rattle.merel_theorem.proofs.Products.{commute}
use Rattle.merel_theorem.proofs.laws.merel_sums_commute.Goals as goal

pub returns : goal.returns
returns c = record { commute = commute }
