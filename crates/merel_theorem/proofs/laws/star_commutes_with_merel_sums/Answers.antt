use Rattle.merel_theorem.proofs.Mirrors.{star_commutes}
use Rattle.merel_theorem.proofs.laws.star_commutes_with_merel_sums.Goals as goal

pub returns : goal.returns
returns c = record { star = star_commutes }
