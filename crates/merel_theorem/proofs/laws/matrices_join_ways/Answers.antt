use Rattle.merel_theorem.proofs.Signs.{has_ways}
use Rattle.merel_theorem.proofs.laws.matrices_join_ways.Goals as goal

pub returns : goal.returns
returns c = record { ways = has_ways }
