use Rattle.merel_theorem.proofs.PrimePowers.{factorisation}
use Rattle.merel_theorem.proofs.polynomials.prime_powers_are_the_factorisation.Goals as goal

pub returns : goal.returns
returns c = record { law = factorisation }
