use Rattle.merel_theorem.proofs.PolynomialLaws.{merel_polynomial, merel_powers}
use Rattle.merel_theorem.proofs.polynomials.merel_sums_are_polynomials.Goals as goal

pub returns : goal.returns
returns c = record { all = merel_polynomial; powers = merel_powers }
