use Rattle.merel_theorem.proofs.PolynomialPrimes.{prime_divisors}
use Rattle.merel_theorem.proofs.polynomials.hecke_polynomials_have_prime_divisors.Goals as goal

pub returns : goal.returns
returns c = record { law = prime_divisors }
