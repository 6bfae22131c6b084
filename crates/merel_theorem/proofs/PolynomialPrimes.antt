-- Each prime in the polynomial of n divides n.
use Rattle.std.proofs.Common.{◌<◌, ℕ, List, ◌∷◌}
use Rattle.std.specs.Prelude.{pos}
use Rattle.merel_theorem.specs.PrimePowers.{IsPrimeDivisor}
use Rattle.merel_theorem.specs.Polynomials.{power_polynomial, product_polynomial, hecke_polynomial, HasPrimes}
use Rattle.merel_theorem.proofs.PrimePowers.{Parts, by_factors, divisor_of_whole}
use Rattle.merel_theorem.proofs.Values.{constant-primes, times-primes, power-primes, primes_weaker}

abbrev IsOver : ℕ → List (ℕ × ℕ) → Type 0
IsOver n powers = HasPrimes (IsPrimeDivisor n) (product_polynomial powers)

pub product_over : (n q e m : ℕ) (powers : List (ℕ × ℕ)) → Parts n q e m → IsOver m powers → HasPrimes (IsPrimeDivisor n) (product_polynomial powers)
product_over n q e m powers h over = primes_weaker (IsPrimeDivisor m) (IsPrimeDivisor n)
    (λ r k. (k.0, divisor_of_whole n q e m r h.whole k.1)) (product_polynomial powers) over

pub next_over : (n q e m : ℕ) (powers : List (ℕ × ℕ)) → Parts n q e m → IsOver m powers → IsOver n ((q, e) ∷ powers)
next_over n q e m powers h over = times-primes (IsPrimeDivisor n) (power_polynomial q e) (product_polynomial powers)
    (power-primes (IsPrimeDivisor n) q e (h.prime, h.divisor)) (product_over n q e m powers h over)

pub prime_divisors : (n : ℕ) → 0 < n → HasPrimes (IsPrimeDivisor n) (hecke_polynomial n)
unfolding hecke_polynomial
prime_divisors n some = by_factors IsOver (constant-primes (IsPrimeDivisor 1) (pos 1)) next_over n some
