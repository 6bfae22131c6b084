-- The factorisation of a number into powers of primes, by trial division (Ireland and Rosen, A Classical Introduction to Modern Number Theory,
-- ch. 1).
--   least_from k d n       the least of the k numbers from d on that divides n, and d + k where none does
--   least_divisor n        the least divisor of n above 1, for n above 1
--   multiplicity k q n     how often q can be divided out of n, at most k times
--   prime_powers_within k n
--                          the least divisor of n above 1 with its multiplicity, and so on for what is left of n, for k divisors at most
--   prime_powers n         the pairs (q, e) of the primes q that divide n, rising, with the exponent e of q in n
--   product_of powers      the product of q^e over the pairs (q, e)
--   IsPrimeDivisor n q     q is a prime that divides n
--   IsFactorisation n powers
--                          the pairs have rising primes and exponents above 0, and n is their product
use Rattle.std.specs.Prelude.{◌≡◌, ◌<◌, ℕ, ◌-◌, ◌*◌, ◌/◌, ◌%◌, ◌^◌, List, [], ◌∷◌, map, nat_lt, if◌then◌else◌, All}
use Rattle.std.specs.List.Sorted.{IsStrictlyIncreasing}
use Rattle.std.proofs.Common.{zero, suc}
use Rattle.linear_algebra.specs.Prime.{IsPrime}
use Rattle.p1_normal.specs.Units.{divides}

abbrev pub least_from : ℕ → ℕ → ℕ → ℕ
least_from zero d n = d
least_from (suc k) d n = if divides d n then d else least_from k (suc d) n

abbrev pub least_divisor : ℕ → ℕ
least_divisor n = least_from (n - 2) 2 n

abbrev pub multiplicity : ℕ → ℕ → ℕ → ℕ
multiplicity zero q n = 0
multiplicity (suc k) q n = if divides q n then suc (multiplicity k q (n / q)) else 0

abbrev pub prime_powers_within : ℕ → ℕ → List (ℕ × ℕ)
prime_powers_within zero n = []
prime_powers_within (suc k) n =
    let q : ℕ = least_divisor n in
    let e : ℕ = multiplicity n q n in
    if nat_lt 1 n then (q, e) ∷ prime_powers_within k (n / q ^ e) else []

unfoldable pub prime_powers : ℕ → List (ℕ × ℕ)
prime_powers n = prime_powers_within n n

abbrev pub product_of : List (ℕ × ℕ) → ℕ
product_of [] = 1
product_of (t ∷ powers) = t.0 ^ t.1 * product_of powers

abbrev pub IsPrimeDivisor : ℕ → ℕ → Type 0
IsPrimeDivisor n q = IsPrime q × (n % q ≡ 0)

pub record IsFactorisation (n : ℕ) (powers : List (ℕ × ℕ)) : Type 0 where
  pub each : All (λ t. IsPrime t.0 × (0 < t.1)) powers
  pub rising : IsStrictlyIncreasing (map (λ t. t.0) powers)
  pub whole : product_of powers ≡ n
