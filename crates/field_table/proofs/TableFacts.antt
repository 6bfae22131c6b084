-- The numbers of the table are primes below 2^24.
use Rattle.std.proofs.Common.{◌≡◌, ◌≢◌, ◌<◌, ◌^◌, ℕ, List, [], ◌∷◌, refl, sym, subst, eqb-true, true, nat_eq, nat_lt, ltb-true, ⊎_elim}
use Rattle.std.proofs.lemmas.Bool.{or_cases}
use Rattle.std.specs.List.{list_any}
use Rattle.linear_algebra.specs.Prime.{IsPrime, passes_trial}
use Rattle.linear_algebra.specs.Span.{Each, none, more}
use Rattle.linear_algebra.specs.Residue.{Residue, residue, ◌⊗◌}
use Rattle.linear_algebra.proofs.Primes.{prime_by_trial}
use Rattle.linear_algebra.proofs.ResidueLaws.{zero_or_inverse}
use Rattle.field_table.specs.declared.table.TheConstants.{CHARACTERISTICS}
use Rattle.field_table.specs.Table.{IsListed}

-- a prime below 2^24
record IsSmallPrime (p : ℕ) : Type 0 where
  prime : IsPrime p
  small : p < 2 ^ 24

-- what trial division by the numbers to k + 1 shows of p
by_trial : (k p : ℕ) → passes_trial k p ≡ true → nat_lt p (2 ^ 24) ≡ true → IsSmallPrime p
by_trial k p tried small = record { prime = prime_by_trial k p tried; small = ltb-true p (2 ^ 24) small }

-- each number of the table is a prime below 2^24
all_small_primes : Each IsSmallPrime CHARACTERISTICS
all_small_primes = more (by_trial 0 2 refl refl) (more (by_trial 0 3 refl refl) (more (by_trial 1 5 refl refl) (more (by_trial 1 7 refl refl)
    (more (by_trial 2 11 refl refl) (more (by_trial 2 13 refl refl) (more (by_trial 3 17 refl refl) (more (by_trial 9 101 refl refl)
    (more (by_trial 30 1009 refl refl) (more (by_trial 99 10007 refl refl)
    (more (by_trial 177 32003 refl refl) (more (by_trial 254 65521 refl refl) (more (by_trial 999 1000003 refl refl)
    (more (by_trial 4095 16777213 refl refl) none)))))))))))))

-- what holds of each number of a list holds of a number that the test finds there
at_found : (P : ℕ → Type 0) (p : ℕ) (qs : List ℕ) → Each P qs → list_any (nat_eq p) qs ≡ true → P p
at_found P p [] none found = absurd cc
at_found P p (q ∷ qs) (more h hs) found =
    ⊎_elim (λ same. subst P (sym (eqb-true p q same)) h) (λ later. at_found P p qs hs later) (or_cases (nat_eq p q) (list_any (nat_eq p) qs) found)

-- a listed number is prime
pub listed_prime : (p : ℕ) → IsListed p → IsPrime p
listed_prime p listed = (at_found IsSmallPrime p CHARACTERISTICS all_small_primes listed).prime

-- a listed number is below 2^24
pub listed_small : (p : ℕ) → IsListed p → p < 2 ^ 24
listed_small p listed = (at_found IsSmallPrime p CHARACTERISTICS all_small_primes listed).small

-- a listed number is above 1
pub listed_above_one : (p : ℕ) → IsListed p → 1 < p
listed_above_one p listed = (listed_prime p listed).above_one

-- a residue other than 0 of a listed characteristic has an inverse
pub listed_inverse : (p : ℕ) → IsListed p → (a : Residue p) → a ≢ residue p 0 → (b : Residue p) × (a ⊗ b ≡ residue p 1)
listed_inverse p listed a some = ⊎_elim (λ zero. absurd (some zero)) (λ found. found) (zero_or_inverse (listed_prime p listed) a)
