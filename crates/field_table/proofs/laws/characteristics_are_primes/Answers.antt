use Rattle.std.proofs.Common.{refl}
use Rattle.field_table.proofs.TableFacts.{listed_prime, listed_small}
use Rattle.field_table.proofs.laws.characteristics_are_primes.Goals as goal

pub returns : goal.returns
returns c = record {
  prime = listed_prime;
  limit = listed_small;
  prime_1000003 = (refl, listed_prime 1000003 refl);
  prime_16777213 = (refl, listed_prime 16777213 refl);
}
