use Rattle.field_table.proofs.TableFacts.{listed_prime}
use Rattle.field_table.proofs.field.Field.inverse.Goals as goal

pub inverse_modulo-requires-clause-prime : goal.inverse_modulo-requires-clause-prime
inverse_modulo-requires-clause-prime c = listed_prime c.self.inside.p c.self.invariant
