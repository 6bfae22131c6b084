use Rattle.std.proofs.Common.{◌≡◌, ◌%◌, ℕ, ◌∙◌, ap}
use Rattle.std.specs.Prelude.{count_by, nat_eq}
use Rattle.std.proofs.Math.Nat.{mod-mod}
use Rattle.linear_algebra.specs.Residue.{residue}
use Rattle.linear_algebra.proofs.ResidueLaws.{same_from_mod}
use Rattle.p1_normal.specs.Relations.{relation_symbols}
use Rattle.manin_relations.specs.Relations.{relation}
use Rattle.manin_relations.proofs.row.relation_at.Goals as goal

-- a count and its remainder are one residue
counted : (p q N k s n : ℕ) → q ≡ p → n ≡ count_by (nat_eq s) (relation_symbols N k) → residue p (n % q) ≡ relation {p = p} N k s
unfolding relation
counted p q N k s n same is = ap (λ i. residue p (n % i)) same ∙ same_from_mod p (n % p) n (mod-mod n p) ∙ ap (residue p) is

pub returns-clause-value : goal.returns-clause-value
returns-clause-value c = counted c.args.field c.characteristic.result c.args.level.now c.args.k c.args.symbol c.occurrences.result
    c.characteristic.ensures.value c.occurrences.ensures.count
