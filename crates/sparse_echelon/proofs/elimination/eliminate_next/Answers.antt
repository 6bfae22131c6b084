use Rattle.std.proofs.Common.{rules}
use Rattle.field_table.specs.Table.{IsListed}
use Rattle.field_table.proofs.TableFacts.{listed_prime}
use Rattle.sparse_echelon.proofs.Repeating.{stored_repeated}
use Rattle.sparse_echelon.proofs.elimination.eliminate_next.Goals as goal

pub returns-then-is_repeated-clause-stored : goal.returns-then-is_repeated-clause-stored
returns-then-is_repeated-clause-stored c =
    let listed : IsListed c.args.field = search rules in
    stored_repeated _ (listed_prime c.args.field listed) c.args.n _ _ _ _ c.requires.stored c.requires.number
    (c.is_repeated.ensures c.if-is_repeated.true)
