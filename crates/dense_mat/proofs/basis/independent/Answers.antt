use Rattle.std.proofs.Common.{rules, refl}
use Rattle.field_table.specs.Table.{IsListed}
use Rattle.field_table.proofs.TableFacts.{listed_prime}
use Rattle.dense_mat.proofs.Bases.{independent_where_full}
use Rattle.dense_mat.proofs.basis.independent.Goals as goal

pub returns : goal.returns
returns c =
    let listed : IsListed c.args.field = search rules in
    independent_where_full c.args.field c.args.width (listed_prime c.args.field listed) c.args.rows.now _ c.in_ok-basis.ensures _ _
    c.dim.ensures.count refl
