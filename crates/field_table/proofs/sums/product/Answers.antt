use Rattle.std.proofs.lemmas.Result.{IfOk-weaker}
use Rattle.field_table.proofs.Merging.{sum_of_none}
use Rattle.field_table.proofs.sums.product.Goals as goal

pub returns-clause-product : goal.returns-clause-product
returns-clause-product c = IfOk-weaker c.plus_multiple.result _ _ (λ z sum. sum_of_none c.args.field c.args.c c.args.terms.now z sum)
    c.plus_multiple.ensures.sum
