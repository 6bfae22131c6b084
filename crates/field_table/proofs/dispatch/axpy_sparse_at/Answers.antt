use Rattle.field_table.proofs.Lists.{sparse_sum_at}
use Rattle.field_table.proofs.dispatch.axpy_sparse_at.Goals as goal

pub returns-clause-sum : goal.returns-clause-sum
returns-clause-sum g c = sparse_sum_at c.args.field g.row.P c.args.c c.args.acc.now c.axpy_sparse.new.acc c.args.terms.now c.axpy_sparse.ensures.sum
    c.requires.same
