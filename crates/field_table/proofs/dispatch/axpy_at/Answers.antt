use Rattle.field_table.proofs.Lists.{sum_at}
use Rattle.field_table.proofs.dispatch.axpy_at.Goals as goal

pub returns-clause-sum : goal.returns-clause-sum
returns-clause-sum g c = sum_at c.args.field g.row.P c.args.c c.args.acc.now c.args.row.now c.axpy.new.acc c.axpy.ensures.sum c.requires.same
