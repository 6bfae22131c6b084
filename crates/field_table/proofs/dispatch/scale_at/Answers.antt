use Rattle.field_table.proofs.Lists.{product_at}
use Rattle.field_table.proofs.dispatch.scale_at.Goals as goal

pub returns-clause-product : goal.returns-clause-product
returns-clause-product g c = product_at c.args.field g.row.P c.args.c c.args.acc.now c.scale.new.acc c.scale.ensures.product c.requires.same
