use Rattle.std.proofs.Common.{◌∙◌, arith}
use Rattle.field_table.proofs.Quotients.{rest_by_quotient}
use Rattle.field_table.proofs.multiple.Multiple.times.Goals as goal

pub reduced_once-requires-clause-range : goal.reduced_once-requires-clause-range
reduced_once-requires-clause-range g c = (rest_by_quotient g.row.P c.args.self.now.factor c.args.b c.quotient-quotient.result c.requires.below
    (omega arith) c.quotient-quotient.ensures).below

pub returns : goal.returns
returns g c = c.reduced_once.ensures ∙ (rest_by_quotient g.row.P c.args.self.now.factor c.args.b c.quotient-quotient.result c.requires.below
    (omega arith) c.quotient-quotient.ensures).same
