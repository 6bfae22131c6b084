use Rattle.std.proofs.Common.{length, subst}
use Rattle.session_core.specs.Demands.{GathersFor}
use Rattle.session_core.proofs.AnswerLemmas.{line_demand_of}
use Rattle.session_core.proofs.host.line_finish.Goals as goal

pub returns-in-Ok-clause-columns : goal.returns-in-Ok-clause-columns
returns-in-Ok-clause-columns c =
    subst (λ pairs. GathersFor pairs c.prepared_finish.result c.args.columns.now.pairs c.prepared_finish.new.columns.pairs)
    (line_demand_of c.args.space.now c.args.version (length c.args.splitting.now.parts) c.args.line.now.text c.in-Ok.prepared c.in-Ok.ensures.prepared)
    c.prepared_finish.ensures.columns
