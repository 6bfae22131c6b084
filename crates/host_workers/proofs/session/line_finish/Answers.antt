use Rattle.std.proofs.Common.{◌+◌, length, subst}
use Rattle.turn_board.specs.Passes.{view}
use Rattle.session_core.proofs.AnswerLemmas.{line_demand_of}
use Rattle.host_workers.specs.Sessions.{HasFlown}
use Rattle.host_workers.proofs.session.line_finish.Goals as goal

pub returns-in-Ok-clause-flown : goal.returns-in-Ok-clause-flown
returns-in-Ok-clause-flown g c =
    subst (λ pairs. HasFlown pairs ((view c.args.columns.now).number + 1) c.prepared_finish.result (view c.args.columns.now).seen
    (view c.prepared_finish.new.columns).seen)
    (line_demand_of c.args.space.now c.args.version (length c.args.splitting.now.parts) c.args.line.now.text c.in-Ok.prepared c.in-Ok.ensures.prepared)
    c.prepared_finish.ensures.flown
