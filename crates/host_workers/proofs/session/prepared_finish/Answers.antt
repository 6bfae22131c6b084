use Rattle.std.proofs.Common.{◌+◌, refl}
use Rattle.turn_board.specs.Passes.{view}
use Rattle.host_workers.proofs.Tries.{demand_flown}
use Rattle.host_workers.proofs.session.prepared_finish.Goals as goal

pub returns-in-Ok-clause-flown : goal.returns-in-Ok-clause-flown
returns-in-Ok-clause-flown g c =
    demand_flown c.args.space.now c.args.prepared.now.ground c.args.prepared.now.command c.demand.result.now ((view c.args.columns.now).number + 1)
    c.finish.result (view c.args.columns.now).seen (view c.gathered.new.pass).seen c.requires.ground c.demand.ensures.demand
    c.gathered.ensures.flies (λ some. c.in-Ok.ensures.held)

pub returns-in-Err-clause-flown : goal.returns-in-Err-clause-flown
returns-in-Err-clause-flown g c =
    demand_flown c.args.space.now c.args.prepared.now.ground c.args.prepared.now.command c.demand.result.now ((view c.args.columns.now).number + 1)
    _ (view c.args.columns.now).seen (view c.gathered.new.pass).seen c.requires.ground c.demand.ensures.demand
    c.gathered.ensures.flies (λ some. absurd (some refl))
