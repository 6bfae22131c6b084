use Rattle.turn_board.specs.Passes.{view}
use Rattle.hecke_columns.specs.Walks.{walk_number}
use Rattle.column_flight.specs.Shared.{flight_key}
use Rattle.column_flight.proofs.OwnEvents.{no_claim_left, only_added}
use Rattle.column_flight.proofs.flights.Flights.try_column.Goals as goal

pub returns-clause-settled : goal.returns-clause-settled
returns-clause-settled g c =
    no_claim_left c.visit.result (flight_key (walk_number c.args.walk.now) c.args.symbol) (view c.args.pass.now) (view c.visit.new.pass)
    c.visit.ensures.later.seen c.visit.ensures.made c.visit.ensures.refused

pub returns-clause-own : goal.returns-clause-own
returns-clause-own g c =
    only_added c.visit.result (flight_key (walk_number c.args.walk.now) c.args.symbol) (view c.args.pass.now) (view c.visit.new.pass)
    c.visit.ensures.later.seen c.visit.ensures.made c.visit.ensures.refused
