use Rattle.std.proofs.Common.{◌+◌, Some, ap, ◌∙◌}
use Rattle.turn_board.specs.Passes.{view}
use Rattle.hecke_columns.specs.Walks.{walk_number}
use Rattle.column_flight.specs.Shared.{flight_key}
use Rattle.column_flight.proofs.OwnEvents.{LeavesNoClaim-none, LeavesNoClaim-after, AddsOnly-after}
use Rattle.column_flight.proofs.flights.Flights.column_along.Goals as goal

pub try_column-requires-clause-unclaimed : goal.try_column-requires-clause-unclaimed
try_column-requires-clause-unclaimed g c κs within = λ has.
    LeavesNoClaim-none (flight_key (walk_number c.args.walk.now) c.args.symbol) (view c.args.pass.now)
    (view c.loop.pass) c.loop.invariant.4.seen c.loop.invariant.5
    (flight_key (walk_number c.args.walk.now) c.args.symbol) c.requires.unclaimed (has ∙ ap (λ n. Some (n + 1)) c.loop.invariant.4.number)

pub returns-in_err-column-clause-settled : goal.returns-in_err-column-clause-settled
returns-in_err-column-clause-settled g c =
    LeavesNoClaim-after (view c.args.pass.now) (view c.loop.pass) (view c.try_column.new.pass) c.loop.invariant.4.number
    (flight_key (walk_number c.args.walk.now) c.args.symbol) c.loop.invariant.4.seen c.loop.invariant.5 c.try_column.ensures.settled

pub returns-in_err-column-clause-own : goal.returns-in_err-column-clause-own
returns-in_err-column-clause-own g c =
    AddsOnly-after (view c.args.pass.now) (view c.loop.pass) (view c.try_column.new.pass) c.loop.invariant.4.number
    (flight_key (walk_number c.args.walk.now) c.args.symbol) c.loop.invariant.4.seen c.loop.invariant.5 c.try_column.ensures.own

pub returns-in-Some-2-clause-settled : goal.returns-in-Some-2-clause-settled
returns-in-Some-2-clause-settled g c =
    LeavesNoClaim-after (view c.args.pass.now) (view c.loop.pass) (view c.try_column.new.pass) c.loop.invariant.4.number
    (flight_key (walk_number c.args.walk.now) c.args.symbol) c.loop.invariant.4.seen c.loop.invariant.5 c.try_column.ensures.settled

pub returns-in-Some-2-clause-own : goal.returns-in-Some-2-clause-own
returns-in-Some-2-clause-own g c =
    AddsOnly-after (view c.args.pass.now) (view c.loop.pass) (view c.try_column.new.pass) c.loop.invariant.4.number
    (flight_key (walk_number c.args.walk.now) c.args.symbol) c.loop.invariant.4.seen c.loop.invariant.5 c.try_column.ensures.own
