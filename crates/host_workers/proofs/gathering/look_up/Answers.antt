use Rattle.turn_board.specs.Passes.{view}
use Rattle.hecke_columns.specs.Walks.{walk_number}
use Rattle.column_flight.specs.Shared.{setting_of}
use Rattle.host_workers.proofs.Lookups.{IsLookup-found}
use Rattle.host_workers.proofs.gathering.look_up.Goals as goal

pub returns-in_ok-push-in-Some-clause-lookup : goal.returns-in_ok-push-in-Some-clause-lookup
returns-in_ok-push-in-Some-clause-lookup g c = λ given lookup.
    IsLookup-found c.args.space.now (setting_of c.args.flights.now) (walk_number c.args.walk.now) (view c.args.pass.now).seen
    (view c.try_column.new.pass).seen given c.args.lookup.now.found.items c.push.new.self.items c.args.lookup.now.missing.items c.args.symbol
    c.in_ok-column.field-0 c.in-Some.column c.requires.pass.setting c.requires.place c.in-Some.is c.in_ok-push-in-Some.ensures.items
    c.try_column.ensures.later.seen c.in_ok-column.ensures.column c.in_ok-column.ensures.published lookup
