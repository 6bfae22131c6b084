use Rattle.turn_board.specs.Passes.{view}
use Rattle.hecke_columns.specs.Walks.{walk_number}
use Rattle.column_flight.specs.Shared.{setting_of}
use Rattle.host_workers.proofs.Lookups.{IsLookup-came}
use Rattle.host_workers.proofs.gathering.await_column.Goals as goal

pub returns-clause-lookup : goal.returns-clause-lookup
returns-clause-lookup g c = λ given missing lookup.
    IsLookup-came c.args.space.now (setting_of c.args.flights.now) (walk_number c.args.walk.now) (view c.args.pass.now).seen
    (view c.column_along.new.pass).seen given c.args.found.now.items c.push.new.self.items missing c.args.symbol c.in_ok-column.column
    c.requires.pass.setting c.requires.place c.in_ok-push.ensures.items c.column_along.ensures.later.seen c.in_ok-column.ensures.column
    c.in_ok-column.ensures.published lookup
