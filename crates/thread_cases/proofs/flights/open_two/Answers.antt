use Rattle.std.proofs.Common.{rules}
use Rattle.turn_board.specs.Passes.{view}
use Rattle.column_flight.proofs.OwnEvents.{HasNoClaim-nil}
use Rattle.thread_cases.proofs.flights.open_two.Goals as goal

pub returns-clause-none_first : goal.returns-clause-none_first
returns-clause-none_first c = HasNoClaim-nil (view c.in-Some-pop.first) (search rules)

pub returns-clause-none_second : goal.returns-clause-none_second
returns-clause-none_second c = HasNoClaim-nil (view c.in-Some.second) (search rules)
