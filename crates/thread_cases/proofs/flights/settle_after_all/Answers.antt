use Rattle.std.proofs.Common.{ap, ◌∙◌}
use Rattle.column_flight.specs.Flights.{claimer}
use Rattle.column_flight.specs.Shared.{flight_key}
use Rattle.column_flight.proofs.FlightEvents.{claimer-nil}
use Rattle.thread_cases.proofs.flights.settle_after_all.Goals as goal

pub give_up_in_turn-requires : goal.give_up_in_turn-requires
give_up_in_turn-requires c = ap (λ l. claimer l (flight_key c.det-n.result 0)) c.requires.new ∙ claimer-nil (flight_key c.det-n.result 0)
