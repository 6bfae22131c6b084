use Rattle.std.proofs.Common.{◌≡◌, None}
use Rattle.column_flight.specs.Flights.{claimer}
use Rattle.thread_cases.proofs.flights.give_up_in_turn.Given as goal

abbrev pub invariant-loop-round : goal.invariant-loop-round
invariant-loop-round l = (claimer l.state.events l.key ≡ None) × (l.state.setting ≡ l.fn.state.setting)
