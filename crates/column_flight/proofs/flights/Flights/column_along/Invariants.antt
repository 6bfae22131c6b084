use Rattle.std.proofs.Common.{◌≡◌, ◌≤◌, [], false}
use Rattle.turn_board.specs.Passes.{Continues, IsOf, view}
use Rattle.column_flight.specs.declared.columns.TheConstants.{MAX_YIELDS}
use Rattle.column_flight.specs.Shared.{board_of, own_events}
use Rattle.column_flight.proofs.flights.Flights.column_along.Given as goal

abbrev pub invariant-loop : goal.invariant-loop
invariant-loop g l =
    (goal.iterator-loop g).can_next l.iterator' × (goal.iterator-loop g).is_finite l.iterator'
    × IsOf (board_of l.self) l.pass
    × ((view l.pass).has_turn ≡ false)
    × Continues l.fn.pass l.pass
    × (own_events (view l.fn.pass) (view l.pass) ≡ [])
    × (l.yields ≤ MAX_YIELDS)
