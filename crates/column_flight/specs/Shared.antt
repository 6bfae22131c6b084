-- The flights that threads share. old and new are the views of a pass before and after a call, and the session of a pass is its number plus 1.
--   board_of flights          their board
--   setting_of flights        the level and the characteristic of their space
--   flight_key n k            the key of determinant n and symbol k
--   key_along w k             the key of the column of symbol k along the walk w
--   own_since number old new  the events of the list new past the list old that name the pass of this number
--   own_events old new        those of the call that name its pass
--   after number look         the standing of the key once the pass of this number has this answer
--   MayPublish key old new    the call appended nothing, or the claim of its pass on the key and then its publication
--   MayAbandon key old new    the call appended nothing, or the claim of its pass on the key and then its abandonment
--   HasNoClaim v              no claim of the pass of this view is unsettled
--   LeavesNoClaim old new     the pass has no unsettled claim that it had not before
--   AddsOnly key old new      each event of the pass stood there before, or is of the key
--   IsElsewhere key old new   the call appended nothing, and the unsettled claim on the key is that of another session
use Rattle.std.specs.Prelude.{◌≡◌, ◌≢◌, ◌⊎◌, ℕ, ◌+◌, nat_eq, List, [], ◌∷◌, Some, length, drop, filter, slice_get}
use Rattle.quotient_coords.specs.Quotient.{Ground}
use Rattle.hecke_columns.specs.declared.ways.Walk.{Walk}
use Rattle.hecke_columns.specs.Walks.{walk_number}
use Rattle.turn_board.specs.declared.board.Board.{Board}
use Rattle.turn_board.specs.declared.view.View.{View}
use Rattle.turn_board.specs.Passes.{opening_state}
use Rattle.column_flight.specs.declared.event.FlightKey.{FlightKey}
use Rattle.column_flight.specs.declared.event.FlightEvent.{FlightEvent}
use Rattle.column_flight.specs.declared.event.FlightEvent.TheVariants.{Claim, Publish, Abandon}
use Rattle.column_flight.specs.declared.look.Look.{Look}
use Rattle.column_flight.specs.declared.look.Look.TheVariants.{Ready, Pending, Mine}
use Rattle.column_flight.specs.declared.flights.Flights.{Flights}
use Rattle.column_flight.specs.Flights.{FlightHistory, Standing, claimed, published, claimer, key_of, maker_of}

abbrev pub board_of : Flights → Board FlightHistory FlightEvent
board_of flights = flights.board

abbrev pub setting_of : Flights → Ground
setting_of flights = (opening_state flights.board).setting

abbrev pub flight_key : ℕ → ℕ → FlightKey
flight_key n k = record { n = n; symbol = k }

abbrev pub key_along : Walk → ℕ → FlightKey
key_along w k = flight_key (walk_number w) k

abbrev pub own_since : ℕ → List FlightEvent → List FlightEvent → List FlightEvent
own_since number old new = filter (λ e. nat_eq (maker_of e) (number + 1)) (drop (length old) new)

abbrev pub own_events : View FlightEvent → View FlightEvent → List FlightEvent
own_events old new = own_since old.number old.seen new.seen

abbrev pub after : ℕ → Look → Standing
after number (Ready column) = published
after number (Pending key by) = claimed by
after number (Mine ticket) = claimed (number + 1)

abbrev pub MayPublish : FlightKey → View FlightEvent → View FlightEvent → Type 0
MayPublish key old new =
    (own_events old new ≡ []) ⊎ (own_events old new ≡ Claim key (old.number + 1) ∷ Publish key (old.number + 1) ∷ [])

abbrev pub MayAbandon : FlightKey → View FlightEvent → View FlightEvent → Type 0
MayAbandon key old new =
    (own_events old new ≡ []) ⊎ (own_events old new ≡ Claim key (old.number + 1) ∷ Abandon key (old.number + 1) ∷ [])

abbrev pub HasNoClaim : View FlightEvent → Type 0
HasNoClaim v = (key : FlightKey) → claimer v.seen key ≢ Some (v.number + 1)

abbrev pub LeavesNoClaim : View FlightEvent → View FlightEvent → Type 0
LeavesNoClaim old new = (key : FlightKey) → claimer old.seen key ≢ Some (old.number + 1) → claimer new.seen key ≢ Some (old.number + 1)

abbrev pub AddsOnly : FlightKey → View FlightEvent → View FlightEvent → Type 0
AddsOnly key old new = (k : ℕ) (e : FlightEvent) → slice_get new.seen k ≡ Some e → maker_of e ≡ old.number + 1
    → (slice_get old.seen k ≡ Some e) ⊎ (key_of e ≡ key)

pub record IsElsewhere (key : FlightKey) (old new : View FlightEvent) : Type 0 where
  pub none : own_events old new ≡ []
  pub by : ℕ
  pub claim : claimer new.seen key ≡ Some by
  pub other : by ≢ old.number + 1
