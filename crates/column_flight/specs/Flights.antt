-- Flights: which session computes which Hecke column. A flight is the history of one key: a session claims it, and then publishes the
-- column or abandons the claim. Events stand in a list, the first one first.
--   same_key a b              the keys are equal
--   key_of e, maker_of e      the key of an event, and the session that it names
--   is_published events key   a publication of the key stands among the events
--   claimer events key        the session whose claim on the key is unsettled: no publication and no abandonment of the key follows it
--   standing events key       published, where it is published; else claimed by its claimer, where it has one; else free
--   IsAllowed events e        after these events e may stand: a claim where the key is free, a publication or an abandonment where the
--                             session has the unsettled claim on the key
--   IsLegalFlights events     each event is allowed after those before it
--   publications events       how many publications stand among the events
--   published_keys events     the keys of the publications, in their order
--   held_keys events          the keys of the claims that no abandonment of the key follows, in their order: those that are published or
--                             have an unsettled claim, in the order of their last claims
--   FlightClaim               a claim: its key and its session
--   FlightHistory             what a flight state stands for: its events, and the level and the characteristic of its columns
--   IsColumnAt setting key c  the column c is that of the key, at the level and the characteristic
use Rattle.std.specs.Prelude.{◌≡◌, ℕ, Bool, true, false, ◌&&◌, not, if◌then◌else◌, nat_eq, List, [], ◌∷◌, Option, Some, None, filter, fold, map, take, slice_get, count_by}
use Rattle.std.specs.List.{list_any}
use Rattle.quotient_coords.specs.Quotient.{Ground}
use Rattle.hecke_columns.specs.Hecke.{HeckeColumn}
use Rattle.column_flight.specs.declared.event.FlightKey.{FlightKey}
use Rattle.column_flight.specs.declared.event.FlightEvent.{FlightEvent}
use Rattle.column_flight.specs.declared.event.FlightEvent.TheVariants.{Claim, Publish, Abandon}

abbrev pub same_key : FlightKey → FlightKey → Bool
same_key a b = nat_eq a.n b.n && nat_eq a.symbol b.symbol

abbrev pub key_of : FlightEvent → FlightKey
key_of (Claim key by) = key
key_of (Publish key by) = key
key_of (Abandon key by) = key

abbrev pub maker_of : FlightEvent → ℕ
maker_of (Claim key by) = by
maker_of (Publish key by) = by
maker_of (Abandon key by) = by

abbrev pub is_claim : FlightEvent → Bool
is_claim (Claim key by) = true
is_claim (Publish key by) = false
is_claim (Abandon key by) = false

abbrev pub is_publication : FlightEvent → Bool
is_publication (Claim key by) = false
is_publication (Publish key by) = true
is_publication (Abandon key by) = false

abbrev pub is_abandonment : FlightEvent → Bool
is_abandonment (Claim key by) = false
is_abandonment (Publish key by) = false
is_abandonment (Abandon key by) = true

-- a test of the events, at one key
abbrev pub at_key : (FlightEvent → Bool) → FlightKey → FlightEvent → Bool
at_key test key e = test e && same_key key (key_of e)

unfoldable pub is_published : List FlightEvent → FlightKey → Bool
is_published events key = list_any (at_key is_publication key) events

-- the claimer with which an event leaves its key
abbrev pub claimer_of : FlightEvent → Option ℕ
claimer_of (Claim key by) = Some by
claimer_of (Publish key by) = None
claimer_of (Abandon key by) = None

abbrev pub claimer_after : FlightKey → Option ℕ → FlightEvent → Option ℕ
claimer_after key before e = if same_key key (key_of e) then claimer_of e else before

unfoldable pub claimer : List FlightEvent → FlightKey → Option ℕ
claimer events key = fold (claimer_after key) None events

pub data Standing : Type 0 where
  free : Standing
  claimed : ℕ → Standing
  published : Standing

-- the standing of a key that is not published, by its claimer
abbrev pub claim_standing : Option ℕ → Standing
claim_standing None = free
claim_standing (Some by) = claimed by

unfoldable pub standing : List FlightEvent → FlightKey → Standing
standing events key = if is_published events key then published else claim_standing (claimer events key)

abbrev pub IsAllowed : List FlightEvent → FlightEvent → Type 0
IsAllowed events (Claim key by) = (is_published events key ≡ false) × (claimer events key ≡ None)
IsAllowed events (Publish key by) = claimer events key ≡ Some by
IsAllowed events (Abandon key by) = claimer events key ≡ Some by

unfoldable pub IsLegalFlights : List FlightEvent → Type 0
IsLegalFlights events = (k : ℕ) (e : FlightEvent) → slice_get events k ≡ Some e → IsAllowed (take k events) e

abbrev pub publications : List FlightEvent → ℕ
publications events = count_by is_publication events

abbrev pub published_keys : List FlightEvent → List FlightKey
published_keys events = map key_of (filter is_publication events)

unfoldable pub held_keys : List FlightEvent → List FlightKey
held_keys [] = []
held_keys (e ∷ later) = if is_claim e && not (list_any (at_key is_abandonment (key_of e)) later) then key_of e ∷ held_keys later else held_keys later

pub record FlightClaim : Type 0 where
  pub key : FlightKey
  pub by : ℕ

pub record FlightHistory : Type 0 where
  pub events : List FlightEvent
  pub setting : Ground

pub record IsColumnAt (setting : Ground) (key : FlightKey) (c : HeckeColumn) : Type 0 where
  pub level : c.modulus ≡ setting.level
  pub characteristic : c.characteristic ≡ setting.characteristic
  pub n : c.n ≡ key.n
  pub symbol : c.symbol ≡ key.symbol
