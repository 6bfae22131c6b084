-- The tickets of unsettled claims, as events change them.
use Rattle.std.proofs.Common.{◌≡◌, ℕ, Bool, true, false, cond, List, [], ◌∷◌, ◌++◌, Option, None, Some, refl, sym, ap, subst, ◌∙◌}
use Rattle.std.specs.Option.{option_map, IsSome}
use Rattle.std.specs.Map.{lookup}
use Rattle.column_flight.specs.declared.event.FlightKey.{FlightKey}
use Rattle.column_flight.specs.declared.event.FlightEvent.{FlightEvent}
use Rattle.column_flight.specs.Flights.{same_key, key_of, claimer, claimer_of, FlightClaim}
use Rattle.column_flight.proofs.FlightEvents.{same_key-eq, same_key-equivalence, claimer-here, claimer-apart}
use Rattle.shared_core.specs.Claims.{claim_at, AreClaims}

pub ticket_absent : (events : List FlightEvent) (entries : List (FlightKey × FlightClaim)) (key : FlightKey) → AreClaims events entries
    → claimer events key ≡ None → lookup (same_key key) entries ≡ None
unfolding AreClaims
ticket_absent events entries key h none = h key ∙ ap (option_map (claim_at key)) none

pub ticket_there : (events : List FlightEvent) (entries : List (FlightKey × FlightClaim)) (key : FlightKey) (by : ℕ) → AreClaims events entries
    → claimer events key ≡ Some by → lookup (same_key key) entries ≡ Some (claim_at key by)
unfolding AreClaims
ticket_there events entries key by h has = h key ∙ ap (option_map (claim_at key)) has

pub claimer_absent : (events : List FlightEvent) (entries : List (FlightKey × FlightClaim)) (key : FlightKey) → AreClaims events entries
    → lookup (same_key key) entries ≡ None → claimer events key ≡ None
unfolding AreClaims
claimer_absent events entries key h none = from (claimer events key) (sym (h key) ∙ none)
  where
    from : (o : Option ℕ) → option_map (claim_at key) o ≡ None → o ≡ None
    from None e = refl
    from (Some s) e = absurd cc

pub claimer_there : (events : List FlightEvent) (entries : List (FlightKey × FlightClaim)) (key : FlightKey) (ticket : FlightClaim)
    → AreClaims events entries → lookup (same_key key) entries ≡ Some ticket
    → (claimer events key ≡ Some ticket.by) × (ticket ≡ claim_at key ticket.by)
unfolding AreClaims
claimer_there events entries key ticket h found = from (claimer events key) refl (sym (h key) ∙ found)
  where
    from : (o : Option ℕ) → claimer events key ≡ o → option_map (claim_at key) o ≡ Some ticket
        → (claimer events key ≡ Some ticket.by) × (ticket ≡ claim_at key ticket.by)
    from None is e = absurd cc
    from (Some s) is e =
        let same : claim_at key s ≡ ticket = cc in
        (is ∙ ap (λ (t : FlightClaim). Some t.by) same, sym same ∙ ap (λ (t : FlightClaim). claim_at key t.by) same)

-- what an event does, where the map has this in the place of its key
pub AreClaims-event : (events : List FlightEvent) (e : FlightEvent) (entries after : List (FlightKey × FlightClaim)) (place : Option FlightClaim)
    → AreClaims events entries
    → ((q : FlightKey) → lookup (same_key q) after ≡ cond (same_key (key_of e) q) place (lookup (same_key q) entries))
    → place ≡ option_map (claim_at (key_of e)) (claimer_of e) → AreClaims (events ++ e ∷ []) after
unfolding AreClaims
AreClaims-event events e entries after place h put is q = from (same_key q (key_of e)) refl (same_key-equivalence.symm (key_of e) q)
  where
    from : (t : Bool) → same_key q (key_of e) ≡ t → same_key (key_of e) q ≡ same_key q (key_of e)
        → lookup (same_key q) after ≡ option_map (claim_at q) (claimer (events ++ e ∷ []) q)
    from true here flip =
        put q ∙ ap (λ t. cond t place (lookup (same_key q) entries)) (flip ∙ here) ∙ is
        ∙ ap (λ k. option_map (claim_at k) (claimer_of e)) (sym (same_key-eq q (key_of e) here))
        ∙ ap (option_map (claim_at q)) (sym (claimer-here events e q here))
    from false apart flip =
        put q ∙ ap (λ t. cond t place (lookup (same_key q) entries)) (flip ∙ apart) ∙ h q
        ∙ ap (option_map (claim_at q)) (sym (claimer-apart events e q apart))

-- the ticket of a session's claim
pub ticket_is : (events : List FlightEvent) (entries : List (FlightKey × FlightClaim)) (key : FlightKey) (by : ℕ) (ticket : FlightClaim)
    → AreClaims events entries → claimer events key ≡ Some by
    → lookup (same_key key) entries ≡ Some ticket → ticket ≡ claim_at key by
ticket_is events entries key by ticket h has found = let both : Some ticket ≡ Some (claim_at key by) = sym found
    ∙ ticket_there events entries key by h has in cc

pub has_ticket : (events : List FlightEvent) (entries : List (FlightKey × FlightClaim)) (key : FlightKey) (by : ℕ) → AreClaims events entries
    → claimer events key ≡ Some by → IsSome (lookup (same_key key) entries)
has_ticket events entries key by h has = subst (λ (o : Option FlightClaim). IsSome o) (sym (ticket_there events entries key by h has)) refl

pub AreClaims-nil : AreClaims [] []
unfolding AreClaims claimer
AreClaims-nil key = refl
