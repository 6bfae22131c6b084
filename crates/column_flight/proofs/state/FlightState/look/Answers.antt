use Rattle.std.proofs.Common.{◌≡◌, Some, refl, sym, ap, subst, ◌∙◌, ◌++◌, ◌∷◌, [], arith}
use Rattle.std.specs.List.{IsDistinct}
use Rattle.std.specs.Map.{keys_of, lookup}
use Rattle.std.specs.Arc.{arc_value}
use Rattle.column_flight.specs.declared.event.FlightEvent.TheVariants.{Claim}
use Rattle.column_flight.specs.declared.places.Place.TheVariants.{Claimed, Published}
use Rattle.column_flight.specs.Flights.{same_key, claimer, FlightHistory, IsColumnAt}
use Rattle.column_flight.specs.Places.{place_standing, IsPlaceAt}
use Rattle.column_flight.proofs.FlightEvents.{claimed_is}
use Rattle.column_flight.proofs.FlightSteps.{AreFlights-claim, AreFlights-as}
use Rattle.column_flight.proofs.state.FlightState.look.Goals as goal

pub invariant_of-self-in-None : goal.invariant_of-self-in-None
invariant_of-self-in-None c =
    let entries = c.put_claim.ensures.entries ∙ ap (λ es. es ++ (c.args.key, Claimed c.args.by) ∷ []) c.claim_room.ensures.places in
    AreFlights-as _ _ _ _ _ _ _ _ _ (c.push_reserved.ensures.items
    ∙ ap (λ es. es ++ Claim c.args.key c.args.by ∷ []) c.claim_room.ensures.events) c.push_reserved.ensures.capacity entries
    (AreFlights-claim _ _ _ _ _ _ c.self.invariant c.args.key c.args.by _ (sym c.in-None.ensures.value)
    (omega (arith, c.self.invariant.published, c.self.inside.events.ok.0, c.len.ensures.len, c.in_ok-claim_room-in-None.ensures.events_room))
    (subst (λ es. IsDistinct same_key (keys_of es)) entries c.put_claim.ensures.unique))

pub returns-in_ok-clone-in-Some-Published-clause-answer :
    goal.returns-in_ok-clone-in-Some-Published-clause-answer
returns-in_ok-clone-in-Some-Published-clause-answer c =
    let place : lookup (same_key c.args.key) c.self.inside.places.entries
    ≡ Some (Published c.in-Some-Published.column) = sym c.in-Some-Published.ensures.value ∙ ap Some c.in-Some-Published.field-0-is in
    let column = subst (IsPlaceAt c.self.inside.modulus c.self.inside.characteristic c.args.key) place (c.self.invariant.columns c.args.key) in
    subst (λ (f : FlightHistory). IsColumnAt f.setting c.args.key (arc_value c.in_ok-clone-in-Some-Published.field-0)) c.self.view_is
    (subst (IsColumnAt (record { level = c.self.inside.modulus; characteristic = c.self.inside.characteristic }) c.args.key)
    (sym c.in_ok-clone-in-Some-Published.ensures.cases) column)

pub returns-in-Some-Claimed-clause-answer : goal.returns-in-Some-Claimed-clause-answer
returns-in-Some-Claimed-clause-answer c =
    let place : lookup (same_key c.args.key) c.self.inside.places.entries
    ≡ Some (Claimed c.in-Some-Claimed.by) = sym c.in-Some-Claimed.ensures.value ∙ ap Some c.in-Some-Claimed.field-0-is in
    let has = claimed_is c.self.inside.events.items c.args.key c.in-Some-Claimed.by
    (sym (c.self.invariant.standing c.args.key) ∙ ap place_standing place) in
    (refl, λ h. c.requires.unclaimed (ap (λ f. claimer f.events c.args.key) (sym c.self.view_is) ∙ has ∙ ap Some h))
