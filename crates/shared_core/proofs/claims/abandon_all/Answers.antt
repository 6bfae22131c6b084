use Rattle.std.proofs.Common.{None, refl, sym, ap, subst, ◌∙◌, cond}
use Rattle.std.specs.Map.{lookup}
use Rattle.column_flight.specs.declared.event.FlightEvent.TheVariants.{Abandon}
use Rattle.column_flight.specs.Flights.{same_key, claimer, FlightClaim}
use Rattle.column_flight.proofs.FlightEvents.{same_key-equivalence}
use Rattle.column_flight.proofs.FlightSteps.{lookup-push_here}
use Rattle.shared_core.proofs.ClaimLemmas.{claimer_there, AreClaims-event}
use Rattle.shared_core.specs.Claims.{AreClaims}
use Rattle.shared_core.proofs.claims.abandon_all.Goals as goal

pub abandon-requires : goal.abandon-requires
abandon-requires c =
    let found = ap (lookup (same_key c.in-Some._key)) c.in-Some.ensures.entries
    ∙ lookup-push_here (same_key c.in-Some._key) c.pop.new.self.entries c.in-Some._key c.in-Some.ticket c.in-Some.ensures.updates.1
    (same_key-equivalence.refl c.in-Some._key) in
    let there = claimer_there _ _ c.in-Some._key c.in-Some.ticket c.loop-key.invariant found in
    record { ticket = ap (λ (t : FlightClaim). claimer c.loop-key.flights.events t.key) there.1 ∙ there.0 }

pub loop-key-preserved : goal.loop-key-preserved
loop-key-preserved c =
    let found = ap (lookup (same_key c.in-Some._key)) c.in-Some.ensures.entries
    ∙ lookup-push_here (same_key c.in-Some._key) c.pop.new.self.entries c.in-Some._key c.in-Some.ticket c.in-Some.ensures.updates.1
    (same_key-equivalence.refl c.in-Some._key) in
    let there = claimer_there _ _ c.in-Some._key c.in-Some.ticket c.loop-key.invariant found in
    subst (λ es. AreClaims es c.pop.new.self.entries) (sym c.abandon.ensures.events)
    (AreClaims-event _ (Abandon c.in-Some.ticket.key c.in-Some.ticket.by) c.loop-key.claims.entries c.pop.new.self.entries None c.loop-key.invariant
    (λ q. c.in-Some.ensures.updates.0 q ∙ ap (λ (t : FlightClaim). cond (same_key t.key q) None (lookup (same_key q) c.loop-key.claims.entries))
    (sym there.1)) refl)
