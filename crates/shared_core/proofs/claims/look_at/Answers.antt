use Rattle.std.proofs.Common.{◌≡◌, Some, sym, ap, subst, ◌∙◌, cond, ◌++◌, ◌∷◌, []}
use Rattle.std.specs.Map.{lookup}
use Rattle.column_flight.specs.declared.event.FlightEvent.TheVariants.{Claim}
use Rattle.column_flight.specs.Flights.{same_key, FlightClaim}
use Rattle.column_flight.specs.Looks.{found, claims, IsAnswer}
use Rattle.column_flight.proofs.FlightEvents.{free_is}
use Rattle.shared_core.proofs.ClaimLemmas.{ticket_absent, AreClaims-event}
use Rattle.shared_core.specs.Claims.{claim_at, AreClaims}
use Rattle.shared_core.proofs.claims.look_at.Goals as goal

pub put_ticket-requires-clause-absent : goal.put_ticket-requires-clause-absent
put_ticket-requires-clause-absent c =
    let is_free = sym c.in_ok-look.ensures.cause ∙ ap found c.in-Mine.is in
    ap (lookup (same_key c.args.key)) c.reserve.ensures.entries ∙ ticket_absent _ _ c.args.key c.requires.claims (free_is _ _ is_free).1

pub returns-in-Mine-clause-claims : goal.returns-in-Mine-clause-claims
returns-in-Mine-clause-claims c =
    let answer : c.in-Mine.ticket ≡ claim_at c.args.key c.args.session = subst
    (IsAnswer c.args.flights.now.setting c.args.key c.args.session) c.in-Mine.is c.in_ok-look.ensures.answer in
    let events : c.look.new.self.events ≡ c.args.flights.now.events ++ Claim c.args.key c.args.session ∷ []
    = c.in_ok-look.ensures.events ∙ ap (λ l. c.args.flights.now.events ++ claims l) c.in-Mine.is
    ∙ ap (λ (t : FlightClaim). c.args.flights.now.events ++ Claim t.key t.by ∷ []) answer in
    subst (λ es. AreClaims es c.put_ticket.new.claims.entries) (sym events)
    (AreClaims-event _ (Claim c.args.key c.args.session) _ _ (Some c.in-Mine.ticket) c.requires.claims
    (λ q. c.put_ticket.ensures q ∙ ap (λ es. cond (same_key c.args.key q) (Some c.in-Mine.ticket)
    (lookup (same_key q) es)) c.reserve.ensures.entries) (ap Some answer))
