use Rattle.std.proofs.Common.{◌++◌, ◌∷◌, [], List, Some, ap, sym, subst, ◌∙◌}
use Rattle.column_flight.specs.declared.event.FlightEvent.{FlightEvent}
use Rattle.column_flight.specs.declared.event.FlightEvent.TheVariants.{Claim}
use Rattle.column_flight.specs.Flights.{FlightClaim, claimer}
use Rattle.column_flight.specs.Looks.{IsAnswer, claims}
use Rattle.column_flight.proofs.TurnEvents.{claim_seen}
use Rattle.thread_cases.proofs.flights.settle.Goals as goal

pub publish-requires-clause-ticket : goal.publish-requires-clause-ticket
publish-requires-clause-ticket c =
    let log : List FlightEvent = c.args.state.now.events in
    let ticket = subst (IsAnswer c.args.state.now.setting c.args.key c.args.by) c.in-Mine.is c.in_ok-look.ensures.answer in
    let told = c.in_ok-look.ensures.events ∙ ap (λ l. log ++ claims l) c.in-Mine.is ∙ ap (λ (t : FlightClaim). log ++ Claim t.key t.by ∷ []) ticket in
    ap (λ (t : FlightClaim). claimer c.look.new.self.events t.key) ticket ∙ ap (λ l. claimer l c.args.key) told
    ∙ claim_seen log c.args.key c.args.by ∙ ap (λ (t : FlightClaim). Some t.by) (sym ticket)
