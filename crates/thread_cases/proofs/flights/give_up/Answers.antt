use Rattle.std.proofs.Common.{◌++◌, ◌∷◌, [], List, Some, ap, sym, subst, ◌∙◌}
use Rattle.column_flight.specs.declared.event.FlightEvent.{FlightEvent}
use Rattle.column_flight.specs.declared.event.FlightEvent.TheVariants.{Claim, Abandon}
use Rattle.column_flight.specs.Flights.{FlightClaim, claimer}
use Rattle.column_flight.specs.Looks.{IsAnswer, claims}
use Rattle.column_flight.proofs.TurnEvents.{claim_seen, abandonment_seen}
use Rattle.thread_cases.proofs.flights.give_up.Goals as goal

pub abandon-requires : goal.abandon-requires
abandon-requires c =
    let log : List FlightEvent = c.args.state.now.events in
    let ticket = subst (IsAnswer c.args.state.now.setting c.args.key c.args.by) c.in-Mine.is c.in_ok-look.ensures.answer in
    let told = c.in_ok-look.ensures.events ∙ ap (λ l. log ++ claims l) c.in-Mine.is
    ∙ ap (λ (t : FlightClaim). log ++ Claim t.key t.by ∷ []) ticket in
    record {
      ticket = ap (λ (t : FlightClaim). claimer c.look.new.self.events t.key) ticket ∙ ap (λ l. claimer l c.args.key) told
          ∙ claim_seen log c.args.key c.args.by ∙ ap (λ (t : FlightClaim). Some t.by) (sym ticket);
    }

pub returns-in-Mine-clause-none : goal.returns-in-Mine-clause-none
returns-in-Mine-clause-none c =
    let log : List FlightEvent = c.look.new.self.events in
    let ticket = subst (IsAnswer c.args.state.now.setting c.args.key c.args.by) c.in-Mine.is c.in_ok-look.ensures.answer in
    ap (λ l. claimer l c.args.key) (c.abandon.ensures.events ∙ ap (λ (t : FlightClaim). log ++ Abandon t.key t.by ∷ []) ticket)
    ∙ abandonment_seen log c.args.key c.args.by
