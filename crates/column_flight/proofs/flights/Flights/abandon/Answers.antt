use Rattle.std.proofs.Common.{◌≡◌, ◌∷◌, ◌++◌, [], Some, ap, sym, subst, ◌∙◌}
use Rattle.turn_board.specs.Passes.{view, state_of}
use Rattle.column_flight.specs.declared.event.FlightEvent.TheVariants.{Abandon}
use Rattle.column_flight.specs.Flights.{FlightHistory, claimer, IsLegalFlights}
use Rattle.column_flight.specs.Shared.{own_since}
use Rattle.column_flight.proofs.TurnEvents.{claim_stays, own_since-one}
use Rattle.column_flight.proofs.flights.Flights.abandon.Goals as goal

pub abandon-requires : goal.abandon-requires
abandon-requires g c =
    let log : c.state-state.result.now.events ≡ (state_of c.take-held.result).events = ap
    (λ (f : FlightHistory). f.events) c.state-state.ensures.value in
    let claim = claim_stays _ _ _ c.args.ticket.key (subst IsLegalFlights log c.is_legal.ensures) c.take-held.ensures.ok.seen
    (c.requires.claim ∙ ap Some c.requires.maker) in
    record { ticket = ap (λ l. claimer l c.args.ticket.key) log ∙ claim ∙ ap Some (sym c.requires.maker) }

pub returns-clause-made : goal.returns-clause-made
returns-clause-made g c =
    let seen : (view c.give.new.pass).seen ≡ (state_of c.take-held.result).events ++ Abandon c.args.ticket.key c.args.ticket.by ∷ [] = ap
    (λ v. v.seen) c.give.ensures.given ∙ c.abandon.ensures.events
    ∙ ap (λ (f : FlightHistory). f.events ++ Abandon c.args.ticket.key c.args.ticket.by ∷ []) c.state-state.ensures.value in
    ap (own_since (view c.args.pass.now).number (view c.args.pass.now).seen) seen
    ∙ own_since-one _ _ _ (Abandon c.args.ticket.key c.args.ticket.by) c.take-held.ensures.ok.seen c.requires.maker
