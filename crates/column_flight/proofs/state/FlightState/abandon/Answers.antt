use Rattle.std.proofs.Common.{Some, sym, ap, subst, ◌∙◌, arith}
use Rattle.std.specs.List.{IsDistinct}
use Rattle.std.specs.Map.{keys_of}
use Rattle.column_flight.specs.Flights.{claimer, same_key}
use Rattle.column_flight.proofs.FlightSteps.{AreFlights-abandon, AreFlights-as, settles}
use Rattle.column_flight.proofs.state.FlightState.abandon.Goals as goal

pub push_reserved-requires : goal.push_reserved-requires
push_reserved-requires c =
    let has = (λ j. claimer (c.self.view_is j).events (c.ticket.view_is j).key) ∙ c.requires.ticket ∙ ap (λ t. Some t.by) (sym c.ticket.view_is) in
    omega (arith, c.self.inside.events.ok.0, settles _ _ _ _ _ _ c.self.invariant _ _ has)

pub invariant_of-self : goal.invariant_of-self
invariant_of-self c =
    let has = (λ j. claimer (c.self.view_is j).events (c.ticket.view_is j).key) ∙ c.requires.ticket ∙ ap (λ t. Some t.by) (sym c.ticket.view_is) in
    AreFlights-as _ _ _ _ _ _ _ _ _ c.push_reserved.ensures.items c.push_reserved.ensures.capacity c.take_out.ensures.entries
    (AreFlights-abandon _ _ _ _ _ _ c.self.invariant _ _ has (subst
    (λ es. IsDistinct same_key (keys_of es)) c.take_out.ensures.entries c.take_out.ensures.unique))
