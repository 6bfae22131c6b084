use Rattle.std.proofs.Common.{◌+◌, Some, ap, sym, subst, ◌∙◌}
use Rattle.turn_board.specs.Passes.{view}
use Rattle.column_flight.specs.declared.event.FlightKey.{FlightKey}
use Rattle.column_flight.specs.Flights.{FlightClaim, claimer, is_published}
use Rattle.column_flight.specs.Looks.{IsAnswer, claims}
use Rattle.column_flight.specs.Shared.{after, flight_key, setting_of}
use Rattle.column_flight.proofs.FlightEvents.{published_is, claimed_is}
use Rattle.column_flight.proofs.flights.Flights.visit.Goals as goal

pub returns-in-Ready-clause-published : goal.returns-in-Ready-clause-published
returns-in-Ready-clause-published g c =
    let at : FlightKey = flight_key c.n.result c.args.symbol in
    let told = c.in_ok-look.ensures.standing ∙ ap (after (view c.args.pass.now).number) c.in-Ready.is in
    ap (λ n. is_published (view c.look.new.pass).seen (flight_key n c.args.symbol)) (sym c.n.ensures)
    ∙ published_is (view c.look.new.pass).seen at told

pub returns-in-Pending-clause-elsewhere : goal.returns-in-Pending-clause-elsewhere
returns-in-Pending-clause-elsewhere g c none =
    let at : FlightKey = flight_key c.n.result c.args.symbol in
    let told = c.in_ok-look.ensures.standing ∙ ap (after (view c.args.pass.now).number) c.in-Pending.is in
    let answer = subst (IsAnswer (setting_of c.args.self.now) at ((view c.args.pass.now).number + 1)) c.in-Pending.is c.in_ok-look.ensures.answer in
    record {
      none = c.in_ok-look.ensures.made ∙ ap claims c.in-Pending.is;
      by = c.in-Pending.by;
      claim = ap (λ n. claimer (view c.look.new.pass).seen (flight_key n c.args.symbol)) (sym c.n.ensures)
          ∙ claimed_is (view c.look.new.pass).seen at c.in-Pending.by told;
      other = answer.1;
    }

pub fly-requires-clause-claim : goal.fly-requires-clause-claim
fly-requires-clause-claim g c κs within =
    let at : FlightKey = flight_key c.n.result c.args.symbol in
    let told = c.in_ok-look.ensures.standing ∙ ap (after (view c.args.pass.now).number) c.in-Mine.is in
    let has = claimed_is (view c.look.new.pass).seen at ((view c.args.pass.now).number + 1) told in
    let ticket = subst (IsAnswer (setting_of c.args.self.now) at ((view c.args.pass.now).number + 1)) c.in-Mine.is c.in_ok-look.ensures.answer in
    ap (λ (t : FlightClaim). claimer (view c.look.new.pass).seen t.key) ticket ∙ has ∙ ap (λ (t : FlightClaim). Some t.by) (sym ticket)
