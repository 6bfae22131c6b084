use Rattle.std.proofs.Common.{◌≡◌, ◌+◌, List, Some, IfOk, ap, sym, subst, ◌∙◌}
use Rattle.turn_board.specs.Passes.{view, state_of}
use Rattle.turn_board.specs.Views.{HasSeen}
use Rattle.column_flight.specs.declared.event.FlightEvent.{FlightEvent}
use Rattle.column_flight.specs.Flights.{FlightHistory, claimer, maker_of, standing}
use Rattle.column_flight.specs.Looks.{claims}
use Rattle.column_flight.specs.Shared.{own_since, after}
use Rattle.column_flight.proofs.TurnEvents.{unclaimed_stays, looked, if_first, if_second, on_refused, own_since-none}
use Rattle.column_flight.proofs.flights.Flights.look.Goals as goal

pub look-look-requires : goal.look-look-requires
look-look-requires g c =
    let log : c.state-state.result.now.events ≡ (state_of c.take-held.result).events = ap
    (λ (f : FlightHistory). f.events) c.state-state.ensures.value in
    let is : c.number.result ≡ (view c.args.pass.now).number = c.number.ensures.number ∙ c.take-held.ensures.later.number in
    record {
      unclaimed = λ has. unclaimed_stays _ _ _ c.args.key c.take-held.ensures.ok.seen c.requires.unclaimed
          (ap (λ l. claimer l c.args.key) (sym log) ∙ has ∙ ap (λ n. Some (n + 1)) is);
    }

pub returns-clause-standing : goal.returns-clause-standing
returns-clause-standing g c =
    let log : c.state-state.result.now.events ≡ (state_of c.take-held.result).events = ap
    (λ (f : FlightHistory). f.events) c.state-state.ensures.value in
    let is : c.number.result ≡ (view c.args.pass.now).number = c.number.ensures.number ∙ c.take-held.ensures.later.number in
    let new : (view c.give.new.pass).seen ≡ c.look-look.new.self.events = ap (λ v. v.seen) c.give.ensures.given in
    let both = looked c.look-look.result c.state-state.result.now.setting (view c.args.pass.now).number (c.number.result + 1)
    (view c.args.pass.now).seen c.state-state.result.now.events c.look-look.new.self.events c.args.key
    (ap (λ n. n + 1) is) c.is_legal.ensures (subst (HasSeen maker_of (view c.args.pass.now).number (view c.args.pass.now).seen)
    (sym log) c.take-held.ensures.ok.seen) c.look-look.ensures.cause c.look-look.ensures.answer c.look-look.ensures.events in
    subst (λ (l : List FlightEvent). IfOk c.look-look.result (λ look. standing l c.args.key ≡ after (view c.args.pass.now).number look)) (sym new)
    (if_first (λ look. standing c.look-look.new.self.events c.args.key ≡ after (view c.args.pass.now).number look)
    (λ look. own_since (view c.args.pass.now).number (view c.args.pass.now).seen c.look-look.new.self.events
    ≡ claims look) c.look-look.result both)

pub returns-clause-made : goal.returns-clause-made
returns-clause-made g c =
    let log : c.state-state.result.now.events ≡ (state_of c.take-held.result).events = ap
    (λ (f : FlightHistory). f.events) c.state-state.ensures.value in
    let is : c.number.result ≡ (view c.args.pass.now).number = c.number.ensures.number ∙ c.take-held.ensures.later.number in
    let new : (view c.give.new.pass).seen ≡ c.look-look.new.self.events = ap (λ v. v.seen) c.give.ensures.given in
    let both = looked c.look-look.result c.state-state.result.now.setting (view c.args.pass.now).number (c.number.result + 1)
    (view c.args.pass.now).seen c.state-state.result.now.events c.look-look.new.self.events c.args.key
    (ap (λ n. n + 1) is) c.is_legal.ensures (subst (HasSeen maker_of (view c.args.pass.now).number (view c.args.pass.now).seen)
    (sym log) c.take-held.ensures.ok.seen) c.look-look.ensures.cause c.look-look.ensures.answer c.look-look.ensures.events in
    subst (λ (l : List FlightEvent). IfOk c.look-look.result (λ look. own_since (view c.args.pass.now).number (view c.args.pass.now).seen l
    ≡ claims look)) (sym new) (if_second (λ look. standing c.look-look.new.self.events c.args.key ≡ after (view c.args.pass.now).number look)
    (λ look. own_since (view c.args.pass.now).number (view c.args.pass.now).seen c.look-look.new.self.events
    ≡ claims look) c.look-look.result both)

pub returns-clause-refused : goal.returns-clause-refused
returns-clause-refused g c =
    let log : c.state-state.result.now.events ≡ (state_of c.take-held.result).events = ap
    (λ (f : FlightHistory). f.events) c.state-state.ensures.value in
    let new : (view c.give.new.pass).seen ≡ c.look-look.new.self.events = ap (λ v. v.seen) c.give.ensures.given in
    on_refused c.look-look.result _ _ (λ same. ap (own_since (view c.args.pass.now).number (view c.args.pass.now).seen)
    (new ∙ ap (λ (f : FlightHistory). f.events) same ∙ log) ∙ own_since-none _ _ _ c.take-held.ensures.ok.seen) c.look-look.ensures.refused
