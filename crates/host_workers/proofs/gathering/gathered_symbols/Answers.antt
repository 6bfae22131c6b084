use Rattle.std.proofs.Common.{[]}
use Rattle.turn_board.specs.Passes.{view}
use Rattle.hecke_columns.specs.Walks.{walk_number}
use Rattle.host_workers.specs.Lookups.{IsLookup}
use Rattle.host_workers.proofs.Lookups.{held_if, published_all, serves_found, whole_flies, whole_lookup}
use Rattle.host_workers.proofs.gathering.gathered_symbols.Goals as goal

pub returns-in_err-await_columns-clause-flies : goal.returns-in_err-await_columns-clause-flies
returns-in_err-await_columns-clause-flies g c =
    whole_flies c.args.space.now c.args.n (walk_number c.walk-walk.result) c.args.given.now c.in_ok-found.field-0.missing.items
    c.deref.result.now c.in_ok-found.field-0.found.items c.args.pass.now c.looked_up.new.pass c.await_columns.new.pass
    c.walk-walk.ensures.number c.deref.ensures.value c.looked_up.ensures.later
    c.looked_up.ensures.flies c.in_ok-found.ensures.lookup c.await_columns.ensures.flies

pub of-requires : goal.of-requires
of-requires g c =
    let whole : IsLookup c.args.space.now c.args.n (view c.await_columns.new.pass).seen c.args.given.now c.await_columns.new.found.items [] =
    whole_lookup c.args.space.now c.args.n (walk_number c.walk-walk.result) c.args.given.now c.in_ok-found.field-0.missing.items
    c.deref.result.now c.in_ok-found.field-0.found.items c.await_columns.new.found.items
    (view c.looked_up.new.pass).seen (view c.await_columns.new.pass).seen c.walk-walk.ensures.number
    c.deref.ensures.value c.in_ok-found.ensures.lookup c.in_ok-await_columns.ensures.lookup in
    record { columns = whole.gathered }

pub returns-clause-flies : goal.returns-clause-flies
returns-clause-flies g c =
    whole_flies c.args.space.now c.args.n (walk_number c.walk-walk.result) c.args.given.now c.in_ok-found.field-0.missing.items
    c.deref.result.now c.in_ok-found.field-0.found.items c.args.pass.now c.looked_up.new.pass c.await_columns.new.pass
    c.walk-walk.ensures.number c.deref.ensures.value c.looked_up.ensures.later
    c.looked_up.ensures.flies c.in_ok-found.ensures.lookup c.await_columns.ensures.flies

pub returns-clause-held : goal.returns-clause-held
returns-clause-held g c =
    let whole : IsLookup c.args.space.now c.args.n (view c.await_columns.new.pass).seen c.args.given.now c.await_columns.new.found.items [] =
    whole_lookup c.args.space.now c.args.n (walk_number c.walk-walk.result) c.args.given.now c.in_ok-found.field-0.missing.items
    c.deref.result.now c.in_ok-found.field-0.found.items c.await_columns.new.found.items
    (view c.looked_up.new.pass).seen (view c.await_columns.new.pass).seen c.walk-walk.ensures.number
    c.deref.ensures.value c.in_ok-found.ensures.lookup c.in_ok-await_columns.ensures.lookup in
    held_if c.of.result _ (published_all c.args.space.now c.args.n (view c.await_columns.new.pass).seen c.args.given.now
    c.await_columns.new.found.items whole)

pub returns-clause-serves : goal.returns-clause-serves
returns-clause-serves g c =
    let whole : IsLookup c.args.space.now c.args.n (view c.await_columns.new.pass).seen c.args.given.now c.await_columns.new.found.items [] =
    whole_lookup c.args.space.now c.args.n (walk_number c.walk-walk.result) c.args.given.now c.in_ok-found.field-0.missing.items
    c.deref.result.now c.in_ok-found.field-0.found.items c.await_columns.new.found.items
    (view c.looked_up.new.pass).seen (view c.await_columns.new.pass).seen c.walk-walk.ensures.number
    c.deref.ensures.value c.in_ok-found.ensures.lookup c.in_ok-await_columns.ensures.lookup in
    serves_found c.of.result _ _ _ c.args.space.now c.args.n (view c.await_columns.new.pass).seen c.args.given.now c.await_columns.new.found.items
    c.of.ensures.setting c.of.ensures.matrices c.of.ensures.can_give whole
