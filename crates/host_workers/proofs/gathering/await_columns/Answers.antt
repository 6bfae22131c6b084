use Rattle.std.proofs.Common.{◌+◌, drop, subst}
use Rattle.std.proofs.lemmas.List.{drop_all, drop_more}
use Rattle.turn_board.specs.Passes.{view}
use Rattle.turn_board.proofs.PassLemmas.{continues_trans}
use Rattle.hecke_columns.specs.Walks.{walk_number}
use Rattle.session_core.specs.Demands.{symbol_pairs}
use Rattle.host_workers.specs.Lookups.{IsLookup}
use Rattle.host_workers.proofs.Lookups.{flies_then, has_symbol, may_fly_on}
use Rattle.host_workers.proofs.gathering.await_columns.Goals as goal

pub returns-in_err-await_column-clause-flies : goal.returns-in_err-await_column-clause-flies
returns-in_err-await_column-clause-flies g c =
    flies_then (symbol_pairs (walk_number c.args.walk.now) c.args.missing.now) _ c.args.pass.now c.loop-symbol.pass c.await_column.new.pass
    (has_symbol (walk_number c.args.walk.now) c.loop-symbol.symbol-index c.args.missing.now c.loop-symbol-test.true)
    c.loop-symbol.invariant.later c.loop-symbol.invariant.flies c.await_column.ensures.flies

pub loop-symbol-preserved : goal.loop-symbol-preserved
loop-symbol-preserved g c =
    let n = walk_number c.args.walk.now in
    let i = c.loop-symbol.symbol-index in
    record {
      later = continues_trans c.args.pass.now c.loop-symbol.pass c.await_column.new.pass c.loop-symbol.invariant.later c.await_column.ensures.later;
      may = may_fly_on c.args.flights.now c.args.space.now _ c.loop-symbol.pass c.await_column.new.pass c.loop-symbol.invariant.may
          c.await_column.ensures.later c.await_column.ensures.idle c.await_column.ensures.flies;
      flies = flies_then (symbol_pairs n c.args.missing.now) _ c.args.pass.now c.loop-symbol.pass c.await_column.new.pass
          (has_symbol n i c.args.missing.now c.loop-symbol-test.true) c.loop-symbol.invariant.later c.loop-symbol.invariant.flies
          c.await_column.ensures.flies;
      lookup = λ given lookup. c.in_ok-await_column.ensures.lookup given (drop (i + 1) c.args.missing.now)
          (subst (λ missing. IsLookup c.args.space.now n (view c.loop-symbol.pass).seen given c.loop-symbol.found.items missing)
          (drop_more c.args.missing.now i 0 c.loop-symbol-test.true) (c.loop-symbol.invariant.lookup given lookup));
    }

pub returns-clause-lookup : goal.returns-clause-lookup
returns-clause-lookup g c = λ given lookup.
    subst (λ missing. IsLookup c.args.space.now (walk_number c.args.walk.now) (view c.loop-symbol.pass).seen given c.loop-symbol.found.items missing)
    (drop_all c.loop-symbol.symbol-index c.args.missing.now c.loop-symbol-test.false) (c.loop-symbol.invariant.lookup given lookup)
