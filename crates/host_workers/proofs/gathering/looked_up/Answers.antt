use Rattle.std.proofs.Common.{sym, subst, take}
use Rattle.std.proofs.lemmas.List.{take_more}
use Rattle.turn_board.specs.Passes.{view}
use Rattle.turn_board.proofs.PassLemmas.{continues_trans}
use Rattle.hecke_columns.specs.Walks.{walk_number}
use Rattle.session_core.specs.Demands.{symbol_pairs}
use Rattle.host_workers.specs.Lookups.{IsLookup}
use Rattle.host_workers.proofs.Lookups.{flies_then, has_symbol, may_fly_on}
use Rattle.host_workers.proofs.gathering.looked_up.Goals as goal

pub returns-in_err-look_up-clause-flies : goal.returns-in_err-look_up-clause-flies
returns-in_err-look_up-clause-flies g c =
    flies_then (symbol_pairs (walk_number c.args.walk.now) c.args.given.now) _ c.args.pass.now c.loop-symbol.pass c.look_up.new.pass
    (has_symbol (walk_number c.args.walk.now) c.loop-symbol.symbol-index c.args.given.now c.loop-symbol-test.true)
    c.loop-symbol.invariant.later c.loop-symbol.invariant.flies c.look_up.ensures.flies

pub loop-symbol-preserved : goal.loop-symbol-preserved
loop-symbol-preserved g c =
    let n = walk_number c.args.walk.now in
    let i = c.loop-symbol.symbol-index in
    record {
      later = continues_trans c.args.pass.now c.loop-symbol.pass c.look_up.new.pass c.loop-symbol.invariant.later c.look_up.ensures.later;
      may = may_fly_on c.args.flights.now c.args.space.now _ c.loop-symbol.pass c.look_up.new.pass c.loop-symbol.invariant.may
          c.look_up.ensures.later c.look_up.ensures.idle c.look_up.ensures.flies;
      flies = flies_then (symbol_pairs n c.args.given.now) _ c.args.pass.now c.loop-symbol.pass c.look_up.new.pass
          (has_symbol n i c.args.given.now c.loop-symbol-test.true) c.loop-symbol.invariant.later c.loop-symbol.invariant.flies
          c.look_up.ensures.flies;
      lookup = subst (λ given. IsLookup c.args.space.now n (view c.look_up.new.pass).seen given c.look_up.new.lookup.found.items
          c.look_up.new.lookup.missing.items) (sym (take_more c.args.given.now i 0 c.loop-symbol-test.true))
          (c.in_ok-look_up.ensures.lookup (take i c.args.given.now) c.loop-symbol.invariant.lookup);
    }
