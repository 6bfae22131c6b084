use Rattle.std.proofs.Common.{◌≡◌, ◌<◌, ◌∙◌, Some, map, sym, ap, subst, arith}
use Rattle.std.specs.Arc.{arc_value}
use Rattle.std.proofs.lemmas.List.{length-map, length-set}
use Rattle.hecke_columns.specs.Gathering.{symbol_of}
use Rattle.hecke_columns.proofs.GatheringLemmas.{All-at, finds_more, number_here}
use Rattle.hecke_columns.proofs.gathered.numbers_of.Goals as goal

pub loop-i-preserved : goal.loop-i-preserved
loop-i-preserved c =
    let symbol : c.symbol-symbol.result ≡ symbol_of (arc_value c.index-columns-i.result) = c.symbol-symbol.ensures ∙ ap symbol_of c.deref.ensures in
    record {
      count = length-set c.loop-i.numbers.items c.symbol-symbol.result (Some c.loop-i.i) ∙ c.loop-i.invariant.count;
      finds = finds_more (map (λ x. symbol_of (arc_value x)) c.args.columns.now) c.loop-i.i c.symbol-symbol.result c.loop-i.numbers.items
          (subst (λ n. c.loop-i.i < n) (sym (length-map c.args.columns.now (λ x. symbol_of (arc_value x)))) c.loop-i-test.true)
          (number_here (λ x. symbol_of (arc_value x)) c.args.columns.now c.index-columns-i.result c.loop-i.i c.symbol-symbol.result
          c.loop-i-test.true c.index-columns-i.is symbol)
          (omega (
            arith,
            symbol,
            c.loop-i.invariant.count,
            All-at (λ x. symbol_of (arc_value x) < c.args.count) c.args.columns.now c.index-columns-i.result c.loop-i.i c.loop-i-test.true
                c.index-columns-i.is c.requires.places,
          )) c.loop-i.invariant.finds;
    }
