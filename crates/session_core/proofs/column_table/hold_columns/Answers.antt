use Rattle.std.proofs.Common.{◌+◌, get_or, refl}
use Rattle.indexmap.specs.IndexMap.{keys}
use Rattle.session_core.proofs.DemandLemmas.{symbol_added, symbol_held, Adds-of_all}
use Rattle.session_core.proofs.column_table.hold_columns.Goals as goal

pub returns-in_err-hold_column-clause-adds : goal.returns-in_err-hold_column-clause-adds
returns-in_err-hold_column-clause-adds c =
    Adds-of_all c.args.n (c.loop-k.k-index + 1) c.args.given.now (keys c.args.columns.now) (keys c.hold_column.new.columns)
    (symbol_added c.args.n c.loop-k.k-index (get_or c.args.given.now c.loop-k.k-index 0) c.args.given.now (keys c.args.columns.now)
    (keys c.loop-k.columns) (keys c.hold_column.new.columns)
    c.loop-k-test.true refl c.loop-k.invariant.adds c.hold_column.ensures.adds)

pub loop-k-preserved : goal.loop-k-preserved
loop-k-preserved c = record {
  columns = c.hold_column.ensures.columns;
  adds = symbol_added c.args.n c.loop-k.k-index (get_or c.args.given.now c.loop-k.k-index 0) c.args.given.now (keys c.args.columns.now)
      (keys c.loop-k.columns) (keys c.hold_column.new.columns)
      c.loop-k-test.true refl c.loop-k.invariant.adds c.hold_column.ensures.adds;
  held = symbol_held c.args.n c.loop-k.k-index (get_or c.args.given.now c.loop-k.k-index 0) c.args.given.now (keys c.loop-k.columns)
      (keys c.hold_column.new.columns)
      c.loop-k-test.true refl c.loop-k.invariant.held c.hold_column.ensures.adds c.in_ok-hold_column.ensures.held;
}
