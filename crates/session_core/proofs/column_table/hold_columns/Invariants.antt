use Rattle.std.proofs.Common.{take}
use Rattle.indexmap.specs.IndexMap.{keys}
use Rattle.session_core.specs.ColumnTable.{AreColumns}
use Rattle.session_core.specs.Demands.{Adds, HasAll, symbol_pairs}
use Rattle.session_core.proofs.column_table.hold_columns.Given as goal

abbrev pub invariant-loop-k : goal.invariant-loop-k
invariant-loop-k l = record {
  columns : AreColumns l.space l.columns.entries;
  adds : Adds (symbol_pairs l.n (take l.k-index l.given)) (keys l.fn.columns) (keys l.columns);
  held : HasAll (keys l.columns) (symbol_pairs l.n (take l.k-index l.given));
}
