use Rattle.std.proofs.Common.{◌≡◌}
use Rattle.hecke_ops.proofs.AllColumns.{AreFirstColumns}
use Rattle.hecke_ops.proofs.columns.all_columns.Given as goal

-- the columns of the first symbols, and the source means what it did
abbrev pub invariant-loop-k : goal.invariant-loop-k
invariant-loop-k g l = record {
  columns : AreFirstColumns (g.C.ColumnSource.setting l.fn.source) (g.C.ColumnSource.matrices l.fn.source).list l.k l.columns.items;
  setting : g.C.ColumnSource.setting l.source ≡ g.C.ColumnSource.setting l.fn.source;
  matrices : g.C.ColumnSource.matrices l.source ≡ g.C.ColumnSource.matrices l.fn.source;
  can_give : g.C.ColumnSource.can_give l.source ≡ g.C.ColumnSource.can_give l.fn.source;
}
