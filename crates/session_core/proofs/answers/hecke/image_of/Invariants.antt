use Rattle.std.proofs.Common.{◌≡◌, ◌<◌, take}
use Rattle.linear_algebra.specs.Sparse.{sparse}
use Rattle.field_table.specs.Terms.{residue_terms}
use Rattle.quotient_coords.specs.Quotient.{AreCoordinates}
use Rattle.hecke_columns.specs.Hecke.{hecke_sum}
use Rattle.session_core.proofs.answers.hecke.image_of.Given as goal

abbrev pub invariant-loop-term : goal.invariant-loop-term
invariant-loop-term g l = record {
  field : l.field ≡ l.space.characteristic;
  positive : 0 < l.space.characteristic;
  setting : g.C.ColumnSource.setting l.columns ≡ l.space;
  matrices : g.C.ColumnSource.matrices l.columns ≡ g.C.ColumnSource.matrices l.fn.columns;
  gives : g.C.ColumnSource.can_give l.columns ≡ g.C.ColumnSource.can_give l.fn.columns;
  coords : AreCoordinates l.space.level (hecke_sum l.space.level (g.C.ColumnSource.matrices l.fn.columns).list
      (sparse l.space.characteristic (residue_terms l.space.characteristic (take l.term-index l.numbers)))) l.values.items;
}
