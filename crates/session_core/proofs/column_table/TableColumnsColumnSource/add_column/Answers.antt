use Rattle.std.proofs.Common.{length, sym, ◌∙◌, ap}
use Rattle.session_core.specs.ColumnTable.{IsColumnAt}
use Rattle.hecke_columns.proofs.Columns.{AddsColumn-from_sum}
use Rattle.session_core.proofs.TableLemmas.{IsColumn-at}
use Rattle.session_core.proofs.column_table.TableColumnsColumnSource.add_column.Goals as goal

pub axpy-requires-clause-lengths : goal.axpy-requires-clause-lengths
axpy-requires-clause-lengths c =
    let at : IsColumnAt c.args.self.now.table.now.ground c.args.self.now.n c.args.k c.column-column.result.now = c.column-column.ensures in
    let count = (IsColumn-at c.args.self.now.table.now.ground c.args.self.now.n c.args.k c.column-column.result.now at).count in
    c.requires.count ∙ sym count ∙ ap length (sym c.coords.ensures.coords)

pub returns-clause-added : goal.returns-clause-added
returns-clause-added c =
    AddsColumn-from_sum c.field.ensures c.coords.ensures.coords c.args.coefficient
    (IsColumn-at c.args.self.now.table.now.ground c.args.self.now.n c.args.k c.column-column.result.now c.column-column.ensures)
    c.axpy.auto.acc c.axpy.ensures.residues c.axpy.ensures.sum
