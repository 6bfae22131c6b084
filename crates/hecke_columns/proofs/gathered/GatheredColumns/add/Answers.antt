use Rattle.std.proofs.Common.{sym, ◌∙◌, ap, length}
use Rattle.hecke_columns.proofs.Columns.{AddsColumn-from_sum}
use Rattle.hecke_columns.proofs.GatheringLemmas.{IsColumn-gathered}
use Rattle.hecke_columns.proofs.gathered.GatheredColumns.add.Goals as goal

pub axpy-requires-clause-lengths : goal.axpy-requires-clause-lengths
axpy-requires-clause-lengths c =
    let column = IsColumn-gathered c.args.self.now.ground c.args.self.now.n c.args.k c.column-column.result.now c.column-column.ensures
    c.coords.ensures.column in
    c.requires.count ∙ sym column.count ∙ ap length (sym c.coords.ensures.coords)

pub returns : goal.returns
returns c =
    AddsColumn-from_sum c.field.ensures c.coords.ensures.coords c.args.coefficient
    (IsColumn-gathered c.args.self.now.ground c.args.self.now.n c.args.k c.column-column.result.now c.column-column.ensures c.coords.ensures.column)
    c.axpy.auto.acc c.axpy.ensures.residues c.axpy.ensures.sum
