use Rattle.std.proofs.Common.{sym, ◌∙◌, ap}
use Rattle.quotient_coords.specs.Quotient.{dimension}
use Rattle.quotient_coords.proofs.Maps.{first_more}
use Rattle.hecke_columns.specs.Hecke.{IsColumn}
use Rattle.hecke_ops.proofs.AllColumns.{IsColumn-equal}
use Rattle.hecke_ops.proofs.columns.all_columns.Goals as goal

pub column-requires-clause-width : goal.column-requires-clause-width
column-requires-clause-width g c = c.requires.width ∙ ap (λ s. dimension s.level s.characteristic) (sym c.loop-k.invariant.setting)

pub loop-k-preserved : goal.loop-k-preserved
loop-k-preserved g c =
    let ground = g.C.ColumnSource.setting c.args.source.now in
    let L = (g.C.ColumnSource.matrices c.args.source.now).list in
    let column : IsColumn ground L c.loop-k.k c.in_ok-column.field-0 =
    IsColumn-equal c.loop-k.k c.in_ok-column.field-0 c.loop-k.invariant.setting c.loop-k.invariant.matrices c.in_ok-column.ensures.column in
    record {
      columns = first_more (IsColumn ground L) c.loop-k.k c.loop-k.columns.items _ c.in_ok-column.field-0
          c.in_ok-push.ensures.items c.loop-k.invariant.columns column;
      setting = c.column.ensures.setting ∙ c.loop-k.invariant.setting;
      matrices = c.column.ensures.matrices ∙ c.loop-k.invariant.matrices;
      can_give = c.column.ensures.can_give ∙ c.loop-k.invariant.can_give;
    }
