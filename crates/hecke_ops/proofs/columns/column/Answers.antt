use Rattle.std.proofs.Common.{◌≡◌, length, replicate, sym, ◌∙◌, ap, subst, arith, rules}
use Rattle.std.proofs.lemmas.List.{with_items_is}
use Rattle.hecke_columns.specs.Hecke.{IsColumn}
use Rattle.hecke_ops.proofs.AllColumns.{IsColumn-from_added}
use Rattle.hecke_ops.proofs.columns.column.Goals as goal

pub returns-clause-column : goal.returns-clause-column
returns-clause-column g c =
    let left : c.of.result ≡ c.add_column.new.into = c.of.ensures ∙ with_items_is c.in_ok-values.values c.add_column.new.into
    (omega (arith, c.in_ok-values.values.ok.0, c.add_column.auto.into, ap (λ xs. length xs) c.deref_mut.ensures.value)) in
    let start : c.deref_mut.result.now ≡ replicate c.args.width 0 = c.deref_mut.ensures.value
    ∙ c.in_ok-values.ensures.items_if_clones_equal (search rules) in
    let ground = g.C.ColumnSource.setting c.args.source.now in
    let L = (g.C.ColumnSource.matrices c.args.source.now).list in
    subst (IsColumn ground L c.args.k) (sym left)
    (IsColumn-from_added ground L c.args.k c.deref_mut.result.now c.add_column.new.into c.requires.above_one
    (start ∙ ap (λ n. replicate n 0) c.requires.width) c.in_ok-add_column.ensures.added)
