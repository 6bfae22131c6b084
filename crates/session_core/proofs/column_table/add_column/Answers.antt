use Rattle.std.proofs.Common.{◌≡◌, ◌++◌, ◌∷◌, [], ℕ, sym, ◌∙◌, subst, rules}
use Rattle.std.proofs.lemmas.List.Elements.{All-push}
use Rattle.indexmap.proofs.CallerLemmas.{insert_entry-new}
use Rattle.hecke_columns.specs.Hecke.{HeckeColumn}
use Rattle.session_core.specs.Demands.{is_pair}
use Rattle.session_core.specs.ColumnTable.{IsColumnAt, AreColumns}
use Rattle.session_core.proofs.TableLemmas.{Adds-entry, Has-from_lookup}
use Rattle.session_core.proofs.column_table.add_column.Goals as goal

pub returns-clause-columns : goal.returns-clause-columns
returns-clause-columns c =
    let entries : c.insert.new.self.entries ≡ c.args.columns.now.entries ++ ((c.args.n, c.args.k), c.in_ok-column.column) ∷ []
    = c.in_ok-insert.ensures.entries ∙ insert_entry-new is_pair c.args.columns.now (c.args.n, c.args.k) c.in_ok-column.column c.requires.absent in
    subst (AreColumns c.args.space.now) (sym entries)
    (All-push (λ (e : (ℕ × ℕ) × HeckeColumn). IsColumnAt c.args.space.now e.0.0 e.0.1 e.1) c.args.columns.now.entries
    ((c.args.n, c.args.k), c.in_ok-column.column) c.requires.columns
    (record {
      modulus = c.in_ok-column.ensures.space.0;
      characteristic = c.in_ok-column.ensures.space.1;
      n_is = search rules;
      symbol_is = c.in_ok-column.ensures.symbol;
      column_is = c.in_ok-column.ensures.column;
    }))

pub returns-clause-adds : goal.returns-clause-adds
returns-clause-adds c =
    let entries : c.insert.new.self.entries ≡ c.args.columns.now.entries ++ ((c.args.n, c.args.k), c.in_ok-column.column) ∷ []
    = c.in_ok-insert.ensures.entries ∙ insert_entry-new is_pair c.args.columns.now (c.args.n, c.args.k) c.in_ok-column.column c.requires.absent in
    Adds-entry (c.args.n, c.args.k) c.in_ok-column.column c.args.columns.now.entries c.insert.new.self.entries entries

pub returns-clause-held : goal.returns-clause-held
returns-clause-held c = Has-from_lookup (c.args.n, c.args.k) c.insert.new.self.entries (search rules)
