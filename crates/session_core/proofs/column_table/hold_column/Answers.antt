use Rattle.std.proofs.Common.{rules}
use Rattle.session_core.proofs.TableLemmas.{Has-from_lookup}
use Rattle.session_core.proofs.column_table.hold_column.Goals as goal

pub returns-then-contains_key-clause-held : goal.returns-then-contains_key-clause-held
returns-then-contains_key-clause-held c = Has-from_lookup (c.args.n, c.args.k) c.args.columns.now.entries (search rules)
