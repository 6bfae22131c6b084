use Rattle.std.proofs.Common.{rules}
use Rattle.session_core.proofs.TableLemmas.{column_found, lookup_from_Has}
use Rattle.session_core.proofs.column_table.column_at.Goals as goal

pub returns : goal.returns
returns c g all = column_found g c.args.n c.args.symbol c.args.columns.now.entries c.in-Some.column.now
    (let found = c.in-Some.ensures.value in cc) all

pub unreachable-requires : goal.unreachable-requires
unreachable-requires c = let some = lookup_from_Has (c.args.n, c.args.symbol) c.args.columns.now.entries c.requires.held in search rules
