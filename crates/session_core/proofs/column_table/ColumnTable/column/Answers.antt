use Rattle.std.proofs.Common.{rules}
use Rattle.session_core.proofs.column_table.ColumnTable.column.Goals as goal

pub returns : goal.returns
returns c = c.column_at.ensures c.args.self.now.ground (search rules)
