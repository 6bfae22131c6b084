use Rattle.session_core.proofs.DemandLemmas.{table_serves}
use Rattle.session_core.proofs.column_table.ColumnTable.source.Goals as goal

pub returns : goal.returns
returns c = rw c.determinant_of-n.ensures (table_serves c.args.self.now.ground c.args.self.now.pairs c.args.demand.now c.requires.held)
