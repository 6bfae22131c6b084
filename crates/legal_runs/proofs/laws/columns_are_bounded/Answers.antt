use Rattle.legal_runs.proofs.BoundedColumns.{columns_bounded}
use Rattle.legal_runs.proofs.laws.columns_are_bounded.Goals as goal

pub returns : goal.returns
returns c = record { law = columns_bounded }
