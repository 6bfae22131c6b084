use Rattle.session_core.proofs.RunsOnce.{columns_counted}
use Rattle.session_core.proofs.laws.columns_are_demanded.Goals as goal

pub returns : goal.returns
returns c = record { law = columns_counted }
