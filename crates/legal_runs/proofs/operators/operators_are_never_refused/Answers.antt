use Rattle.legal_runs.proofs.OperatorReplies.{operators_not_refused}
use Rattle.legal_runs.proofs.operators.operators_are_never_refused.Goals as goal

pub returns : goal.returns
returns c = record { law = operators_not_refused }
