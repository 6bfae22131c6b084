use Rattle.session_core.proofs.HistoryVersions.{history_versions}
use Rattle.session_core.proofs.laws.legal_histories_are_versions.Goals as goal

pub returns : goal.returns
returns c = record { law = history_versions }
