use Rattle.session_core.proofs.LegalRuns.{solo_legal}
use Rattle.session_core.proofs.laws.solo_runs_are_legal.Goals as goal

pub returns : goal.returns
returns c = record { law = solo_legal }
