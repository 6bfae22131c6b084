use Rattle.session_core.proofs.RunsOnce.{solo_once, solo_counted}
use Rattle.session_core.proofs.laws.solo_runs_are_unique.Goals as goal

pub returns : goal.returns
returns c = record { law = solo_once; columns = solo_counted }
