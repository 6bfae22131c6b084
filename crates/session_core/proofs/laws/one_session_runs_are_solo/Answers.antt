use Rattle.session_core.proofs.OneSession.{one_session_once, one_session_solo}
use Rattle.session_core.proofs.laws.one_session_runs_are_solo.Goals as goal

pub returns : goal.returns
returns c = record { law = one_session_solo; unique = one_session_once }
