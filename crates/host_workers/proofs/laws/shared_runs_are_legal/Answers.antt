use Rattle.host_workers.proofs.SharedRuns.{shared_legal}
use Rattle.host_workers.proofs.laws.shared_runs_are_legal.Goals as goal

pub returns : goal.returns
returns c = record { law = shared_legal }
