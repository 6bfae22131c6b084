use Rattle.stable_subspaces.proofs.Refining.{refined_direct}
use Rattle.stable_subspaces.proofs.laws.refined_sums_are_direct.Goals as goal

pub returns : goal.returns
returns c = record { law = λ p d parts news r s. refined_direct d parts news r s }
