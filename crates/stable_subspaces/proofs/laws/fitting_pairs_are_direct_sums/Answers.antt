use Rattle.stable_subspaces.proofs.Fitting.{fitting_pair_sum}
use Rattle.stable_subspaces.proofs.laws.fitting_pairs_are_direct_sums.Goals as goal

pub returns : goal.returns
returns c = record { law = λ p d a rows k i prime columns ends s f. fitting_pair_sum prime d a rows columns ends s k i f }
