use Rattle.linear_algebra.proofs.Dimension.{basis_sizes}
use Rattle.linear_algebra.proofs.subspaces.bases_have_one_size.Goals as goal

pub returns : goal.returns
returns _ = record { law = λ p rows xs ys prime b c. basis_sizes prime rows xs ys b c }
