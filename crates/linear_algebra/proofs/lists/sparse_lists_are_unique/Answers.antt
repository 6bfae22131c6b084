use Rattle.linear_algebra.proofs.SparseLaws.{sparse-injective}
use Rattle.linear_algebra.proofs.lists.sparse_lists_are_unique.Goals as goal

pub returns : goal.returns
returns c = record { law = λ p xs ys c d a b e. sparse-injective p xs ys c d a b e }
