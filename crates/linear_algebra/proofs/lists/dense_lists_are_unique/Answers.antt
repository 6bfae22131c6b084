use Rattle.linear_algebra.proofs.DenseLaws.{dense-injective}
use Rattle.linear_algebra.proofs.lists.dense_lists_are_unique.Goals as goal

pub returns : goal.returns
returns c = record { law = λ p xs ys l a b e. dense-injective p xs ys l a b e }
