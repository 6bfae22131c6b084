use Rattle.linear_algebra.proofs.Unique.{reduced_echelon_unique}
use Rattle.linear_algebra.proofs.subspaces.one_reduced_echelon_basis.Goals as goal

pub returns : goal.returns
returns c = record { law = λ p xs ys prime e f s. reduced_echelon_unique prime xs ys e f s.forth s.back }
