use Rattle.linear_algebra.proofs.Dimension.{independent_le}
use Rattle.linear_algebra.proofs.subspaces.independent_rows_are_few.Goals as goal

pub returns : goal.returns
returns c = record { law = λ p basis rows prime i each. independent_le prime basis rows i each }
