use Rattle.linear_algebra.proofs.Spans.{InSpan-trans}
use Rattle.linear_algebra.proofs.subspaces.spans_are_transitive.Goals as goal

pub returns : goal.returns
returns c = record { law = λ p basis rows v each h. InSpan-trans basis rows v each h }
