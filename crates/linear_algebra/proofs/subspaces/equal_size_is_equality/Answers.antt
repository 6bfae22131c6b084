use Rattle.linear_algebra.proofs.Spans.{InSpan-trans}
use Rattle.linear_algebra.proofs.Dimension.{spans_all}
use Rattle.linear_algebra.proofs.subspaces.equal_size_is_equality.Goals as goal

pub returns : goal.returns
returns c = record {
  law = λ p basis rows prime i each e. record {
    forth = λ v h. InSpan-trans basis rows v each h;
    back =
        λ v h. spans_all prime basis rows i each e v h;
  };
}
