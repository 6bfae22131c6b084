use Rattle.linear_algebra.specs.Coordinates.{rows_at}
use Rattle.linear_algebra.proofs.Spans.{InSpan-trans}
use Rattle.linear_algebra.proofs.KeptList.{kept_independent, InSpan-kept, Each-InSpan_kept}
use Rattle.linear_algebra.proofs.classes.kept_rows_are_a_basis.Goals as goal

pub returns : goal.returns
returns c = record {
  law = λ p d rows ks prime ends h. record {
    independent = kept_independent prime rows ks h;
    same =
        record {
          forth = λ v held. InSpan-kept prime rows ks h d ends v held;
          back =
              λ v held. InSpan-trans rows (rows_at rows ks) v (Each-InSpan_kept prime rows ks h) held;
        };
  };
}
