use Rattle.linear_algebra.proofs.KeptRows.{trace_once}
use Rattle.linear_algebra.proofs.Existence.{trace_exists}
use Rattle.linear_algebra.proofs.classes.kept_coefficients_are_unique.Goals as goal

pub returns : goal.returns
returns _ = record {
  exist = λ p d rows x y prime ends h. trace_exists prime d rows ends x y h;
  once =
      λ p rows x y b c prime h k. trace_once prime rows x y b c h k;
}
