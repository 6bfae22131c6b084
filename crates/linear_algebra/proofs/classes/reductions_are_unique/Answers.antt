use Rattle.std.proofs.Common.{arith}
use Rattle.linear_algebra.proofs.Reductions.{reduction_once}
use Rattle.linear_algebra.proofs.Existence.{reduction_exists}
use Rattle.linear_algebra.proofs.classes.reductions_are_unique.Goals as goal

pub returns : goal.returns
returns c = record {
  exist = λ p d rows x prime ends. reduction_exists prime d rows ends x;
  once =
      λ p d rows x y z prime ends h k. reduction_once (omega (arith, prime.above_one)) d rows ends x y z h k;
}
