use Rattle.std.proofs.Common.{arith}
use Rattle.linear_algebra.proofs.Coordinates.{coordinates_once}
use Rattle.linear_algebra.proofs.Existence.{coordinates_exist}
use Rattle.linear_algebra.proofs.classes.coordinates_are_unique.Goals as goal

pub returns : goal.returns
returns _ = record {
  exist = λ p d rows x prime ends short. coordinates_exist prime d rows ends x short;
  once =
      λ p d rows x b c prime ends h k. coordinates_once (omega (arith, prime.above_one)) d rows ends x b c h k;
}
