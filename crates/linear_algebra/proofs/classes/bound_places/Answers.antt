use Rattle.std.proofs.Common.{◌<◌, arith}
use Rattle.linear_algebra.proofs.BoundPlaces.{is_bound-IsPivot, IsPivot-is_bound}
use Rattle.linear_algebra.proofs.Reductions.{bound_is_pivot, pivot_is_bound}
use Rattle.linear_algebra.proofs.classes.bound_places.Goals as goal

pub returns : goal.returns
returns _ = record {
  pivot = λ p rows k prime. let positive : 0 < p = omega (arith, prime.above_one) in
      (λ b. bound_is_pivot positive rows k b, λ h. pivot_is_bound positive rows k h);
  test = λ p d rows k prime ends. let positive : 0 < p = omega (arith, prime.above_one) in (
    λ t. pivot_is_bound positive rows k (is_bound-IsPivot d rows ends k t),
    λ b. IsPivot-is_bound positive d rows k
        (bound_is_pivot positive rows k b),
  );
}
