use Rattle.stable_subspaces.proofs.Polynomials.{generalised_kernel_stays, eventual_image_stays}
use Rattle.stable_subspaces.proofs.laws.commuting_operators_keep_the_parts.Goals as goal

pub returns : goal.returns
returns _ = record {
  kernel = λ p a b rows v h s k. generalised_kernel_stays a b rows h s v k;
  image =
      λ p a b rows v h s e. eventual_image_stays a b rows h s v e;
}
