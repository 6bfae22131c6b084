use Rattle.std.proofs.Common.{[], refl, subst}
use Rattle.quotient_coords.specs.Quotient.{dimension}
use Rattle.split_state.specs.Step.{IsWhole}
use Rattle.split_state.proofs.Versions.{version_whole}
use Rattle.host_cases.proofs.commands.whole_of.Goals as goal

pub returns : goal.returns
returns c = record {
  history = [];
  count = refl;
  version = version_whole c.args.space.now c.in_ok-whole.whole
      (subst (λ p. IsWhole p (dimension c.args.space.now.level c.args.space.now.characteristic) c.in_ok-whole.whole) c.field.ensures
      (subst (λ d. IsWhole c.field.result d c.in_ok-whole.whole) c.dim.ensures.dimension c.in_ok-whole.ensures));
}
