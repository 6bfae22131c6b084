use Rattle.std.proofs.Common.{length, ap, sym, subst, arith}
use Rattle.split_state.specs.Step.{IsWhole}
use Rattle.split_state.specs.Versions.{IsVersion}
use Rattle.split_state.proofs.Versions.{version_whole}
use Rattle.quotient_coords.specs.Quotient.{dimension}
use Rattle.session_core.proofs.host.Host.new.Goals as goal

pub invariant_of-result : goal.invariant_of-result
invariant_of-result c = (
  c.new-columns.ensures.ground,
  omega (arith, ap length c.new.ensures.items),
  subst (λ h. IsVersion c.args.space h c.in_ok-splitting.splitting) (sym c.new.ensures.items)
      (version_whole c.args.space c.in_ok-splitting.splitting
      (subst (λ p. IsWhole p (dimension c.args.space.level c.args.space.characteristic) c.in_ok-splitting.splitting) c.field.ensures
      (subst (λ d. IsWhole c.field.result d c.in_ok-splitting.splitting) c.dim.ensures.dimension c.in_ok-splitting.ensures))),
  tt,
)
