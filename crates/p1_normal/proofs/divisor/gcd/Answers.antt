use Rattle.std.proofs.Common.{arith}
use Rattle.std.proofs.lemmas.Nat.Gcd.{IsGcd-from_mod, IsGcd-from_zero}
use Rattle.p1_normal.proofs.Units.{gcd_from_IsGcd}
use Rattle.p1_normal.proofs.divisor.gcd.Goals as goal

pub loop-y-preserved : goal.loop-y-preserved
loop-y-preserved c = λ g h. c.loop-y.invariant g (IsGcd-from_mod _ _ g h)

pub returns : goal.returns
returns c = gcd_from_IsGcd c.args.a c.args.b c.loop-y.x (c.loop-y.invariant c.loop-y.x (IsGcd-from_zero _ _ (omega arith)))
