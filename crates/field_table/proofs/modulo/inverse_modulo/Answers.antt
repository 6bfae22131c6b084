use Rattle.std.proofs.Common.{arith, rules}
use Rattle.std.proofs.Math.Nat.{mod-lt}
use Rattle.field_table.proofs.Arithmetic.{inverse_step, prime-mod}
use Rattle.field_table.proofs.modulo.inverse_modulo.Goals as goal

pub loop-n-preserved : goal.loop-n-preserved
loop-n-preserved c = record {
  congruent = rw (c.from.ensures, c.from-in-loop-n.ensures, c.from-in-loop-n-2.ensures)
      (inverse_step c.args.p c.args.a c.loop-n.x c.loop-n.n c.loop-n.invariant.congruent c.loop-n.invariant.positive c.loop-n.invariant.below);
  positive = prime-mod c.args.p c.loop-n.n c.requires.prime c.loop-n-test.true c.loop-n.invariant.below;
  below = omega (arith, c.loop-n.invariant.below, mod-lt c.args.p c.loop-n.invariant.positive);
  reduced = search rules;
}
