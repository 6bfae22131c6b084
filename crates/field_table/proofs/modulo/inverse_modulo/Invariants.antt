use Rattle.std.proofs.Common.{◌≡◌, ◌<◌, ◌*◌, ◌%◌}
use Rattle.field_table.proofs.modulo.inverse_modulo.Given as goal

abbrev pub invariant-loop-n : goal.invariant-loop-n
invariant-loop-n l = record {
  congruent : (l.a * l.x) % l.p ≡ l.n;
  positive : 0 < l.n;
  below : l.n < l.p;
  reduced : l.x < l.p;
}

abbrev pub decreases-loop-n : goal.decreases-loop-n
decreases-loop-n l = l.n
