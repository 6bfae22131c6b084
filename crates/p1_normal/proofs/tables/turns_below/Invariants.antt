use Rattle.p1_normal.proofs.Turns.{AreTurnsBelow}
use Rattle.p1_normal.proofs.tables.turns_below.Given as goal

abbrev pub invariant-loop-u : goal.invariant-loop-u
invariant-loop-u l = AreTurnsBelow l.n l.u l.turns.items
