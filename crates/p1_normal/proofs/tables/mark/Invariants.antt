use Rattle.p1_normal.proofs.Marking.{Marked}
use Rattle.p1_normal.proofs.tables.mark.Given as goal

abbrev pub invariant-loop-s : goal.invariant-loop-s
invariant-loop-s l = Marked l.n l.p l.number l.s-index l.initial.numbers l.numbers
