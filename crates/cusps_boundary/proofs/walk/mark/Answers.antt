use Rattle.std.proofs.Common.{set, sym, subst, arith}
use Rattle.cusps_boundary.specs.declared.walk.TheConstants.{NONE}
use Rattle.cusps_boundary.proofs.Marking.{IsMarking, marking_none, marking_more, marking_all}
use Rattle.cusps_boundary.proofs.Orbits.{turned-lt}
use Rattle.cusps_boundary.proofs.walk.mark.Goals as goal

pub loop-numbers-init : goal.loop-numbers-init
loop-numbers-init c = marking_none c.args.level.now c.args.k c.args.c NONE c.args.numbers.now c.requires.place c.requires.number c.requires.unmarked

pub bounds-numbers-j : goal.bounds-numbers-j
bounds-numbers-j c = omega (
  arith,
  turned-lt c.args.level.now c.args.k c.loop-numbers.j c.requires.place c.loop-numbers.invariant.here,
  c.loop-numbers.invariant.size,
  c.requires.size,
)

pub loop-numbers-preserved : goal.loop-numbers-preserved
loop-numbers-preserved c = subst (IsMarking c.args.level.now c.args.k c.args.c c.args.numbers.now
    (set c.loop-numbers.numbers c.loop-numbers.j c.args.c)) (sym c.u_of-j.ensures.number)
    (marking_more c.args.level.now c.args.k c.args.c c.args.numbers.now c.loop-numbers.numbers c.loop-numbers.j
    (omega (
      arith,
      turned-lt c.args.level.now c.args.k c.loop-numbers.j c.requires.place c.loop-numbers.invariant.here,
      c.loop-numbers.invariant.size,
      c.requires.size,
    )) c.loop-numbers.invariant)

pub returns : goal.returns
returns c = marking_all c.args.level.now c.args.k c.args.c NONE c.args.numbers.now c.loop-numbers.numbers c.loop-numbers.j c.requires.place
    c.requires.unmarked c.loop-numbers-test.false c.loop-numbers.invariant
