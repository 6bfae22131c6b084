use Rattle.std.proofs.Common.{sym, subst}
use Rattle.p1_normal.proofs.Turns.{AreTurnsBelow, turns_more}
use Rattle.p1_normal.proofs.tables.turns_below.Goals as goal

pub loop-u-preserved : goal.loop-u-preserved
loop-u-preserved c = subst (AreTurnsBelow c.args.n _) (sym c.in_ok-push.ensures.items)
    (turns_more c.args.n c.loop-u.u c.loop-u.turns.items c.turn_of.result c.loop-u.invariant c.turn_of.ensures)
