use Rattle.std.proofs.Common.{sym, ap, ◌∙◌}
use Rattle.p1_normal.proofs.UnitLists.{units_more_coprime, units_more_other}
use Rattle.p1_normal.proofs.tables.units_below.Goals as goal
use Rattle.p1_normal.proofs.tables.units_below.Goals.{then-gcd-eq1+in_ok-push, else-gcd-eq1}

pub loop-s-preserved : goal.loop-s-preserved
loop-s-preserved c = elim c.if-gcd-eq1.branch [
  | then-gcd-eq1+in_ok-push w ↦ ap (λ list. list.items) w.list-is ∙ w.in_ok-push.ensures.items
      ∙ units_more_coprime c.args.n c.loop-s.s c.loop-s.list.items c.requires (sym c.gcd.ensures ∙ w.if-gcd-eq1.true) c.loop-s.invariant
  | else-gcd-eq1 w ↦ ap (λ list. list.items) w.list-is ∙ units_more_other c.args.n c.loop-s.s c.loop-s.list.items
      (λ e. w.if-gcd-eq1.false (c.gcd.ensures ∙ e)) c.loop-s.invariant
]
