use Rattle.std.proofs.Common.{subst, inl, inr, arith, get_or}
use Rattle.std.proofs.lemmas.Bool.{cases_eq}
use Rattle.p1_normal.specs.declared.tables.Turn.{Turn}
use Rattle.p1_normal.specs.Tables.{IsHead}
use Rattle.p1_normal.proofs.Turns.{turn_at, turn_own}
use Rattle.p1_normal.proofs.tables.heads_end.Goals as goal
use Rattle.p1_normal.proofs.tables.heads_end.Goals.{then-turns-u, else-turns-u}

abbrev nothing : Turn
nothing = record { head = 0; factor = 0 }

pub loop-u-preserved : goal.loop-u-preserved
loop-u-preserved c = elim c.if-turns-u.branch [
  | then-turns-u w ↦ record { heads = λ h l head. omega (arith, w.end-is); within = omega (arith, w.end-is) }
  | else-turns-u w ↦ record {
    heads = λ h l head. elim (cases_eq h c.loop-u.u) [
      | inl same ↦ absurd (w.if-turns-u.false (turn_own c.args.n c.loop-u.u (get_or c.args.turns.now c.loop-u.u nothing) c.loop-u-test.true
          (turn_at c.loop-u.u nothing c.requires.turns c.loop-u-test.true) (subst (IsHead c.args.n) same head)))
      | inr other ↦ omega (arith, w.end-is, c.loop-u.invariant.heads h (omega arith) head)
    ];
    within = omega (arith, w.end-is, c.loop-u.invariant.within);
  }
]
