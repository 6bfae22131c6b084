use Rattle.std.proofs.Common.{◌≡◌, ◌+◌, ◌*◌, ◌∙◌, sym, ap, subst, arith, length}
use Rattle.p1_normal.specs.Units.{gcd}
use Rattle.p1_normal.specs.Sieving.{Sieved}
use Rattle.p1_normal.proofs.Units.{gcd-turned}
use Rattle.p1_normal.proofs.Sieve.{row_pushed, row_marked, row_none, sieve_same}
use Rattle.p1_normal.proofs.tables.number_row.Goals as goal
use Rattle.p1_normal.proofs.tables.number_row.Goals.{then-numbers-u-eq0+then-gcd-eq1+in_ok-push, else-numbers-u-eq0, else-numbers-u-eq0-via-then-numbers-u-eq0+else-gcd-eq1, else-numbers-u-eq0-via-else-numbers-u-eq0}

pub loop-v-preserved : goal.loop-v-preserved
loop-v-preserved c =
    let inv = c.loop-v.invariant.sieved in
    record {
      sieved = elim c.if-numbers-u-eq0.branch [
        | then-numbers-u-eq0+then-gcd-eq1+in_ok-push w ↦ sieve_same (ap (λ list. list.items) w.points-is) w.numbers-is
            (row_pushed c.requires.level.0 c.requires.below c.loop-v-test.true inv c.requires.head w.if-numbers-u-eq0.true
            (sym (w.gcd.ensures ∙ ap (gcd c.loop-v.v) c.gcd-divisor.ensures ∙ gcd-turned c.args.u c.loop-v.v c.args.n) ∙ w.if-gcd-eq1.true)
            w.in_ok-push.ensures.items (omega (arith, w.len.ensures, w.in_ok-push.ensures.len)) w.mark.ensures)
        | else-numbers-u-eq0 w ↦ sieve_same (ap (λ list. list.items) w.points-is) w.numbers-is (elim w.else-numbers-u-eq0.branch [
          | else-numbers-u-eq0-via-then-numbers-u-eq0+else-gcd-eq1 w' ↦ row_none c.requires.level.0 c.requires.below c.loop-v-test.true inv
              (λ one. w'.if-gcd-eq1.false (w'.gcd.ensures ∙ ap (gcd c.loop-v.v) c.gcd-divisor.ensures ∙ gcd-turned c.args.u c.loop-v.v c.args.n ∙ one))
          | else-numbers-u-eq0-via-else-numbers-u-eq0 w' ↦ row_marked c.requires.level.0 c.requires.below c.loop-v-test.true inv
              w'.if-numbers-u-eq0.false
        ])
      ];
      size = elim c.if-numbers-u-eq0.branch [
        | then-numbers-u-eq0+then-gcd-eq1+in_ok-push w ↦ ap length w.numbers-is ∙ w.mark.ensures.size ∙ c.loop-v.invariant.size
        | else-numbers-u-eq0 w ↦ ap length w.numbers-is ∙ c.loop-v.invariant.size
      ];
    }

pub bounds-numbers-u : goal.bounds-numbers-u
bounds-numbers-u c = omega (arith, c.loop-v.invariant.sieved.rows c.args.u c.requires.below c.requires.head, c.loop-v-test.true)

pub mark-requires-clause-room : goal.mark-requires-clause-room
mark-requires-clause-room c = c.loop-v.invariant.sieved.rows c.args.u c.requires.below c.requires.head

pub returns-clause-sieved : goal.returns-clause-sieved
returns-clause-sieved c = let e : c.loop-v.v ≡ c.args.n = omega (arith, c.loop-v-test.false, c.loop-v.auto.v-end) in
    subst (λ v. Sieved c.args.n (c.args.u * c.args.n + v) c.loop-v.points.items c.loop-v.numbers) e c.loop-v.invariant.sieved
