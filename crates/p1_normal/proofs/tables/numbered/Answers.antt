use Rattle.std.proofs.Common.{◌≡◌, ◌*◌, ◌∙◌, sym, ap, subst, arith, length, get_or}
use Rattle.std.proofs.lemmas.List.{with_items_is}
use Rattle.p1_normal.specs.declared.tables.Turn.{Turn}
use Rattle.p1_normal.specs.Tables.{IsHead}
use Rattle.p1_normal.proofs.Sieve.{row_done, row_skipped, sieve_same, sieve_all}
use Rattle.p1_normal.proofs.Turns.{turn_at, turn_own}
use Rattle.p1_normal.proofs.tables.numbered.Goals as goal
use Rattle.p1_normal.proofs.tables.numbered.Goals.{then-turns-u+in_ok-kept+in_ok-number_row, else-turns-u}

abbrev nothing : Turn
nothing = record { head = 0; factor = 0 }

pub number_row-requires-clause-head : goal.number_row-requires-clause-head
number_row-requires-clause-head c = subst (IsHead c.args.n) c.if-turns-u.true (turn_at c.loop-u.u nothing c.requires.turns c.loop-u-test.true).head

pub loop-u-preserved : goal.loop-u-preserved
loop-u-preserved c = elim c.if-turns-u.branch [
  | then-turns-u+in_ok-kept+in_ok-number_row w ↦
      let row = w.in_ok-number_row.ensures.sieved in
      sieve_same (ap (λ list. list.items) w.points-is)
      (ap (λ list. list.items) w.numbers-is ∙ with_items_is c.loop-u.numbers w.number_row.new.numbers
      (w.in_ok-number_row.ensures.size ∙ ap length w.deref_mut.ensures.value ∙ sym c.loop-u.numbers.ok.0)) (row_done c.loop-u.u row)
  | else-turns-u w ↦ sieve_same (ap (λ list. list.items) w.points-is) (ap (λ list. list.items) w.numbers-is)
      (row_skipped c.requires.level.0 c.loop-u-test.true (λ head. w.if-turns-u.false
      (turn_own c.args.n c.loop-u.u (get_or c.args.turns.now c.loop-u.u nothing) c.loop-u-test.true
      (turn_at c.loop-u.u nothing c.requires.turns c.loop-u-test.true) head)) c.loop-u.invariant)
]

pub returns : goal.returns
returns c = let e : c.loop-u.u ≡ c.args.n = omega (arith, c.loop-u-test.false, c.loop-u.auto.u-end) in sieve_all c.requires.level.0
    (ap (λ u. u * c.args.n) e) c.loop-u.invariant
