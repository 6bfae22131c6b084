use Rattle.std.proofs.Common.{◌≤◌, ◌++◌, ◌∙◌, sym, ap, arith}
use Rattle.heilbronn_sets.proofs.Entries.{parts_more, quotient_le}
use Rattle.heilbronn_sets.proofs.Rows.{one_more, none_more, row_done}
use Rattle.heilbronn_sets.proofs.merel.push_row.Goals as goal
use Rattle.heilbronn_sets.proofs.merel.push_row.Goals.{then-rest-eq0+in_ok-push, else-rest-eq0}

pub loop-c-preserved : goal.loop-c-preserved
loop-c-preserved c =
    let n = c.args.n in
    let a = c.args.a in
    let b = c.args.b in
    let l = c.loop-c in
    let inv = l.invariant in
    let small : l.quotient ≤ n = quotient_le n a b l.c l.quotient l.rest c.requires.row.0 c.loop-c-test.true inv.parts in
    record {
      parts = parts_more n a b l.c l.quotient l.rest c.divided_on-next.result.0 c.divided_on-next.result.1 inv.parts c.divided_on-next.ensures.value
          c.divided_on-next.ensures.rest;
      within = omega (arith, small, c.loop-c-test.true);
      few = omega (arith, small, c.divided_on-next.ensures.quotient);
      items = elim c.if-rest-eq0.branch [
        | then-rest-eq0+in_ok-push w ↦ ap (λ list. list.items) w.list-is
            ∙ one_more n a b l.c l.quotient l.rest c.args.list.now.items l.list.items w.push.new.self.items w.new.result
            c.requires.limit c.requires.row inv.parts w.if-rest-eq0.true c.loop-c-test.true inv.items w.new.ensures w.in_ok-push.ensures.items
        | else-rest-eq0 w ↦ ap (λ list. list.items) w.list-is ∙ none_more n a b l.c l.quotient l.rest c.args.list.now.items l.list.items inv.parts
            w.if-rest-eq0.false inv.items
      ];
    }

pub returns : goal.returns
returns c = record {
  items = c.loop-c.invariant.items ∙ ap (λ xs. c.args.list.now.items ++ xs)
      (sym (row_done c.args.n c.args.a c.args.b c.loop-c.c c.loop-c.quotient c.loop-c.rest c.loop-c.invariant.within c.loop-c.invariant.parts
      c.loop-c-test.false));
}
