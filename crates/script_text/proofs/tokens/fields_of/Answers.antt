use Rattle.std.proofs.Common.{sym, ap, ◌∙◌, arith}
use Rattle.text_lines.specs.Lines.{tokens}
use Rattle.script_text.specs.Rows.{row}
use Rattle.script_text.specs.Grammar.{next_kind}
use Rattle.script_text.specs.Walk.{given}
use Rattle.script_text.proofs.WithinLemmas.{few_added}
use Rattle.script_text.proofs.WalkLemmas.{goes_on, stops_here, walk-short, walk-whole}
use Rattle.script_text.proofs.tokens.fields_of.Goals as goal

pub returns-then-not-branch-clause-read : goal.returns-then-not-branch-clause-read
returns-then-not-branch-clause-read c =
    stops_here c.loop-token.to_come.now (row c.args.word).repeated c.next_item-kind.result.0 c.loop-token.place (given c.loop-token.fields)
    c.in-Some.token.now (tokens c.in-Some.after.now) (tokens c.loop-token.rest.now) _ c.in-Some.ensures.token
    (c.next_item-kind.ensures.kind ∙ ap (next_kind c.loop-token.to_come.now) c.repeated.ensures)
    (sym c.if-not-branch.true ∙ c.in_ok-add_token.ensures.fits) c.loop-token.invariant.ahead

pub loop-token-preserved : goal.loop-token-preserved
loop-token-preserved c = record {
  room = omega (arith, c.in-Some.ensures.shorter, c.loop-token.invariant.room);
  few = omega (
    arith,
    c.loop-token.invariant.few,
    few_added c.next_item-kind.result.0 c.in-Some.token.now (given c.loop-token.fields)
        (given c.add_token.new.fields) (c.in_ok-add_token.ensures.added c.if-not-branch.false),
  );
  ahead = goes_on c.loop-token.to_come.now c.next_item-kind.result.1.now (row c.args.word).repeated c.next_item-kind.result.0
      c.loop-token.place (given c.loop-token.fields) (given c.add_token.new.fields)
      c.in-Some.token.now (tokens c.in-Some.after.now) (tokens c.loop-token.rest.now) _ c.in-Some.ensures.token
      (c.next_item-kind.ensures.kind ∙ ap (next_kind c.loop-token.to_come.now) c.repeated.ensures)
      c.next_item-kind.ensures.more (sym c.if-not-branch.false ∙ c.in_ok-add_token.ensures.fits)
      (c.in_ok-add_token.ensures.added c.if-not-branch.false) c.loop-token.invariant.ahead;
}

pub returns-then-not-is_empty-clause-read : goal.returns-then-not-is_empty-clause-read
returns-then-not-is_empty-clause-read c =
    sym c.loop-token.invariant.ahead ∙ rw (c.in_default.ensures {u = tt}).token
    (walk-short c.loop-token.to_come.now (row c.args.word).repeated c.loop-token.place (given c.loop-token.fields)
    (c.if-not-is_empty.ensures {u = tt}))

pub returns-clause-read : goal.returns-clause-read
returns-clause-read c =
    sym c.loop-token.invariant.ahead ∙ rw (c.in_default.ensures {u = tt}).token
    (walk-whole c.loop-token.to_come.now (row c.args.word).repeated c.loop-token.place (given c.loop-token.fields)
    (c.if-not-is_empty.ensures {u = tt}))
