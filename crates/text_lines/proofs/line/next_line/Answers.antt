use Rattle.std.proofs.Common.{arith}
use Rattle.text_lines.proofs.SplitLemmas.{not_true}
use Rattle.text_lines.proofs.LineLemmas.{lines-cut, lines-last, no_lines}
use Rattle.text_lines.proofs.line.next_line.Goals as goal

pub returns-then-is_empty-clause-line : goal.returns-then-is_empty-clause-line
returns-then-is_empty-clause-line c = no_lines c.args.text.now (c.if-is_empty.ensures {u = tt})

pub returns-in-Some-clause-line : goal.returns-in-Some-clause-line
returns-in-Some-clause-line c =
    let found = c.in-Some.ensures in
    lines-cut c.args.text.now c.in-Some.end found.0.high (λ k below. not_true _ (found.0.before k (omega arith) below)) found.1

pub returns-in-None-clause-line : goal.returns-in-None-clause-line
returns-in-None-clause-line c =
    rw (c.split_at.ensures.front, c.split_at.ensures.back)
    (lines-last c.args.text.now (c.if-is_empty.ensures {u = tt}) (λ k below. not_true _ (c.in-None.ensures k (omega arith) below)))
