use Rattle.std.proofs.Common.{eqb, arith}
use Rattle.text_lines.proofs.SplitLemmas.{split-cut, split-last, not_true}
use Rattle.text_lines.proofs.part.next_part.Goals as goal

pub returns-in-Some-clause-part : goal.returns-in-Some-clause-part
returns-in-Some-clause-part c =
    let found = c.in-Some.ensures in
    split-cut (λ b. eqb b c.args.separator) c.args.text.now c.in-Some.end found.0.high
    (λ k below. not_true _ (found.0.before k (omega arith) below)) found.1

pub returns-in-None-clause-part : goal.returns-in-None-clause-part
returns-in-None-clause-part c =
    split-last (λ b. eqb b c.args.separator) c.args.text.now (λ k below. not_true _ (c.in-None.ensures k (omega arith) below))
