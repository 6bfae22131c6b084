use Rattle.text_lines.proofs.TokenLemmas.{tokens-after, begins-after}
use Rattle.text_lines.proofs.token.unindented.Goals as goal

pub returns-clause-same : goal.returns-clause-same
returns-clause-same c = tokens-after c.args.line.now c.blanks.result c.blanks.ensures.within c.blanks.ensures.skipped

pub returns-clause-begins : goal.returns-clause-begins
returns-clause-begins c = begins-after c.args.line.now c.blanks.result c.blanks.ensures.within c.blanks.ensures.stops
