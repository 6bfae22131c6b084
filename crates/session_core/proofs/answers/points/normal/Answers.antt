use Rattle.std.proofs.Common.{rules}
use Rattle.session_core.proofs.AnswerLemmas.{normal_told}
use Rattle.session_core.proofs.answers.points.normal.Goals as goal

pub returns : goal.returns
returns c = λ term named terms.
    normal_told c.args.space.now.level term c.args.numbers.now _ (search rules) named terms (search rules)
