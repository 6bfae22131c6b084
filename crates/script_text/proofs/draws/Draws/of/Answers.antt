use Rattle.std.proofs.Common.{rules}
use Rattle.script_text.specs.Draws.{drawn_space}
use Rattle.script_text.proofs.draws.Draws.of.Goals as goal

pub returns-clause-space : goal.returns-clause-space
unfolding drawn_space
returns-clause-space c = search rules

pub returns-clause-state : goal.returns-clause-state
unfolding drawn_space
returns-clause-state c = search rules
