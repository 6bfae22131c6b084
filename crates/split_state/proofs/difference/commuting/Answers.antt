use Rattle.split_state.proofs.Differences.{listed_agrees}
use Rattle.split_state.proofs.difference.commuting.Goals as goal

pub returns-then-is_listed-clause-agree : goal.returns-then-is_listed-clause-agree
returns-then-is_listed-clause-agree c = listed_agrees c.args.field c.args.names.now c.args.matrices.now c.args.op c.args.mat.now
    c.requires.many c.requires.listed c.requires.matches c.requires.commute (c.is_listed.ensures.0 c.if-is_listed.true)
