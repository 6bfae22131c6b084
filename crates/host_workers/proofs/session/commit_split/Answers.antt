use Rattle.std.proofs.Common.{Err, ap, ◌∙◌}
use Rattle.turn_board.specs.Passes.{view}
use Rattle.host_workers.proofs.Tries.{stale_split}
use Rattle.host_workers.proofs.session.commit_split.Goals as goal

pub returns-in-Err-Stale-clause-answer : goal.returns-in-Err-Stale-clause-answer
returns-in-Err-Stale-clause-answer g c =
    stale_split (view c.args.splits.now) (view c.commit.new.pass) c.args.version c.in-Err-Stale.field-0-0 c.args.entry c.commit.result
    (c.in-Err-Stale.is ∙ ap Err c.in-Err-Stale.field-0-is) c.requires.version c.commit.ensures.commits
