use Rattle.std.proofs.Common.{◌+◌, ◌∙◌, arith, refl, sym}
use Rattle.turn_board.specs.Passes.{view}
use Rattle.turn_board.proofs.PassLemmas.{continues_refl, continues_trans}
use Rattle.session_core.specs.Demands.{line_demand}
use Rattle.host_workers.proofs.AnsweredLines.{HasAnswered-start, HasAnswered_next, session_answers}
use Rattle.host_workers.proofs.FlownLines.{LinesFly-start, LinesFly_next, session_flies}
use Rattle.host_workers.proofs.Lookups.{may_fly_as}
use Rattle.host_workers.proofs.Tries.{may_commit_on}
use Rattle.host_workers.proofs.session.run_session.Goals as goal

pub loop-line-init : goal.loop-line-init
loop-line-init g c = record {
  numbered = refl;
  columns = continues_refl c.args.columns.now;
  splits = continues_refl c.args.splits.now;
  may_fly = record {
    board = c.requires.columns;
    idle = c.requires.idle.0;
    setting = c.requires.ground.0;
    unclaimed = (LinesFly-start c.args.space.now ((view c.args.columns.now).number + 1) c.args.replies.now.items (view c.args.columns.now).seen
        c.requires.empty c.requires.unseen.0).settled;
  };
  may_commit = record { board = c.requires.splits; idle = c.requires.idle.1; setting = c.requires.ground.1 };
  walks = c.new-walks.ensures ∙ c.level.ensures;
  room = refl;
  answered = HasAnswered-start c.args.space.now ((view c.args.splits.now).number + 1) c.args.replies.now.items (view c.args.splits.now).seen
      c.requires.empty c.requires.unseen.1;
  flown = LinesFly-start c.args.space.now ((view c.args.splits.now).number + 1) c.args.replies.now.items (view c.args.columns.now).seen
      c.requires.empty c.requires.unseen.0;
}

pub loop-line-preserved : goal.loop-line-preserved
loop-line-preserved g c = record {
  numbered = omega arith;
  columns = continues_trans c.args.columns.now c.loop-line.columns c.answer_line-told.new.columns c.loop-line.invariant.columns
      c.answer_line-told.ensures.columns;
  splits = continues_trans c.args.splits.now c.loop-line.splits c.answer_line-told.new.splits c.loop-line.invariant.splits
      c.answer_line-told.ensures.splits;
  may_fly = may_fly_as c.args.flights.now c.args.space.now (line_demand c.args.space.now 0 c.line-item.result.text) (view c.loop-line.splits).number
      c.loop-line.columns c.answer_line-told.new.columns
      (c.loop-line.invariant.splits.number ∙ sym c.requires.number ∙ sym c.loop-line.invariant.columns.number) c.loop-line.invariant.may_fly
      c.answer_line-told.ensures.columns c.answer_line-told.ensures.idle.0 c.answer_line-told.ensures.flies.flies;
  may_commit = may_commit_on c.args.versions.now c.args.space.now c.loop-line.splits c.answer_line-told.new.splits c.loop-line.invariant.may_commit
      c.answer_line-told.ensures.splits c.answer_line-told.ensures.idle.1;
  walks = c.answer_line-told.ensures.walks ∙ c.loop-line.invariant.walks;
  room = c.push_reserved.ensures.capacity ∙ c.loop-line.invariant.room;
  answered = HasAnswered_next c.args.space.now (view c.loop-line.splits).number (view c.args.splits.now).number c.loop-line.line-index
      c.loop-line.number c.args.lines.now c.loop-line.replies.items c.push_reserved.new.self.items c.loop-line.known c.answer_line-told.new.known
      (view c.loop-line.splits).seen (view c.answer_line-told.new.splits).seen c.line-item.result c.answer_line-told.result
      c.loop-line.invariant.splits.number c.loop-line.invariant.numbered c.loop-line-test.true c.line-item.is c.push_reserved.ensures.items
      c.loop-line.invariant.answered c.answer_line-told.ensures.answers;
  flown = LinesFly_next c.args.space.now (view c.loop-line.splits).number (view c.args.splits.now).number c.loop-line.line-index c.args.lines.now
      c.loop-line.replies.items c.push_reserved.new.self.items (view c.loop-line.columns).seen (view c.answer_line-told.new.columns).seen
      c.line-item.result c.answer_line-told.result c.loop-line.invariant.splits.number c.loop-line-test.true c.line-item.is
      c.push_reserved.ensures.items c.loop-line.invariant.flown c.answer_line-told.ensures.flies;
}

pub returns-clause-answers : goal.returns-clause-answers
returns-clause-answers g c =
    session_answers c.args.space.now ((view c.args.splits.now).number + 1) c.loop-line.line-index c.args.lines.now c.loop-line.replies.items
    c.loop-line.known (view c.loop-line.splits).seen c.loop-line-test.false c.loop-line.invariant.answered

pub returns-clause-flies : goal.returns-clause-flies
returns-clause-flies g c =
    session_flies c.args.space.now ((view c.args.splits.now).number + 1) c.loop-line.line-index c.args.lines.now c.loop-line.replies.items
    (view c.loop-line.columns).seen c.loop-line-test.false c.loop-line.invariant.flown
