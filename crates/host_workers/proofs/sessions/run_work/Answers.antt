use Rattle.std.proofs.Common.{◌≡◌, List, get_or, refl, ap, subst, ◌∙◌}
use Rattle.std.proofs.lemmas.Option.{get_or_from_slice_get}
use Rattle.turn_board.specs.Passes.{view}
use Rattle.script_text.specs.Numbered.{NumberedLine}
use Rattle.host_workers.specs.declared.work.SpaceBoards.{SpaceBoards}
use Rattle.host_workers.specs.Workers.{AnswersSession, FliesSession}
use Rattle.host_workers.specs.Works.{session_of}
use Rattle.host_workers.proofs.sessions.run_work.Goals as goal

pub returns : goal.returns
returns g c =
    let sessions = c.args.script.now.sessions in
    let read : c.index-sessions-number.result ≡ get_or sessions (view c.args.work.now.columns).number c.index-sessions-number.result =
    c.index-sessions-number.is
    ∙ ap (λ (ss : List (List NumberedLine)). get_or ss c.number.result c.index-sessions-number.result) c.sessions.ensures.value
    ∙ ap (λ n. get_or sessions n c.index-sessions-number.result) c.number.ensures.number in
    let lines : c.commands.result.now ≡ c.requires.lines =
    c.commands.ensures ∙ read ∙ get_or_from_slice_get sessions (view c.args.work.now.columns).number c.requires.lines
    c.index-sessions-number.result c.requires.at.session in
    let board : c.index-boards-work.result ≡ c.requires.board =
    c.index-boards-work.is ∙ get_or_from_slice_get c.args.boards.now c.args.work.now.place c.requires.board c.index-boards-work.result
    c.requires.at.place in
    record {
      lines = c.requires.lines;
      board = c.requires.board;
      at = c.requires.at;
      place = refl;
      columns = c.run_session.ensures.columns;
      splits = c.run_session.ensures.splits;
      columns_idle = c.run_session.ensures.idle.0;
      splits_idle = c.run_session.ensures.idle.1;
      answers = subst (λ (ls : List NumberedLine). AnswersSession c.requires.board.space (session_of c.args.work.now) ls c.run_session.new.replies.items
          (view c.run_session.new.splits).seen) lines
          (subst (λ (b : SpaceBoards). AnswersSession b.space (session_of c.args.work.now) c.commands.result.now c.run_session.new.replies.items
          (view c.run_session.new.splits).seen) board c.run_session.ensures.answers);
      flies = subst (λ (ls : List NumberedLine). FliesSession c.requires.board.space (session_of c.args.work.now) ls c.run_session.new.replies.items
          (view c.run_session.new.columns).seen) lines
          (subst (λ (b : SpaceBoards). FliesSession b.space (session_of c.args.work.now) c.commands.result.now c.run_session.new.replies.items
          (view c.run_session.new.columns).seen) board c.run_session.ensures.flies);
    }
