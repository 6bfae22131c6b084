use Rattle.std.proofs.Common.{◌≡◌, ◌≤◌, List, [], ◌∷◌, length, map, sym, ◌∙◌, ap, subst}
use Rattle.std.specs.Prelude.{All}
use Rattle.std.specs.List.{AllZip, enumerate_from, range_with_len}
use Rattle.std.proofs.lemmas.List.{with_items_is}
use Rattle.std.proofs.lemmas.Slice.Zip.{AllZip-long}
use Rattle.turn_board.specs.Passes.{IsIdle, IsNew}
use Rattle.script_text.specs.declared.limits.TheConstants.{MAX_COMMANDS}
use Rattle.script_text.specs.Numbered.{NumberedLine}
use Rattle.script_text.specs.Valid.{command_count}
use Rattle.column_flight.specs.Shared.{board_of as flights_board}
use Rattle.split_versions.specs.Shared.{board_of as versions_board}
use Rattle.host_workers.specs.declared.work.SpaceBoards.{SpaceBoards}
use Rattle.host_workers.specs.declared.work.SessionWork.{SessionWork}
use Rattle.host_workers.specs.Works.{HasRoom, HasWorked, IsDone, MayWork}
use Rattle.host_workers.proofs.HostRuns.{HasOpened, columns_idle, news_count, opened_may_work, splits_idle}
use Rattle.host_workers.proofs.WorkLists.{all_done}
use Rattle.host_workers.proofs.host.done_works.Goals as goal

pub opened_works-requires-clause-columns : goal.opened_works-requires-clause-columns
opened_works-requires-clause-columns g c =
    c.args.columns.ok.0 ∙ news_count (flights_board c.args.board.now.flights) (length c.args.script.now.sessions) c.args.columns.items c.requires.columns
    ∙ ap (λ (ss : List (List NumberedLine)). length ss) (sym c.sessions.ensures.value)

pub opened_works-requires-clause-splits : goal.opened_works-requires-clause-splits
opened_works-requires-clause-splits g c =
    c.args.splits.ok.0 ∙ news_count (versions_board c.args.board.now.versions) (length c.args.script.now.sessions) c.args.splits.items c.requires.splits
    ∙ ap (λ (ss : List (List NumberedLine)). length ss) (sym c.sessions.ensures.value)

pub run_sessions-requires-after_bounds : goal.run_sessions-requires-after_bounds
run_sessions-requires-after_bounds g c κs within =
    let N = length c.args.script.now.sessions in
    let opened : HasOpened c.args.script.now c.args.board.now c.in_ok-works.works.items = record {
      flights = c.requires.flights;
      versions = c.requires.versions;
      few = subst (λ (ss : List (List NumberedLine)). command_count ss ≤ MAX_COMMANDS) c.sessions.ensures.value c.sessions.ensures.few_commands;
      room = subst (λ (ss : List (List NumberedLine)). AllZip HasRoom ss c.in_ok-works.works.items) c.sessions.ensures.value
          c.in_ok-works.ensures.room;
      new_columns = subst (AllZip (IsNew (flights_board c.args.board.now.flights)) (range_with_len 0 N)) (sym c.in_ok-works.ensures.columns)
          c.requires.columns;
      new_splits = subst (AllZip (IsNew (versions_board c.args.board.now.versions)) (range_with_len 0 N)) (sym c.in_ok-works.ensures.splits)
          c.requires.splits;
    } in
    subst (λ (bs : List SpaceBoards). All (MayWork c.args.script.now bs) c.deref_mut.result.now) (sym c.from_ref.ensures.value)
    (subst (λ (ws : List SessionWork). All (MayWork c.args.script.now (c.args.board.now ∷ [])) ws) (sym c.deref_mut.ensures.value)
    (opened_may_work c.args.script.now c.args.board.now c.in_ok-works.works.items opened))

pub returns : goal.returns
returns g c =
    let N = length c.args.script.now.sessions in
    let old = c.in_ok-works.works.items in
    let room : AllZip HasRoom c.args.script.now.sessions old =
    subst (λ (ss : List (List NumberedLine)). AllZip HasRoom ss old) c.sessions.ensures.value c.in_ok-works.ensures.room in
    let columns : AllZip (IsNew (flights_board c.args.board.now.flights)) (range_with_len 0 N) (map (λ (w : SessionWork). w.columns) old) =
    subst (AllZip (IsNew (flights_board c.args.board.now.flights)) (range_with_len 0 N)) (sym c.in_ok-works.ensures.columns) c.requires.columns in
    let splits : AllZip (IsNew (versions_board c.args.board.now.versions)) (range_with_len 0 N) (map (λ (w : SessionWork). w.splits) old) =
    subst (AllZip (IsNew (versions_board c.args.board.now.versions)) (range_with_len 0 N)) (sym c.in_ok-works.ensures.splits) c.requires.splits in
    let worked : AllZip (HasWorked c.args.script.now (c.args.board.now ∷ [])) old c.run_sessions.new.works =
    subst (λ (ws : List SessionWork). AllZip (HasWorked c.args.script.now (c.args.board.now ∷ [])) ws c.run_sessions.new.works)
    c.deref_mut.ensures.value
    (subst (λ (bs : List SpaceBoards). AllZip (HasWorked c.args.script.now bs) c.deref_mut.result.now c.run_sessions.new.works)
    c.from_ref.ensures.value c.run_sessions.ensures) in
    let as_many : length c.run_sessions.new.works ≡ c.in_ok-works.works.len =
    AllZip-long (HasWorked c.args.script.now (c.args.board.now ∷ [])) old c.run_sessions.new.works worked ∙ sym c.in_ok-works.works.ok.0 in
    let new = sym (with_items_is c.in_ok-works.works c.run_sessions.new.works as_many) in
    record {
      done = subst (AllZip (IsDone c.args.board.now.space) (enumerate_from 1 c.args.script.now.sessions)) new
          (all_done c.args.script.now c.args.board.now old c.run_sessions.new.works room columns splits worked);
      columns = subst (λ (ws : List SessionWork). AllZip (IsIdle (flights_board c.args.board.now.flights)) (range_with_len 0 N)
          (map (λ (w : SessionWork). w.columns) ws)) new
          (columns_idle c.args.script.now c.args.board.now (range_with_len 0 N) old c.run_sessions.new.works columns worked);
      splits = subst (λ (ws : List SessionWork). AllZip (IsIdle (versions_board c.args.board.now.versions)) (range_with_len 0 N)
          (map (λ (w : SessionWork). w.splits) ws)) new
          (splits_idle c.args.script.now c.args.board.now (range_with_len 0 N) old c.run_sessions.new.works splits worked);
    }
