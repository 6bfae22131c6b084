use Rattle.std.proofs.Common.{length, sym, ◌∙◌, subst}
use Rattle.std.specs.Prelude.{All}
use Rattle.std.specs.List.{AllZip, range_with_len}
use mathlib.Core.List.{IsPrefix}
use Rattle.turn_board.specs.Passes.{IsAccounted, IsIdle, view}
use Rattle.column_flight.specs.Shared.{board_of as flights_board}
use Rattle.split_versions.specs.Shared.{board_of as versions_board}
use Rattle.host_workers.proofs.HostRuns.{run_of_works}
use Rattle.host_workers.proofs.host.works_run.Goals as goal

pub closed_run-requires-clause-columns : goal.closed_run-requires-clause-columns
closed_run-requires-clause-columns g c =
    let N = length c.args.script.now.sessions in
    subst (λ n. AllZip (IsIdle (flights_board c.args.board.flights)) (range_with_len 0 n) c.in_ok-columns.columns.items) (sym c.requires.count.0)
    (subst (AllZip (IsIdle (flights_board c.args.board.flights)) (range_with_len 0 N)) (sym c.in_ok-columns.ensures.columns)
    c.in_ok-works.ensures.columns)

pub closed_run-requires-clause-splits : goal.closed_run-requires-clause-splits
closed_run-requires-clause-splits g c =
    let N = length c.args.script.now.sessions in
    subst (λ n. AllZip (IsIdle (versions_board c.args.board.versions)) (range_with_len 0 n) c.in_ok-columns.splits.items) (sym c.requires.count.1)
    (subst (AllZip (IsIdle (versions_board c.args.board.versions)) (range_with_len 0 N)) (sym c.in_ok-columns.ensures.splits)
    c.in_ok-works.ensures.splits)

pub returns : goal.returns
returns g c =
    let shared = c.closed_run.result in
    run_of_works c.args.script.now c.args.board c.in_ok-works.works.items shared (record {
      ground = c.requires.ground;
      done = c.in_ok-works.ensures.done;
      columns = c.in_ok-works.ensures.columns;
      splits = c.in_ok-works.ensures.splits;
      events = subst (All (λ pass. IsPrefix (view pass).seen shared.flights.events)) c.in_ok-columns.ensures.columns c.closed_run.ensures.events;
      fliers = subst (λ ps. IsAccounted ps shared.flights) c.in_ok-columns.ensures.columns c.closed_run.ensures.fliers;
      entries = subst (All (λ pass. IsPrefix (view pass).seen shared.versions.entries)) c.in_ok-columns.ensures.splits c.closed_run.ensures.entries;
      makers = subst (λ ps. IsAccounted ps shared.versions) c.in_ok-columns.ensures.splits c.closed_run.ensures.makers;
      replies = c.closed_run.ensures.replies ∙ c.in_ok-columns.ensures.replies;
    })
