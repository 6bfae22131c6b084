use Rattle.std.proofs.Common.{◌≡◌, [], sym, ◌∙◌}
use Rattle.std.specs.List.{range_with_len}
use Rattle.std.proofs.lemmas.List.Elements.{All-from_recursion}
use Rattle.turn_board.specs.Passes.{view}
use Rattle.column_flight.specs.Shared.{board_of as flights_board}
use Rattle.split_versions.specs.Shared.{board_of as versions_board}
use Rattle.host_workers.proofs.HostRuns.{none_from_empty, run_of_none}
use Rattle.host_workers.proofs.PassLists.{news_see_nothing, none_made}
use Rattle.host_workers.proofs.host.shared_run.Goals as goal

pub returns-then-is_empty : goal.returns-then-is_empty
returns-then-is_empty g c =
    let shared = c.closed_run.result in
    run_of_none c.args.script.now shared (sym c.sessions-sessions.ensures.value
    ∙ none_from_empty c.sessions-sessions.result.now c.if-is_empty.ensures)
    (c.closed_run.ensures.replies ∙ c.of.ensures ∙ c.new.ensures.items)
    (none_made c.in_ok-versions.splits.items shared.versions (All-from_recursion (λ pass. (view pass).seen ≡ []) c.in_ok-versions.splits.items
    (news_see_nothing (versions_board c.in_ok-versions.versions) (range_with_len 0 c.pass_number-passes.result) c.in_ok-versions.splits.items
    c.in_ok-versions.ensures.passes)) c.closed_run.ensures.makers)
    (none_made c.in_ok-flights.columns.items shared.flights (All-from_recursion (λ pass. (view pass).seen ≡ []) c.in_ok-flights.columns.items
    (news_see_nothing (flights_board c.in_ok-flights.flights) (range_with_len 0 c.pass_number-passes.result) c.in_ok-flights.columns.items
    c.in_ok-flights.ensures.passes)) c.closed_run.ensures.fliers)
