use Rattle.std.specs.List.{range_with_len}
use Rattle.column_flight.specs.Shared.{board_of as flights_board}
use Rattle.split_versions.specs.Shared.{board_of as versions_board}
use Rattle.turn_board.specs.Passes.{pass_count}
use Rattle.host_workers.proofs.PassLists.{all_idle, all_of, all_there}
use Rattle.host_workers.proofs.host.closed_run.Goals as goal

pub close-requires-clause-board : goal.close-requires-clause-board
close-requires-clause-board c =
    all_of (flights_board c.args.board.flights) (range_with_len 0 (pass_count (flights_board c.args.board.flights))) c.args.columns.items
    c.requires.columns

pub close-requires-clause-all : goal.close-requires-clause-all
close-requires-clause-all c = all_there (flights_board c.args.board.flights) c.args.columns.items c.requires.columns

pub close-requires-clause-idle : goal.close-requires-clause-idle
close-requires-clause-idle c =
    all_idle (flights_board c.args.board.flights) (range_with_len 0 (pass_count (flights_board c.args.board.flights))) c.args.columns.items
    c.requires.columns

pub close-requires-2-clause-board : goal.close-requires-2-clause-board
close-requires-2-clause-board c =
    all_of (versions_board c.args.board.versions) (range_with_len 0 (pass_count (versions_board c.args.board.versions))) c.args.splits.items
    c.requires.splits

pub close-requires-2-clause-all : goal.close-requires-2-clause-all
close-requires-2-clause-all c = all_there (versions_board c.args.board.versions) c.args.splits.items c.requires.splits

pub close-requires-2-clause-idle : goal.close-requires-2-clause-idle
close-requires-2-clause-idle c =
    all_idle (versions_board c.args.board.versions) (range_with_len 0 (pass_count (versions_board c.args.board.versions))) c.args.splits.items
    c.requires.splits
