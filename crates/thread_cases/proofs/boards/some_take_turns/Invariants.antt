use Rattle.std.specs.List.{AllZip, range_with_len}
use Rattle.turn_board.specs.Passes.{IsIdle}
use Rattle.thread_cases.proofs.boards.some_take_turns.Given as goal

abbrev pub invariant-loop-number : goal.invariant-loop-number
invariant-loop-number g l = AllZip (IsIdle l.board) (range_with_len 0 8) l.passes
