use Rattle.std.proofs.Common.{◌≡◌, false}
use Rattle.turn_board.specs.Passes.{Continues, IsOf, view}
use Rattle.thread_cases.proofs.boards.stamp_often.Given as goal

abbrev pub invariant-loop-number : goal.invariant-loop-number
invariant-loop-number g l = IsOf l.board l.pass × ((view l.pass).has_turn ≡ false) × Continues l.fn.pass l.pass
