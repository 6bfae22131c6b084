-- A pass between its turns.
--   IsReady board pass   the pass is one of the board, and has not the turn
use Rattle.std.specs.Prelude.{◌≡◌, false}
use Rattle.std.specs.declared.cmp.PartialEq.{Ghosts as Equality}
use Rattle.turn_board.specs.declared.kept.Kept.{Ghosts}
use Rattle.turn_board.specs.declared.pass.Pass.{Pass}
use Rattle.turn_board.specs.declared.board.Board.{Board}
use Rattle.turn_board.specs.Passes.{IsOf, view}

module _ {S E : Type 0} {g : Ghosts S E} {q : Equality E} where
  pub record IsReady (board : Board S E) (pass : Pass S E g q) : Type 0 where
    pub of : IsOf board pass
    pub idle : (view pass).has_turn ≡ false
