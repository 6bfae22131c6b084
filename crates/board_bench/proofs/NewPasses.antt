-- The passes of a new board.
use Rattle.std.proofs.Common.{ℕ, List, [], ◌∷◌, ap}
use Rattle.std.specs.Prelude.{All}
use Rattle.std.specs.List.{AllZip, AllByRecursion}
use Rattle.std.specs.declared.cmp.PartialEq.{Ghosts as Equality}
use Rattle.std.proofs.lemmas.List.Elements.{All-from_recursion}
use Rattle.turn_board.specs.declared.kept.Kept.{Ghosts}
use Rattle.turn_board.specs.declared.board.Board.{Board}
use Rattle.turn_board.specs.declared.pass.Pass.{Pass}
use Rattle.turn_board.specs.Passes.{IsNew}
use Rattle.board_bench.specs.Ready.{IsReady}

module _ {S E : Type 0} {g : Ghosts S E} {q : Equality E} (board : Board S E) where
  new_is_ready : (number : ℕ) (pass : Pass S E g q) → IsNew board number pass → IsReady board pass
  new_is_ready number pass is = record { of = is.of; idle = ap (λ v. v.has_turn) is.fresh }

  each_ready : (numbers : List ℕ) (passes : List (Pass S E g q)) → AllZip (IsNew board) numbers passes → AllByRecursion (IsReady board) passes
  each_ready [] [] h = tt
  each_ready (k ∷ numbers) (pass ∷ passes) h = (new_is_ready k pass h.0, each_ready numbers passes h.1)
  each_ready [] (pass ∷ passes) h = absurd h
  each_ready (k ∷ numbers) [] h = absurd h

  -- new passes are ready
  pub all_ready : (numbers : List ℕ) (passes : List (Pass S E g q)) → AllZip (IsNew board) numbers passes → All (IsReady board) passes
  all_ready numbers passes h = All-from_recursion (IsReady board) passes (each_ready numbers passes h)
