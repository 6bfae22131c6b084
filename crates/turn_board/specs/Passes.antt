-- What clauses read of a pass, of a board and of a state that was taken.
--   view pass                    what the pass knows
--   state_of held                the state
--   opening_state board          the state with which the board was opened
--   pass_count board             how many passes it was opened with
--   IsOf board pass              the pass is one of this board
--   AreAll board passes          no pass of the board is missing from the list
--   IsNew board number pass      the pass is one of this board as it was opened, with this number
--   IsIdle board number pass     the pass is one of this board, has this number, and not the turn
--   Continues old new            a pass before and after a call: it is the same one, and has seen,
--                                tried and loaded no less
--   IsBusy old by new            a try of a pass found another pass's number plus 1 in the turn word
--   Takes board old held new     a try of a pass got the turn, and with it this state: its list
--                                begins with what the pass had seen and is now seen, and no entry
--                                past that names the pass
--   MayGive pass held            the state has the list that was taken, or that list and one entry
--                                of this pass
--   Gives old held new           the turn is given back, and the list of this state is seen
--   IsAccounted passes state     each entry names one of these passes, and stands at its place in
--                                the list that this one has seen
use Rattle.std.specs.Prelude.{◌≡◌, ◌≢◌, ℕ, ◌+◌, ◌<◌, ◌≤◌, ◌⊎◌, List, [], ◌∷◌, ◌++◌, Some, false, slice_get}
use Rattle.std.specs.List.{Any}
use Rattle.std.specs.declared.cmp.PartialEq.{Ghosts as Equality}
use mathlib.Core.List.{IsPrefix}
use Rattle.turn_board.specs.declared.kept.Kept.{Ghosts}
use Rattle.turn_board.specs.declared.view.View.{View}
use Rattle.turn_board.specs.declared.pass.Pass.{Pass}
use Rattle.turn_board.specs.declared.held.Held.{Held}
use Rattle.turn_board.specs.declared.board.Board.{Board}
use Rattle.turn_board.specs.Views.{HasSeen, grown, idle, new_view, tried, turning}

abbrev pub state_of : {S E : Type 0} → Held S E → S
state_of held = held.state

module _ {S E : Type 0} where
  abbrev pub opening_state : Board S E → S
  opening_state board = board.table.shared.key.0.value

  abbrev pub pass_count : Board S E → ℕ
  pass_count board = board.table.shared.key.1

module _ {S E : Type 0} {g : Ghosts S E} {q : Equality E} where
  abbrev pub view : Pass S E g q → View E
  view pass = pass.seat.me.0

  pub record IsOf (board : Board S E) (pass : Pass S E g q) : Type 0 where
    pub table : pass.seat.table_id ≡ board.table.shared.table_id
    pub label : (view pass).label ≡ g.label (opening_state board)
    pub passes : (view pass).passes ≡ pass_count board

  abbrev pub AreAll : Board S E → List (Pass S E g q) → Type 0
  AreAll board passes =
      (number : ℕ) → number < pass_count board → Any (λ pass. (view pass).number ≡ number) passes

  pub record IsNew (board : Board S E) (number : ℕ) (pass : Pass S E g q) : Type 0 where
    pub of : IsOf board pass
    pub fresh :
        view pass
        ≡ new_view (g.label (opening_state board)) (pass_count board) number (view pass).given

  pub record IsIdle (board : Board S E) (number : ℕ) (pass : Pass S E g q) : Type 0 where
    pub of : IsOf board pass
    pub number_is : (view pass).number ≡ number
    pub idle : (view pass).has_turn ≡ false

  pub record Continues (old new : Pass S E g q) : Type 0 where
    pub table : new.seat.table_id ≡ old.seat.table_id
    pub number : (view new).number ≡ (view old).number
    pub label : (view new).label ≡ (view old).label
    pub passes : (view new).passes ≡ (view old).passes
    pub seen : IsPrefix (view old).seen (view new).seen
    pub tries : (view old).tries ≤ (view new).tries
    pub loads : (view old).loads ≤ (view new).loads

  pub record IsBusy (old : Pass S E g q) (by : ℕ) (new : Pass S E g q) : Type 0 where
    pub taken : by ≢ 0
    pub other : by ≢ (view old).number + 1
    pub within : by ≤ (view old).passes
    pub tried : view new ≡ tried (view old) by

  pub record Takes
      (board : Board S E) (old : Pass S E g q) (held : Held S E) (new : Pass S E g q) : Type 0 where
    pub label : g.label (state_of held) ≡ g.label (opening_state board)
    pub seen : HasSeen g.maker (view old).number (view old).seen (g.entries 0 (state_of held))
    pub tries : (view old).tries < (view new).tries
    pub turn : view new ≡ turning (view old) (view new).tries (g.entries 0 (state_of held))

  abbrev pub MayGive : Pass S E g q → Held S E → Type 0
  MayGive pass held =
      (g.entries 0 (state_of held) ≡ (view pass).seen)
      ⊎ ((e : E) × (g.entries 0 (state_of held) ≡ (view pass).seen ++ e ∷ [])
      × (g.maker e ≡ (view pass).number + 1))

  abbrev pub Gives : Pass S E g q → Held S E → Pass S E g q → Type 0
  Gives old held new = view new ≡ idle (grown (view old) (g.entries 0 (state_of held)))

  abbrev pub IsAccounted : List (Pass S E g q) → S → Type 0
  IsAccounted passes state =
      (k : ℕ) (e : E) → slice_get (g.entries 0 state) k ≡ Some e
      → Any (λ pass. (g.maker e ≡ (view pass).number + 1) × (slice_get (view pass).seen k ≡ Some e))
      passes
