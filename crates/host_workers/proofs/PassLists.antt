-- Passes in the order of their numbers.
use Rattle.std.proofs.Common.{zero, suc, ◌≡◌, ℕ, ◌+◌, ◌<◌, ◌≤◌, List, [], ◌∷◌, Some, refl, sym, ◌∙◌, ap, subst, arith}
use Rattle.std.specs.Prelude.{All, false, slice_get}
use Rattle.std.specs.List.{AllByRecursion, AllZip, range_with_len}
use Rattle.std.specs.declared.cmp.PartialEq.{Ghosts as Equality}
use Rattle.std.proofs.lemmas.List.Elements.{All-from_recursion}
use Rattle.std.proofs.lemmas.Option.{slice_get-get_or}
use Rattle.turn_board.specs.declared.kept.Kept.{Ghosts}
use Rattle.turn_board.specs.declared.board.Board.{Board}
use Rattle.turn_board.specs.declared.pass.Pass.{Pass}
use Rattle.turn_board.specs.Passes.{AreAll, Continues, IsAccounted, IsIdle, IsNew, IsOf, pass_count, view}
use Rattle.turn_board.proofs.PassLemmas.{idle_all}

module _ {S E : Type 0} {g : Ghosts S E} {q : Equality E} where
  -- a new pass has its number, has seen nothing and does not have the turn
  pub new_idle : (board : Board S E) (number : ℕ) (pass : Pass S E g q) → IsNew board number pass → IsIdle board number pass
  new_idle board number pass is = record {
    of = is.of;
    number_is = ap (λ v. v.number) is.fresh;
    idle = ap (λ v. v.has_turn) is.fresh;
  }

  -- an idle pass that goes on to one without the turn is idle
  pub idle_on : (board : Board S E) (number : ℕ) (old new : Pass S E g q) → IsIdle board number old → Continues old new → (view new).has_turn ≡ false →
      IsIdle board number new
  idle_on board number old new is on idle = record {
    of = record { table = on.table ∙ is.of.table; label = on.label ∙ is.of.label; passes = on.passes ∙ is.of.passes };
    number_is = on.number ∙ is.number_is;
    idle = idle;
  }

  -- so are new passes
  pub news_idle : (board : Board S E) (numbers : List ℕ) (passes : List (Pass S E g q)) → AllZip (IsNew board) numbers passes →
      AllZip (IsIdle board) numbers passes
  news_idle board [] [] h = tt
  news_idle board (k ∷ numbers) (pass ∷ passes) h = (new_idle board k pass h.0, news_idle board numbers passes h.1)
  news_idle board [] (pass ∷ passes) h = absurd h
  news_idle board (k ∷ numbers) [] h = absurd h

  -- new passes have seen nothing
  pub news_see_nothing : (board : Board S E) (numbers : List ℕ) (passes : List (Pass S E g q)) → AllZip (IsNew board) numbers passes →
      AllByRecursion (λ pass. (view pass).seen ≡ []) passes
  news_see_nothing board [] [] h = tt
  news_see_nothing board (k ∷ numbers) (pass ∷ passes) h = (ap (λ v. v.seen) h.0.fresh, news_see_nothing board numbers passes h.1)
  news_see_nothing board [] (pass ∷ passes) h = absurd h
  news_see_nothing board (k ∷ numbers) [] h = absurd h

  each_of : (board : Board S E) (numbers : List ℕ) (passes : List (Pass S E g q)) → AllZip (IsIdle board) numbers passes →
      AllByRecursion (IsOf board) passes
  each_of board [] [] h = tt
  each_of board (k ∷ numbers) (pass ∷ passes) h = (h.0.of, each_of board numbers passes h.1)
  each_of board [] (pass ∷ passes) h = absurd h
  each_of board (k ∷ numbers) [] h = absurd h

  each_idle : (board : Board S E) (numbers : List ℕ) (passes : List (Pass S E g q)) → AllZip (IsIdle board) numbers passes →
      AllByRecursion (λ pass. (view pass).has_turn ≡ false) passes
  each_idle board [] [] h = tt
  each_idle board (k ∷ numbers) (pass ∷ passes) h = (h.0.idle, each_idle board numbers passes h.1)
  each_idle board [] (pass ∷ passes) h = absurd h
  each_idle board (k ∷ numbers) [] h = absurd h

  -- what the closing of a board asks of idle passes
  pub all_of : (board : Board S E) (numbers : List ℕ) (passes : List (Pass S E g q)) → AllZip (IsIdle board) numbers passes → All (IsOf board) passes
  all_of board numbers passes h = All-from_recursion (IsOf board) passes (each_of board numbers passes h)

  pub all_idle : (board : Board S E) (numbers : List ℕ) (passes : List (Pass S E g q)) → AllZip (IsIdle board) numbers passes →
      All (λ pass. (view pass).has_turn ≡ false) passes
  all_idle board numbers passes h = All-from_recursion (λ pass. (view pass).has_turn ≡ false) passes (each_idle board numbers passes h)

  pub all_there : (board : Board S E) (passes : List (Pass S E g q)) → AllZip (IsIdle board) (range_with_len 0 (pass_count board)) passes →
      AreAll board passes
  all_there board passes h = idle_all board (pass_count board) passes refl h

  -- the number of a pass is its place
  pub number_at : (board : Board S E) (a n : ℕ) (passes : List (Pass S E g q)) → AllZip (IsIdle board) (range_with_len a n) passes →
      (j : ℕ) (pass : Pass S E g q) → slice_get passes j ≡ Some pass → ((view pass).number ≡ a + j) × (j < n)
  number_at board a zero [] h j pass at = absurd cc
  number_at board a zero (p ∷ passes) h j pass at = absurd h
  number_at board a (suc n) [] h j pass at = absurd h
  number_at board a (suc n) (p ∷ passes) h zero pass at =
      let same : p ≡ pass = cc in
      (sym (ap (λ (p : Pass S E g q). (view p).number) same) ∙ h.0.number_is ∙ (let none : a ≡ a + 0 = omega arith in none), omega arith)
  number_at board a (suc n) (p ∷ passes) h (suc j) pass at =
      let next = number_at board (a + 1) n passes h.1 j pass at in
      (next.0 ∙ (let same : a + 1 + j ≡ a + suc j = omega arith in same), (let within = next.1 in omega arith))

  -- what an account of the entries says of the pass at a place
  pub owned : (board : Board S E) (n : ℕ) (passes : List (Pass S E g q)) (state : S) → AllZip (IsIdle board) (range_with_len 0 n) passes →
      IsAccounted passes state → (j : ℕ) (pass : Pass S E g q) → slice_get passes j ≡ Some pass →
      (k : ℕ) (e : E) → slice_get (g.entries 0 state) k ≡ Some e → g.maker e ≡ (view pass).number + 1 → slice_get (view pass).seen k ≡ Some e
  owned board n passes state order made j pass here k e stands maker =
      let (i, other, within, at, (is_maker, seen)) = made k e stands in
      let there : slice_get passes i ≡ Some other = slice_get-get_or passes i other within ∙ ap (λ (p : Pass S E g q). Some p) at in
      let first = number_at board 0 n passes order j pass here in
      let second = number_at board 0 n passes order i other there in
      let first_number = first.0 in
      let second_number = second.0 in
      let place : i ≡ j = omega arith in
      let same : Some other ≡ Some pass = sym there ∙ ap (λ m. slice_get passes m) place ∙ here in
      subst (λ (p : Pass S E g q). slice_get (view p).seen k ≡ Some e) (let one : other ≡ pass = cc in one) seen

  -- and of the makers
  pub maker_within : (board : Board S E) (n : ℕ) (passes : List (Pass S E g q)) (state : S) → AllZip (IsIdle board) (range_with_len 0 n) passes →
      IsAccounted passes state → (k : ℕ) (e : E) → slice_get (g.entries 0 state) k ≡ Some e → (1 ≤ g.maker e) × (g.maker e ≤ n)
  maker_within board n passes state order made k e stands =
      let (i, other, within, at, (is_maker, seen)) = made k e stands in
      let there : slice_get passes i ≡ Some other = slice_get-get_or passes i other within ∙ ap (λ (p : Pass S E g q). Some p) at in
      let found = number_at board 0 n passes order i other there in
      let number = found.0 in
      let below = found.1 in
      (omega arith, omega arith)

  -- passes that have seen nothing have made nothing
  pub none_made : (passes : List (Pass S E g q)) (state : S) → All (λ pass. (view pass).seen ≡ []) passes → IsAccounted passes state →
      (k : ℕ) (e : E) → slice_get (g.entries 0 state) k ≡ Some e → ⊥
  none_made passes state nothing made k e stands =
      let (i, other, within, at, (is_maker, seen)) = made k e stands in
      let empty : (view other).seen ≡ [] = subst (λ (p : Pass S E g q). (view p).seen ≡ []) at (nothing i other within) in
      let none : slice_get {X = E} [] k ≡ Some e = subst (λ (es : List E). slice_get es k ≡ Some e) empty seen in
      absurd cc
