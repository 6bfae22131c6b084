-- Each entry of the last state stands in the list that its maker has seen.
use Rattle.std.proofs.Common.{true, false, zero, suc, ◌≡◌, ℕ, ◌+◌, ◌-◌, ◌<◌, ◌≤◌, List, [], ◌∷◌, ◌++◌, length, drop, sym, subst, ap, ◌∙◌, arith}
use Rattle.std.specs.Prelude.{Option, Some, slice_get, slice_index_or, unwrap_or}
use Rattle.std.specs.List.{All, AllByRecursion}
use Rattle.std.specs.declared.cmp.PartialEq.{Ghosts as Equality}
use mathlib.Core.List.{IsPrefix}
use mathlib.Core.Option.{some, some-injective}
use lib.ListN.{get_elem?}
use Rattle.atomic_table.specs.Table.{Final, Seen}
use Rattle.turn_board.specs.declared.board.Board.{Board}
use Rattle.turn_board.specs.declared.kept.Kept.{Ghosts}
use Rattle.turn_board.specs.declared.pass.Pass.{Pass}
use Rattle.turn_board.specs.declared.view.View.{View}
use Rattle.turn_board.specs.History.{BoardHistory}
use Rattle.turn_board.specs.Passes.{AreAll, IsAccounted, opening_state, pass_count, view}
use Rattle.turn_board.specs.Views.{HasSeen, IsAmong, past_of, pasts}
use Rattle.turn_board.proofs.LastState.{closes}

module _ {A : Type 0} (P : A → Type 0) where
  pub at_index : (xs : List A) → AllByRecursion P xs → All P xs
  at_index [] h k d lt = absurd (omega arith)
  at_index (x ∷ xs) h zero d lt = h.0
  at_index (x ∷ xs) h (suc k) d lt = at_index xs h.1 k d (omega arith)

  pub at_place : (xs : List A) (k : ℕ) (x : A) → AllByRecursion P xs → slice_get xs k ≡ Some x → P x
  at_place [] k x h e = absurd cc
  at_place (y ∷ ys) zero x h e = subst P (ap (λ o. unwrap_or o x) e) h.0
  at_place (y ∷ ys) (suc k) x h e = at_place ys k x h.1 e

  -- what has the fact stands before the place from which on none has it
  pub place : (xs ys : List A) (k : ℕ) (x : A) → AllByRecursion (λ y. ¬ P y) (drop (length xs) (xs ++ ys)) → slice_get (xs ++ ys) k ≡ Some x → P x →
      slice_get xs k ≡ Some x
  place [] ys k x h e p = absurd (later ys k h e) where
    later : (l : List A) (n : ℕ) → AllByRecursion (λ y. ¬ P y) l → slice_get l n ≡ Some x → ⊥
    later [] n h e = cc
    later (y ∷ l) zero h e = h.0 (subst P (sym (ap (λ o. unwrap_or o x) e)) p)
    later (y ∷ l) (suc n) h e = later l n h.1 e
  place (y ∷ xs) ys zero x h e p = e
  place (y ∷ xs) ys (suc k) x h e p = place xs ys k x h e p

pub stands : {E : Type 0} (maker : E → ℕ) (number : ℕ) (seen log : List E) (k : ℕ) (e : E) → HasSeen maker number seen log →
    slice_get log k ≡ Some e → maker e ≡ number + 1 → slice_get seen k ≡ Some e
stands {E} maker number seen log k e h at named = place (λ (f : E). maker f ≡ number + 1) seen h.begins.0 k e
    (subst (λ (l : List E). AllByRecursion (λ f. ¬ (maker f ≡ number + 1)) (drop (length seen) l)) (sym h.begins.1) h.own)
    (subst (λ (l : List E). slice_get l k ≡ Some e) (sym h.begins.1) at) named

module _ {S E : Type 0} {g : Ghosts S E} {q : Equality E} where
  pub record Ends (board : Board S E) (list : List (Pass S E g q)) (x : S) : Type 0 where
    pub label : g.label x ≡ g.label (opening_state board)
    pub seen : All (λ pass. IsPrefix (view pass).seen (g.entries 0 x)) list
    pub made : IsAccounted list x

  pub ends : (board : Board S E) (list : List (Pass S E g q)) (id : ℕ) (v : View E) (ws : List ℕ) (xs : List (Option S)) (home : Option S)
      → Final (Seen (BoardHistory (g.entries 0) g.maker g.label (g.label (opening_state board)) (pass_count board)) id v) ws xs
      → v.is_live ≡ true → v.has_turn ≡ false → AllByRecursion (λ pass. IsAmong (past_of (view pass)) (pasts v)) list
      → AreAll board list → get_elem? xs 0 ≡ some home
      → (x : S) × (home ≡ Some x) × Ends board list x
  ends board list id v ws xs home final live idle kept all at =
      let kept_at = at_index (λ pass. IsAmong (past_of (view pass)) (pasts v)) list kept in
      let found : (n : ℕ) → n < pass_count board → (pass : Pass S E g q) × IsAmong (past_of (view pass)) (pasts v) × ((view pass).number ≡ n)
      × ((k : ℕ) × (k < length list) × (slice_index_or list k pass ≡ pass))
      = λ n lt. let h = all n lt in (h.1, subst (λ pass. IsAmong (past_of (view pass)) (pasts v)) h.3 (kept_at h.0 h.1 h.2), h.4, (h.0, h.2, h.3)) in
      let last = closes (g.entries 0) g.maker g.label (g.label (opening_state board)) (pass_count board) id v ws xs final live idle
      (λ n lt. let h = found n lt in (past_of (view h.0), h.1, h.2)) in
      let x = last.0 in
      let closed = last.2 in (
        x,
        some-injective home (Some x) (sym at ∙ last.1),
        record {
          label = closed.about;
          seen = λ k d lt. (closed.seen (past_of (view (slice_index_or list k d))) (kept_at k d lt)).begins;
          made = λ k e here.
              let bounds = at_place (λ e. (0 < g.maker e) × (g.maker e ≤ pass_count board)) (g.entries 0 x) k e closed.makers here in
              let low = bounds.0 in
              let high = bounds.1 in
              let h = found (g.maker e - 1) (omega arith) in
              let number = h.2 in
              let named : g.maker e ≡ (view h.0).number + 1 = omega arith in (
                h.3.0,
                h.0,
                h.3.1,
                h.3.2,
                (
                  named,
                  stands g.maker (view h.0).number (view h.0).seen (g.entries 0 x) k e
                      (closed.seen (past_of (view h.0)) h.1) here named,
                ),
              );
        },
      )

  -- the state that came home
  pub ends_as : (board : Board S E) (list : List (Pass S E g q)) (home : Option S) (x y : S) → home ≡ Some x → Ends board list x → home ≡ Some y →
      Ends board list y
  ends_as board list home x y is h named = subst (Ends board list) (ap (λ o. unwrap_or o x) (sym is ∙ named)) h
