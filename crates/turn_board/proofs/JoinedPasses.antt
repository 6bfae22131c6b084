-- The list of the passes that were joined.
use Rattle.std.proofs.Common.{inl, suc, ◌≡◌, List, [], ◌∷◌, ◌++◌, refl, sym, subst, ap, ◌∙◌, arith, append_assoc}
use Rattle.std.specs.List.{All, AllByRecursion}
use Rattle.std.specs.declared.cmp.PartialEq.{Ghosts as Equality}
use Rattle.turn_board.specs.declared.kept.Kept.{Ghosts}
use Rattle.turn_board.specs.declared.pass.Pass.{Pass}
use Rattle.turn_board.specs.declared.view.View.{View}
use Rattle.turn_board.specs.Passes.{view}
use Rattle.turn_board.specs.Views.{IsAmong, merged, past_of, pasts}
use Rattle.turn_board.proofs.Merging.{KeepsBoth}
use Rattle.turn_board.proofs.Prefixes.{all_map}

module _ {A : Type 0} (P : A → Type 0) where
  pub each_of : (xs : List A) → All P xs → AllByRecursion P xs
  each_of [] h = tt
  each_of (x ∷ xs) h = (h 0 x (omega arith), each_of xs (λ k d lt. h (suc k) d (omega arith)))

  middle : (xs ys : List A) (y : A) → AllByRecursion P (xs ++ y ∷ ys) → P y
  middle [] ys y h = h.0
  middle (x ∷ xs) ys y h = middle xs ys y h.1

  -- the one that comes after the list left
  pub popped : (all old left done : List A) (y : A) → all ≡ old ++ done → old ≡ left ++ y ∷ [] → All P all → P y
  popped all old left done y e f h = middle left done y (subst (AllByRecursion P) (e ∙ ap (λ l. l ++ done) f
      ∙ append_assoc left (y ∷ []) done) (each_of all h))

module _ {S E : Type 0} {g : Ghosts S E} {q : Equality E} where
  pub joined_next : (v w c : View E) (pass : Pass S E g q) (done : List (Pass S E g q)) → w ≡ view pass → c ≡ merged v w → KeepsBoth v w (merged v w)
      → AllByRecursion (λ p. IsAmong (past_of (view p)) (pasts v)) done → AllByRecursion (λ p. IsAmong (past_of (view p)) (pasts c)) (pass ∷ done)
  joined_next v w c pass done same is keeps h = subst (λ (y : View E). AllByRecursion (λ p. IsAmong (past_of (view p)) (pasts y)) (pass ∷ done))
      (sym is) (
        subst (λ (y : View E). IsAmong (past_of y) (pasts (merged v w))) same (keeps.second (past_of w) (inl refl)),
        all_map (λ p. IsAmong (past_of (view p)) (pasts v)) (λ p. IsAmong (past_of (view p)) (pasts (merged v w))) done
            (λ p k. keeps.first (past_of (view p)) k) h,
      )
