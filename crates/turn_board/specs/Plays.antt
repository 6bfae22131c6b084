-- What the steps of a board tell, of the view and the slot of the pass before and after.
--   Counts v found w    one load of the count word
--   Tries v found w     one try of the turn word
--   Adds v w            the entry of the state in hand joined the history
--   Gives v w           the turn was given back, and the state in hand with it
--   MayAdd v grows      the state in hand has one entry more of this pass, if it grows
use Rattle.std.specs.Prelude.{◌≡◌, ℕ, ◌+◌, ◌≤◌, List, [], ◌∷◌, ◌++◌, length, Option, ◌^◌, ◌<◌, Bool, true, MatchBool, ◌==◌, Some}
use Rattle.atomic_table.specs.Table.{Me}
use Rattle.turn_board.specs.declared.view.View.{View}
use Rattle.turn_board.specs.Views.{Hands, counted, tried, turning, grown, idle}

module _ {S E : Type 0} (entries : S → List E) (maker : E → ℕ) (label_of : S → List ℕ) where
  pub record Counts
      (v : Me (Option S) (View E)) (found : ℕ) (w : Me (Option S) (View E)) : Type 0 where
    pub hand : w.1 ≡ v.1
    pub view : w.0 ≡ counted v.0 found
    pub within : length v.0.seen ≤ found
    pub whole : v.0.has_turn ≡ true → found ≡ length v.0.seen

  abbrev pub Tries : Me (Option S) (View E) → ℕ → Me (Option S) (View E) → Type 0
  Tries v found w = MatchBool (found == 0)
      ((x : S) × (w.1 ≡ (0, Some x) ∷ v.1) × Hands maker v.0 (entries x) (label_of x)
      × (w.0 ≡ turning v.0 (v.0.tries + 1) (entries x)))
      ((w.1 ≡ v.1) × (w.0 ≡ tried v.0 found) × ¬ (found ≡ v.0.number + 1)
      × (found ≤ v.0.passes))

  abbrev pub Adds : Me (Option S) (View E) → Me (Option S) (View E) → Type 0
  Adds v w = (x : S) → v.1 ≡ (0, Some x) ∷ [] → (w.1 ≡ v.1) × (w.0 ≡ grown v.0 (entries x))

  abbrev pub Gives : Me (Option S) (View E) → Me (Option S) (View E) → Type 0
  Gives v w = (w.1 ≡ []) × (w.0 ≡ idle v.0)

  abbrev pub MayAdd : Me (Option S) (View E) → Bool → Type 0
  MayAdd v grows = (x : S) × (v.1 ≡ (0, Some x) ∷ []) × (length (entries x) < 2 ^ 64)
      × MatchBool grows
      ((e : E) × (entries x ≡ v.0.seen ++ e ∷ []) × (maker e ≡ v.0.number + 1))
      (entries x ≡ v.0.seen)
