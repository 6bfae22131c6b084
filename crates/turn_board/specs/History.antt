-- The rule of a board: what holds of its words, of its slot and of all views between any two steps.
--   EachPass views P               P holds of the view of each pass; a seat that was joined away
--                                  has none
--   IsHeld views turn_word         some pass has the number that this word names
--   CountsGiven views given        the first seat, which deals the numbers, has counted this many
--   AreDistinct views              passes have different numbers
--   AreApart views                 no pass has the number of one that was joined away
--   Fits maker log label passes given turn_word v
--                                  what is known of the view of one pass
--   BoardHistory entries maker label_of label passes s
--                                  one history explains the board: its length is the count word,
--                                  who has the turn has seen it, and at home the state stands for it
use Rattle.std.specs.Prelude.{◌≡◌, ℕ, ◌+◌, ◌<◌, ◌≤◌, List, [], ◌∷◌, length, Option, Some, true}
use Rattle.std.specs.List.{AllByRecursion}
use mathlib.Core.Option.{none, some}
use lib.ListN.{get_elem?}
use Rattle.atomic_table.specs.Table.{State}
use Rattle.turn_board.specs.declared.view.View.{View}
use Rattle.turn_board.specs.Views.{HasSeen}

module _ {E : Type 0} (views : List (View E)) where
  abbrev pub EachPass : (View E → Type 0) → Type 0
  EachPass P = (k : ℕ) (v : View E) → get_elem? views k ≡ some v → v.is_live ≡ true → P v

  abbrev pub IsHeld : ℕ → Type 0
  IsHeld turn_word =
      (k : ℕ) × (v : View E) × (get_elem? views k ≡ some v) × (v.is_live ≡ true)
      × (turn_word ≡ v.number + 1)

  abbrev pub CountsGiven : ℕ → Type 0
  CountsGiven given = (v : View E) → get_elem? views 0 ≡ some v → v.is_live ≡ true → v.given ≡ given

  abbrev pub AreDistinct : Type 0
  AreDistinct =
      (j k : ℕ) (v w : View E) → get_elem? views j ≡ some v → get_elem? views k ≡ some w
      → v.is_live ≡ true → w.is_live ≡ true → v.number ≡ w.number → j ≡ k

  abbrev pub AreApart : Type 0
  AreApart =
      (j k : ℕ) (v w : View E) → get_elem? views j ≡ some v → get_elem? views k ≡ some w
      → v.is_live ≡ true → w.is_live ≡ true → AllByRecursion (λ p. ¬ (p.number ≡ w.number)) v.joined

module _ {E : Type 0} (maker : E → ℕ) (log : List E) where
  pub record Fits (label : List ℕ) (passes given turn_word : ℕ) (v : View E) : Type 0 where
    pub numbered : v.number < given
    pub about : (v.label ≡ label) × (v.passes ≡ passes)
    pub seen : HasSeen maker v.number v.seen log
    pub taken : v.has_turn ≡ true → (turn_word ≡ v.number + 1) × (v.seen ≡ log)
    pub found : turn_word ≡ v.number + 1 → v.has_turn ≡ true
    pub joined :
        AllByRecursion (λ p. (p.number < given) × HasSeen maker p.number p.seen log) v.joined

module _ {S E : Type 0} (entries : S → List E) (maker : E → ℕ) (label_of : S → List ℕ) where
  pub record BoardHistory
      (label : List ℕ) (passes : ℕ) (s : State (Option S) (View E)) : Type 0 where
    -- the entries, in order
    pub log : List E
    -- 0, or the number plus 1 of the pass that has the turn
    pub turn_word : ℕ
    -- how many numbers were given to passes
    pub given : ℕ
    -- word 0 counts the entries, word 1 is the turn word
    pub words : s.words ≡ length log ∷ turn_word ∷ []
    -- a free turn: the state is in the slot, stands for the entries and has the board's label
    pub home :
        turn_word ≡ 0
        → (x : S) × (s.homes ≡ some (Some x) ∷ []) × (entries x ≡ log) × (label_of x ≡ label)
    pub out : ¬ (turn_word ≡ 0) → s.homes ≡ none ∷ []
    -- no more numbers than were asked for
    pub granted : given ≤ passes
    -- no entry names a number that was never given
    pub makers : AllByRecursion (λ e. (0 < maker e) × (maker e ≤ given)) log
    -- who has the turn is a pass of the board
    pub holder : ¬ (turn_word ≡ 0) → IsHeld s.views turn_word
    pub dealer : CountsGiven s.views given
    pub views : EachPass s.views (Fits maker log label passes given turn_word)
    pub distinct : AreDistinct s.views
    pub apart : AreApart s.views
