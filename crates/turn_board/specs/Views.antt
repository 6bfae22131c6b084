-- What a pass knows, and how each step changes it.
--   new_view label passes number given
--                            as a board is opened: nothing seen, no turn, no try and no load
--   opening_view label passes
--                            that of the first pass, before it gave a number to others
--   counted v found          after a load of the count word that found this word
--   tried v found            after a try of the turn word that found this word, which isn't 0
--   retried v tries found    after tries, so many in all, of which the last one found this word
--   turning v tries log      after tries, so many in all, of which the last one got the turn; this
--                            list was seen
--   grown v log              after the list grew to this one
--   idle v                   after the turn was given back
--   dealt v, next_view v     after it gave a number to a new pass, and the view of that pass
--   past_of v                a view as it is kept by the pass into which its pass was joined
--   pasts v                  that of its own pass, and of those that were joined into it
--   IsAmong p ps             p is one of these
--   absorbed v w given       after it took in the pass of w
--   merged v w, spent_view   after the pass of w was joined into the pass of v, and what is left of
--                            the other: the one that has seen more stays, and keeps the other's
--                            number and list
--   HasSeen maker number seen log
--                            the list begins with what this pass has seen, and no entry past that
--                            names it
--   Hands maker v log label  a turn hands a state with this list and label to a pass of this view
use Rattle.std.specs.Prelude.{◌≡◌, ℕ, ◌+◌, List, [], ◌∷◌, ◌++◌, length, drop, ◌⊎◌, true, false, if◌then◌else◌, nat_lt}
use Rattle.std.specs.List.{AllByRecursion}
use mathlib.Core.List.{IsPrefix}
use Rattle.turn_board.specs.declared.view.View.{View}
use Rattle.turn_board.specs.declared.view.Past.{Past}

module _ {E : Type 0} where
  abbrev pub new_view : List ℕ → ℕ → ℕ → ℕ → View E
  new_view label passes number given = record {
    is_live = true;
    number = number;
    passes = passes;
    label = label;
    seen = [];
    has_turn = false;
    tries = 0;
    found = 0;
    loads = 0;
    counted = 0;
    given = given;
    joined = [];
  }

  abbrev pub opening_view : List ℕ → ℕ → View E
  opening_view label passes = new_view label passes 0 1

  abbrev pub counted : View E → ℕ → View E
  counted v found = record v { loads = v.loads + 1; counted = found }

  abbrev pub tried : View E → ℕ → View E
  tried v found = record v { tries = v.tries + 1; found = found }

  abbrev pub retried : View E → ℕ → ℕ → View E
  retried v tries found = record v { tries = tries; found = found }

  abbrev pub turning : View E → ℕ → List E → View E
  turning v tries log = record v { tries = tries; found = 0; has_turn = true; seen = log }

  abbrev pub grown : View E → List E → View E
  grown v log = record v { seen = log }

  abbrev pub idle : View E → View E
  idle v = record v { has_turn = false }

  abbrev pub dealt : View E → View E
  dealt v = record v { given = v.given + 1 }

  abbrev pub next_view : View E → View E
  next_view v = record (new_view v.label v.passes v.given 0) { seen = v.seen }

  abbrev pub past_of : View E → Past E
  past_of v = record { number = v.number; seen = v.seen }

  abbrev pub pasts : View E → List (Past E)
  pasts v = past_of v ∷ v.joined

  abbrev pub IsAmong : Past E → List (Past E) → Type 0
  IsAmong p [] = ⊥
  IsAmong p (x ∷ xs) = (x ≡ p) ⊎ IsAmong p xs

  abbrev pub absorbed : View E → View E → ℕ → View E
  absorbed v w given = record v { given = given; joined = v.joined ++ past_of w ∷ w.joined }

  abbrev pub merged : View E → View E → View E
  merged v w =
      if nat_lt (length v.seen) (length w.seen) then absorbed w v v.given else absorbed v w v.given

  abbrev pub spent_view : View E
  spent_view = record (new_view [] 0 0 0) { is_live = false }

module _ {E : Type 0} (maker : E → ℕ) where
  pub record HasSeen (number : ℕ) (seen log : List E) : Type 0 where
    pub begins : IsPrefix seen log
    pub own : AllByRecursion (λ e. ¬ (maker e ≡ number + 1)) (drop (length seen) log)

  pub record Hands (v : View E) (log : List E) (label : List ℕ) : Type 0 where
    pub about : label ≡ v.label
    pub seen : HasSeen v.number v.seen log
