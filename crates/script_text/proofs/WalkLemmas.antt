-- Where walk stops is the grammar's fault, and what it gives is what the tokens give.
use Rattle.std.proofs.Common.{◌≡◌, ℕ, suc, ◌+◌, ◌<◌, ◌≤◌, true, false, eqb, add-one, List, [], ◌∷◌, length, take, Option, Result, Ok, Err, refl, sym, subst, ◌∙◌, arith, inl, inr}
use Rattle.std.proofs.lemmas.Bool.{cases_Bool}
use Rattle.script_text.specs.declared.kind.Kind.{Kind}
use Rattle.script_text.specs.Tokens.{Given}
use Rattle.script_text.specs.Grammar.{next_kind, rest, fits, follows, add_kind, gives}
use Rattle.script_text.specs.Walk.{walk}

-- m of the tokens are of their kinds, and no more
pub record Stops (kinds : List Kind) (repeated : Option Kind) (tokens : List (List ℕ)) (m : ℕ) : Type 0 where
  pub front : follows kinds repeated (take m tokens) ≡ true
  pub next : m < length tokens → follows kinds repeated (take (suc m) tokens) ≡ false
  pub within : m ≤ length tokens
  pub unfinished : m ≡ length tokens → length tokens < length kinds

pub record Stopped (kinds : List Kind) (repeated : Option Kind) (token : ℕ) (tokens : List (List ℕ)) (t : ℕ) : Type 0 where
  pub read : ℕ
  pub place : t ≡ token + read
  pub stops : Stops kinds repeated tokens read

pub record Read (kinds : List Kind) (repeated : Option Kind) (g : Given) (tokens : List (List ℕ)) (h : Given) : Type 0 where
  pub all : follows kinds repeated tokens ≡ true
  pub whole : length kinds ≤ length tokens
  pub value : h ≡ gives kinds repeated tokens g

abbrev Outcome : List Kind → Option Kind → ℕ → Given → List (List ℕ) → Result Given ℕ → Type 0
Outcome kinds repeated token g tokens (Ok h) = Read kinds repeated g tokens h
Outcome kinds repeated token g tokens (Err t) = Stopped kinds repeated token tokens t

longer : (kinds : List Kind) (n : ℕ) → n < length (rest kinds) → suc n < length kinds
longer [] n h = absurd (omega arith)
longer (kind ∷ kinds) n h = omega arith

-- one token more on the left
more : (kinds : List Kind) (repeated : Option Kind) (token : ℕ) (g : Given) (t : List ℕ) (ts : List (List ℕ)) (r : Result Given ℕ)
    → fits (next_kind kinds repeated) t ≡ true
    → Outcome (rest kinds) repeated (suc token) (add_kind (next_kind kinds repeated) t g) ts r → Outcome kinds repeated token g (t ∷ ts) r
more [] repeated token g t ts (Ok h) fit o = record { all = rw (fit) o.all; whole = omega arith; value = o.value }
more (kind ∷ kinds) repeated token g t ts (Ok h) fit o = record { all = rw (fit) o.all; whole = omega (arith, o.whole); value = o.value }
more kinds repeated token g t ts (Err n) fit o = record {
  read = suc o.read;
  place = omega (arith, o.place);
  stops = record {
    front = rw fit o.stops.front;
    next = λ h. rw fit (o.stops.next (omega arith));
    within = omega (arith, o.stops.within);
    unfinished = λ h. longer kinds (length ts) (o.stops.unfinished (omega arith));
  };
}

pub walk-next : (kinds : List Kind) (repeated : Option Kind) (token : ℕ) (g : Given) (t : List ℕ) (ts : List (List ℕ))
    → fits (next_kind kinds repeated) t ≡ true
    → walk kinds repeated token g (t ∷ ts) ≡ walk (rest kinds) repeated (suc token) (add_kind (next_kind kinds repeated) t g) ts
unfolding walk
walk-next [] repeated token g t ts fit = rw fit refl
walk-next (kind ∷ kinds) repeated token g t ts fit = rw fit refl

pub walk-stop : (kinds : List Kind) (repeated : Option Kind) (token : ℕ) (g : Given) (t : List ℕ) (ts : List (List ℕ))
    → fits (next_kind kinds repeated) t ≡ false
    → walk kinds repeated token g (t ∷ ts) ≡ Err token
unfolding walk
walk-stop [] repeated token g t ts fails = rw fails refl
walk-stop (kind ∷ kinds) repeated token g t ts fails = rw fails refl

pub walk-short : (kinds : List Kind) (repeated : Option Kind) (token : ℕ) (g : Given) → false ≡ eqb (length kinds) 0
    → walk kinds repeated token g [] ≡ Err token
unfolding walk
walk-short [] repeated token g some = absurd cc
walk-short (kind ∷ kinds) repeated token g some = refl

pub walk-whole : (kinds : List Kind) (repeated : Option Kind) (token : ℕ) (g : Given) → true ≡ eqb (length kinds) 0
    → walk kinds repeated token g [] ≡ Ok g
unfolding walk
walk-whole [] repeated token g none = refl
walk-whole (kind ∷ kinds) repeated token g none = absurd (grind arith)

short : (kinds : List Kind) (repeated : Option Kind) (token : ℕ) (t : List ℕ) (ts : List (List ℕ)) → fits (next_kind kinds repeated) t ≡ false
    → Stopped kinds repeated token (t ∷ ts) token
short kinds repeated token t ts fails = record {
  read = 0;
  place = omega arith;
  stops = record { front = refl; next = λ h. rw fails refl; within = omega arith; unfinished = λ h. absurd (omega arith) };
}

pub reads : (kinds : List Kind) (repeated : Option Kind) (token : ℕ) (g : Given) (ts : List (List ℕ))
    → Outcome kinds repeated token g ts (walk kinds repeated token g ts)
unfolding walk
reads [] repeated token g [] = record { all = refl; whole = omega arith; value = refl }
reads (kind ∷ kinds) repeated token g [] = record {
  read = 0;
  place = omega arith;
  stops = record { front = refl; next = λ h. absurd (omega arith); within = omega arith; unfinished = λ h. omega arith };
}
reads kinds repeated token g (t ∷ ts) =
    elim (cases_Bool (fits (next_kind kinds repeated) t)) [
      | inl fit ↦
          rw (walk-next kinds repeated token g t ts fit)
          (more kinds repeated token g t ts _ fit (reads (rest kinds) repeated (suc token) (add_kind (next_kind kinds repeated) t g) ts))
      | inr fails ↦ rw (walk-stop kinds repeated token g t ts fails) (short kinds repeated token t ts fails)
    ]

-- ---- in the words of the loop

pub goes_on : (kinds later : List Kind) (repeated kind : Option Kind) (token : ℕ) (g h : Given) (t : List ℕ) (ts line : List (List ℕ))
    (total : Result Given ℕ) → line ≡ t ∷ ts
    → kind ≡ next_kind kinds repeated → later ≡ rest kinds → true ≡ fits kind t → h ≡ add_kind kind t g
    → walk kinds repeated token g line ≡ total → walk later repeated (token + 1) h ts ≡ total
goes_on kinds later repeated kind token g h t ts line total split is-kind is-rest fit is-h so_far =
    let known : fits (next_kind kinds repeated) t ≡ true = rw (← is-kind) (sym fit) in
    let step = walk-next kinds repeated token g t ts known in
    rw (is-rest, is-h, is-kind, add-one) (sym step ∙ rw (← split) so_far)

pub stops_here : (kinds : List Kind) (repeated kind : Option Kind) (token : ℕ) (g : Given) (t : List ℕ) (ts line : List (List ℕ))
    (total : Result Given ℕ) → line ≡ t ∷ ts
    → kind ≡ next_kind kinds repeated → false ≡ fits kind t → walk kinds repeated token g line ≡ total → total ≡ Err token
stops_here kinds repeated kind token g t ts line total split is-kind fails so_far =
    sym so_far ∙ rw split (walk-stop kinds repeated token g t ts (rw (← is-kind) (sym fails)))

pub stopped-at : (kinds : List Kind) (repeated : Option Kind) (token : ℕ) (g : Given) (ts : List (List ℕ)) (t : ℕ)
    → walk kinds repeated token g ts ≡ Err t → Stopped kinds repeated token ts t
stopped-at kinds repeated token g ts t e = subst (λ r. Outcome kinds repeated token g ts r) e (reads kinds repeated token g ts)

pub read-all : (kinds : List Kind) (repeated : Option Kind) (token : ℕ) (g h : Given) (ts : List (List ℕ)) → walk kinds repeated token g ts ≡ Ok h
    → Read kinds repeated g ts h
read-all kinds repeated token g h ts e = subst (λ r. Outcome kinds repeated token g ts r) e (reads kinds repeated token g ts)
