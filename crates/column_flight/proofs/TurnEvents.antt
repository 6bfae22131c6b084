-- What a pass makes of the list of flights at its turns.
use Rattle.std.proofs.Common.{◌≡◌, ℕ, ◌+◌, Bool, true, false, cond, nat_eq, ◌||◌, List, [], ◌∷◌, ◌++◌, length, drop, filter, slice_get, None, Some, Result, Ok, Err, IfOk, OnErr, refl, sym, ap, subst, ◌∙◌, append_assoc}
use Rattle.std.specs.List.{AllByRecursion}
use Rattle.std.proofs.Math.Seq.{take-append_seam, drop-append_seam}
use Rattle.std.proofs.lemmas.List.{append-nil}
use Rattle.std.proofs.lemmas.List.Elements.{filter-append}
use Rattle.std.proofs.lemmas.Bool.{eqb-true, eq-eqb}
use mathlib.Core.List.{IsPrefix}
use Rattle.turn_board.specs.Views.{HasSeen}
use Rattle.quotient_coords.specs.Quotient.{Ground}
use Rattle.column_flight.specs.declared.event.FlightKey.{FlightKey}
use Rattle.column_flight.specs.declared.event.FlightEvent.{FlightEvent}
use Rattle.column_flight.specs.declared.event.FlightEvent.TheVariants.{Claim, Publish, Abandon}
use Rattle.field_table.specs.declared.memory.OutOfMemory.{OutOfMemory}
use Rattle.column_flight.specs.declared.look.Look.{Look}
use Rattle.column_flight.specs.declared.look.Look.TheVariants.{Ready, Pending, Mine}
use Rattle.column_flight.specs.Flights.{same_key, key_of, maker_of, is_published, claimer, claimer_of, standing, IsAllowed, IsLegalFlights}
use Rattle.column_flight.specs.Looks.{found, claims, IsAnswer}
use Rattle.column_flight.specs.Shared.{own_since, after}
use Rattle.column_flight.proofs.FlightEvents.{same_key-eq, same_key-equivalence, claimer-apart, claimer-here, is_published-here, standing-here, free_is}

-- ---- the events of a pass
abbrev pub is_own : ℕ → FlightEvent → Bool
is_own number e = nat_eq (maker_of e) (number + 1)

own_none : (number : ℕ) (es : List FlightEvent) → AllByRecursion (λ e. ¬ (maker_of e ≡ number + 1)) es
    → filter (λ e. nat_eq (maker_of e) (number + 1)) es ≡ []
own_none number [] h = refl
own_none number (e ∷ es) h = by (nat_eq (maker_of e) (number + 1)) (eqb-true (maker_of e) (number + 1)) (own_none number es h.1)
  where
    by : (t : Bool) → (t ≡ true → maker_of e ≡ number + 1) → filter (λ x. nat_eq (maker_of x) (number + 1)) es ≡ []
        → cond t (e ∷ filter (λ x. nat_eq (maker_of x) (number + 1)) es) (filter (λ x. nat_eq (maker_of x) (number + 1)) es) ≡ []
    by true own none = absurd (h.0 (own refl))
    by false own none = none

rest_own : (number : ℕ) (seen log : List FlightEvent) (h : HasSeen maker_of number seen log)
    → AllByRecursion (λ e. ¬ (maker_of e ≡ number + 1)) h.begins.0
rest_own number seen log h = subst (AllByRecursion (λ e. ¬ (maker_of e ≡ number + 1)))
    (ap (drop (length seen)) (sym h.begins.1) ∙ drop-append_seam seen h.begins.0) h.own

-- past a list that was seen, and then what the pass added
pub own_since-turn : (number : ℕ) (seen log added : List FlightEvent) → HasSeen maker_of number seen log
    → own_since number seen (log ++ added) ≡ filter (λ e. nat_eq (maker_of e) (number + 1)) added
own_since-turn number seen log added h =
    ap (λ l. filter (λ e. nat_eq (maker_of e) (number + 1)) (drop (length seen) (l ++ added))) (sym h.begins.1)
    ∙ ap (λ l. filter (λ e. nat_eq (maker_of e) (number + 1)) (drop (length seen) l)) (append_assoc seen h.begins.0 added)
    ∙ ap (filter (λ e. nat_eq (maker_of e) (number + 1))) (drop-append_seam seen (h.begins.0 ++ added))
    ∙ filter-append (λ e. nat_eq (maker_of e) (number + 1)) h.begins.0 added
    ∙ ap (λ l. l ++ filter (λ e. nat_eq (maker_of e) (number + 1)) added) (own_none number h.begins.0 (rest_own number seen log h))

-- one event of the pass
own_one : (number : ℕ) (e : FlightEvent) → maker_of e ≡ number + 1 → filter (λ x. nat_eq (maker_of x) (number + 1)) (e ∷ []) ≡ e ∷ []
own_one number e is = ap (λ t. cond t (e ∷ []) []) (ap (λ n. nat_eq n (number + 1)) is ∙ eq-eqb (number + 1) (number + 1) refl)

pub own_since-one : (number : ℕ) (seen log : List FlightEvent) (e : FlightEvent) → HasSeen maker_of number seen log → maker_of e ≡ number + 1
    → own_since number seen (log ++ e ∷ []) ≡ e ∷ []
own_since-one number seen log e h is = own_since-turn number seen log (e ∷ []) h ∙ own_one number e is

pub own_since-none : (number : ℕ) (seen log : List FlightEvent) → HasSeen maker_of number seen log → own_since number seen log ≡ []
own_since-none number seen log h = ap (own_since number seen) (sym (append-nil log)) ∙ own_since-turn number seen log [] h

-- two calls in a row
pub own_since-then : (number : ℕ) (a b c : List FlightEvent) → IsPrefix a b → IsPrefix b c
    → own_since number a c ≡ own_since number a b ++ own_since number b c
own_since-then number a b c p q =
    ap (λ l. filter (is_own number) (drop (length a) l)) (sym q.1 ∙ ap (λ l. l ++ q.0) (sym p.1) ∙ append_assoc a p.0 q.0)
    ∙ ap (filter (is_own number)) (drop-append_seam a (p.0 ++ q.0))
    ∙ filter-append (is_own number) p.0 q.0
    ∙ (λ j. filter (is_own number) (sym (past a b p) j) ++ filter (is_own number) (sym (past b c q) j))
  where
    past : (x y : List FlightEvent) (r : IsPrefix x y) → drop (length x) y ≡ r.0
    past x y r = ap (drop (length x)) (sym r.1) ∙ drop-append_seam x r.0

-- ---- the claim of a pass, while others have the turn
at_seam : (xs ys : List FlightEvent) (e : FlightEvent) → slice_get (xs ++ e ∷ ys) (length xs) ≡ Some e
at_seam [] ys e = refl
at_seam (x ∷ xs) ys e = at_seam xs ys e

allowed_at : (seen rest : List FlightEvent) (e : FlightEvent) → IsLegalFlights (seen ++ e ∷ rest) → IsAllowed seen e
unfolding IsLegalFlights
allowed_at seen rest e legal = subst (λ l. IsAllowed l e) (take-append_seam seen (e ∷ rest)) (legal (length seen) e (at_seam seen rest e))

-- an event of another pass leaves the claim
claim_step : (by : ℕ) (seen : List FlightEvent) (e : FlightEvent) (key : FlightKey) → IsAllowed seen e → ¬ (maker_of e ≡ by)
    → claimer seen key ≡ Some by → claimer (seen ++ e ∷ []) key ≡ Some by
claim_step by seen e key allowed other has = from (same_key key (key_of e)) refl
  where
    here : (f : FlightEvent) → IsAllowed seen f → ¬ (maker_of f ≡ by) → key ≡ key_of f → ⊥
    here (Claim k s) ok other_one is = let both : None ≡ Some by = sym ok.1 ∙ ap (claimer seen) (sym is) ∙ has in cc
    here (Publish k s) ok other_one is = other_one (let both : Some s ≡ Some by = sym ok ∙ ap (claimer seen) (sym is) ∙ has in cc)
    here (Abandon k s) ok other_one is = other_one (let both : Some s ≡ Some by = sym ok ∙ ap (claimer seen) (sym is) ∙ has in cc)

    from : (t : Bool) → same_key key (key_of e) ≡ t → claimer (seen ++ e ∷ []) key ≡ Some by
    from true is = absurd (here e allowed other (same_key-eq key (key_of e) is))
    from false is = claimer-apart seen e key is ∙ has

claim_along : (by : ℕ) (seen rest : List FlightEvent) (key : FlightKey) → IsLegalFlights (seen ++ rest)
    → AllByRecursion (λ e. ¬ (maker_of e ≡ by)) rest → claimer seen key ≡ Some by → claimer (seen ++ rest) key ≡ Some by
claim_along by seen [] key legal own has = ap (λ l. claimer l key) (append-nil seen) ∙ has
claim_along by seen (e ∷ rest) key legal own has =
    ap (λ l. claimer l key) (sym (append_assoc seen (e ∷ []) rest))
    ∙ claim_along by (seen ++ e ∷ []) rest key (subst IsLegalFlights (sym (append_assoc seen (e ∷ []) rest)) legal) own.1
    (claim_step by seen e key (allowed_at seen rest e legal) own.0 has)

pub claim_stays : (number : ℕ) (seen log : List FlightEvent) (key : FlightKey) → IsLegalFlights log → HasSeen maker_of number seen log
    → claimer seen key ≡ Some (number + 1) → claimer log key ≡ Some (number + 1)
claim_stays number seen log key legal h has =
    ap (λ l. claimer l key) (sym h.begins.1) ∙ claim_along (number + 1) seen h.begins.0 key (subst IsLegalFlights (sym h.begins.1) legal)
    (rest_own number seen log h) has

-- and makes none for it
pub unclaimed_step : (by : ℕ) (seen : List FlightEvent) (e : FlightEvent) (key : FlightKey) → ¬ (maker_of e ≡ by) → ¬ (claimer seen key ≡ Some by)
    → ¬ (claimer (seen ++ e ∷ []) key ≡ Some by)
unclaimed_step by seen e key other none has = from (same_key key (key_of e)) refl
  where
    here : (f : FlightEvent) → ¬ (maker_of f ≡ by) → claimer_of f ≡ Some by → ⊥
    here (Claim k s) other_one is = other_one (let both : Some s ≡ Some by = is in cc)
    here (Publish k s) other_one is = let both : None ≡ Some by = is in cc
    here (Abandon k s) other_one is = let both : None ≡ Some by = is in cc

    from : (t : Bool) → same_key key (key_of e) ≡ t → ⊥
    from true is = here e other (sym (claimer-here seen e key is) ∙ has)
    from false is = none (sym (claimer-apart seen e key is) ∙ has)

pub unclaimed_along : (by : ℕ) (seen rest : List FlightEvent) (key : FlightKey) → AllByRecursion (λ e. ¬ (maker_of e ≡ by)) rest
    → ¬ (claimer seen key ≡ Some by) → ¬ (claimer (seen ++ rest) key ≡ Some by)
unclaimed_along by seen [] key own none has = none (sym (ap (λ l. claimer l key) (append-nil seen)) ∙ has)
unclaimed_along by seen (e ∷ rest) key own none has =
    unclaimed_along by (seen ++ e ∷ []) rest key own.1 (unclaimed_step by seen e key own.0 none)
    (ap (λ l. claimer l key) (append_assoc seen (e ∷ []) rest) ∙ has)

pub unclaimed_stays : (number : ℕ) (seen log : List FlightEvent) (key : FlightKey) → HasSeen maker_of number seen log
    → ¬ (claimer seen key ≡ Some (number + 1)) → ¬ (claimer log key ≡ Some (number + 1))
unclaimed_stays number seen log key h none has =
    unclaimed_along (number + 1) seen h.begins.0 key (rest_own number seen log h) none (ap (λ l. claimer l key) h.begins.1 ∙ has)

-- ---- a look at a turn
same : (key : FlightKey) → same_key key key ≡ true
same key = same_key-equivalence.refl key

pub look_after : (setting : Ground) (number : ℕ) (log : List FlightEvent) (key : FlightKey) (look : Look) → IsLegalFlights log
    → found look ≡ standing log key → IsAnswer setting key (number + 1) look → standing (log ++ claims look) key ≡ after number look
look_after setting number log key (Ready column) legal is answer = ap (λ l. standing l key) (append-nil log) ∙ sym is
look_after setting number log key (Pending told other) legal is answer = ap (λ l. standing l key) (append-nil log) ∙ sym is
look_after setting number log key (Mine ticket) legal is answer =
    ap (λ t. standing (log ++ Claim t.key t.by ∷ []) key) answer
    ∙ standing-here log (Claim key (number + 1)) key legal (free_is log key (sym is)) (same key)

pub look_made : (setting : Ground) (number : ℕ) (seen log : List FlightEvent) (key : FlightKey) (look : Look) → HasSeen maker_of number seen log
    → IsAnswer setting key (number + 1) look → own_since number seen (log ++ claims look) ≡ claims look
look_made setting number seen log key look h answer = own_since-turn number seen log (claims look) h ∙ own look answer
  where
    own : (l : Look) → IsAnswer setting key (number + 1) l → filter (λ e. nat_eq (maker_of e) (number + 1)) (claims l) ≡ claims l
    own (Ready column) a = refl
    own (Pending told other) a = refl
    own (Mine ticket) a = ap (λ t. filter (λ e. nat_eq (maker_of e) (number + 1)) (Claim t.key t.by ∷ [])) a
        ∙ own_one number (Claim key (number + 1)) refl ∙ ap (λ t. Claim t.key t.by ∷ []) (sym a)

pub publication_seen : (log : List FlightEvent) (key : FlightKey) (by : ℕ) → is_published (log ++ Publish key by ∷ []) key ≡ true
publication_seen log key by = is_published-here log (Publish key by) key (same key) ∙ or_true (is_published log key)
  where
    or_true : (t : Bool) → (t || true) ≡ true
    or_true true = refl
    or_true false = refl

pub claim_seen : (log : List FlightEvent) (key : FlightKey) (by : ℕ) → claimer (log ++ Claim key by ∷ []) key ≡ Some by
claim_seen log key by = claimer-here log (Claim key by) key (same key)

pub abandonment_seen : (log : List FlightEvent) (key : FlightKey) (by : ℕ) → claimer (log ++ Abandon key by ∷ []) key ≡ None
abandonment_seen log key by = claimer-here log (Abandon key by) key (same key)

-- what a look at a turn leaves
pub looked : (r : Result Look OutOfMemory) (setting : Ground) (number by : ℕ) (seen log new : List FlightEvent) (key : FlightKey)
    → by ≡ number + 1 → IsLegalFlights log → HasSeen maker_of number seen log → IfOk r (λ look. found look ≡ standing log key)
    → IfOk r (IsAnswer setting key by) → IfOk r (λ look. new ≡ log ++ claims look)
    → IfOk r (λ look. (standing new key ≡ after number look) × (own_since number seen new ≡ claims look))
looked (Ok look) setting number by seen log new key is legal h told answer grows =
    let a = subst (λ n. IsAnswer setting key n look) is answer in (
      ap (λ l. standing l key) grows ∙ look_after setting number log key look legal told a,
      ap (own_since number seen) grows
          ∙ look_made setting number seen log key look h a,
    )
looked (Err e) setting number by seen log new key is legal h told answer grows = tt

pub if_first : (P Q : Look → Type 0) (r : Result Look OutOfMemory) → IfOk r (λ look. P look × Q look) → IfOk r P
if_first P Q (Ok look) h = h.0
if_first P Q (Err e) h = tt

pub if_second : (P Q : Look → Type 0) (r : Result Look OutOfMemory) → IfOk r (λ look. P look × Q look) → IfOk r Q
if_second P Q (Ok look) h = h.1
if_second P Q (Err e) h = tt

pub on_refused : (r : Result Look OutOfMemory) (P Q : Type 0) → (P → Q) → OnErr r P → OnErr r Q
on_refused (Ok look) P Q f h = tt
on_refused (Err e) P Q f h = f h
