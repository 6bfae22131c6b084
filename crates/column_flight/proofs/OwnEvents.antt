-- What a call leaves that appended nothing, or a claim of its pass and then the settlement, while other passes appended what they did.
use Rattle.std.proofs.Common.{◌≡◌, ℕ, zero, suc, ◌+◌, Bool, true, false, cond, List, [], ◌∷◌, ◌++◌, length, drop, filter, slice_get, None, Some, ◌⊎◌, inl, inr, Result, Ok, Err, OnOk, OnErr, refl, sym, ap, subst, ◌∙◌, append_assoc}
use Rattle.std.specs.List.{AllByRecursion}
use Rattle.std.proofs.Math.Seq.{drop-append_seam}
use Rattle.std.proofs.lemmas.Bool.{true≢false, eq-eqb}
use mathlib.Core.List.{IsPrefix}
use Rattle.turn_board.specs.declared.view.View.{View}
use Rattle.column_flight.specs.declared.event.FlightKey.{FlightKey}
use Rattle.column_flight.specs.declared.event.FlightEvent.{FlightEvent}
use Rattle.column_flight.specs.declared.event.FlightEvent.TheVariants.{Claim, Publish, Abandon}
use Rattle.column_flight.specs.Flights.{same_key, key_of, maker_of, claimer, claimer_of}
use Rattle.column_flight.specs.Shared.{own_events, MayPublish, MayAbandon, HasNoClaim, LeavesNoClaim, AddsOnly}
use Rattle.column_flight.proofs.FlightEvents.{claimer-nil, claimer-apart, claimer-here}
use Rattle.column_flight.proofs.TurnEvents.{is_own, unclaimed_step, unclaimed_along}

-- no event of the pass
none_own : (number : ℕ) (es : List FlightEvent) → filter (is_own number) es ≡ [] → AllByRecursion (λ e. ¬ (maker_of e ≡ number + 1)) es
none_own number [] h = tt
none_own number (e ∷ es) h = by (is_own number e) (eq-eqb (maker_of e) (number + 1)) (none_own number es) h
  where
    by : (t : Bool) → (maker_of e ≡ number + 1 → t ≡ true) → (filter (is_own number) es ≡ [] → AllByRecursion (λ x. ¬ (maker_of x ≡ number + 1)) es)
        → cond t (e ∷ filter (is_own number) es) (filter (is_own number) es) ≡ [] → AllByRecursion (λ x. ¬ (maker_of x ≡ number + 1)) (e ∷ es)
    by true own later none = absurd cc
    by false own later none = (λ is. true≢false (sym (own is)), later none)

other_maker : (number : ℕ) (e : FlightEvent) → is_own number e ≡ false → ¬ (maker_of e ≡ number + 1)
other_maker number e other is = true≢false (sym (eq-eqb (maker_of e) (number + 1) is) ∙ other)

-- ---- claims
-- the last event of the pass settles the key
settled_last : (number : ℕ) (seen rest : List FlightEvent) (key : FlightKey) (last : FlightEvent) (other : FlightKey) → key_of last ≡ key
    → claimer_of last ≡ None
    → filter (is_own number) rest ≡ last ∷ [] → (same_key other key ≡ false → ¬ (claimer seen other ≡ Some (number + 1)))
    → ¬ (claimer (seen ++ rest) other ≡ Some (number + 1))
settled_last number seen [] key last other is settles h free = absurd cc
settled_last number seen (e ∷ rest) key last other is settles h free =
    by (is_own number e) refl h (settled_last number (seen ++ e ∷ []) rest key last other is settles)
  where
    settled : e ≡ last → (t : Bool) → same_key other (key_of e) ≡ t → ¬ (claimer (seen ++ e ∷ []) other ≡ Some (number + 1))
    settled e_is true here has = let both : None ≡ Some (number + 1) = sym settles ∙ ap claimer_of (sym e_is)
        ∙ sym (claimer-here seen e other here) ∙ has in cc
    settled e_is false apart has = free (ap (same_key other) (sym is ∙ ap key_of (sym e_is)) ∙ apart) (sym (claimer-apart seen e other apart) ∙ has)

    by : (t : Bool) → is_own number e ≡ t → cond t (e ∷ filter (is_own number) rest) (filter (is_own number) rest) ≡ last ∷ []
        → (filter (is_own number) rest ≡ last ∷ [] → (same_key other key ≡ false → ¬ (claimer (seen ++ e ∷ []) other ≡ Some (number + 1)))
        → ¬ (claimer ((seen ++ e ∷ []) ++ rest) other ≡ Some (number + 1)))
        → ¬ (claimer (seen ++ e ∷ rest) other ≡ Some (number + 1))
    by true own found later has =
        let e_is : e ≡ last = cc in
        let none : filter (is_own number) rest ≡ [] = cc in
        unclaimed_along (number + 1) (seen ++ e ∷ []) rest other (none_own number rest none) (settled e_is (same_key other (key_of e)) refl)
        (ap (λ l. claimer l other) (append_assoc seen (e ∷ []) rest) ∙ has)
    by false own found later has = later found (λ apart. unclaimed_step (number + 1) seen e other (other_maker number e own) (free apart))
        (ap (λ l. claimer l other) (append_assoc seen (e ∷ []) rest) ∙ has)

-- a claim of the pass, and then the settlement
settled_both : (number : ℕ) (seen rest : List FlightEvent) (key : FlightKey) (last : FlightEvent) (other : FlightKey) → key_of last ≡ key
    → claimer_of last ≡ None
    → filter (is_own number) rest ≡ Claim key (number + 1) ∷ last ∷ [] → ¬ (claimer seen other ≡ Some (number + 1))
    → ¬ (claimer (seen ++ rest) other ≡ Some (number + 1))
settled_both number seen [] key last other is settles h free = absurd cc
settled_both number seen (e ∷ rest) key last other is settles h free =
    by (is_own number e) refl h (settled_both number (seen ++ e ∷ []) rest key last other is settles)
  where
    by : (t : Bool) → is_own number e ≡ t → cond t (e ∷ filter (is_own number) rest) (filter (is_own number) rest)
        ≡ Claim key (number + 1) ∷ last ∷ []
        → (filter (is_own number) rest ≡ Claim key (number + 1) ∷ last ∷ [] → ¬ (claimer (seen ++ e ∷ []) other ≡ Some (number + 1))
        → ¬ (claimer ((seen ++ e ∷ []) ++ rest) other ≡ Some (number + 1)))
        → ¬ (claimer (seen ++ e ∷ rest) other ≡ Some (number + 1))
    by true own found later has =
        let e_is : e ≡ Claim key (number + 1) = cc in
        let one : filter (is_own number) rest ≡ last ∷ [] = cc in
        settled_last number (seen ++ e ∷ []) rest key last other is settles one
        (λ apart again. free (sym (claimer-apart seen e other (ap (λ x. same_key other (key_of x)) e_is ∙ apart)) ∙ again))
        (ap (λ l. claimer l other) (append_assoc seen (e ∷ []) rest) ∙ has)
    by false own found later has = later found (unclaimed_step (number + 1) seen e other (other_maker number e own) free)
        (ap (λ l. claimer l other) (append_assoc seen (e ∷ []) rest) ∙ has)

past : (xs ys : List FlightEvent) (p : IsPrefix xs ys) → drop (length xs) ys ≡ p.0
past xs ys p = ap (drop (length xs)) (sym p.1) ∙ drop-append_seam xs p.0

-- nothing, or a claim and a settlement
abbrev Settles : FlightKey → FlightEvent → View FlightEvent → View FlightEvent → Type 0
Settles key last old new = (own_events old new ≡ []) ⊎ (own_events old new ≡ Claim key (old.number + 1) ∷ last ∷ [])

leaves_no_claim : (key : FlightKey) (last : FlightEvent) (old new : View FlightEvent) → key_of last ≡ key → claimer_of last ≡ None
    → IsPrefix old.seen new.seen
    → Settles key last old new → LeavesNoClaim old new
leaves_no_claim key last old new is settles p (inl none) other free has =
    unclaimed_along (old.number + 1) old.seen p.0 other (none_own old.number p.0
    (ap (filter (is_own old.number)) (sym (past old.seen new.seen p)) ∙ none)) free (ap (λ l. claimer l other) p.1 ∙ has)
leaves_no_claim key last old new is settles p (inr both) other free has =
    settled_both old.number old.seen p.0 key last other is settles (ap (filter (is_own old.number)) (sym (past old.seen new.seen p)) ∙ both) free
    (ap (λ l. claimer l other) p.1 ∙ has)

-- a pass that has seen nothing
pub HasNoClaim-nil : (v : View FlightEvent) → v.seen ≡ [] → HasNoClaim v
HasNoClaim-nil v none key has = let both : None ≡ Some (v.number + 1) = sym (claimer-nil key) ∙ ap (λ l. claimer l key) (sym none) ∙ has in cc

-- ---- events of the pass
-- they are of one key
own_keys : (number : ℕ) (key : FlightKey) (es : List FlightEvent) → AllByRecursion (λ e. key_of e ≡ key) (filter (is_own number) es)
    → (k : ℕ) (e : FlightEvent) → slice_get es k ≡ Some e → maker_of e ≡ number + 1 → key_of e ≡ key
own_keys number key [] h k e at own = absurd (let none : None ≡ Some e = at in cc)
own_keys number key (x ∷ es) h zero e at own =
    let is : x ≡ e = (let same : Some x ≡ Some e = at in cc) in
    ap key_of (sym is) ∙ by (is_own number x) (eq-eqb (maker_of x) (number + 1) (ap maker_of is ∙ own)) h
  where
    by : (t : Bool) → t ≡ true → AllByRecursion (λ y. key_of y ≡ key) (cond t (x ∷ filter (is_own number) es) (filter (is_own number) es))
        → key_of x ≡ key
    by true own_is all = all.0
    by false own_is all = absurd (true≢false (sym own_is))
own_keys number key (x ∷ es) h (suc k) e at own = own_keys number key es (by (is_own number x) h) k e at own
  where
    by : (t : Bool) → AllByRecursion (λ y. key_of y ≡ key) (cond t (x ∷ filter (is_own number) es) (filter (is_own number) es))
        → AllByRecursion (λ y. key_of y ≡ key) (filter (is_own number) es)
    by true all = all.1
    by false all = all

-- an event stands in the first list, or in the one past it
either_side : (xs ys : List FlightEvent) (k : ℕ) (e : FlightEvent) → slice_get (xs ++ ys) k ≡ Some e
    → (slice_get xs k ≡ Some e) ⊎ ((j : ℕ) × (slice_get ys j ≡ Some e))
either_side [] ys k e at = inr (k, at)
either_side (x ∷ xs) ys zero e at = inl at
either_side (x ∷ xs) ys (suc k) e at = either_side xs ys k e at

keys_of_both : (key : FlightKey) (last : FlightEvent) (old new : View FlightEvent) → key_of last ≡ key → Settles key last old new
    → AllByRecursion (λ e. key_of e ≡ key) (own_events old new)
keys_of_both key last old new is (inl none) = subst (AllByRecursion (λ e. key_of e ≡ key)) (sym none) tt
keys_of_both key last old new is (inr both) = subst (AllByRecursion (λ e. key_of e ≡ key)) (sym both) (refl, (is, tt))

adds_only : (key : FlightKey) (last : FlightEvent) (old new : View FlightEvent) → key_of last ≡ key → IsPrefix old.seen new.seen
    → Settles key last old new → AddsOnly key old new
adds_only key last old new is p settles k e at own = by (either_side old.seen p.0 k e (ap (λ l. slice_get l k) p.1 ∙ at))
  where
    by : (slice_get old.seen k ≡ Some e) ⊎ ((j : ℕ) × (slice_get p.0 j ≡ Some e)) → (slice_get old.seen k ≡ Some e) ⊎ (key_of e ≡ key)
    by (inl before) = inl before
    by (inr later) = inr (own_keys old.number key p.0 (subst (λ l. AllByRecursion (λ x. key_of x ≡ key) (filter (is_own old.number) l))
        (past old.seen new.seen p) (keys_of_both key last old new is settles)) later.0 e later.1 own)

-- ---- a call, whatever it answered
module _ {A F : Type 0} (result : Result A F) (key : FlightKey) (old new : View FlightEvent) (later : IsPrefix old.seen new.seen) where
  pub no_claim_left : OnOk result (MayPublish key old new) → OnErr result (MayAbandon key old new) → LeavesNoClaim old new
  no_claim_left made refused = by result made refused
    where
      by : (r : Result A F) → OnOk r (MayPublish key old new) → OnErr r (MayAbandon key old new) → LeavesNoClaim old new
      by (Ok x) is none = leaves_no_claim key (Publish key (old.number + 1)) old new refl refl later is
      by (Err e) none is = leaves_no_claim key (Abandon key (old.number + 1)) old new refl refl later is

  pub only_added : OnOk result (MayPublish key old new) → OnErr result (MayAbandon key old new) → AddsOnly key old new
  only_added made refused = by result made refused
    where
      by : (r : Result A F) → OnOk r (MayPublish key old new) → OnErr r (MayAbandon key old new) → AddsOnly key old new
      by (Ok x) is none = adds_only key (Publish key (old.number + 1)) old new refl later is
      by (Err e) none is = adds_only key (Abandon key (old.number + 1)) old new refl later is

-- a call that appended nothing
module _ (key : FlightKey) (old new : View FlightEvent) (later : IsPrefix old.seen new.seen) (none : own_events old new ≡ []) where
  pub LeavesNoClaim-none : LeavesNoClaim old new
  LeavesNoClaim-none = leaves_no_claim key (Abandon key (old.number + 1)) old new refl refl later (inl none)

  AddsOnly-none : AddsOnly key old new
  AddsOnly-none = adds_only key (Abandon key (old.number + 1)) old new refl later (inl none)

-- ---- two calls in a row
module _ (a b c : View FlightEvent) (number : b.number ≡ a.number) where
  LeavesNoClaim-then : LeavesNoClaim a b → LeavesNoClaim b c → LeavesNoClaim a c
  LeavesNoClaim-then p q key free =
      subst (λ n. ¬ (claimer c.seen key ≡ Some (n + 1))) number
      (q key (subst (λ n. ¬ (claimer b.seen key ≡ Some (n + 1))) (sym number) (p key free)))

  AddsOnly-then : (key : FlightKey) → AddsOnly key a b → AddsOnly key b c → AddsOnly key a c
  AddsOnly-then key p q k e at own = by (q k e at (own ∙ ap (λ n. n + 1) (sym number)))
    where
      by : (slice_get b.seen k ≡ Some e) ⊎ (key_of e ≡ key) → (slice_get a.seen k ≡ Some e) ⊎ (key_of e ≡ key)
      by (inl before) = p k e before own
      by (inr is) = inr is

  -- where the first appended nothing
  pub LeavesNoClaim-after : FlightKey → IsPrefix a.seen b.seen → own_events a b ≡ [] → LeavesNoClaim b c → LeavesNoClaim a c
  LeavesNoClaim-after key p none = LeavesNoClaim-then (LeavesNoClaim-none key a b p none)

  pub AddsOnly-after : (key : FlightKey) → IsPrefix a.seen b.seen → own_events a b ≡ [] → AddsOnly key b c → AddsOnly key a c
  AddsOnly-after key p none = AddsOnly-then key (AddsOnly-none key a b p none)
