-- The keys that are published or have an unsettled claim, as one more event changes them.
use Rattle.std.proofs.Common.{◌≡◌, ℕ, Bool, true, false, cond, ◌&&◌, ◌||◌, not, List, [], ◌∷◌, ◌++◌, filter, refl, sym, ap, ◌∙◌}
use Rattle.std.specs.List.{list_any, IsDistinct, AllByRecursion}
use Rattle.std.specs.Map.{keys_of, remove_entry}
use Rattle.std.proofs.Math.Bool.{or-false}
use Rattle.std.proofs.lemmas.List.Folds.{list_any-append}
use Rattle.column_flight.specs.declared.event.FlightKey.{FlightKey}
use Rattle.column_flight.specs.declared.event.FlightEvent.{FlightEvent}
use Rattle.column_flight.specs.declared.event.FlightEvent.TheVariants.{Claim, Publish, Abandon}
use Rattle.column_flight.specs.Flights.{same_key, key_of, is_claim, is_abandonment, at_key, held_keys}
use Rattle.column_flight.proofs.FlightEvents.{same_key-equivalence}

any-push : {X : Type 0} (test : X → Bool) (xs : List X) (x : X) → list_any test (xs ++ x ∷ []) ≡ (list_any test xs || test x)
any-push test xs x = list_any-append test xs (x ∷ []) ∙ ap (λ t. list_any test xs || t) (or-false (test x))

pub held_keys-claim : (events : List FlightEvent) (key : FlightKey) (by : ℕ)
    → held_keys (events ++ Claim key by ∷ []) ≡ held_keys events ++ key ∷ []
unfolding held_keys
held_keys-claim [] key by = refl
held_keys-claim (x ∷ xs) key by =
    (λ j. cond (is_claim x && not ((any-push (at_key is_abandonment (key_of x)) xs (Claim key by)
    ∙ or-false (list_any (at_key is_abandonment (key_of x)) xs)) j)) (key_of x ∷ held_keys-claim xs key by j) (held_keys-claim xs key by j))
    ∙ from (is_claim x && not (list_any (at_key is_abandonment (key_of x)) xs))
  where
    from : (t : Bool) → cond t (key_of x ∷ (held_keys xs ++ key ∷ [])) (held_keys xs ++ key ∷ [])
        ≡ cond t (key_of x ∷ held_keys xs) (held_keys xs) ++ key ∷ []
    from true = refl
    from false = refl

pub held_keys-publish : (events : List FlightEvent) (key : FlightKey) (by : ℕ) → held_keys (events ++ Publish key by ∷ []) ≡ held_keys events
unfolding held_keys
held_keys-publish [] key by = refl
held_keys-publish (x ∷ xs) key by =
    λ j. cond (is_claim x && not ((any-push (at_key is_abandonment (key_of x)) xs (Publish key by)
    ∙ or-false (list_any (at_key is_abandonment (key_of x)) xs)) j)) (key_of x ∷ held_keys-publish xs key by j) (held_keys-publish xs key by j)

pub held_keys-abandon : (events : List FlightEvent) (key : FlightKey) (by : ℕ)
    → held_keys (events ++ Abandon key by ∷ []) ≡ filter (λ k. not (same_key k key)) (held_keys events)
unfolding held_keys
held_keys-abandon [] key by = refl
held_keys-abandon (x ∷ xs) key by =
    (λ j. cond (is_claim x && not (any-push (at_key is_abandonment (key_of x)) xs (Abandon key by) j)) (key_of x ∷ held_keys-abandon xs key by j)
    (held_keys-abandon xs key by j))
    ∙ from (is_claim x) (list_any (at_key is_abandonment (key_of x)) xs)
  where
    others : FlightKey → Bool
    others k = not (same_key k key)

    from : (c a : Bool)
        → cond (c && not (a || same_key (key_of x) key)) (key_of x ∷ filter (λ k. not (same_key k key)) (held_keys xs))
        (filter (λ k. not (same_key k key)) (held_keys xs))
        ≡ filter (λ k. not (same_key k key)) (cond (c && not a) (key_of x ∷ held_keys xs) (held_keys xs))
    from true true = refl
    from true false = refl
    from false a = refl

-- the keys without one, where no two are equal
pub keys-remove_entry : {X : Type 0} (es : List (FlightKey × X)) (key : FlightKey) → IsDistinct same_key (keys_of es)
    → keys_of (remove_entry (same_key key) es) ≡ filter (λ k. not (same_key k key)) (keys_of es)
unfolding IsDistinct
keys-remove_entry [] key distinct = refl
keys-remove_entry {X} (e ∷ es) key distinct = from (same_key key e.0) refl (same_key-equivalence.symm e.0 key) (keys-remove_entry es key distinct.1)
  where
    none : (ks : List FlightKey) → AllByRecursion (λ y. same_key e.0 y ≡ false) ks → same_key e.0 key ≡ true
        → ks ≡ filter (λ k. not (same_key k key)) ks
    none [] h same = refl
    none (k ∷ ks) h same =
        let apart : same_key k key ≡ false = same_key-equivalence.symm k key ∙ sym (same_key-equivalence.congr e.0 key k same) ∙ h.0 in
        ap (λ l. k ∷ l) (none ks h.1 same) ∙ ap (λ t. cond (not t) (k ∷ filter (λ j. not (same_key j key)) ks)
        (filter (λ j. not (same_key j key)) ks)) (sym apart)

    from : (t : Bool) → same_key key e.0 ≡ t → same_key e.0 key ≡ same_key key e.0
        → keys_of (remove_entry (same_key key) es) ≡ filter (λ k. not (same_key k key)) (keys_of es)
        → keys_of (cond t es (e ∷ remove_entry (same_key key) es))
        ≡ cond (not (same_key e.0 key)) (e.0 ∷ filter (λ k. not (same_key k key)) (keys_of es)) (filter (λ k. not (same_key k key)) (keys_of es))
    from true is flip later = none (keys_of es) distinct.0 (flip ∙ is)
        ∙ ap (λ t. cond (not t) (e.0 ∷ filter (λ k. not (same_key k key)) (keys_of es)) (filter (λ k. not (same_key k key)) (keys_of es)))
        (sym (flip ∙ is))
    from false is flip later = ap (λ ks. e.0 ∷ ks) later ∙ ap
        (λ t. cond (not t) (e.0 ∷ filter (λ k. not (same_key k key)) (keys_of es)) (filter (λ k. not (same_key k key)) (keys_of es)))
        (sym (flip ∙ is))
