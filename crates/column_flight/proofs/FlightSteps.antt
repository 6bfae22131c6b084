-- What a claim, a publication and an abandonment keep of a flight state.
use Rattle.std.proofs.Common.{◌≡◌, ℕ, suc, ◌+◌, ◌<◌, ◌≤◌, Bool, true, false, cond, not, List, [], ◌∷◌, ◌++◌, length, filter, Option, None, Some, unwrap_or, refl, sym, ap, subst, ◌∙◌, arith}
use Rattle.std.specs.List.{IsDistinct, sum_by}
use Rattle.std.specs.Option.{IsSome, option_map}
use Rattle.std.specs.Map.{lookup, keys_of, values_of, set_value, remove_entry}
use Rattle.std.proofs.lemmas.List.Sums.{sum_by-append}
use Rattle.std.proofs.lemmas.Map.{lookup-set_value, lookup-remove_entry, keys-set_value, length-set_value}
use Rattle.std.proofs.lemmas.Map.Entries.{sum_by-remove_entry, sum_by-set_value}
use Rattle.column_flight.specs.declared.event.FlightKey.{FlightKey}
use Rattle.column_flight.specs.declared.event.FlightEvent.{FlightEvent}
use Rattle.column_flight.specs.declared.event.FlightEvent.TheVariants.{Claim, Publish, Abandon}
use Rattle.column_flight.specs.declared.places.Place.{Place}
use Rattle.column_flight.specs.declared.places.Place.TheVariants.{Claimed, Published}
use Rattle.column_flight.specs.Flights.{same_key, is_publication, claimed, published, claimer, is_published, standing, IsAllowed, publications, held_keys}
use Rattle.column_flight.specs.Places.{place_standing, claims_at, unsettled, IsPlaceAt, AreFlights}
use Rattle.column_flight.proofs.FlightEvents.{same_key-eq, same_key-equivalence, IsLegal-push, IsLegal-nil, standing-apart, standing-here, free_is, standing-claimed}
use Rattle.column_flight.proofs.HeldKeys.{held_keys-claim, held_keys-publish, held_keys-abandon, keys-remove_entry}

length_push : {X : Type 0} (xs : List X) (x : X) → length (xs ++ x ∷ []) ≡ length xs + 1
length_push [] x = refl
length_push (y ∷ xs) x = ap suc (length_push xs x) ∙ omega arith

keys_of-push : {K X : Type 0} (es : List (K × X)) (k : K) (v : X) → keys_of (es ++ (k, v) ∷ []) ≡ keys_of es ++ k ∷ []
keys_of-push [] k v = refl
keys_of-push (e ∷ es) k v = ap (λ ks. e.0 ∷ ks) (keys_of-push es k v)

values_of-push : {K X : Type 0} (es : List (K × X)) (k : K) (v : X) → values_of (es ++ (k, v) ∷ []) ≡ values_of es ++ v ∷ []
values_of-push [] k v = refl
values_of-push (e ∷ es) k v = ap (λ vs. e.1 ∷ vs) (values_of-push es k v)

pub lookup-push_here : {K X : Type 0} (test : K → Bool) (es : List (K × X)) (k : K) (v : X) → lookup test es ≡ None → test k ≡ true
    → lookup test (es ++ (k, v) ∷ []) ≡ Some v
lookup-push_here test [] k v none passes = ap (λ t. cond t (Some v) None) passes
lookup-push_here {K} {X} test (e ∷ es) k v none passes = by (test e.0) none (λ h. lookup-push_here test es k v h passes)
  where
    by : (t : Bool) → cond t (Some e.1) (lookup test es) ≡ None → (lookup test es ≡ None → lookup test (es ++ (k, v) ∷ []) ≡ Some v)
        → cond t (Some e.1) (lookup test (es ++ (k, v) ∷ [])) ≡ Some v
    by true h later = absurd cc
    by false h later = later h

pub lookup-push_apart : {K X : Type 0} (test : K → Bool) (es : List (K × X)) (k : K) (v : X) → test k ≡ false
    → lookup test (es ++ (k, v) ∷ []) ≡ lookup test es
lookup-push_apart test [] k v fails = ap (λ t. cond t (Some v) None) fails
lookup-push_apart test (e ∷ es) k v fails = ap (λ o. cond (test e.0) (Some e.1) o) (lookup-push_apart test es k v fails)

length-remove_entry : {K X : Type 0} (test : K → Bool) (es : List (K × X)) (v : X) → lookup test es ≡ Some v
    → length (remove_entry test es) + 1 ≡ length es
length-remove_entry test [] v found = absurd cc
length-remove_entry {K} {X} test (e ∷ es) v found = by (test e.0) found (λ h. length-remove_entry test es v h)
  where
    by : (t : Bool) → cond t (Some e.1) (lookup test es) ≡ Some v → (lookup test es ≡ Some v → length (remove_entry test es) + 1 ≡ length es)
        → length (cond t es (e ∷ remove_entry test es)) + 1 ≡ suc (length es)
    by true h later = omega arith
    by false h later = let rest = later h in omega arith

-- a publication counts
publications-push : (events : List FlightEvent) (e : FlightEvent)
    → publications (events ++ e ∷ []) ≡ publications events + cond (is_publication e) 1 0
publications-push events e = sum_by-append (λ x. cond (is_publication x) 1 0) events (e ∷ []) ∙ omega arith

-- what holds of each key after a change of one
place_by : (P : FlightKey → Option Place → Type 0) (entries after : List (FlightKey × Place)) (key : FlightKey) (place : Option Place)
    → ((q : FlightKey) → same_key q key ≡ true → lookup (same_key q) after ≡ place)
    → ((q : FlightKey) → same_key q key ≡ false → lookup (same_key q) after ≡ lookup (same_key q) entries)
    → ((q : FlightKey) → same_key q key ≡ true → P q place) → ((q : FlightKey) → same_key q key ≡ false → P q (lookup (same_key q) entries))
    → (q : FlightKey) → P q (lookup (same_key q) after)
place_by P entries after key place here apart at other q = by (same_key q key) refl
  where
    by : (t : Bool) → same_key q key ≡ t → P q (lookup (same_key q) after)
    by true is = subst (P q) (sym (here q is)) (at q is)
    by false is = subst (P q) (sym (apart q is)) (other q is)

module _ (N p : ℕ) (events : List FlightEvent) (capacity total : ℕ) (entries : List (FlightKey × Place))
    (state : AreFlights N p events capacity total entries) (key : FlightKey) (session : ℕ) where
  -- a claim of a free key
  pub AreFlights-claim : (room : ℕ) → lookup (same_key key) entries ≡ None → length events + unsettled entries + 2 ≤ room
      → IsDistinct same_key (keys_of (entries ++ (key, Claimed session) ∷ []))
      → AreFlights N p (events ++ Claim key session ∷ []) room total (entries ++ (key, Claimed session) ∷ [])
  AreFlights-claim room none fits distinct =
      let allowed : IsAllowed events (Claim key session) = free_is events key (sym (state.standing key) ∙ ap place_standing none) in
      let here : (q : FlightKey) → same_key q key ≡ true → lookup (same_key q) (entries ++ (key, Claimed session) ∷ []) ≡ Some (Claimed session)
      = λ q is. lookup-push_here (same_key q) entries key (Claimed session)
      (ap (λ k. lookup (same_key k) entries) (same_key-eq q key is) ∙ none) is in
      let apart : (q : FlightKey) → same_key q key ≡ false → lookup (same_key q) (entries ++ (key, Claimed session) ∷ [])
      ≡ lookup (same_key q) entries
      = λ q is. lookup-push_apart (same_key q) entries key (Claimed session) is in
      let more : unsettled (entries ++ (key, Claimed session) ∷ []) ≡ unsettled entries + 1
      = ap (sum_by claims_at) (values_of-push entries key (Claimed session)) ∙ sum_by-append claims_at (values_of entries) (Claimed session ∷ []) in
      record {
        legal = IsLegal-push events (Claim key session) state.legal allowed;
        standing = place_by (λ q place. place_standing place ≡ standing (events ++ Claim key session ∷ []) q) entries
            (entries ++ (key, Claimed session) ∷ []) key (Some (Claimed session)) here apart
            (λ q is. sym (standing-here events (Claim key session) q state.legal allowed is))
            (λ q is. state.standing q ∙ sym (standing-apart events (Claim key session) q is));
        columns = place_by (IsPlaceAt N p) entries (entries ++ (key, Claimed session) ∷ []) key (Some (Claimed session)) here apart (λ q is. tt)
            (λ q is. state.columns q);
        distinct = distinct;
        order = keys_of-push entries key (Claimed session) ∙ ap (λ ks. ks ++ key ∷ []) state.order ∙ sym (held_keys-claim events key session);
        count = state.count ∙ omega (arith, publications-push events (Claim key session));
        published = omega (arith, more, state.published, length_push entries (key, Claimed session));
        room = omega (arith, more, length_push events (Claim key session));
      }

  module _ (has : claimer events key ≡ Some session) where
    -- the place of an unsettled claim
    pub claimed_place : lookup (same_key key) entries ≡ Some (Claimed session)
    claimed_place = by (lookup (same_key key) entries) refl (state.standing key ∙ standing-claimed events key session state.legal has)
      where
        by : (o : Option Place) → lookup (same_key key) entries ≡ o → place_standing o ≡ claimed session
            → lookup (same_key key) entries ≡ Some (Claimed session)
        by None is h = absurd cc
        by (Some (Claimed s)) is h = is ∙ ap (λ n. Some (Claimed n)) (let same : s ≡ session = cc in same)
        by (Some (Published c)) is h = absurd cc

    -- so there is room for its settlement
    unsettled-rest : unsettled (remove_entry (same_key key) entries) + 1 ≡ unsettled entries
    unsettled-rest = ap (λ o. unsettled (remove_entry (same_key key) entries) + unwrap_or (option_map claims_at o) 0) (sym claimed_place)
        ∙ sum_by-remove_entry claims_at (same_key key) entries

    pub settles : length events < capacity
    settles = omega (arith, unsettled-rest, state.room)

    pub has_place : IsSome (lookup (same_key key) entries)
    has_place = subst (λ (o : Option Place). IsSome o) (sym claimed_place) refl

    -- a publication of the key's column
    pub AreFlights-publish : (column : Place) → IsPlaceAt N p key (Some column) → place_standing (Some column) ≡ published → claims_at column ≡ 0
        → AreFlights N p (events ++ Publish key session ∷ []) capacity (total + 1) (set_value (same_key key) entries column)
    AreFlights-publish column good done settled =
        let put : (q : FlightKey) → lookup (same_key q) (set_value (same_key key) entries column)
        ≡ cond (same_key key q) (Some column) (lookup (same_key q) entries)
        = λ q. lookup-set_value same_key-equivalence (same_key key) (same_key-equivalence.congr key) q column entries has_place in
        let here : (q : FlightKey) → same_key q key ≡ true → lookup (same_key q) (set_value (same_key key) entries column) ≡ Some column
        = λ q is. put q ∙ ap (λ t. cond t (Some column) (lookup (same_key q) entries)) (same_key-equivalence.symm key q ∙ is) in
        let apart : (q : FlightKey) → same_key q key ≡ false → lookup (same_key q) (set_value (same_key key) entries column)
        ≡ lookup (same_key q) entries
        = λ q is. put q ∙ ap (λ t. cond t (Some column) (lookup (same_key q) entries)) (same_key-equivalence.symm key q ∙ is) in
        let fewer : unsettled (set_value (same_key key) entries column) + 1 ≡ unsettled entries + claims_at column
        = sum_by-set_value claims_at (same_key key) entries (Claimed session) column claimed_place in
        let keys : keys_of (set_value (same_key key) entries column) ≡ keys_of entries = keys-set_value (same_key key) entries column in
        record {
          legal = IsLegal-push events (Publish key session) state.legal has;
          standing = place_by (λ q place. place_standing place ≡ standing (events ++ Publish key session ∷ []) q) entries
              (set_value (same_key key) entries column) key (Some column) here apart
              (λ q is. done ∙ sym (standing-here events (Publish key session) q state.legal has is))
              (λ q is. state.standing q ∙ sym (standing-apart events (Publish key session) q is));
          columns = place_by (IsPlaceAt N p) entries (set_value (same_key key) entries column) key (Some column) here apart
              (λ q is. subst (λ (k : FlightKey). IsPlaceAt N p k (Some column)) (sym (same_key-eq q key is)) good) (λ q is. state.columns q);
          distinct = subst (IsDistinct same_key) (sym keys) state.distinct;
          order = keys ∙ state.order ∙ sym (held_keys-publish events key session);
          count = omega (arith, state.count, publications-push events (Publish key session));
          published = omega (arith, fewer, settled, state.published, length-set_value (same_key key) entries column);
          room = omega (arith, fewer, settled, state.room, length_push events (Publish key session));
        }

    -- the claim is given up
    pub AreFlights-abandon : IsDistinct same_key (keys_of (remove_entry (same_key key) entries))
        → AreFlights N p (events ++ Abandon key session ∷ []) capacity total (remove_entry (same_key key) entries)
    AreFlights-abandon distinct =
        let put : (q : FlightKey) → lookup (same_key q) (remove_entry (same_key key) entries)
        ≡ cond (same_key key q) None (lookup (same_key q) entries)
        = λ q. lookup-remove_entry same_key-equivalence (same_key key) (same_key-equivalence.congr key) q entries state.distinct in
        let here : (q : FlightKey) → same_key q key ≡ true → lookup (same_key q) (remove_entry (same_key key) entries) ≡ None
        = λ q is. put q ∙ ap (λ t. cond t None (lookup (same_key q) entries)) (same_key-equivalence.symm key q ∙ is) in
        let apart : (q : FlightKey) → same_key q key ≡ false → lookup (same_key q) (remove_entry (same_key key) entries)
        ≡ lookup (same_key q) entries
        = λ q is. put q ∙ ap (λ t. cond t None (lookup (same_key q) entries)) (same_key-equivalence.symm key q ∙ is) in
        record {
          legal = IsLegal-push events (Abandon key session) state.legal has;
          standing = place_by (λ q place. place_standing place ≡ standing (events ++ Abandon key session ∷ []) q) entries
              (remove_entry (same_key key) entries) key None here apart
              (λ q is. sym (standing-here events (Abandon key session) q state.legal has is))
              (λ q is. state.standing q ∙ sym (standing-apart events (Abandon key session) q is));
          columns = place_by (IsPlaceAt N p) entries (remove_entry (same_key key) entries) key None here apart (λ q is. tt)
              (λ q is. state.columns q);
          distinct = distinct;
          order = keys-remove_entry entries key state.distinct ∙ ap (filter (λ k. not (same_key k key))) state.order
              ∙ sym (held_keys-abandon events key session);
          count = state.count ∙ omega (arith, publications-push events (Abandon key session));
          published = omega (arith, unsettled-rest, state.published, length-remove_entry (same_key key) entries (Claimed session) claimed_place);
          room = omega (arith, unsettled-rest, state.room, length_push events (Abandon key session));
        }

-- no event
pub AreFlights-nil : (N p capacity : ℕ) → AreFlights N p [] capacity 0 []
unfolding standing is_published claimer held_keys IsDistinct
AreFlights-nil N p capacity = record {
  legal = IsLegal-nil;
  standing = λ key. refl;
  columns = λ key. tt;
  distinct = tt;
  order = refl;
  count = refl;
  published = refl;
  room = omega arith;
}

-- the same, of what is equal
pub AreFlights-as : (N p total : ℕ) (events events' : List FlightEvent) (capacity capacity' : ℕ) (entries entries' : List (FlightKey × Place))
    → events' ≡ events → capacity' ≡ capacity → entries' ≡ entries
    → AreFlights N p events capacity total entries → AreFlights N p events' capacity' total entries'
AreFlights-as N p total events events' capacity capacity' entries entries' a b c state =
    subst (λ x. AreFlights N p x capacity' total entries') (sym a)
    (subst (λ x. AreFlights N p events x total entries') (sym b)
    (subst (λ x. AreFlights N p events capacity total x) (sym c) state))
