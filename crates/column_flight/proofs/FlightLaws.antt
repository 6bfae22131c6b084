-- Laws of legal lists of flights.
use Rattle.std.proofs.Common.{◌≡◌, ℕ, ◌≤◌, Bool, true, false, cond, ◌&&◌, ◌||◌, not, List, [], ◌∷◌, ◌++◌, filter, length, map, None, ◌⊎◌, inl, inr, ◌↔◌, refl, sym, ap, subst, ◌∙◌, arith}
use Rattle.std.specs.List.{list_any, IsDistinct, AllByRecursion, count_by}
use Rattle.std.proofs.Math.Bool.{or-false}
use Rattle.std.proofs.lemmas.Bool.{true≢false}
use Rattle.std.proofs.lemmas.List.Folds.{list_any-append}
use Rattle.std.proofs.lemmas.List.{append-nil, length-map, map-append}
use Rattle.std.proofs.lemmas.List.Elements.{filter-append}
use Rattle.std.proofs.lemmas.List.Sums.{length-filter}
use Rattle.std.proofs.lemmas.Map.Keys.{IsDistinct-push}
use mathlib.Core.List.{IsPrefix}
use Rattle.linear_algebra.specs.Prime.{IsPrime}
use Rattle.quotient_coords.specs.Quotient.{Ground, ground_of}
use Rattle.heilbronn_sets.specs.Merel.{merel_matrices}
use Rattle.hecke_columns.specs.Hecke.{HeckeColumn, IsHeckeColumn, IsColumn}
use Rattle.hecke_columns.proofs.Columns.{columns_same, IsColumn-same}
use Rattle.column_flight.specs.declared.event.FlightKey.{FlightKey}
use Rattle.column_flight.specs.declared.event.FlightEvent.{FlightEvent}
use Rattle.column_flight.specs.declared.event.FlightEvent.TheVariants.{Claim, Publish, Abandon}
use Rattle.column_flight.specs.declared.look.Look.{Look}
use Rattle.column_flight.specs.declared.look.Look.TheVariants.{Ready, Pending, Mine}
use Rattle.column_flight.specs.Flights.{same_key, key_of, is_publication, at_key, is_published, claimer, Standing, free, claimed, published, standing, IsAllowed, IsLegalFlights, publications, published_keys, held_keys, FlightClaim, IsColumnAt}
use Rattle.column_flight.specs.Looks.{IsAnswer, claims}
use Rattle.column_flight.proofs.FlightEvents.{same_key-eq, same_key-equivalence, along, IsLegal-nil, IsLegal-push, Settled-legal, standing-apart, standing-here, standing_of, standing-claimed, standing-published, standing-free, published_is, not_published}
use Rattle.column_flight.proofs.HeldKeys.{held_keys-claim, held_keys-publish, held_keys-abandon}

pub once : (events : List FlightEvent) (key : FlightKey) → IsLegalFlights events → count_by (at_key is_publication key) events ≤ 1
once events key legal = by (is_published events key) (Settled-legal key events legal).once
  where
    by : (t : Bool) → count_by (at_key is_publication key) events ≡ cond t 1 0 → count_by (at_key is_publication key) events ≤ 1
    by true is = omega arith
    by false is = omega arith

pub settled : (events : List FlightEvent) (key : FlightKey) → IsLegalFlights events → is_published events key ≡ true → claimer events key ≡ None
settled events key legal = (Settled-legal key events legal).no_claimer

pub stays : (events more : List FlightEvent) (key : FlightKey) → is_published events key ≡ true → standing (events ++ more) key ≡ published
unfolding is_published
stays events more key is =
    standing-published (events ++ more) key (list_any-append (at_key is_publication key) events more
    ∙ ap (λ t. t || list_any (at_key is_publication key) more) is)

-- whether a key of this standing is held
abbrev is_held : Standing → Bool
is_held free = false
is_held (claimed by) = true
is_held published = true

-- a legal list with its held keys
record Holds (events : List FlightEvent) : Type 0 where
  legal : IsLegalFlights events
  held : (key : FlightKey) → list_any (same_key key) (held_keys events) ≡ is_held (standing events key)
  distinct : IsDistinct same_key (held_keys events)

any-filter : (q key : FlightKey) (ks : List FlightKey) → list_any (same_key q) (filter (λ k. not (same_key k key)) ks)
    ≡ (list_any (same_key q) ks && not (same_key q key))
any-filter q key [] = refl
any-filter q key (k ∷ ks) = by (same_key q k) (same_key k key) (same_key q key) refl (λ same. ap (λ x. same_key x key) (same_key-eq q k same))
    (any-filter q key ks)
  where
    by : (s t u : Bool) → same_key q k ≡ s → (same_key q k ≡ true → u ≡ t)
        → list_any (same_key q) (filter (λ j. not (same_key j key)) ks) ≡ (list_any (same_key q) ks && not u)
        → list_any (same_key q) (cond (not t) (k ∷ filter (λ j. not (same_key j key)) ks) (filter (λ j. not (same_key j key)) ks))
        ≡ ((s || list_any (same_key q) ks) && not u)
    by true true u is same later = later ∙ ap (λ x. list_any (same_key q) ks && not x) (same is) ∙ none (list_any (same_key q) ks)
        ∙ ap not (sym (same is))
      where
        none : (x : Bool) → (x && false) ≡ false
        none true = refl
        none false = refl
    by true false u is same later = ap (λ x. x || list_any (same_key q) (filter (λ j. not (same_key j key)) ks)) is ∙ ap not (sym (same is))
    by false true u is same later = later
    by false false u is same later = ap (λ x. x || list_any (same_key q) (filter (λ j. not (same_key j key)) ks)) is ∙ later

any-push : (q key : FlightKey) (ks : List FlightKey) → list_any (same_key q) (ks ++ key ∷ []) ≡ (list_any (same_key q) ks || same_key q key)
any-push q key ks = list_any-append (same_key q) ks (key ∷ []) ∙ ap (λ t. list_any (same_key q) ks || t) (or-false (same_key q key))

distinct-filter : (key : FlightKey) (ks : List FlightKey) → IsDistinct same_key ks → IsDistinct same_key (filter (λ k. not (same_key k key)) ks)
unfolding IsDistinct
distinct-filter key [] d = d
distinct-filter key (k ∷ ks) d = by (same_key k key) (distinct-filter key ks d.1) (all ks d.0)
  where
    all : (js : List FlightKey) → AllByRecursion (λ y. same_key k y ≡ false) js
        → AllByRecursion (λ y. same_key k y ≡ false) (filter (λ j. not (same_key j key)) js)
    all [] h = h
    all (j ∷ js) h = from (same_key j key) (all js h.1)
      where
        from : (t : Bool) → AllByRecursion (λ y. same_key k y ≡ false) (filter (λ i. not (same_key i key)) js)
            → AllByRecursion (λ y. same_key k y ≡ false) (cond (not t) (j ∷ filter (λ i. not (same_key i key)) js)
            (filter (λ i. not (same_key i key)) js))
        from true rest = rest
        from false rest = (h.0, rest)

    by : (t : Bool) → IsDistinct same_key (filter (λ j. not (same_key j key)) ks)
        → AllByRecursion (λ y. same_key k y ≡ false) (filter (λ j. not (same_key j key)) ks)
        → IsDistinct same_key (cond (not t) (k ∷ filter (λ j. not (same_key j key)) ks) (filter (λ j. not (same_key j key)) ks))
    by true rest apart = rest
    by false rest apart = (apart, rest)

pub look_appends : (setting : Ground) (key : FlightKey) (by : ℕ) (look : Look) → IsAnswer setting key by look
    → (claims look ≡ []) ⊎ (claims look ≡ Claim key by ∷ [])
look_appends setting key by (Ready column) answer = inl refl
look_appends setting key by (Pending told other) answer = inl refl
look_appends setting key by (Mine ticket) answer = inr (ap (λ (t : FlightClaim). Claim t.key t.by ∷ []) answer)

pub one_column : (setting : Ground) (key : FlightKey) (c d : HeckeColumn) → IsPrime setting.characteristic → IsColumnAt setting key c
    → IsColumnAt setting key d → IsHeckeColumn c → IsHeckeColumn d → c ≡ d
one_column setting key c d prime at at' is is' =
    let at_setting : Ground = ground_of setting.level setting.characteristic in
    let values : c.coords ≡ d.coords = columns_same at_setting (merel_matrices key.n) key.symbol c.coords d.coords prime
    (subst (λ k. IsColumn at_setting (merel_matrices key.n) k c.coords) at.symbol
    (IsColumn-same {g = ground_of c.modulus c.characteristic} at.level at.characteristic (ap merel_matrices at.n) c.symbol c.coords is))
    (subst (λ k. IsColumn at_setting (merel_matrices key.n) k d.coords) at'.symbol
    (IsColumn-same {g = ground_of d.modulus d.characteristic} at'.level at'.characteristic (ap merel_matrices at'.n) d.symbol d.coords is')) in
    λ j. record {
      modulus = (at.level ∙ sym at'.level) j;
      characteristic = (at.characteristic ∙ sym at'.characteristic) j;
      n = (at.n ∙ sym at'.n) j;
      symbol = (at.symbol ∙ sym at'.symbol) j;
      coords = values j;
    }

Holds-nil : Holds []
unfolding held_keys standing is_published claimer IsDistinct
Holds-nil = record { legal = IsLegal-nil; held = λ key. refl; distinct = tt }

-- the standing of a key after one more event, by whether the event is of the key
by_key : (P : FlightKey → Standing → Type 0) (before : List FlightEvent) (e : FlightEvent) → IsLegalFlights before → IsAllowed before e
    → ((q : FlightKey) → same_key q (key_of e) ≡ true → P q (standing_of e))
    → ((q : FlightKey) → same_key q (key_of e) ≡ false → P q (standing before q)) → (q : FlightKey) → P q (standing (before ++ e ∷ []) q)
by_key P before e legal allowed here apart q = by (same_key q (key_of e)) refl
  where
    by : (t : Bool) → same_key q (key_of e) ≡ t → P q (standing (before ++ e ∷ []) q)
    by true is = subst (P q) (sym (standing-here before e q legal allowed is)) (here q is)
    by false is = subst (P q) (sym (standing-apart before e q is)) (apart q is)

or_true : (t : Bool) → (t || true) ≡ true
or_true true = refl
or_true false = refl

and_false : (t : Bool) → (t && false) ≡ false
and_false true = refl
and_false false = refl

and_true : (t : Bool) → (t && true) ≡ t
and_true true = refl
and_true false = refl

Holds-push : (before : List FlightEvent) (e : FlightEvent) → Holds before → IsAllowed before e → Holds (before ++ e ∷ [])
Holds-push before (Claim key by) h allowed =
    let any = λ (q : FlightKey). ap (list_any (same_key q)) (held_keys-claim before key by) ∙ any-push q key (held_keys before) in
    let free_now : standing before key ≡ free = standing-free before key allowed.0 allowed.1 in
    record {
      legal = IsLegal-push before (Claim key by) h.legal allowed;
      held = by_key (λ q s. list_any (same_key q) (held_keys (before ++ Claim key by ∷ [])) ≡ is_held s) before (Claim key by) h.legal allowed
          (λ q is. any q ∙ ap (λ t. list_any (same_key q) (held_keys before) || t) is ∙ or_true (list_any (same_key q) (held_keys before)))
          (λ q is. any q ∙ ap (λ t. list_any (same_key q) (held_keys before) || t) is ∙ or-false (list_any (same_key q) (held_keys before))
          ∙ h.held q);
      distinct = subst (IsDistinct same_key) (sym (held_keys-claim before key by))
          (IsDistinct-push same_key-equivalence (held_keys before) key h.distinct (h.held key ∙ ap is_held free_now));
    }
Holds-push before (Publish key by) h allowed =
    record {
      legal = IsLegal-push before (Publish key by) h.legal allowed;
      held = by_key (λ q s. list_any (same_key q) (held_keys (before ++ Publish key by ∷ [])) ≡ is_held s) before (Publish key by) h.legal allowed
          (λ q is. ap (list_any (same_key q)) (held_keys-publish before key by) ∙ h.held q
          ∙ ap is_held (ap (standing before) (same_key-eq q key is) ∙ standing-claimed before key by h.legal allowed))
          (λ q is. ap (list_any (same_key q)) (held_keys-publish before key by) ∙ h.held q);
      distinct = subst (IsDistinct same_key) (sym (held_keys-publish before key by)) h.distinct;
    }
Holds-push before (Abandon key by) h allowed =
    let any = λ (q : FlightKey). ap (list_any (same_key q)) (held_keys-abandon before key by) ∙ any-filter q key (held_keys before) in
    record {
      legal = IsLegal-push before (Abandon key by) h.legal allowed;
      held = by_key (λ q s. list_any (same_key q) (held_keys (before ++ Abandon key by ∷ [])) ≡ is_held s) before (Abandon key by) h.legal allowed
          (λ q is. any q ∙ ap (λ t. list_any (same_key q) (held_keys before) && not t) is ∙ and_false (list_any (same_key q) (held_keys before)))
          (λ q is. any q ∙ ap (λ t. list_any (same_key q) (held_keys before) && not t) is ∙ and_true (list_any (same_key q) (held_keys before))
          ∙ h.held q);
      distinct = subst (IsDistinct same_key) (sym (held_keys-abandon before key by)) (distinct-filter key (held_keys before) h.distinct);
    }

Holds-legal : (events : List FlightEvent) → IsLegalFlights events → Holds events
Holds-legal = along Holds Holds-nil Holds-push

-- no key is held exactly where it is free
pub held : (events : List FlightEvent) (key : FlightKey) → IsLegalFlights events
    → (list_any (same_key key) (held_keys events) ≡ false) ↔ (standing events key ≡ free)
held events key legal = (
  λ h. by (standing events key) refl (sym ((Holds-legal events legal).held key) ∙ h),
  λ h.
      (Holds-legal events legal).held key ∙ ap is_held h,
)
  where
    by : (s : Standing) → standing events key ≡ s → is_held (standing events key) ≡ false → standing events key ≡ free
    by free is h = is
    by (claimed n) is h = absurd (true≢false (sym (ap is_held is) ∙ h))
    by published is h = absurd (true≢false (sym (ap is_held is) ∙ h))

pub held_once : (events : List FlightEvent) → IsLegalFlights events → IsDistinct same_key (held_keys events)
held_once events legal = (Holds-legal events legal).distinct

-- ---- the keys that are published
pub kept : (old new : List FlightEvent) (key : FlightKey) → IsPrefix old new → is_published old key ≡ true → is_published new key ≡ true
kept old new key p is = published_is new key (subst (λ l. standing l key ≡ published) p.1 (stays old p.0 key is))

pub publications_count : (events : List FlightEvent) → publications events ≡ length (published_keys events)
publications_count events = sym (length-map (filter is_publication events) key_of ∙ length-filter is_publication events)

pub published_members : (events : List FlightEvent) (key : FlightKey) → is_published events key ≡ list_any (same_key key) (published_keys events)
unfolding is_published
published_members [] key = refl
published_members (e ∷ events) key = by (is_publication e) (published_members events key)
  where
    by : (t : Bool) → list_any (at_key is_publication key) events ≡ list_any (same_key key) (map key_of (filter is_publication events))
        → ((t && same_key key (key_of e)) || list_any (at_key is_publication key) events)
        ≡ list_any (same_key key) (map key_of (cond t (e ∷ filter is_publication events) (filter is_publication events)))
    by true later = ap (λ t. same_key key (key_of e) || t) later
    by false later = later

published_keys-push : (events : List FlightEvent) (e : FlightEvent)
    → published_keys (events ++ e ∷ []) ≡ published_keys events ++ cond (is_publication e) (key_of e ∷ []) []
published_keys-push events e =
    ap (map key_of) (filter-append is_publication events (e ∷ []))
    ∙ map-append key_of (filter is_publication events) (filter is_publication (e ∷ []))
    ∙ ap (λ l. published_keys events ++ l) (by (is_publication e))
  where
    by : (t : Bool) → map key_of (cond t (e ∷ []) []) ≡ cond t (key_of e ∷ []) []
    by true = refl
    by false = refl

-- a legal list, whose published keys are distinct
record HasDistinct (events : List FlightEvent) : Type 0 where
  legal : IsLegalFlights events
  distinct : IsDistinct same_key (published_keys events)

HasDistinct-same : (before : List FlightEvent) (e : FlightEvent) → HasDistinct before → IsAllowed before e → is_publication e ≡ false
    → HasDistinct (before ++ e ∷ [])
HasDistinct-same before e h allowed not_one = record {
  legal = IsLegal-push before e h.legal allowed;
  distinct = subst (IsDistinct same_key)
      (sym (published_keys-push before e ∙ ap (λ t. published_keys before ++ cond t (key_of e ∷ []) []) not_one
      ∙ append-nil (published_keys before))) h.distinct;
}

HasDistinct-push : (before : List FlightEvent) (e : FlightEvent) → HasDistinct before → IsAllowed before e → HasDistinct (before ++ e ∷ [])
HasDistinct-push before (Claim key by) h allowed = HasDistinct-same before (Claim key by) h allowed refl
HasDistinct-push before (Publish key by) h allowed = record {
  legal = IsLegal-push before (Publish key by) h.legal allowed;
  distinct = subst (IsDistinct same_key) (sym (published_keys-push before (Publish key by)))
      (IsDistinct-push same_key-equivalence (published_keys before) key h.distinct
      (sym (published_members before key) ∙ not_published key before by (Settled-legal key before h.legal) allowed));
}
HasDistinct-push before (Abandon key by) h allowed = HasDistinct-same before (Abandon key by) h allowed refl

pub published_distinct : (events : List FlightEvent) → IsLegalFlights events → IsDistinct same_key (published_keys events)
unfolding IsDistinct
published_distinct events legal = (along HasDistinct (record { legal = IsLegal-nil; distinct = tt }) HasDistinct-push events legal).distinct
