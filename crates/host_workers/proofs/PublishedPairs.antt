-- The pairs of the columns that were published: each stands once in a legal list of events, and each is that of a publication.
use Rattle.std.proofs.Common.{◌≡◌, inl, inr, ℕ, zero, suc, ◌+◌, ◌≤◌, Bool, true, false, cond, nat_eq, List, [], ◌∷◌, length, filter, Some, slice_get, refl, sym, subst, ◌∙◌, arith}
use Rattle.std.specs.List.{AllByRecursion, IsDistinct, count_by}
use Rattle.std.specs.Set.{is_member}
use Rattle.std.proofs.lemmas.Bool.{eq-eqb, or_cases, or_left, or_right, true≢false}
use Rattle.std.proofs.lemmas.List.{length-map}
use Rattle.std.proofs.lemmas.List.Sums.{length-filter, sum_by-cons}
use Rattle.std.proofs.lemmas.Option.{same_Some}
use mathlib.Core.List.{IsPrefix}
use Rattle.column_flight.specs.declared.event.FlightKey.{FlightKey}
use Rattle.column_flight.specs.declared.event.FlightEvent.{FlightEvent}
use Rattle.column_flight.specs.declared.event.FlightEvent.TheVariants.{Claim, Publish, Abandon}
use Rattle.column_flight.specs.Flights.{IsLegalFlights, at_key, is_publication, key_of, maker_of, publications, same_key}
use Rattle.column_flight.proofs.FlightEvents.{same_key-equivalence}
use Rattle.column_flight.proofs.FlightLaws.{once}
use Rattle.session_core.specs.Demands.{Has, is_pair}
use Rattle.session_core.proofs.PairLemmas.{Has-nil}
use Rattle.host_workers.specs.Workers.{own_pairs, pair_of, published_pairs}
use Rattle.host_workers.proofs.Prefixes.{filter_get, prefix_get}

-- they are as many as the publications
pub published_count : (events : List FlightEvent) → publications events ≡ length (published_pairs events)
published_count events =
    sym (length-map (filter is_publication events) (λ e. pair_of (key_of e)) ∙ length-filter is_publication events)

-- how many times a key was published, with one event before the others
none_here : (t : Bool) (n : ℕ) → cond t 1 0 + n ≡ 0 → (t ≡ false) × (n ≡ 0)
none_here true n h = absurd (omega arith)
none_here false n h = (refl, omega arith)

one_here : (t : Bool) (n : ℕ) → t ≡ true → cond t 1 0 + n ≤ 1 → n ≡ 0
one_here true n is h = omega arith
one_here false n is h = absurd (true≢false (sym is))

count-first : (key : FlightKey) (e : FlightEvent) (events : List FlightEvent)
    → count_by (at_key is_publication key) (e ∷ events) ≡ cond (at_key is_publication key e) 1 0 + count_by (at_key is_publication key) events
count-first key e events = sum_by-cons (λ x. cond (at_key is_publication key x) 1 0) e events

-- the pair of a key that was not published is none of them
apart : (key : FlightKey) (events : List FlightEvent) → count_by (at_key is_publication key) events ≡ 0
    → AllByRecursion (λ y. is_pair (pair_of key) y ≡ false) (published_pairs events)
apart key [] none = tt
apart key (Claim k s ∷ events) none = apart key events (omega (arith, count-first key (Claim k s) events))
apart key (Abandon k s ∷ events) none = apart key events (omega (arith, count-first key (Abandon k s) events))
apart key (Publish k s ∷ events) none =
    let h = none_here (same_key key k) (count_by (at_key is_publication key) events) (sym (count-first key (Publish k s) events) ∙ none) in
    (h.0, apart key events h.1)

-- so they are apart where each key was published at most once
distinct : (events : List FlightEvent) → ((key : FlightKey) → count_by (at_key is_publication key) events ≤ 1)
    → IsDistinct is_pair (published_pairs events)
unfolding IsDistinct
distinct [] at_most = tt
distinct (Claim k s ∷ events) at_most = distinct events (λ key. omega (arith, at_most key, count-first key (Claim k s) events))
distinct (Abandon k s ∷ events) at_most = distinct events (λ key. omega (arith, at_most key, count-first key (Abandon k s) events))
distinct (Publish k s ∷ events) at_most = (
  apart k events
      (one_here (same_key k k) (count_by (at_key is_publication k) events) (same_key-equivalence.refl k)
      (omega (arith, at_most k, count-first k (Publish k s) events))),
  distinct events (λ key. omega (arith, at_most key, count-first key (Publish k s) events)),
)

-- as in a legal list
pub published_distinct : (events : List FlightEvent) → IsLegalFlights events → IsDistinct is_pair (published_pairs events)
published_distinct events legal = distinct events (λ key. once events key legal)

-- the publication of a pair
pub record PublishedAt (events : List FlightEvent) (q : ℕ × ℕ) : Type 0 where
  pub place : ℕ
  pub event : FlightEvent
  pub at_place : slice_get events place ≡ Some event
  pub publication : is_publication event ≡ true
  pub pair : is_pair q (pair_of (key_of event)) ≡ true

published_later : (e : FlightEvent) (events : List FlightEvent) (q : ℕ × ℕ) → PublishedAt events q → PublishedAt (e ∷ events) q
published_later e events q p =
    record { place = suc p.place; event = p.event; at_place = p.at_place; publication = p.publication; pair = p.pair }

-- each of them has one
pub published_at : (events : List FlightEvent) (q : ℕ × ℕ) → Has (published_pairs events) q → PublishedAt events q
published_at [] q h = absurd (Has-nil q h)
published_at (Claim k s ∷ events) q h = published_later (Claim k s) events q (published_at events q h)
published_at (Abandon k s ∷ events) q h = published_later (Abandon k s) events q (published_at events q h)
published_at (Publish k s ∷ events) q h = elim (or_cases (is_pair q (pair_of k)) (is_member is_pair (published_pairs events) q) h) [
  | inl here ↦ record { place = 0; event = Publish k s; at_place = refl; publication = refl; pair = here }
  | inr past ↦ published_later (Publish k s) events q (published_at events q past)
]

-- and what has one is one of them
pub published_has : (events : List FlightEvent) (q : ℕ × ℕ) (k : ℕ) (e : FlightEvent) → slice_get events k ≡ Some e → is_publication e ≡ true
    → is_pair q (pair_of (key_of e)) ≡ true → Has (published_pairs events) q
published_has [] q k e at publication pair = absurd cc
published_has (first ∷ events) q zero e at publication pair =
    subst (λ (x : FlightEvent). Has (published_pairs (x ∷ events)) q) (sym (same_Some first e at)) (here e publication pair)
  where
    here : (x : FlightEvent) → is_publication x ≡ true → is_pair q (pair_of (key_of x)) ≡ true → Has (published_pairs (x ∷ events)) q
    here (Claim j s) publication pair = absurd (true≢false (sym publication))
    here (Abandon j s) publication pair = absurd (true≢false (sym publication))
    here (Publish j s) publication pair = or_left (is_pair q (pair_of j)) (is_member is_pair (published_pairs events) q) pair
published_has (first ∷ events) q (suc k) e at publication pair = past first (published_has events q k e at publication pair)
  where
    past : (x : FlightEvent) → Has (published_pairs events) q → Has (published_pairs (x ∷ events)) q
    past (Claim j s) h = h
    past (Abandon j s) h = h
    past (Publish j s) h = or_right (is_pair q (pair_of j)) (is_member is_pair (published_pairs events) q) h

-- a list that goes on has those that were there
pub published_grow : (seen events : List FlightEvent) → IsPrefix seen events → (q : ℕ × ℕ) → Has (published_pairs seen) q
    → Has (published_pairs events) q
published_grow seen events begins q h =
    let p = published_at seen q h in
    published_has events q p.place p.event (prefix_get seen events p.place p.event begins p.at_place) p.publication p.pair

-- a publication that names a session is one of its own
pub own_has : (s : ℕ) (events : List FlightEvent) (q : ℕ × ℕ) (k : ℕ) (e : FlightEvent) → slice_get events k ≡ Some e → maker_of e ≡ s
    → is_publication e ≡ true → is_pair q (pair_of (key_of e)) ≡ true → Has (own_pairs s events) q
own_has s events q k e at maker publication pair =
    let there = filter_get (λ x. nat_eq (maker_of x) s) events k e at (eq-eqb (maker_of e) s maker) in
    published_has (filter (λ x. nat_eq (maker_of x) s) events) q there.0 e there.1 publication pair
