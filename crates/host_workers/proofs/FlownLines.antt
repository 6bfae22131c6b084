-- What the lines of a session did on the flights so far, over the events that its pass has seen.
use Rattle.std.proofs.Common.{◌≡◌, ◌≢◌, ◌⊎◌, inl, inr, ℕ, zero, suc, ◌+◌, ◌<◌, ◌≤◌, Bool, true, false, cond, nat_eq, ◌&&◌, ◌||◌, List, [], ◌∷◌, ◌++◌, length, take, map, filter, Some, get_or, slice_get, refl, sym, ◌∙◌, ap, subst, arith}
use Rattle.std.specs.List.{AllZip, list_any}
use Rattle.std.proofs.lemmas.Bool.{eqb-true, or_cases, or_left, or_right}
use Rattle.std.proofs.lemmas.List.{map-append, take_all, take_more}
use Rattle.std.proofs.lemmas.List.Elements.{filter-append}
use Rattle.std.proofs.lemmas.Option.{same_Some}
use mathlib.Core.List.{IsPrefix}
use Rattle.quotient_coords.specs.Quotient.{Ground}
use Rattle.script_text.specs.Numbered.{NumberedLine}
use Rattle.reply_text.specs.declared.transcript.ReplyLine.{ReplyLine}
use Rattle.column_flight.specs.declared.event.FlightKey.{FlightKey}
use Rattle.column_flight.specs.declared.event.FlightEvent.{FlightEvent}
use Rattle.column_flight.specs.Flights.{at_key, claimer, is_publication, is_published, key_of, maker_of, same_key}
use Rattle.session_core.specs.Demands.{is_pair, Has, HasAll, line_demand, session_demand}
use Rattle.session_core.specs.Transcripts.{HoldsDemand}
use Rattle.session_core.proofs.LegalRuns.{demand_within}
use Rattle.session_core.proofs.PairLemmas.{Has-append_left, Has-append_right, Has-from_append, Has-nil, is_pair-eq}
use Rattle.session_core.proofs.RunLemmas.{lines_hold_more, zip-push}
use Rattle.host_workers.specs.Workers.{FliesSession, own_pairs, pair_of, published_pairs}
use Rattle.host_workers.specs.Sessions.{Flies, FliesLine}
use Rattle.host_workers.proofs.GoingOn.{prefix_refl, prefix_trans}

-- ---- lists of pairs
abbrev pub event_pair : FlightEvent → ℕ × ℕ
event_pair e = pair_of (key_of e)

-- what a list holds that goes on, the list holds that it goes on to
pub published_later : (old new : List FlightEvent) (q : ℕ × ℕ) → IsPrefix old new → Has (published_pairs old) q → Has (published_pairs new) q
published_later old new q p h =
    subst (λ es. Has (published_pairs es) q) p.1
    (subst (λ pairs. Has pairs q)
    (sym (ap (map event_pair) (filter-append is_publication old p.0) ∙ map-append event_pair (filter is_publication old) (filter is_publication p.0)))
    (Has-append_left (published_pairs old) (map event_pair (filter is_publication p.0)) q h))

-- a key that is published has its pair among the published ones
pub pair_published : (events : List FlightEvent) (key : FlightKey) → is_published events key ≡ true → Has (published_pairs events) (pair_of key)
unfolding is_published
pair_published [] key is = absurd cc
pair_published (e ∷ events) key is =
    by (is_publication e) (same_key key (key_of e)) refl is (pair_published events key)
  where
    by : (t u : Bool) → same_key key (key_of e) ≡ u → ((t && u) || list_any (at_key is_publication key) events) ≡ true
        → (list_any (at_key is_publication key) events ≡ true → Has (published_pairs events) (pair_of key))
        → Has (map event_pair (cond t (e ∷ filter is_publication events) (filter is_publication events))) (pair_of key)
    by true true same is rest = or_left (is_pair (pair_of key) (event_pair e)) _ same
    by true false same is rest = or_right (is_pair (pair_of key) (event_pair e)) _ (rest is)
    by false u same is rest = rest is

-- what a filter keeps stood in the list
record KeptAt {A : Type 0} (p : A → Bool) (xs : List A) (x : A) : Type 0 where
  place : ℕ
  at : slice_get xs place ≡ Some x
  passes : p x ≡ true

kept_at : {A : Type 0} (p : A → Bool) (xs : List A) (k : ℕ) (x : A) → slice_get (filter p xs) k ≡ Some x → KeptAt p xs x
kept_at p [] k x at = absurd cc
kept_at {A} p (y ∷ xs) k x at = by (p y) refl k at (λ j. kept_at p xs j x)
  where
    later : KeptAt p xs x → KeptAt p (y ∷ xs) x
    later h = record { place = suc h.place; at = h.at; passes = h.passes }

    by : (t : Bool) → p y ≡ t → (j : ℕ) → slice_get (cond t (y ∷ filter p xs) (filter p xs)) j ≡ Some x
        → ((j : ℕ) → slice_get (filter p xs) j ≡ Some x → KeptAt p xs x) → KeptAt p (y ∷ xs) x
    by true is zero here rest = let same : y ≡ x = same_Some y x here in record { place = 0; at = here; passes = ap p (sym same) ∙ is }
    by true is (suc j) here rest = later (rest j here)
    by false is j here rest = later (rest j here)

record PairAt (events : List FlightEvent) (q : ℕ × ℕ) : Type 0 where
  place : ℕ
  event : FlightEvent
  at : slice_get events place ≡ Some event
  pair : q ≡ event_pair event

pair_at : (events : List FlightEvent) (q : ℕ × ℕ) → Has (map event_pair events) q → PairAt events q
pair_at [] q h = absurd (Has-nil q h)
pair_at (e ∷ events) q h = elim (or_cases (is_pair q (event_pair e)) _ h) [
  | inl here ↦ record { place = 0; event = e; at = refl; pair = is_pair-eq q (event_pair e) here }
  | inr rest ↦ (let later = pair_at events q rest in record { place = suc later.place; event = later.event; at = later.at; pair = later.pair })
]

-- a pair that the session published is that of an event of the session
pub own_pair_of : (s : ℕ) (events : List FlightEvent) (P : ℕ × ℕ → Type 0)
    → ((k : ℕ) (e : FlightEvent) → slice_get events k ≡ Some e → maker_of e ≡ s → P (event_pair e)) → (q : ℕ × ℕ)
    → Has (own_pairs s events) q → P q
own_pair_of s events P each q h =
    let found = pair_at (filter is_publication (filter (λ e. nat_eq (maker_of e) s) events)) q h in
    let published = kept_at is_publication (filter (λ e. nat_eq (maker_of e) s) events) found.place found.event found.at in
    let own = kept_at (λ e. nat_eq (maker_of e) s) events published.place found.event published.at in
    subst P (sym found.pair) (each own.place found.event own.at (eqb-true (maker_of found.event) s own.passes))

-- ---- calls on the flights, one after another
pub Flies_refl : (pairs : List (ℕ × ℕ)) (s : ℕ) (events : List FlightEvent) → Flies pairs s events events
Flies_refl pairs s events = record {
  begins = prefix_refl events;
  own = λ k e at mine. inl at;
  settled = λ key none. none;
}

pub Flies_trans : (pairs : List (ℕ × ℕ)) (s : ℕ) (a b c : List FlightEvent) → Flies pairs s a b → Flies pairs s b c → Flies pairs s a c
Flies_trans pairs s a b c f g = record {
  begins = prefix_trans a b c f.begins g.begins;
  own = λ k e at mine. elim (g.own k e at mine) [
    | inl there ↦ f.own k e there mine
    | inr pair ↦ inr pair
  ];
  settled = λ key none. g.settled key (f.settled key none);
}

pub Flies_weaken : (some all : List (ℕ × ℕ)) (s : ℕ) (old new : List FlightEvent) → HasAll all some → Flies some s old new → Flies all s old new
Flies_weaken some all s old new more f = record {
  begins = f.begins;
  own = λ k e at mine. elim (f.own k e at mine) [
    | inl there ↦ inl there
    | inr pair ↦ inr (more (event_pair e) pair)
  ];
  settled = f.settled;
}

-- at most what a line demands at version 0
pub Flies_at_first : (g : Ground) (v s : ℕ) (text : List ℕ) (old new : List FlightEvent) → Flies (line_demand g v text) s old new
    → Flies (line_demand g 0 text) s old new
Flies_at_first g v s text old new f =
    Flies_weaken (line_demand g v text) (line_demand g 0 text) s old new (λ q h. demand_within g v 0 text (omega arith) q h) f

-- ---- the lines so far
pub record LinesFly (g : Ground) (s : ℕ) (lines : List NumberedLine) (told : List ReplyLine) (events : List FlightEvent) : Type 0 where
  pub held : AllZip (HoldsDemand g (published_pairs events)) lines told
  pub own : (k : ℕ) (e : FlightEvent) → slice_get events k ≡ Some e → maker_of e ≡ s → Has (session_demand g lines) (event_pair e)
  pub settled : (key : FlightKey) → claimer events key ≢ Some s

pub LinesFly-none : (g : Ground) (s : ℕ) → LinesFly g s [] [] []
unfolding claimer
LinesFly-none g s = record { held = tt; own = λ k e at mine. absurd cc; settled = λ key is. absurd cc }

session_demand-push : (g : Ground) (lines : List NumberedLine) (line : NumberedLine) (q : ℕ × ℕ)
    → Has (session_demand g lines) q ⊎ Has (line_demand g 0 line.text) q → Has (session_demand g (lines ++ line ∷ [])) q
session_demand-push g [] line q (inl h) = absurd (Has-nil q h)
session_demand-push g [] line q (inr h) = Has-append_left (line_demand g 0 line.text) [] q h
session_demand-push g (l ∷ lines) line q (inl h) = elim (or_append h) [
  | inl here ↦ Has-append_left (line_demand g 0 l.text) (session_demand g (lines ++ line ∷ [])) q here
  | inr rest ↦ Has-append_right (line_demand g 0 l.text) (session_demand g (lines ++ line ∷ [])) q (session_demand-push g lines line q (inl rest))
]
  where
    or_append : Has (line_demand g 0 l.text ++ session_demand g lines) q → Has (line_demand g 0 l.text) q ⊎ Has (session_demand g lines) q
    or_append h = Has-from_append (line_demand g 0 l.text) (session_demand g lines) q h
session_demand-push g (l ∷ lines) line q (inr h) =
    Has-append_right (line_demand g 0 l.text) (session_demand g (lines ++ line ∷ [])) q (session_demand-push g lines line q (inr h))

pub LinesFly-more : (g : Ground) (s : ℕ) (lines : List NumberedLine) (told : List ReplyLine) (old new : List FlightEvent) (line : NumberedLine)
    (r : ReplyLine) → LinesFly g s lines told old → FliesLine g s line old r new → LinesFly g s (lines ++ line ∷ []) (told ++ r ∷ []) new
LinesFly-more g s lines told old new line r h f = record {
  held = zip-push (HoldsDemand g (published_pairs new)) lines told line r
      (lines_hold_more g (published_pairs old) (published_pairs new) (λ q has. published_later old new q f.flies.begins has) lines told h.held) f.held;
  own = λ k e at mine. session_demand-push g lines line (event_pair e) (elim (f.flies.own k e at mine) [
    | inl there ↦ inl (h.own k e there mine)
    | inr pair ↦ inr pair
  ]);
  settled = λ key. f.flies.settled key (h.settled key);
}

-- the line at i, after those before it
pub LinesFly_more : (g : Ground) (s i : ℕ) (lines : List NumberedLine) (told : List ReplyLine) (old new : List FlightEvent) (line : NumberedLine)
    (r : ReplyLine) → i < length lines → line ≡ get_or lines i line → LinesFly g s (take i lines) told old → FliesLine g s line old r new
    → LinesFly g s (take (i + 1) lines) (told ++ r ∷ []) new
LinesFly_more g s i lines told old new line r within here h f =
    subst (λ ls. LinesFly g s ls (told ++ r ∷ []) new) (ap (λ y. take i lines ++ y ∷ []) here ∙ sym (take_more lines i line within))
    (LinesFly-more g s (take i lines) told old new line r h f)

-- none was told, and none is seen
pub LinesFly-start : (g : Ground) (s : ℕ) (told : List ReplyLine) (events : List FlightEvent) → told ≡ [] → events ≡ [] → LinesFly g s [] told events
LinesFly-start g s told events none unseen =
    subst (λ rs. LinesFly g s [] rs events) (sym none) (subst (λ es. LinesFly g s [] [] es) (sym unseen) (LinesFly-none g s))

-- the line at i, told at the end of the list
pub LinesFly_next : (g : Ground) (m n i : ℕ) (lines : List NumberedLine) (told longer : List ReplyLine) (old new : List FlightEvent)
    (line : NumberedLine) (r : ReplyLine) → m ≡ n → i < length lines → line ≡ get_or lines i line → longer ≡ told ++ r ∷ []
    → LinesFly g (n + 1) (take i lines) told old → FliesLine g (m + 1) line old r new → LinesFly g (n + 1) (take (i + 1) lines) longer new
LinesFly_next g m n i lines told longer old new line r same within here grows h f =
    subst (λ rs. LinesFly g (n + 1) (take (i + 1) lines) rs new) (sym grows)
    (LinesFly_more g (n + 1) i lines told old new line r within here h (subst (λ k. FliesLine g (k + 1) line old r new) same f))

-- all lines of the session
pub session_flies : (g : Ground) (s i : ℕ) (lines : List NumberedLine) (told : List ReplyLine) (events : List FlightEvent) → length lines ≤ i
    → LinesFly g s (take i lines) told events → FliesSession g s lines told events
session_flies g s i lines told events all part =
    let h : LinesFly g s lines told events = subst (λ ls. LinesFly g s ls told events) (take_all i lines all) part in
    record {
      held = h.held;
      only = λ q has. own_pair_of s events (λ p. Has (session_demand g lines) p) h.own q has;
      settled = h.settled;
    }
