-- Lists of flight events: what one more event changes, and what holds of legal lists.
use Rattle.std.proofs.Common.{◌≡◌, ℕ, zero, suc, ◌+◌, ◌<◌, ◌≤◌, Bool, true, false, cond, ◌&&◌, ◌||◌, nat_eq, List, [], ◌∷◌, ◌++◌, length, take, slice_get, Option, None, Some, refl, sym, ap, subst, ◌∙◌, arith, inl, inr}
use Rattle.std.specs.List.{count_by, list_any}
use Rattle.std.specs.Cmp.{IsEquivalence, and_equiv, on_equiv, nat_eq_equiv}
use Rattle.std.proofs.Math.Bool.{or-false}
use Rattle.std.proofs.Math.Seq.{take-append_seam}
use Rattle.std.proofs.lemmas.Bool.{true≢false, eqb-true, cases_lt}
use Rattle.std.proofs.lemmas.List.{take-append-le, take_all}
use Rattle.std.proofs.lemmas.List.Folds.{list_any-append}
use Rattle.std.proofs.lemmas.List.Sums.{fold-append, sum_by-append}
use Rattle.std.proofs.lemmas.Option.{slice_get_within}
use Rattle.column_flight.specs.declared.event.FlightKey.{FlightKey}
use Rattle.column_flight.specs.declared.event.FlightEvent.{FlightEvent}
use Rattle.column_flight.specs.declared.event.FlightEvent.TheVariants.{Claim, Publish, Abandon}
use Rattle.column_flight.specs.Flights.{same_key, key_of, is_publication, at_key, is_published, claimer_of, claimer_after, claimer, Standing, free, claimed, published, claim_standing, standing, IsAllowed, IsLegalFlights}

-- keys that pass the test are one
pub same_key-eq : (a b : FlightKey) → same_key a b ≡ true → a ≡ b
same_key-eq a b e = by (nat_eq a.n b.n) (nat_eq a.symbol b.symbol) (eqb-true a.n b.n) (eqb-true a.symbol b.symbol) e
  where
    by : (s t : Bool) → (s ≡ true → a.n ≡ b.n) → (t ≡ true → a.symbol ≡ b.symbol) → (s && t) ≡ true → a ≡ b
    by true true f g h = λ j. record { n = f refl j; symbol = g refl j }
    by true false f g h = absurd (true≢false (sym h))
    by false t f g h = absurd (true≢false (sym h))

pub same_key-equivalence : IsEquivalence same_key
same_key-equivalence = and_equiv (on_equiv (λ (k : FlightKey). k.n) nat_eq_equiv) (on_equiv (λ (k : FlightKey). k.symbol) nat_eq_equiv)

-- no event
pub claimer-nil : (key : FlightKey) → claimer [] key ≡ None
unfolding claimer
claimer-nil key = refl

-- one more event
pub claimer-push : (events : List FlightEvent) (e : FlightEvent) (key : FlightKey)
    → claimer (events ++ e ∷ []) key ≡ claimer_after key (claimer events key) e
unfolding claimer
claimer-push events e key = fold-append (claimer_after key) None events (e ∷ [])

pub is_published-push : (events : List FlightEvent) (e : FlightEvent) (key : FlightKey)
    → is_published (events ++ e ∷ []) key ≡ (is_published events key || at_key is_publication key e)
unfolding is_published
is_published-push events e key = list_any-append (at_key is_publication key) events (e ∷ [])
    ∙ ap (λ t. list_any (at_key is_publication key) events || t) (or-false (at_key is_publication key e))

-- an event of another key changes nothing at the key
pub claimer-apart : (events : List FlightEvent) (e : FlightEvent) (key : FlightKey) → same_key key (key_of e) ≡ false
    → claimer (events ++ e ∷ []) key ≡ claimer events key
claimer-apart events e key apart = claimer-push events e key ∙ ap (λ t. cond t (claimer_of e) (claimer events key)) apart

pub is_published-apart : (events : List FlightEvent) (e : FlightEvent) (key : FlightKey) → same_key key (key_of e) ≡ false
    → is_published (events ++ e ∷ []) key ≡ is_published events key
is_published-apart events e key apart = is_published-push events e key ∙ ap (λ t. is_published events key || (is_publication e && t)) apart
    ∙ by (is_published events key) (is_publication e)
  where
    by : (s t : Bool) → (s || (t && false)) ≡ s
    by true t = refl
    by false true = refl
    by false false = refl

-- an event of the key
pub claimer-here : (events : List FlightEvent) (e : FlightEvent) (key : FlightKey) → same_key key (key_of e) ≡ true
    → claimer (events ++ e ∷ []) key ≡ claimer_of e
claimer-here events e key here = claimer-push events e key ∙ ap (λ t. cond t (claimer_of e) (claimer events key)) here

pub is_published-here : (events : List FlightEvent) (e : FlightEvent) (key : FlightKey) → same_key key (key_of e) ≡ true
    → is_published (events ++ e ∷ []) key ≡ (is_published events key || is_publication e)
is_published-here events e key here = is_published-push events e key ∙ ap (λ t. is_published events key || (is_publication e && t)) here
    ∙ ap (λ t. is_published events key || t) (by (is_publication e))
  where
    by : (t : Bool) → (t && true) ≡ t
    by true = refl
    by false = refl

-- the places of a list with one more
at_before : {X : Type 0} (xs ys : List X) (k : ℕ) → k < length xs → slice_get (xs ++ ys) k ≡ slice_get xs k
at_before [] ys k h = absurd (omega arith)
at_before (x ∷ xs) ys zero h = refl
at_before (x ∷ xs) ys (suc k) h = at_before xs ys k (omega arith)

at_end : {X : Type 0} (xs : List X) (x : X) → slice_get (xs ++ x ∷ []) (length xs) ≡ Some x
at_end [] x = refl
at_end (y ∷ xs) x = at_end xs x

length_push : {X : Type 0} (xs : List X) (x : X) → length (xs ++ x ∷ []) ≡ length xs + 1
length_push [] x = refl
length_push (y ∷ xs) x = ap suc (length_push xs x) ∙ omega arith

-- a legal list stays legal with an event that is allowed after it
pub IsLegal-push : (events : List FlightEvent) (e : FlightEvent) → IsLegalFlights events → IsAllowed events e → IsLegalFlights (events ++ e ∷ [])
unfolding IsLegalFlights
IsLegal-push events e legal allowed k x at =
    elim (cases_lt k (length events)) [
      | inl before ↦ subst (λ (l : List FlightEvent). IsAllowed l x) (sym (take-append-le k events (e ∷ []) (omega arith)))
          (legal k x (sym (at_before events (e ∷ []) k before) ∙ at))
      | inr past ↦
          let within : k < length (events ++ e ∷ []) = slice_get_within (events ++ e ∷ []) k x at in
          let last : k ≡ length events = omega (arith, length_push events e) in
          let is : e ≡ x = some_same (sym (at_end events e) ∙ sym (ap (slice_get (events ++ e ∷ [])) last) ∙ at) in
          let taken : take k (events ++ e ∷ []) ≡ events = ap (λ n. take n (events ++ e ∷ [])) last ∙ take-append_seam events (e ∷ []) in
          subst (λ (l : List FlightEvent). IsAllowed l x) (sym taken) (subst (IsAllowed events) is allowed)
    ]
  where
    some_same : {a b : FlightEvent} → Some a ≡ Some b → a ≡ b
    some_same h = cc

pub IsLegal-nil : IsLegalFlights []
unfolding IsLegalFlights
IsLegal-nil k e at = absurd (let none : None ≡ Some e = at in cc)

-- what each allowed event keeps holds of a legal list
pub along : (P : List FlightEvent → Type 0) → P [] → ((before : List FlightEvent) (e : FlightEvent) → P before → IsAllowed before e
    → P (before ++ e ∷ [])) → (events : List FlightEvent) → IsLegalFlights events → P events
unfolding IsLegalFlights
along P start step events legal = subst P (take_all (length events) events (omega arith)) (by (length events) (omega arith))
  where
    taken : (xs : List FlightEvent) (n : ℕ) → n < length xs → (e : FlightEvent) × (slice_get xs n ≡ Some e) ×
        (take (suc n) xs ≡ take n xs ++ e ∷ [])
    taken [] n h = absurd (omega arith)
    taken (x ∷ xs) zero h = (x, refl, refl)
    taken (x ∷ xs) (suc n) h = let t = taken xs n (omega arith) in (t.0, t.1, ap (λ l. x ∷ l) t.2)

    by : (n : ℕ) → n ≤ length events → P (take n events)
    by zero h = start
    by (suc n) h = let t = taken events n (omega arith) in subst P (sym t.2) (step (take n events) t.0 (by n (omega arith)) (legal n t.0 t.1))

-- one more event, in how many publications of a key there are
publications-push : (events : List FlightEvent) (e : FlightEvent) (key : FlightKey)
    → count_by (at_key is_publication key) (events ++ e ∷ []) ≡ count_by (at_key is_publication key) events + cond (at_key is_publication key e) 1 0
publications-push events e key = sum_by-append (λ x. cond (at_key is_publication key x) 1 0) events (e ∷ []) ∙ omega arith

-- a published key has no claimer, and was published once
pub record Settled (key : FlightKey) (events : List FlightEvent) : Type 0 where
  pub no_claimer : is_published events key ≡ true → claimer events key ≡ None
  pub once : count_by (at_key is_publication key) events ≡ cond (is_published events key) 1 0

Settled-apart : (key : FlightKey) (before : List FlightEvent) (e : FlightEvent) → Settled key before → same_key key (key_of e) ≡ false
    → Settled key (before ++ e ∷ [])
Settled-apart key before e settled apart =
    record {
      no_claimer = λ h. claimer-apart before e key apart ∙ settled.no_claimer (sym (is_published-apart before e key apart) ∙ h);
      once = publications-push before e key ∙ ap (λ t. count_by (at_key is_publication key) before + cond (is_publication e && t) 1 0) apart
          ∙ by (is_publication e) ∙ settled.once
          ∙ ap (λ t. cond t 1 0) (sym (is_published-apart before e key apart));
    }
  where
    by : (t : Bool) → count_by (at_key is_publication key) before + cond (t && false) 1 0 ≡ count_by (at_key is_publication key) before
    by true = omega arith
    by false = omega arith

-- a key with a claimer is not published
pub not_published : (key : FlightKey) (events : List FlightEvent) (by : ℕ) → Settled key events → claimer events key ≡ Some by
    → is_published events key ≡ false
not_published key events by settled has = from (is_published events key) settled.no_claimer
  where
    from : (t : Bool) → (t ≡ true → claimer events key ≡ None) → t ≡ false
    from true none = absurd (let both : None ≡ Some by = sym (none refl) ∙ has in cc)
    from false none = refl

Settled-here : (key : FlightKey) (before : List FlightEvent) (e : FlightEvent) → Settled key before → IsAllowed before e
    → same_key key (key_of e) ≡ true → Settled key (before ++ e ∷ [])
Settled-here key before (Claim k by) settled allowed here =
    let unpublished : is_published before key ≡ false = ap (is_published before) (same_key-eq key k here) ∙ allowed.0 in
    let after : is_published (before ++ Claim k by ∷ []) key ≡ false = is_published-here before (Claim k by) key here
    ∙ ap (λ t. t || false) unpublished in
    record {
      no_claimer = λ h. absurd (true≢false (sym h ∙ after));
      once = publications-push before (Claim k by) key ∙ omega (arith, settled.once ∙ ap (λ t. cond t 1 0) unpublished)
          ∙ ap (λ t. cond t 1 0) (sym after);
    }
Settled-here key before (Publish k by) settled allowed here =
    let unpublished : is_published before key ≡ false = not_published key before by settled
    (ap (claimer before) (same_key-eq key k here) ∙ allowed) in
    let after : is_published (before ++ Publish k by ∷ []) key ≡ true = is_published-here before (Publish k by) key here
    ∙ ap (λ t. t || true) unpublished in
    let one : ◌≡◌ {A = ℕ} (cond (true && same_key key k) 1 0) 1 = ap (λ t. cond (true && t) 1 0) here in
    record {
      no_claimer = λ h. claimer-here before (Publish k by) key here;
      once = publications-push before (Publish k by) key ∙ omega (arith, one, settled.once ∙ ap (λ t. cond t 1 0) unpublished)
          ∙ ap (λ t. cond t 1 0) (sym after);
    }
Settled-here key before (Abandon k by) settled allowed here =
    record {
      no_claimer = λ h. claimer-here before (Abandon k by) key here;
      once = publications-push before (Abandon k by) key ∙ omega (arith, settled.once)
          ∙ ap (λ t. cond t 1 0) (sym (or-false (is_published before key)) ∙ sym (is_published-here before (Abandon k by) key here));
    }

Settled-push : (key : FlightKey) (before : List FlightEvent) (e : FlightEvent) → Settled key before → IsAllowed before e
    → Settled key (before ++ e ∷ [])
Settled-push key before e settled allowed = by (same_key key (key_of e)) refl
  where
    by : (t : Bool) → same_key key (key_of e) ≡ t → Settled key (before ++ e ∷ [])
    by true here = Settled-here key before e settled allowed here
    by false apart = Settled-apart key before e settled apart

pub Settled-legal : (key : FlightKey) (events : List FlightEvent) → IsLegalFlights events → Settled key events
unfolding is_published claimer
Settled-legal key events legal = along (Settled key) (record { no_claimer = λ h. refl; once = refl }) (Settled-push key) events legal

-- ---- standings
-- the standing with which an event leaves its key
abbrev pub standing_of : FlightEvent → Standing
standing_of (Claim key by) = claimed by
standing_of (Publish key by) = published
standing_of (Abandon key by) = free

standing_is : (events : List FlightEvent) (key : FlightKey) (t : Bool) (o : Option ℕ) → is_published events key ≡ t → claimer events key ≡ o
    → standing events key ≡ cond t published (claim_standing o)
unfolding standing
standing_is events key t o is has = λ j. cond (is j) published (claim_standing (has j))

pub standing-apart : (events : List FlightEvent) (e : FlightEvent) (key : FlightKey) → same_key key (key_of e) ≡ false
    → standing (events ++ e ∷ []) key ≡ standing events key
standing-apart events e key apart =
    standing_is (events ++ e ∷ []) key (is_published events key) (claimer events key) (is_published-apart events e key apart)
    (claimer-apart events e key apart)
    ∙ sym (standing_is events key (is_published events key) (claimer events key) refl refl)

pub standing-here : (events : List FlightEvent) (e : FlightEvent) (key : FlightKey) → IsLegalFlights events → IsAllowed events e
    → same_key key (key_of e) ≡ true → standing (events ++ e ∷ []) key ≡ standing_of e
standing-here events (Claim k by) key legal allowed here =
    standing_is (events ++ Claim k by ∷ []) key false (Some by)
    (is_published-here events (Claim k by) key here ∙ ap (λ t. t || false) (ap (is_published events) (same_key-eq key k here) ∙ allowed.0))
    (claimer-here events (Claim k by) key here)
standing-here events (Publish k by) key legal allowed here =
    standing_is (events ++ Publish k by ∷ []) key true None (is_published-here events (Publish k by) key here ∙ or_true (is_published events key))
    (claimer-here events (Publish k by) key here)
  where
    or_true : (t : Bool) → (t || true) ≡ true
    or_true true = refl
    or_true false = refl
standing-here events (Abandon k by) key legal allowed here =
    let unpublished : is_published events key ≡ false = not_published key events by (Settled-legal key events legal)
    (ap (claimer events) (same_key-eq key k here) ∙ allowed) in
    standing_is (events ++ Abandon k by ∷ []) key false None (is_published-here events (Abandon k by) key here ∙ ap (λ t. t || false) unpublished)
    (claimer-here events (Abandon k by) key here)

-- what a standing says
pub free_is : (events : List FlightEvent) (key : FlightKey) → standing events key ≡ free
    → (is_published events key ≡ false) × (claimer events key ≡ None)
free_is events key is = by (is_published events key) (claimer events key) refl refl
    (sym (standing_is events key (is_published events key) (claimer events key) refl refl) ∙ is)
  where
    by : (t : Bool) (o : Option ℕ) → is_published events key ≡ t → claimer events key ≡ o → cond t published (claim_standing o) ≡ free
        → (is_published events key ≡ false) × (claimer events key ≡ None)
    by true o pub_is has h = absurd cc
    by false None pub_is has h = (pub_is, has)
    by false (Some s) pub_is has h = absurd cc

pub claimed_is : (events : List FlightEvent) (key : FlightKey) (s : ℕ) → standing events key ≡ claimed s → claimer events key ≡ Some s
claimed_is events key s is = by (is_published events key) (claimer events key) refl
    (sym (standing_is events key (is_published events key) (claimer events key) refl refl) ∙ is)
  where
    by : (t : Bool) (o : Option ℕ) → claimer events key ≡ o → cond t published (claim_standing o) ≡ claimed s → claimer events key ≡ Some s
    by true o has h = absurd cc
    by false None has h = absurd cc
    by false (Some r) has h = has ∙ ap Some (let same : r ≡ s = cc in same)

pub published_is : (events : List FlightEvent) (key : FlightKey) → standing events key ≡ published → is_published events key ≡ true
published_is events key is = by (is_published events key) (claimer events key)
    (sym (standing_is events key (is_published events key) (claimer events key) refl refl) ∙ is)
  where
    by : (t : Bool) (o : Option ℕ) → cond t published (claim_standing o) ≡ published → t ≡ true
    by true o h = refl
    by false None h = absurd cc
    by false (Some r) h = absurd cc

pub standing-claimed : (events : List FlightEvent) (key : FlightKey) (s : ℕ) → IsLegalFlights events → claimer events key ≡ Some s
    → standing events key ≡ claimed s
standing-claimed events key s legal has = standing_is events key false (Some s)
    (not_published key events s (Settled-legal key events legal) has) has

pub standing-published : (events : List FlightEvent) (key : FlightKey) → is_published events key ≡ true → standing events key ≡ published
standing-published events key is = standing_is events key true (claimer events key) is refl

pub standing-free : (events : List FlightEvent) (key : FlightKey) → is_published events key ≡ false → claimer events key ≡ None
    → standing events key ≡ free
standing-free events key unpublished none = standing_is events key false None unpublished none
