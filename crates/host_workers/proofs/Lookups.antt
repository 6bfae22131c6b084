-- Columns that a session gets from the flights, one after another.
use Rattle.std.proofs.Common.{◌≡◌, ◌≢◌, ◌⊎◌, inl, inr, ℕ, ◌+◌, ◌<◌, Bool, true, false, nat_eq, ◌&&◌, List, [], ◌∷◌, ◌++◌, length, get_or, map, All, Option, Some, IfSome, Result, Ok, Err, IfOk, OnOk, slice_get, refl, sym, ◌∙◌, ap, subst, arith, append-nil}
use Rattle.std.specs.Arc.{arc_value}
use Rattle.std.specs.declared.sync.Arc.{Arc}
use Rattle.std.specs.declared.cmp.PartialEq.{Ghosts as Equality}
use Rattle.std.specs.List.{Contains, range_with_len}
use Rattle.std.specs.Set.{is_member}
use Rattle.std.proofs.lemmas.Bool.{eq-eqb, or_cases, or_left, or_right}
use Rattle.std.proofs.lemmas.List.{map-append, map-id}
use Rattle.std.proofs.lemmas.List.FromFn.{get_or-range_with_len, length-range_with_len, map-range_with_len_more}
use Rattle.std.proofs.lemmas.List.Elements.{All-from_get_or, All-nil, All-push, All-same, All-tail, Contains-get_or}
use mathlib.Core.List.{IsPrefix}
use Rattle.p1_normal.specs.Points.{symbols}
use Rattle.quotient_coords.specs.Quotient.{Ground}
use Rattle.hecke_columns.specs.Hecke.{HeckeColumn}
use Rattle.heilbronn_sets.specs.Sets.{Matrices}
use Rattle.hecke_columns.specs.Gathering.{IsGathered, merel, symbol_of}
use Rattle.turn_board.specs.declared.kept.Kept.{Ghosts}
use Rattle.turn_board.specs.declared.pass.Pass.{Pass}
use Rattle.turn_board.specs.Passes.{Continues, view}
use Rattle.column_flight.specs.declared.event.FlightEvent.{FlightEvent}
use Rattle.column_flight.specs.declared.event.FlightKey.{FlightKey}
use Rattle.column_flight.specs.declared.flights.Flights.{Flights}
use Rattle.column_flight.specs.Flights.{FlightHistory, IsColumnAt, claimer, is_published, key_of, maker_of}
use Rattle.column_flight.specs.Shared.{flight_key}
use Rattle.session_core.specs.declared.demand.Demand.{Demand}
use Rattle.session_core.specs.declared.demand.Demand.TheVariants as demands
use Rattle.session_core.specs.Demands.{is_pair, Has, HasAll, ServesDemand, symbol_pairs}
use Rattle.session_core.proofs.DemandLemmas.{Has-symbol}
use Rattle.session_core.proofs.PairLemmas.{Has-append_left, Has-append_right, Has-from_append, Has-it, Has-nil, HasAll-append, HasAll-one}
use Rattle.host_workers.specs.Workers.{pair_of, published_pairs}
use Rattle.host_workers.specs.Lookups.{IsLookup, found_pairs}
use Rattle.host_workers.specs.Sessions.{Flies, MayFly}
use Rattle.host_workers.proofs.FlownLines.{Flies_trans, Flies_weaken, pair_published, published_later}

-- ---- lists of pairs
-- what two lists hold, they hold with more between them
widen : (a b x : List (ℕ × ℕ)) (q : ℕ × ℕ) → Has (a ++ b) q → Has ((a ++ x) ++ b) q
widen a b x q h = elim (Has-from_append a b q h) [
  | inl first ↦ Has-append_left (a ++ x) b q (Has-append_left a x q first)
  | inr second ↦ Has-append_right (a ++ x) b q second
]

-- and after them
lengthen : (a b x : List (ℕ × ℕ)) (q : ℕ × ℕ) → Has (a ++ b) q → Has (a ++ (b ++ x)) q
lengthen a b x q h = elim (Has-from_append a b q h) [
  | inl first ↦ Has-append_left a (b ++ x) q first
  | inr second ↦ Has-append_right a (b ++ x) q (Has-append_left b x q second)
]

-- one at the head of the second joins the first
shift : (a b : List (ℕ × ℕ)) (x q : ℕ × ℕ) → Has (a ++ (x ∷ b)) q → Has ((a ++ x ∷ []) ++ b) q
shift a b x q h = elim (Has-from_append a (x ∷ b) q h) [
  | inl first ↦ Has-append_left (a ++ x ∷ []) b q (Has-append_left a (x ∷ []) q first)
  | inr second ↦ elim (Has-from_append (x ∷ []) b q second) [
    | inl here ↦ Has-append_left (a ++ x ∷ []) b q (Has-append_right a (x ∷ []) q here)
    | inr rest ↦ Has-append_right (a ++ x ∷ []) b q rest
  ]
]

symbol_pairs-push : (n : ℕ) (given : List ℕ) (k : ℕ) → symbol_pairs n (given ++ k ∷ []) ≡ symbol_pairs n given ++ (n, k) ∷ []
symbol_pairs-push n given k = map-append (λ (j : ℕ). (n, j)) given (k ∷ [])

module _ {Z : Type 0} where
  found_pairs-push : (n : ℕ) (found : List (Arc HeckeColumn Z)) (c : Arc HeckeColumn Z) (k : ℕ) → symbol_of (arc_value c) ≡ k
      → found_pairs n (found ++ c ∷ []) ≡ found_pairs n found ++ (n, k) ∷ []
  found_pairs-push n found c k is =
      map-append (λ (x : Arc HeckeColumn Z). (n, symbol_of (arc_value x))) found (c ∷ [])
      ∙ ap (λ j. found_pairs n found ++ (n, j) ∷ []) is

  -- nothing was looked for
  pub IsLookup-none : (g : Ground) (n : ℕ) (events : List FlightEvent) → IsLookup {Z = Z} g n events [] [] []
  IsLookup-none g n events = record {
    gathered = All-nil (λ (c : Arc HeckeColumn Z). IsGathered g n (arc_value c));
    published = λ q h. absurd (Has-nil q h);
    places = All-nil (λ k. k < length (symbols g.level));
    all = λ q h. absurd (Has-nil q h);
    among = λ q h. absurd (Has-nil q h);
  }

  -- a column more was found
  found_more : (g : Ground) (n : ℕ) (old new : List FlightEvent) (given : List ℕ) (found : List (Arc HeckeColumn Z)) (missing : List ℕ)
      (k : ℕ) (c : Arc HeckeColumn Z) → IsPrefix old new → IsGathered g n (arc_value c) → symbol_of (arc_value c) ≡ k
      → Has (published_pairs new) (n, k) → IsLookup g n old given found missing
      → IsLookup g n new (given ++ k ∷ []) (found ++ c ∷ []) missing
  found_more g n old new given found missing k c later gathered is published h =
      let pushed : found_pairs n (found ++ c ∷ []) ≡ found_pairs n found ++ (n, k) ∷ [] = found_pairs-push n found c k is in
      let more : symbol_pairs n (given ++ k ∷ []) ≡ symbol_pairs n given ++ (n, k) ∷ [] = symbol_pairs-push n given k in
      record {
        gathered = All-push (λ (x : Arc HeckeColumn Z). IsGathered g n (arc_value x)) found c h.gathered gathered;
        published = subst (HasAll (published_pairs new)) (sym pushed)
            (HasAll-append (published_pairs new) (found_pairs n found) ((n, k) ∷ [])
            (λ q has. published_later old new q later (h.published q has)) (HasAll-one (published_pairs new) (n, k) published));
        places = h.places;
        all = subst (λ pairs. HasAll (pairs ++ symbol_pairs n missing) (symbol_pairs n (given ++ k ∷ []))) (sym pushed)
            (subst (HasAll ((found_pairs n found ++ (n, k) ∷ []) ++ symbol_pairs n missing)) (sym more)
            (HasAll-append ((found_pairs n found ++ (n, k) ∷ []) ++ symbol_pairs n missing) (symbol_pairs n given) ((n, k) ∷ [])
            (λ q has. widen (found_pairs n found) (symbol_pairs n missing) ((n, k) ∷ []) q (h.all q has))
            (λ q has. Has-append_left (found_pairs n found ++ (n, k) ∷ []) (symbol_pairs n missing) q
            (Has-append_right (found_pairs n found) ((n, k) ∷ []) q has))));
        among = subst (λ pairs. HasAll pairs (symbol_pairs n missing)) (sym more)
            (λ q has. Has-append_left (symbol_pairs n given) ((n, k) ∷ []) q (h.among q has));
      }

  -- a symbol more is missing
  pub IsLookup-missing : (g : Ground) (n : ℕ) (old new : List FlightEvent) (given : List ℕ) (found : List (Arc HeckeColumn Z)) (missing : List ℕ)
      (k : ℕ) → IsPrefix old new → k < length (symbols g.level) → IsLookup g n old given found missing
      → IsLookup g n new (given ++ k ∷ []) found (missing ++ k ∷ [])
  IsLookup-missing g n old new given found missing k later place h =
      let more : symbol_pairs n (given ++ k ∷ []) ≡ symbol_pairs n given ++ (n, k) ∷ [] = symbol_pairs-push n given k in
      let left : symbol_pairs n (missing ++ k ∷ []) ≡ symbol_pairs n missing ++ (n, k) ∷ [] = symbol_pairs-push n missing k in
      record {
        gathered = h.gathered;
        published = λ q has. published_later old new q later (h.published q has);
        places = All-push (λ j. j < length (symbols g.level)) missing k h.places place;
        all = subst (λ pairs. HasAll (found_pairs n found ++ pairs) (symbol_pairs n (given ++ k ∷ []))) (sym left)
            (subst (HasAll (found_pairs n found ++ (symbol_pairs n missing ++ (n, k) ∷ []))) (sym more)
            (HasAll-append (found_pairs n found ++ (symbol_pairs n missing ++ (n, k) ∷ [])) (symbol_pairs n given) ((n, k) ∷ [])
            (λ q has. lengthen (found_pairs n found) (symbol_pairs n missing) ((n, k) ∷ []) q (h.all q has))
            (λ q has. Has-append_right (found_pairs n found) (symbol_pairs n missing ++ (n, k) ∷ []) q
            (Has-append_right (symbol_pairs n missing) ((n, k) ∷ []) q has))));
        among = subst (λ pairs. HasAll pairs (symbol_pairs n (missing ++ k ∷ []))) (sym more)
            (subst (HasAll (symbol_pairs n given ++ (n, k) ∷ [])) (sym left)
            (HasAll-append (symbol_pairs n given ++ (n, k) ∷ []) (symbol_pairs n missing) ((n, k) ∷ [])
            (λ q has. Has-append_left (symbol_pairs n given) ((n, k) ∷ []) q (h.among q has))
            (λ q has. Has-append_right (symbol_pairs n given) ((n, k) ∷ []) q has)));
      }

  -- a missing column came
  came_more : (g : Ground) (n : ℕ) (old new : List FlightEvent) (given : List ℕ) (found : List (Arc HeckeColumn Z)) (missing : List ℕ)
      (k : ℕ) (c : Arc HeckeColumn Z) → IsPrefix old new → IsGathered g n (arc_value c) → symbol_of (arc_value c) ≡ k
      → Has (published_pairs new) (n, k) → IsLookup g n old given found (k ∷ missing)
      → IsLookup g n new given (found ++ c ∷ []) missing
  came_more g n old new given found missing k c later gathered is published h =
      let pushed : found_pairs n (found ++ c ∷ []) ≡ found_pairs n found ++ (n, k) ∷ [] = found_pairs-push n found c k is in
      record {
        gathered = All-push (λ (x : Arc HeckeColumn Z). IsGathered g n (arc_value x)) found c h.gathered gathered;
        published = subst (HasAll (published_pairs new)) (sym pushed)
            (HasAll-append (published_pairs new) (found_pairs n found) ((n, k) ∷ [])
            (λ q has. published_later old new q later (h.published q has)) (HasAll-one (published_pairs new) (n, k) published));
        places = All-tail (λ j. j < length (symbols g.level)) k missing h.places;
        all = subst (λ pairs. HasAll (pairs ++ symbol_pairs n missing) (symbol_pairs n given)) (sym pushed)
            (λ q has. shift (found_pairs n found) (symbol_pairs n missing) (n, k) q (h.all q has));
        among = λ q has. h.among q (Has-append_right ((n, k) ∷ []) (symbol_pairs n missing) q has);
      }

  -- with none missing, all were found
  pub found_all : (g : Ground) (n : ℕ) (events : List FlightEvent) (given : List ℕ) (found : List (Arc HeckeColumn Z))
      → IsLookup g n events given found [] → HasAll (found_pairs n found) (symbol_pairs n given)
  found_all g n events given found h = λ q has. subst (λ pairs. Has pairs q) (append-nil (found_pairs n found)) (h.all q has)

  -- so all were published
  pub published_all : (g : Ground) (n : ℕ) (events : List FlightEvent) (given : List ℕ) (found : List (Arc HeckeColumn Z))
      → IsLookup g n events given found [] → HasAll (published_pairs events) (symbol_pairs n given)
  published_all g n events given found h = λ q has. h.published q (found_all g n events given found h q has)

  member_of_pair : (n k : ℕ) (found : List (Arc HeckeColumn Z)) → Has (found_pairs n found) (n, k)
      → is_member nat_eq (map (λ c. symbol_of (arc_value c)) found) k ≡ true
  member_of_pair n k [] h = absurd (Has-nil (n, k) h)
  member_of_pair n k (c ∷ found) h = elim (or_cases (is_pair (n, k) (n, symbol_of (arc_value c))) _ h) [
    | inl here ↦ or_left (nat_eq k (symbol_of (arc_value c))) _
        (sym (ap (λ t. t && nat_eq k (symbol_of (arc_value c))) (eq-eqb n n refl)) ∙ here)
    | inr rest ↦ or_right (nat_eq k (symbol_of (arc_value c))) _ (member_of_pair n k found rest)
  ]

  -- and a source over them gives each
  pub gives_all : (g : Ground) (n : ℕ) (events : List FlightEvent) (given : List ℕ) (found : List (Arc HeckeColumn Z))
      → IsLookup g n events given found [] → (k : ℕ) → Contains given k
      → is_member nat_eq (map (λ c. symbol_of (arc_value c)) found) k ≡ true
  gives_all g n events given found h k has =
      member_of_pair n k found (found_all g n events given found h (n, k) (Has-symbol n k given has))

-- ---- calls on the flights
-- a column of a key is one of its determinant
pub gathered_of : (g setting : Ground) (n k : ℕ) (c : HeckeColumn) → g ≡ setting → k < length (symbols g.level) → IsColumnAt setting (flight_key n k) c
    → IsGathered g n c
gathered_of g setting n k c same place is = record {
  modulus = is.level ∙ ap (λ (s : Ground). s.level) (sym same);
  characteristic = is.characteristic ∙ ap (λ (s : Ground). s.characteristic) (sym same);
  n_is = is.n;
  place = subst (λ j. j < length (symbols g.level)) (sym is.symbol) place;
}

module _ {Z : Type 0} where
  -- what a look found
  pub IsLookup-found : (g setting : Ground) (n : ℕ) (old new : List FlightEvent) (given : List ℕ) (found grown : List (Arc HeckeColumn Z))
      (missing : List ℕ) (k : ℕ) (o : Option (Arc HeckeColumn Z)) (c : Arc HeckeColumn Z) → g ≡ setting → k < length (symbols g.level) → o ≡ Some c
      → grown ≡ found ++ c ∷ [] → IsPrefix old new → IfSome o (λ x. IsColumnAt setting (flight_key n k) (arc_value x))
      → IfSome o (λ x. is_published new (flight_key n k) ≡ true) → IsLookup g n old given found missing
      → IsLookup g n new (given ++ k ∷ []) grown missing
  IsLookup-found g setting n old new given found grown missing k o c same place is more later column published h =
      let at : IsColumnAt setting (flight_key n k) (arc_value c) =
      subst (λ o. IfSome o (λ (x : Arc HeckeColumn Z). IsColumnAt setting (flight_key n k) (arc_value x))) is column in
      let there : is_published new (flight_key n k) ≡ true =
      subst (λ o. IfSome o (λ (x : Arc HeckeColumn Z). is_published new (flight_key n k) ≡ true)) is published in
      subst (λ list. IsLookup g n new (given ++ k ∷ []) list missing) (sym more)
      (found_more g n old new given found missing k c later (gathered_of g setting n k (arc_value c) same place at) at.symbol
      (pair_published new (flight_key n k) there) h)

  -- and what came at last
  pub IsLookup-came : (g setting : Ground) (n : ℕ) (old new : List FlightEvent) (given : List ℕ) (found grown : List (Arc HeckeColumn Z))
      (missing : List ℕ) (k : ℕ) (c : Arc HeckeColumn Z) → g ≡ setting → k < length (symbols g.level) → grown ≡ found ++ c ∷ [] → IsPrefix old new
      → IsColumnAt setting (flight_key n k) (arc_value c) → is_published new (flight_key n k) ≡ true → IsLookup g n old given found (k ∷ missing)
      → IsLookup g n new given grown missing
  IsLookup-came g setting n old new given found grown missing k c same place more later column published h =
      subst (λ list. IsLookup g n new given list missing) (sym more)
      (came_more g n old new given found missing k c later (gathered_of g setting n k (arc_value c) same place column) column.symbol
      (pair_published new (flight_key n k) published) h)

  -- the columns that were there, and then the others
  pub whole_lookup : (g : Ground) (n m : ℕ) (given missing list : List ℕ) (found all : List (Arc HeckeColumn Z)) (b c : List FlightEvent) → m ≡ n
      → list ≡ missing → IsLookup g m b given found missing → ((gs : List ℕ) → IsLookup g m b gs found list → IsLookup g m c gs all [])
      → IsLookup g n c given all []
  whole_lookup g n m given missing list found all b c number list_is h then =
      subst (λ j. IsLookup g j c given all []) number (then given (subst (λ ks. IsLookup g m b given found ks) (sym list_is) h))

  -- a source over them serves the symbols
  pub serves_found : {S E : Type 0} (r : Result S E) (setting : S → Ground) (matrices : S → Matrices) (gives : S → ℕ → Bool) (g : Ground) (n : ℕ)
      (events : List FlightEvent) (given : List ℕ) (found : List (Arc HeckeColumn Z)) → IfOk r (λ s. setting s ≡ g) → IfOk r (λ s. matrices s ≡ merel n)
      → IfOk r (λ s. (k : ℕ) → gives s k ≡ is_member nat_eq (map (λ (c : Arc HeckeColumn Z). symbol_of (arc_value c)) found) k)
      → IsLookup g n events given found [] → IfOk r (λ s. ServesDemand (setting s) (matrices s) (gives s) g (demands.Some n given))
  serves_found (Ok s) setting matrices gives g n events given found at of can h = (
    record { of_ground = at; determinant = ap (λ (m : Matrices). m.det) of; list = ap (λ (m : Matrices). m.list) of },
    λ k has. can k ∙ gives_all g n events given found h k has,
  )
  serves_found (Err e) setting matrices gives g n events given found at of can h = tt

-- a range has the numbers below its end
in_range : (n k : ℕ) → k < n → Contains (range_with_len 0 n) k
in_range n k l = (
  k,
  subst (λ m. k < m) (sym (length-range_with_len 0 n)) l,
  get_or-range_with_len 0 n k k l ∙ (let same : 0 + k ≡ k = omega arith in same),
)

pub held_if : {S E : Type 0} (r : Result S E) (P : Type 0) → P → OnOk r P
held_if (Ok s) P h = h
held_if (Err e) P h = tt

-- one that serves the numbers below the count of all symbols serves all
pub serves_all : {S E : Type 0} (r : Result S E) (setting : S → Ground) (matrices : S → Matrices) (gives : S → ℕ → Bool) (g : Ground)
    (n count : ℕ) (given : List ℕ) (d : Demand) → given ≡ range_with_len 0 count → count ≡ length (symbols g.level) → d ≡ demands.All n
    → IfOk r (λ s. ServesDemand (setting s) (matrices s) (gives s) g (demands.Some n given))
    → IfOk r (λ s. ServesDemand (setting s) (matrices s) (gives s) g d)
serves_all (Ok s) setting matrices gives g n count given d are all is h =
    subst (ServesDemand (setting s) (matrices s) (gives s) g) (sym is)
    (h.0, λ k within. h.1 k (subst (λ ks. Contains ks k) (sym are) (in_range count k (subst (λ m. k < m) (sym all) within))))
serves_all (Err e) setting matrices gives g n count given d are all is h = tt

-- one call flies for its key alone
pub flies_key : (n k s : ℕ) (old new : List FlightEvent) → IsPrefix old new
    → ((j : ℕ) (e : FlightEvent) → slice_get new j ≡ Some e → maker_of e ≡ s → (slice_get old j ≡ Some e) ⊎ (key_of e ≡ flight_key n k))
    → ((key : FlightKey) → claimer old key ≢ Some s → claimer new key ≢ Some s) → Flies ((n, k) ∷ []) s old new
flies_key n k s old new begins own settled = record {
  begins = begins;
  own = λ j e at mine. elim (own j e at mine) [
    | inl there ↦ inl there
    | inr is ↦ inr (subst (λ key. Has ((n, k) ∷ []) (pair_of key)) (sym is) (Has-it (n, k)))
  ];
  settled = settled;
}

module _ {gs : Ghosts FlightHistory FlightEvent} {q : Equality FlightEvent} where
  -- a pass may fly again
  pub may_fly_on : (flights : Flights) (g : Ground) (pairs : List (ℕ × ℕ)) (old new : Pass FlightHistory FlightEvent gs q) → MayFly flights g old
      → Continues old new → (view new).has_turn ≡ false → Flies pairs ((view old).number + 1) (view old).seen (view new).seen → MayFly flights g new
  may_fly_on flights g pairs old new may later idle flies = record {
    board = record {
      table = later.table ∙ may.board.table;
      label = later.label ∙ may.board.label;
      passes = later.passes ∙ may.board.passes;
    };
    idle = idle;
    setting = may.setting;
    unclaimed = λ key. subst (λ m. claimer (view new).seen key ≢ Some (m + 1)) (sym later.number) (flies.settled key (may.unclaimed key));
  }

  -- also by another name of its session
  pub may_fly_as : (flights : Flights) (g : Ground) (pairs : List (ℕ × ℕ)) (m : ℕ) (old new : Pass FlightHistory FlightEvent gs q)
      → m ≡ (view old).number → MayFly flights g old → Continues old new → (view new).has_turn ≡ false
      → Flies pairs (m + 1) (view old).seen (view new).seen → MayFly flights g new
  may_fly_as flights g pairs m old new same may later idle flies =
      may_fly_on flights g pairs old new may later idle (subst (λ k. Flies pairs (k + 1) (view old).seen (view new).seen) same flies)

  -- two calls one after another
  pub flies_then : (all some : List (ℕ × ℕ)) (a b c : Pass FlightHistory FlightEvent gs q) → HasAll all some → Continues a b
      → Flies all ((view a).number + 1) (view a).seen (view b).seen → Flies some ((view b).number + 1) (view b).seen (view c).seen
      → Flies all ((view a).number + 1) (view a).seen (view c).seen
  flies_then all some a b c more later f g =
      Flies_trans all ((view a).number + 1) (view a).seen (view b).seen (view c).seen f
      (subst (λ m. Flies all (m + 1) (view b).seen (view c).seen) later.number
      (Flies_weaken some all ((view b).number + 1) (view b).seen (view c).seen more g))

  -- the columns that were there, and then the others
  pub whole_flies : {Z : Type 0} (g : Ground) (n m : ℕ) (given missing list : List ℕ) (found : List (Arc HeckeColumn Z))
      (a b c : Pass FlightHistory FlightEvent gs q) → m ≡ n → list ≡ missing → Continues a b
      → Flies (symbol_pairs m given) ((view a).number + 1) (view a).seen (view b).seen → IsLookup g m (view b).seen given found missing
      → Flies (symbol_pairs m list) ((view b).number + 1) (view b).seen (view c).seen
      → Flies (symbol_pairs n given) ((view a).number + 1) (view a).seen (view c).seen
  whole_flies g n m given missing list found a b c number list_is later f h then =
      subst (λ j. Flies (symbol_pairs j given) ((view a).number + 1) (view a).seen (view c).seen) number
      (flies_then (symbol_pairs m given) (symbol_pairs m list) a b c
      (subst (λ ks. HasAll (symbol_pairs m given) (symbol_pairs m ks)) (sym list_is) h.among) later f then)

-- the pair of a symbol that is asked for
pub has_symbol : (n i : ℕ) (given : List ℕ) → i < length given → HasAll (symbol_pairs n given) ((n, get_or given i 0) ∷ [])
has_symbol n i given within =
    HasAll-one (symbol_pairs n given) (n, get_or given i 0) (Has-symbol n (get_or given i 0) given (Contains-get_or given i 0 within))

-- the numbers below a count, with one more
pub range_more : (k : ℕ) → range_with_len 0 (k + 1) ≡ range_with_len 0 k ++ k ∷ []
range_more k =
    sym (map-id (range_with_len 0 (k + 1))) ∙ map-range_with_len_more (λ (j : ℕ). j) 0 k k (omega arith)
    ∙ ap (λ ks. ks ++ k ∷ []) (map-id (range_with_len 0 k))

-- they are below the count
pub range_below : (n m : ℕ) (ks : List ℕ) → ks ≡ range_with_len 0 n → n ≡ m → All (λ k. k < m) ks
range_below n m ks is same =
    All-same (λ k. k < m) ks (range_with_len 0 n) is (All-from_get_or (λ k. k < m) (range_with_len 0 n) 0 (λ i within.
    let inside : i < n = subst (λ l. i < l) (length-range_with_len 0 n) within in
    subst (λ k. k < m) (sym (get_or-range_with_len 0 n i 0 inside)) (omega arith)))
