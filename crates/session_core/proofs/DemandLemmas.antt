-- Demands: their pairs one after another, and what a command's demand has.
use Rattle.std.proofs.Common.{◌≡◌, ◌+◌, ◌<◌, ◌≤◌, ℕ, Bool, true, List, [], ◌∷◌, ◌++◌, length, get_or, take, drop, map, refl, sym, ◌∙◌, ap, subst, arith}
use Rattle.std.specs.List.{Contains, range_with_len}
use Rattle.std.specs.Set.{is_member}
use Rattle.std.proofs.lemmas.List.{map_more, map-append, take-append-drop, get_or-map, get_or_default, length-map}
use Rattle.std.proofs.lemmas.List.FromFn.{map-range_with_len_more, get_or-range_with_len, length-range_with_len}
use Rattle.std.proofs.lemmas.Map.Views.{list_any-from_Contains, Contains-from_any}
use Rattle.p1_normal.specs.Points.{symbols}
use Rattle.quotient_coords.specs.Quotient.{Ground}
use Rattle.heilbronn_sets.specs.Sets.{Matrices}
use Rattle.op_polynomials.specs.declared.name.OpName.{OpName}
use Rattle.op_polynomials.specs.declared.name.OpName.TheVariants as ops
use Rattle.script_text.specs.declared.command.Command.{Command}
use Rattle.script_text.specs.declared.command.Command.TheVariants as commands
use Rattle.script_text.specs.declared.term.Term.{Term}
use Rattle.session_core.specs.declared.demand.Demand.{Demand}
use Rattle.session_core.specs.declared.demand.Demand.TheVariants as demands
use Rattle.session_core.specs.Terms.{symbols_of}
use Rattle.session_core.specs.Demands.{is_pair, Has, HasAll, Adds, symbol_pairs, operator_pairs, demand, operator_demand, demand_pairs, IsDemand, Serves, ServesDemand}
use Rattle.session_core.specs.ColumnTable.{merel, determinant_of_demand}
use Rattle.session_core.proofs.PairLemmas.{is_pair-eq, is_pair-equivalence, Has-append_left, Adds_trans, Adds-of_more, HasAll-append, HasAll-one, HasAll_grows}

-- an image of an element is among the images
pub Contains-map : {X Y : Type 0} (f : X → Y) (xs : List X) (x : X) → Contains xs x → Contains (map f xs) (f x)
Contains-map f xs x (j, within, is) = (j, subst (λ n. j < n) (sym (length-map xs f)) within, get_or-map f xs j x (f x) within ∙ ap f is)

-- an element of the images is the image of an element
pub Contains-from_map : {X Y : Type 0} (f : X → Y) (xs : List X) (y : Y) → Contains (map f xs) y → (x : X) × Contains xs x × (f x ≡ y)
Contains-from_map f [] y (j, within, is) = absurd (omega arith)
Contains-from_map f (a ∷ xs) y (j, within, is) =
    let inside : j < length (a ∷ xs) = subst (λ n. j < n) (length-map (a ∷ xs) f) within in (
      get_or (a ∷ xs) j a,
      (j, inside, get_or_default (a ∷ xs) j (get_or (a ∷ xs) j a) a inside),
      sym (get_or-map f (a ∷ xs) j a y inside) ∙ is,
    )

zero_plus : (k : ℕ) → 0 + k ≡ k
zero_plus k = omega arith

-- a range has the numbers below its end
Contains-range : (n k : ℕ) → k < n → Contains (range_with_len 0 n) k
Contains-range n k l = (k, subst (λ m. k < m) (sym (length-range_with_len 0 n)) l, get_or-range_with_len 0 n k k l ∙ zero_plus k)

Contains-from_range : (n k : ℕ) → Contains (range_with_len 0 n) k → k < n
Contains-from_range n k (j, within, is) =
    let inside : j < n = subst (λ m. j < m) (length-range_with_len 0 n) within in
    subst (λ i. i < n) (sym (zero_plus j) ∙ sym (get_or-range_with_len 0 n j k inside) ∙ is) inside

-- the pairs of n with the symbols
pub Has-symbol : (n k : ℕ) (given : List ℕ) → Contains given k → Has (symbol_pairs n given) (n, k)
Has-symbol n k given h = list_any-from_Contains is_pair-equivalence (n, k) (symbol_pairs n given) (Contains-map (λ j. (n, j)) given k h)

Has-from_symbol : (n : ℕ) (given : List ℕ) (q : ℕ × ℕ) → Has (symbol_pairs n given) q → (k : ℕ) × Contains given k × ◌≡◌ {A = ℕ × ℕ} (n, k) q
Has-from_symbol n given q h = Contains-from_map (λ k. (n, k)) given q (Contains-from_any is_pair-eq q (symbol_pairs n given) h)

-- more symbols give more pairs
Has-of_more : (n : ℕ) (a b : List ℕ) → ((k : ℕ) → Contains a k → Contains b k) → (q : ℕ × ℕ) → Has (symbol_pairs n a) q → Has (symbol_pairs n b) q
Has-of_more n a b more q h = let at = Has-from_symbol n a q h in subst (Has (symbol_pairs n b)) at.2 (Has-symbol n at.0 b (more at.0 at.1))

-- the symbols up to i, and the one at i
pairs_more : (n i k : ℕ) (given : List ℕ) → i < length given → k ≡ get_or given i 0
    → symbol_pairs n (take i given) ++ (n, k) ∷ [] ≡ symbol_pairs n (take (i + 1) given)
pairs_more n i k given within here = ap (λ j. symbol_pairs n (take i given) ++ (n, j) ∷ []) here ∙ sym (map_more (λ j. (n, j)) given i 0 within)

-- one more symbol is gathered
pub symbol_added : (n i k : ℕ) (given : List ℕ) (old mid new : List (ℕ × ℕ)) → i < length given → k ≡ get_or given i 0
    → Adds (symbol_pairs n (take i given)) old mid → Adds ((n, k) ∷ []) mid new → Adds (symbol_pairs n (take (i + 1) given)) old new
symbol_added n i k given old mid new within here before last =
    subst (λ pairs. Adds pairs old new) (pairs_more n i k given within here)
    (Adds_trans (symbol_pairs n (take i given)) ((n, k) ∷ []) old mid new before last)

pub symbol_held : (n i k : ℕ) (given : List ℕ) (mid new : List (ℕ × ℕ)) → i < length given → k ≡ get_or given i 0
    → HasAll mid (symbol_pairs n (take i given)) → Adds ((n, k) ∷ []) mid new → Has new (n, k) → HasAll new (symbol_pairs n (take (i + 1) given))
symbol_held n i k given mid new within here before last held =
    subst (HasAll new) (pairs_more n i k given within here)
    (HasAll-append new (symbol_pairs n (take i given)) ((n, k) ∷ [])
    (HasAll_grows mid new (symbol_pairs n (take i given)) ((n, k) ∷ []) last before) (HasAll-one new (n, k) held))

-- what is added for the first symbols is added for all
pub Adds-of_all : (n i : ℕ) (given : List ℕ) (old new : List (ℕ × ℕ)) → Adds (symbol_pairs n (take i given)) old new
    → Adds (symbol_pairs n given) old new
Adds-of_all n i given old new h =
    Adds-of_more (symbol_pairs n (take i given)) (symbol_pairs n given) old new (λ q has.
    subst (λ ks. Has (symbol_pairs n ks) q) (take-append-drop i given)
    (subst (λ pairs. Has pairs q) (sym (map-append (λ k. (n, k)) (take i given) (drop i given)))
    (Has-append_left (symbol_pairs n (take i given)) (symbol_pairs n (drop i given)) q has))) h

-- the same of all symbols of a level
range_more : (n k : ℕ) → symbol_pairs n (range_with_len 0 k) ++ (n, k) ∷ [] ≡ symbol_pairs n (range_with_len 0 (k + 1))
range_more n k = sym (map-range_with_len_more (λ j. (n, j)) 0 k k (zero_plus k))

pub number_added : (n k : ℕ) (old mid new : List (ℕ × ℕ)) → Adds (symbol_pairs n (range_with_len 0 k)) old mid → Adds ((n, k) ∷ []) mid new
    → Adds (symbol_pairs n (range_with_len 0 (k + 1))) old new
number_added n k old mid new before last =
    subst (λ pairs. Adds pairs old new) (range_more n k) (Adds_trans (symbol_pairs n (range_with_len 0 k)) ((n, k) ∷ []) old mid new before last)

pub number_held : (n k : ℕ) (mid new : List (ℕ × ℕ)) → HasAll mid (symbol_pairs n (range_with_len 0 k)) → Adds ((n, k) ∷ []) mid new
    → Has new (n, k) → HasAll new (symbol_pairs n (range_with_len 0 (k + 1)))
number_held n k mid new before last held =
    subst (HasAll new) (range_more n k)
    (HasAll-append new (symbol_pairs n (range_with_len 0 k)) ((n, k) ∷ [])
    (HasAll_grows mid new (symbol_pairs n (range_with_len 0 k)) ((n, k) ∷ []) last before) (HasAll-one new (n, k) held))

pub Adds-of_range : (n k m : ℕ) (old new : List (ℕ × ℕ)) → k ≤ m → Adds (symbol_pairs n (range_with_len 0 k)) old new
    → Adds (symbol_pairs n (range_with_len 0 m)) old new
Adds-of_range n k m old new within h =
    Adds-of_more (symbol_pairs n (range_with_len 0 k)) (symbol_pairs n (range_with_len 0 m)) old new
    (Has-of_more n (range_with_len 0 k) (range_with_len 0 m) (λ j has. Contains-range m j
    (let below : j < k = Contains-from_range k j has in omega arith))) h

-- a demand has the pairs of its command and no others
record SamePairs (a b : List (ℕ × ℕ)) : Type 0 where
  to : (q : ℕ × ℕ) → Has a q → Has b q
  from : (q : ℕ × ℕ) → Has b q → Has a q

same_none : (N : ℕ) (d : Demand) → d ≡ demands.Nothing → SamePairs (demand_pairs N d) []
same_none N d none = subst (λ e. SamePairs (demand_pairs N e) []) (sym none) (record { to = λ q h. h; from = λ q h. h })

same_operator : (N : ℕ) (op : OpName) (d : Demand) → d ≡ operator_demand op → SamePairs (demand_pairs N d) (operator_pairs N op)
same_operator N (ops.T n) d is =
    subst (λ e. SamePairs (demand_pairs N e) (operator_pairs N (ops.T n))) (sym is) (record { to = λ q h. h; from = λ q h. h })
same_operator N ops.Star d is = same_none N d is

same_pairs : (g : Ground) (command : Command) (d : Demand) → IsDemand g command d → SamePairs (demand_pairs g.level d) (demand g command)
same_pairs g (commands.Image n terms) d (given, is, same) =
    subst (λ e. SamePairs (demand_pairs g.level e) (symbol_pairs n (symbols_of g.level terms))) (sym is) (record {
      to = Has-of_more n given (symbols_of g.level terms) same.only;
      from = Has-of_more n (symbols_of g.level terms) given same.all;
    })
same_pairs g (commands.Normal u v) d is = same_none g.level d is
same_pairs g commands.Basis d is = same_none g.level d is
same_pairs g (commands.Reduce terms) d is = same_none g.level d is
same_pairs g (commands.Certify terms) d is = same_none g.level d is
same_pairs g (commands.Star terms) d is = same_none g.level d is
same_pairs g (commands.Boundary terms) d is = same_none g.level d is
same_pairs g commands.Cusps d is = same_none g.level d is
same_pairs g (commands.Operator op) d is = same_operator g.level op d is
same_pairs g (commands.Apply op coords) d is = same_operator g.level op d is
same_pairs g (commands.Poly op coefficients coords) d is = same_operator g.level op d is
same_pairs g (commands.Split op coefficients) d is = same_operator g.level op d is
same_pairs g commands.Show d is = same_none g.level d is
same_pairs g (commands.Part number) d is = same_none g.level d is
same_pairs g (commands.Chains n) d is = same_none g.level d is

-- a table that gathers the pairs of the demand gathers those of its command
pub Adds-demand : (g : Ground) (command : Command) (d : Demand) (old new : List (ℕ × ℕ)) → IsDemand g command d
    → Adds (demand_pairs g.level d) old new → Adds (demand g command) old new
Adds-demand g command d old new is h = Adds-of_more (demand_pairs g.level d) (demand g command) old new (same_pairs g command d is).to h

pub HasAll-demand : (g : Ground) (command : Command) (d : Demand) (table : List (ℕ × ℕ)) → IsDemand g command d
    → HasAll table (demand_pairs g.level d) → HasAll table (demand g command)
HasAll-demand g command d table is h = λ q has. h q ((same_pairs g command d is).from q has)

-- a source that serves the demand of an image gives the symbols of its terms
pub gives_terms : (setting g : Ground) (matrices : Matrices) (gives : ℕ → Bool) (n : ℕ) (terms : List Term) (d : Demand)
    → IsDemand g (commands.Image n terms) d
    → ServesDemand setting matrices gives g d → Serves setting matrices g n × ((k : ℕ) → Contains (symbols_of g.level terms) k → gives k ≡ true)
gives_terms setting g matrices gives n terms d (given, is, same) serves =
    let served : ServesDemand setting matrices gives g (demands.Some n given) = subst (ServesDemand setting matrices gives g) is serves in
    (served.0, λ k h. served.1 k (same.all k h))

-- a table that has the pairs of a demand serves it
pub table_serves : (g : Ground) (pairs : List (ℕ × ℕ)) (d : Demand) → HasAll pairs (demand_pairs g.level d)
    → ServesDemand g (merel (determinant_of_demand d)) (λ k. is_member is_pair pairs (determinant_of_demand d, k)) g d
table_serves g pairs demands.Nothing held = tt
table_serves g pairs (demands.Some n given) held =
    (record { of_ground = refl; determinant = refl; list = refl }, λ k has. held (n, k) (Has-symbol n k given has))
table_serves g pairs (demands.All n) held = (
  record { of_ground = refl; determinant = refl; list = refl },
  λ k within. held (n, k)
      (Has-symbol n k (range_with_len 0 (length (symbols g.level))) (Contains-range (length (symbols g.level)) k within)),
)
