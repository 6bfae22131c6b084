-- The list of chains: each member of Merel's set at one place.
use Rattle.std.proofs.Common.{◌≡◌, ◌≢◌, ◌+◌, ◌<◌, ◌↔◌, ℕ, zero, suc, Bool, true, List, [], ◌∷◌, length, get_or, All, refl, sym, ◌∙◌, ap, subst, inl, inr, arith, ◌&&◌}
use Rattle.std.specs.Prelude.{pos, map, filter}
use Rattle.std.specs.Ordering.{int_eq}
use Rattle.std.specs.Bool.{Decides}
use Rattle.std.specs.List.{flat_map, Contains, AllPairs, remove}
use Rattle.std.specs.List.Sorted.{IsPermutation, IsNonDecreasingBy}
use Rattle.std.proofs.lemmas.Int.{ints}
use Rattle.std.proofs.lemmas.Bool.{cases_lt, cond_both, and_parts, and_from, false≢true}
use Rattle.std.proofs.lemmas.Bool.Decides.{Decides-int_eq}
use Rattle.std.proofs.lemmas.List.{get_or_default, get_or-map}
use Rattle.std.proofs.lemmas.List.Elements.{All-nil, All-head, All-tail, All-append, All-contains, All-filter, filter_passes, Contains-append_left, Contains-append_right, Contains-append_cases}
use Rattle.std.proofs.lemmas.List.Kept.{AllPairs-filter}
use Rattle.std.proofs.lemmas.List.Sorted.{All-permutation, Contains-permutation, IsPermutation-refl, IsPermutation-sym, IsPermutation-trans, IsPermutation-cons, IsPermutation-remove}
use Rattle.std.proofs.lemmas.Map.Keys.{IsDistinct-IsPermutation}
use Rattle.std.proofs.lemmas.Map.Made.{IsDistinct-from_AllPairs, AllPairs-from_IsDistinct}
use Rattle.p1_normal.specs.declared.matrix.Matrix.{Matrix}
use Rattle.p1_normal.specs.Actions.{matrix}
use Rattle.heilbronn_sets.specs.Merel.{merel_matrices, IsMerel, starts}
use Rattle.heilbronn_sets.proofs.Members.{All-merel_matrices, Contains-merel_matrices}
use Rattle.heilbronn_sets.proofs.Faults.{zero_matrix}
use Rattle.heilbronn_chains.specs.Starts.{IsStart}
use Rattle.heilbronn_chains.specs.Chains.{IsChain, AreChains, JoinsChains, HasPlace, IsPlace, member}
use Rattle.heilbronn_chains.specs.Order.{rank}
use Rattle.heilbronn_chains.proofs.Runs.{chain_by_first, chain_falling, chain_with, chain_with_unique, one_place, start_from_merel, merel_from_start}
use Rattle.heilbronn_chains.proofs.Order.{merel_rises, rises_from_sorted, rising_same, contains_cases, pairs_head, pairs_tail, AllPairs-append}
use Rattle.heilbronn_chains.proofs.Telescoping.{same_test}

-- ---- the starts
contains_filter : {X : Type 0} (p : X → Bool) (xs : List X) (x : X) → Contains xs x → p x ≡ true → Contains (filter p xs) x
contains_filter p [] x (k, l, same) e = absurd (omega (arith, l))
contains_filter p (y ∷ ys) x (zero, l, same) e = cond_both (p y) (y ∷ filter p ys) (filter p ys) (λ zs. Contains zs x)
    (λ passes. (0, omega arith, same))
    (λ fails. absurd (false≢true (sym fails ∙ ap p same ∙ e)))
contains_filter p (y ∷ ys) x (suc k, l, same) e =
    let (j, m, here) = contains_filter p ys x (k, omega (arith, l), same) e in
    cond_both (p y) (y ∷ filter p ys) (filter p ys) (λ zs. Contains zs x) (λ passes. (suc j, omega (arith, m), here)) (λ fails. (j, m, here))

pub All-starts : (n : ℕ) → All (IsStart n) (starts n)
All-starts n = λ k d l.
    let kept = All-filter (λ m. int_eq m.b (pos 0)) (IsMerel n) (merel_matrices n) (All-merel_matrices n) k d l in
    let passes = filter_passes (λ m. int_eq m.b (pos 0)) (merel_matrices n) k d l in
    start_from_merel n (get_or (starts n) k d) kept ((Decides-int_eq (get_or (starts n) k d).b (pos 0)).0 passes)

-- the starts are the matrices [[a, 0], [c, d]] with a d = n and 0 <= c < d
pub Contains-starts : (n : ℕ) (m : Matrix) → 0 < n → Contains (starts n) m ↔ IsStart n m
Contains-starts n m some = (
  λ h. All-contains (IsStart n) (starts n) m (All-starts n) h,
  λ h. contains_filter (λ m. int_eq m.b (pos 0)) (merel_matrices n) m ((Contains-merel_matrices n m).1 (merel_from_start n m some h))
      ((Decides-int_eq m.b (pos 0)).1 h.upper),
)

starts_apart : (n : ℕ) → AllPairs (λ x y. x ≢ y) (starts n)
starts_apart n = λ i j d l lower.
    let rises = AllPairs-filter (λ x y. rank (n + 1) x < rank (n + 1) y) (λ m. int_eq m.b (pos 0)) (merel_matrices n)
    (merel_rises n (n + 1) (omega arith)) i j d l lower in
    λ e. let same = ap (rank (n + 1)) e in omega (arith, rises, same)

-- ---- each member at one place
-- the first member of the list at a place
first_at : (n : ℕ) (css : List (List Matrix)) (i : ℕ) → AreChains n css → i < length css →
    member (get_or css i []) 0 ≡ get_or (starts n) i zero_matrix
first_at n css i h l = sym (get_or-map (λ ms. member ms 0) css i [] zero_matrix l) ∙ ap (λ ws. get_or ws i zero_matrix) h.begins

pub count_same : (n : ℕ) (css : List (List Matrix)) → AreChains n css → length css ≡ length (starts n)
count_same n css h = sym (length-map (λ ms. member ms 0) css) ∙ ap length h.begins
  where
    length-map : (f : List Matrix → Matrix) (xs : List (List Matrix)) → length (map f xs) ≡ length xs
    length-map f [] = refl
    length-map f (x ∷ xs) = ap suc (length-map f xs)

pub has_place : (n : ℕ) (css : List (List Matrix)) (m : Matrix) → 0 < n → AreChains n css → IsMerel n m → HasPlace css m
has_place n css m some h is =
    let w = chain_with n m some is in
    let c = w.is in
    let first = member w.chain 0 in
    let merel = c.members 0 zero_matrix c.some in
    let (i, l, here) = (Contains-starts n first some).1 (start_from_merel n first merel c.first) in
    let within : i < length css = omega (arith, l, count_same n css h) in
    let begin : member (get_or css i []) 0 ≡ first = first_at n css i h within ∙ get_or_default (starts n) i zero_matrix first l ∙ here in
    let same : get_or css i [] ≡ w.chain = chain_by_first n (get_or css i []) w.chain some (h.chains i [] within) c begin in
    let (j, lower, it) = w.contains in
    record {
      i = i;
      j = j;
      place = record {
        chain = within;
        within = subst (λ ms. j < length ms) (sym same) lower;
        is = ap (λ ms. member ms j) same ∙ get_or_default w.chain j zero_matrix m lower ∙ it;
      };
    }

at_place : (css : List (List Matrix)) (m : Matrix) (i j : ℕ) → IsPlace css m i j → Contains (get_or css i []) m
at_place css m i j h = (j, h.within, get_or_default (get_or css i []) j m zero_matrix h.within ∙ h.is)

-- no two starts are one
starts_same : (n i k : ℕ) → i < length (starts n) → k < length (starts n) → get_or (starts n) i zero_matrix ≡ get_or (starts n) k zero_matrix → i ≡ k
starts_same n i k l m e = elim (cases_lt i k) [
  | inl lower ↦ absurd (starts_apart n i k zero_matrix lower m e)
  | inr upper ↦ elim (cases_lt k i) [
    | inl lower ↦ absurd (starts_apart n k i zero_matrix lower l (sym e))
    | inr same ↦ omega arith
  ]
]

pub one_place_of : (n : ℕ) (css : List (List Matrix)) (m : Matrix) (i j k l : ℕ) → 0 < n → AreChains n css → IsPlace css m i j → IsPlace css m k l →
    (i ≡ k) × (j ≡ l)
one_place_of n css m i j k l some h x y =
    let same : get_or css i [] ≡ get_or css k [] = chain_with_unique n (get_or css i []) (get_or css k []) m some (h.chains i [] x.chain)
    (h.chains k [] y.chain) (at_place css m i j x) (at_place css m k l y) in
    let firsts : get_or (starts n) i zero_matrix ≡ get_or (starts n) k zero_matrix = sym (first_at n css i h x.chain) ∙ ap (λ ms. member ms 0) same
    ∙ first_at n css k h y.chain in
    let count = count_same n css h in
    let places : i ≡ k = starts_same n i k (omega (arith, x.chain, count)) (omega (arith, y.chain, count)) firsts in (
      places,
      one_place n (get_or css k []) j l (h.chains k [] y.chain) (subst (λ ms. j < length ms) same x.within) y.within
          (sym (ap (λ ms. member ms j) same) ∙ x.is ∙ sym y.is),
    )

-- and what stands at a place is a member
pub place_member : (n : ℕ) (css : List (List Matrix)) (m : Matrix) (i j : ℕ) → AreChains n css → IsPlace css m i j → IsMerel n m
place_member n css m i j h x = subst (IsMerel n) x.is ((h.chains i [] x.chain).members j zero_matrix x.within)

-- ---- all chains in one list
All-joined : (P : Matrix → Type 0) (css : List (List Matrix)) → All (λ ms. All P ms) css → All P (flat_map (λ ms. ms) css)
All-joined P [] h = All-nil P
All-joined P (ms ∷ css) h = All-append P ms (flat_map (λ ms. ms) css) (All-head (λ ms. All P ms) ms css h)
    (All-joined P css (All-tail (λ ms. All P ms) ms css h))

contains_joined : (css : List (List Matrix)) (m : Matrix) (i : ℕ) → i < length css → Contains (get_or css i []) m →
    Contains (flat_map (λ ms. ms) css) m
contains_joined [] m i l h = absurd (omega (arith, l))
contains_joined (ms ∷ css) m zero l h = Contains-append_left ms (flat_map (λ ms. ms) css) m h
contains_joined (ms ∷ css) m (suc i) l h = Contains-append_right ms (flat_map (λ ms. ms) css) m (contains_joined css m i (omega (arith, l)) h)

joined_contains : (css : List (List Matrix)) (m : Matrix) → Contains (flat_map (λ ms. ms) css) m →
    (ks : List Matrix) × Contains css ks × Contains ks m
joined_contains [] m (k, l, same) = absurd (omega (arith, l))
joined_contains (ms ∷ css) m h = elim (Contains-append_cases ms (flat_map (λ ms. ms) css) m h) [
  | inl here ↦ (ms, (0, omega arith, refl), here)
  | inr later ↦ let (ks, (k, l, same), inside) = joined_contains css m later in (ks, (suc k, omega (arith, l), same), inside)
]

joined_apart : (n : ℕ) (css : List (List Matrix)) → 0 < n → All (IsChain n) css → AllPairs (λ ms ks. ms ≢ ks) css →
    AllPairs (λ x y. x ≢ y) (flat_map (λ ms. ms) css)
joined_apart n [] some all apart = λ i j d l lower. absurd (omega (arith, lower))
joined_apart n (ms ∷ css) some all apart =
    AllPairs-append (λ x y. x ≢ y) ms (flat_map (λ ms. ms) css)
    (λ i j d l lower e. let falls = chain_falling n ms chain i j d l lower in let same = ap (λ w. w.c) e in omega (arith, ints, falls, same))
    (joined_apart n css some (All-tail (IsChain n) ms css all) (pairs_tail (λ ms ks. ms ≢ ks) ms css apart))
    (λ i d l. λ j e lower same.
    let (ks, (k, m, is), inside) = joined_contains css (get_or (flat_map (λ ms. ms) css) j e)
    (j, lower, get_or_default (flat_map (λ ms. ms) css) j (get_or (flat_map (λ ms. ms) css) j e) e lower) in
    let other : IsChain n ks = subst (IsChain n) is (All-tail (IsChain n) ms css all k ks m) in
    let within : Contains ms (get_or ms i d) = (i, l, get_or_default ms i (get_or ms i d) d l) in
    let one : ms ≡ ks = chain_with_unique n ms ks (get_or ms i d) some chain other within (subst (Contains ks) (sym same) inside) in
    apart 0 (suc k) ks (omega arith) (omega (arith, m)) (one ∙ sym is))
  where
    chain : IsChain n ms
    chain = All-head (IsChain n) ms css all

chains_apart : (n : ℕ) (css : List (List Matrix)) → AreChains n css → AllPairs (λ ms ks. ms ≢ ks) css
chains_apart n css h = λ i j d l lower e.
    let upper : i < length css = omega (arith, l, lower) in
    let same : get_or css i [] ≡ get_or css j [] = get_or_default css i [] d upper ∙ e ∙ get_or_default css j d [] lower in
    let count = count_same n css h in
    let firsts : get_or (starts n) i zero_matrix ≡ get_or (starts n) j zero_matrix = sym (first_at n css i h upper) ∙ ap (λ ms. member ms 0) same
    ∙ first_at n css j h lower in
    let places : i ≡ j = starts_same n i j (omega (arith, upper, count)) (omega (arith, lower, count)) firsts in
    omega (arith, places, l)

-- ---- in order they are Merel's set
same_matrix : Matrix → Matrix → Bool
same_matrix x y = int_eq x.a y.a && int_eq x.b y.b && int_eq x.c y.c && int_eq x.d y.d

Decides-same_matrix : (x y : Matrix) → Decides (same_matrix x y) (x ≡ y)
unfolding same_matrix
Decides-same_matrix x y = (
  λ e.
      let (three, d) = and_parts (int_eq x.a y.a && int_eq x.b y.b && int_eq x.c y.c) (int_eq x.d y.d) e in
      let (two, c) = and_parts (int_eq x.a y.a && int_eq x.b y.b) (int_eq x.c y.c) three in
      let (a, b) = and_parts (int_eq x.a y.a) (int_eq x.b y.b) two in
      λ t. matrix ((Decides-int_eq x.a y.a).0 a t) ((Decides-int_eq x.b y.b).0 b t) ((Decides-int_eq x.c y.c).0 c t) ((Decides-int_eq x.d y.d).0 d t),
  λ e. and_from (int_eq x.a y.a && int_eq x.b y.b && int_eq x.c y.c) (int_eq x.d y.d)
      (and_from (int_eq x.a y.a && int_eq x.b y.b) (int_eq x.c y.c)
      (and_from (int_eq x.a y.a) (int_eq x.b y.b) ((Decides-int_eq x.a y.a).1 (ap (λ w. w.a) e)) ((Decides-int_eq x.b y.b).1 (ap (λ w. w.b) e)))
      ((Decides-int_eq x.c y.c).1 (ap (λ w. w.c) e)))
      ((Decides-int_eq x.d y.d).1 (ap (λ w. w.d) e)),
)

same_matrix-flips : (x y : Matrix) → same_matrix x y ≡ same_matrix y x
same_matrix-flips x y = same_test (same_matrix x y) (same_matrix y x)
    (λ e. (Decides-same_matrix y x).1 (sym ((Decides-same_matrix x y).0 e)))
    (λ e. (Decides-same_matrix x y).1 (sym ((Decides-same_matrix y x).0 e)))

apart_moved : (xs ys : List Matrix) → IsPermutation xs ys → AllPairs (λ x y. x ≢ y) xs → AllPairs (λ x y. x ≢ y) ys
apart_moved xs ys image_number h = AllPairs-from_IsDistinct Decides-same_matrix ys
    (IsDistinct-IsPermutation same_matrix same_matrix-flips xs ys image_number (IsDistinct-from_AllPairs Decides-same_matrix xs h))

later : (x : Matrix) (xs : List Matrix) (z : Matrix) → Contains xs z → Contains (x ∷ xs) z
later x xs z (k, l, same) = (suc k, omega (arith, l), same)

head_apart : (x : Matrix) (xs : List Matrix) → AllPairs (λ x y. x ≢ y) (x ∷ xs) → Contains xs x → ⊥
head_apart x xs h inside = All-contains (λ y. x ≢ y) xs x (pairs_head (λ x y. x ≢ y) x xs h) inside refl

-- lists of the same matrices, none of them twice, are one another in another order
same_members : (xs ys : List Matrix) → AllPairs (λ x y. x ≢ y) xs → AllPairs (λ x y. x ≢ y) ys →
    ((x : Matrix) → Contains xs x → Contains ys x) → ((x : Matrix) → Contains ys x → Contains xs x) → IsPermutation xs ys
same_members [] [] g h into onto = IsPermutation-refl []
same_members [] (y ∷ ys) g h into onto = absurd (let (k, l, same) = onto y (0, omega arith, refl) in omega (arith, l))
same_members (x ∷ xs) ys g h into onto =
    let (i, l, same) = into x (0, omega arith, refl) in
    let rest = remove ys i in
    let image_number : IsPermutation ys (x ∷ rest) = IsPermutation-remove ys i x l (sym same) in
    let back : IsPermutation (x ∷ rest) ys = IsPermutation-sym ys (x ∷ rest) image_number in
    let apart : AllPairs (λ x y. x ≢ y) (x ∷ rest) = apart_moved ys (x ∷ rest) image_number h in
    IsPermutation-trans (x ∷ xs) (x ∷ rest) ys (IsPermutation-cons x xs rest
    (same_members xs rest (pairs_tail (λ x y. x ≢ y) x xs g) (pairs_tail (λ x y. x ≢ y) x rest apart)
    (λ z inside. elim (contains_cases x rest z (Contains-permutation ys (x ∷ rest) z image_number (into z (later x xs z inside)))) [
      | inl e ↦ absurd (head_apart x xs g (subst (Contains xs) (sym e) inside))
      | inr other ↦ other
    ])
    (λ z inside. elim (contains_cases x xs z (onto z (Contains-permutation (x ∷ rest) ys z back (later x rest z inside)))) [
      | inl e ↦ absurd (head_apart x rest apart (subst (Contains rest) (sym e) inside))
      | inr other ↦ other
    ]))) back

-- all chains in one list are Merel's set in another order
pub chains_permutation : (n : ℕ) (css : List (List Matrix)) → 0 < n → AreChains n css → IsPermutation (flat_map (λ ms. ms) css) (merel_matrices n)
chains_permutation n css some h =
    same_members (flat_map (λ ms. ms) css) (merel_matrices n) (joined_apart n css some h.chains (chains_apart n css h))
    (λ i j d l lower. let rises = merel_rises n (n + 1) (omega arith) i j d l lower in λ e. let same =
    ap (rank (n + 1)) e in omega (arith, rises, same))
    (λ m inside. (Contains-merel_matrices n m).1 (All-contains (IsMerel n) (flat_map (λ ms. ms) css) m
    (All-joined (IsMerel n) css (λ k d u. (h.chains k d u).members)) inside))
    (λ m inside.
    let p = has_place n css m some h ((Contains-merel_matrices n m).0 inside) in
    contains_joined css m p.i p.place.chain (at_place css m p.i p.j p.place))

-- sorted, they are it
pub sorted_is_merel : (n B : ℕ) (css : List (List Matrix)) (ms : List Matrix) → 0 < n → n < B → AreChains n css →
    IsPermutation (flat_map (λ ks. ks) css) ms → IsNonDecreasingBy (rank B) ms → ms ≡ merel_matrices n
sorted_is_merel n B css ms some l h image_number sorted =
    let xs = flat_map (λ ks. ks) css in
    let order : IsPermutation (merel_matrices n) ms = IsPermutation-trans (merel_matrices n) xs ms
    (IsPermutation-sym xs (merel_matrices n) (chains_permutation n css some h)) image_number in
    let here : All (IsMerel n) ms = All-permutation (IsMerel n) (merel_matrices n) ms order (All-merel_matrices n) in
    let apart : AllPairs (λ x y. x ≢ y) ms = apart_moved xs ms image_number (joined_apart n css some h.chains (chains_apart n css h)) in
    rising_same (rank B) ms (merel_matrices n) (rises_from_sorted n B ms l here sorted apart) (merel_rises n B l)
    (λ m inside. Contains-permutation ms (merel_matrices n) m (IsPermutation-sym (merel_matrices n) ms order) inside)
    (λ m inside. Contains-permutation (merel_matrices n) ms m order inside)

-- as a list that holds the chains, in another order
pub joined_is_merel : (n B : ℕ) (list ms : List Matrix) → 0 < n → n < B → JoinsChains n list → IsPermutation list ms → IsNonDecreasingBy (rank B) ms →
    ms ≡ merel_matrices n
joined_is_merel n B list ms some l h image_number sorted = sorted_is_merel n B h.chains ms some l h.are
    (subst (λ xs. IsPermutation xs ms) h.items image_number) sorted
