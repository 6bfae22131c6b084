-- Rising lists of matrices: Merel's set rises, and a rising list is determined by its elements.
use Rattle.std.proofs.Common.{◌≡◌, ◌≢◌, ◌+◌, ◌*◌, ◌<◌, ◌≤◌, ◌⊎◌, ℕ, zero, suc, List, [], ◌∷◌, ◌++◌, get_or, All, refl, sym, ◌∙◌, ap, subst, inl, inr, arith}
use Rattle.std.specs.Prelude.{pos, map}
use Rattle.std.specs.List.{range_with_len, flat_map, Contains, AllPairs}
use Rattle.std.specs.List.Sorted.{IsNonDecreasingBy}
use Rattle.std.proofs.lemmas.Bool.{cases_lt}
use Rattle.std.proofs.Math.Nat.{mul-le-mul_right}
use Rattle.std.proofs.lemmas.Nat.{same_from_place}
use Rattle.std.proofs.lemmas.List.Elements.{All-nil, All-cons, All-head, All-tail, All-append, All-contains}
use Rattle.std.proofs.lemmas.List.Concat.{flat_map_single}
use Rattle.std.proofs.lemmas.List.Kept.{AllPairs-cons, AllPairs-filter}
use Rattle.p1_normal.specs.declared.matrix.Matrix.{Matrix}
use Rattle.p1_normal.specs.Actions.{matrix}
use Rattle.heilbronn_sets.specs.Merel.{entries, quadruples, is_merel, merel_matrices, IsMerel}
use Rattle.heilbronn_sets.proofs.Pieces.{flat_map-range_more}
use Rattle.heilbronn_sets.proofs.Entries.{entries_sum}
use Rattle.heilbronn_sets.proofs.Members.{member_entries}
use Rattle.heilbronn_chains.specs.Order.{rank}

-- ---- pairs of a joined list
pairs_nil : {X : Type 0} (R : X → X → Type 0) → AllPairs R []
pairs_nil R = λ i j d l lower. absurd (omega (arith, lower))

pub pairs_head : {X : Type 0} (R : X → X → Type 0) (x : X) (xs : List X) → AllPairs R (x ∷ xs) → All (R x) xs
pairs_head R x xs h = λ k d l. h 0 (suc k) d (omega arith) (omega (arith, l))

pub pairs_tail : {X : Type 0} (R : X → X → Type 0) (x : X) (xs : List X) → AllPairs R (x ∷ xs) → AllPairs R xs
pairs_tail R x xs h = λ i j d l lower. h (suc i) (suc j) d (omega (arith, l)) (omega (arith, lower))

pub AllPairs-append : {X : Type 0} (R : X → X → Type 0) (xs ys : List X) → AllPairs R xs → AllPairs R ys → All (λ x. All (R x) ys) xs →
    AllPairs R (xs ++ ys)
AllPairs-append R [] ys g h apart = h
AllPairs-append R (x ∷ xs) ys g h apart =
    AllPairs-cons R x (xs ++ ys) (All-append (R x) xs ys (pairs_head R x xs g) (All-head (λ x. All (R x) ys) x xs apart))
    (AllPairs-append R xs ys (pairs_tail R x xs g) h (All-tail (λ x. All (R x) ys) x xs apart))

-- ---- a rising list is determined by its elements
pub contains_cases : {X : Type 0} (y : X) (ys : List X) (x : X) → Contains (y ∷ ys) x → (y ≡ x) ⊎ Contains ys x
contains_cases y ys x (zero, l, same) = inl same
contains_cases y ys x (suc k, l, same) = inr (k, omega (arith, l), same)

pub rising_same : {X : Type 0} (r : X → ℕ) (xs ys : List X) → AllPairs (λ x y. r x < r y) xs → AllPairs (λ x y. r x < r y) ys →
    ((x : X) → Contains xs x → Contains ys x) → ((x : X) → Contains ys x → Contains xs x) → xs ≡ ys
rising_same r [] [] g h into onto = refl
rising_same r [] (y ∷ ys) g h into onto = absurd (let (k, l, same) = onto y (0, omega arith, refl) in omega (arith, l))
rising_same r (x ∷ xs) [] g h into onto = absurd (let (k, l, same) = into x (0, omega arith, refl) in omega (arith, l))
rising_same {X} r (x ∷ xs) (y ∷ ys) g h into onto =
    ap (λ z. z ∷ xs) heads ∙ ap (λ zs. y ∷ zs) (rising_same r xs ys (pairs_tail (λ x y. r x < r y) x xs g) (pairs_tail (λ x y. r x < r y) y ys h)
    (λ z inside. elim (contains_cases y ys z (into z (later x xs z inside))) [
      | inl same ↦ absurd (let above = above_x z inside in let e = ap r (heads ∙ same) in omega (arith, above, e))
      | inr found ↦ found
    ])
    (λ z inside. elim (contains_cases x xs z (onto z (later y ys z inside))) [
      | inl same ↦ absurd (let above = above_y z inside in let e = ap r (sym heads ∙ same) in omega (arith, above, e))
      | inr found ↦ found
    ]))
  where
    later : (w : X) (ws : List X) (z : X) → Contains ws z → Contains (w ∷ ws) z
    later w ws z (k, l, same) = (suc k, omega (arith, l), same)

    above_x : (z : X) → Contains xs z → r x < r z
    above_x z inside = All-contains (λ z. r x < r z) xs z (pairs_head (λ x y. r x < r y) x xs g) inside

    above_y : (z : X) → Contains ys z → r y < r z
    above_y z inside = All-contains (λ z. r y < r z) ys z (pairs_head (λ x y. r x < r y) y ys h) inside

    heads : x ≡ y
    heads = elim (contains_cases y ys x (into x (0, omega arith, refl))) [
      | inl same ↦ sym same
      | inr inside ↦ elim (contains_cases x xs y (onto y (0, omega arith, refl))) [
        | inl same ↦ same
        | inr other ↦ absurd (let one = above_y x inside in let two = above_x y other in omega (arith, one, two))
      ]
    ]

-- ---- lists that rise from low up to high
record Rises {X : Type 0} (r : X → ℕ) (low high : ℕ) (xs : List X) : Type 0 where
  pairs : AllPairs (λ x y. r x < r y) xs
  from : All (λ x. low ≤ r x) xs
  below : All (λ x. r x < high) xs

rises_append : {X : Type 0} (r : X → ℕ) (low middle high : ℕ) (xs ys : List X) → low ≤ middle → middle ≤ high → Rises r low middle xs →
    Rises r middle high ys → Rises r low high (xs ++ ys)
rises_append r low middle high xs ys l m g h = record {
  pairs = AllPairs-append (λ x y. r x < r y) xs ys g.pairs h.pairs (λ i d u. λ j e v. let one = g.below i d u in let two =
      h.from j e v in omega (arith, one, two));
  from = All-append (λ x. low ≤ r x) xs ys g.from (λ k d u. let one = h.from k d u in omega (arith, one, l));
  below = All-append (λ x. r x < high) xs ys (λ k d u. let one = g.below k d u in omega (arith, one, m)) h.below;
}

rises_wider : {X : Type 0} (r : X → ℕ) (low high more : ℕ) (xs : List X) → high ≤ more → Rises r low high xs → Rises r low more xs
rises_wider r low high more xs l h = record { pairs = h.pairs; from = h.from; below = λ k d u. let one = h.below k d u in omega (arith, one, l) }

-- joined pieces of one width
rises_joined : {X : Type 0} (r : X → ℕ) (f : ℕ → List X) (base width : ℕ) → ((a : ℕ) → Rises r (base + a * width) (base + (a + 1) * width) (f a)) →
    (k : ℕ) → Rises r base (base + k * width) (flat_map f (range_with_len 0 k))
rises_joined r f base width h zero = record {
  pairs = pairs_nil (λ x y. r x < r y);
  from = All-nil (λ x. base ≤ r x);
  below =
      All-nil (λ x. r x < base + 0 * width);
}
rises_joined r f base width h (suc k) =
    let e : suc k ≡ k + 1 = omega arith in
    subst (λ m. Rises r base (base + m * width) (flat_map f (range_with_len 0 m))) (sym e)
    (subst (Rises r base (base + (k + 1) * width)) (sym (flat_map-range_more f k))
    (rises_append r base (base + k * width) (base + (k + 1) * width) (flat_map f (range_with_len 0 k)) (f k) (omega arith) (omega arith)
    (rises_joined r f base width h k) (h k)))

rises_one : {X : Type 0} (r : X → ℕ) (low high : ℕ) (x : X) → low ≤ r x → r x < high → Rises r low high (x ∷ [])
rises_one r low high x l m = record {
  pairs = AllPairs-cons (λ x y. r x < r y) x [] (All-nil (λ y. r x < r y)) (pairs_nil (λ x y. r x < r y));
  from = All-cons (λ x. low ≤ r x) x [] l (All-nil (λ x. low ≤ r x));
  below = All-cons (λ x. r x < high) x [] m (All-nil (λ x. r x < high));
}

-- ---- the quadruples rise
quadruples_rise : (n B : ℕ) → n < B → Rises (rank B) 0 (0 + (n + 1) * (B * (B * B))) (quadruples n)
unfolding quadruples
quadruples_rise n B l =
    rises_joined (rank B) (λ a. flat_map (λ b. flat_map (λ c. map (λ d. matrix (pos a) (pos b) (pos c) (pos d)) (entries n)) (entries n)) (entries n))
    0 (B * (B * B)) corner (n + 1)
  where
    last : (a b c k : ℕ) → Rises (rank B) (((a * B + b) * B + c) * B) (((a * B + b) * B + c) * B + k * 1)
        (map (λ d. matrix (pos a) (pos b) (pos c) (pos d)) (range_with_len 0 k))
    last a b c k = subst (Rises (rank B) (((a * B + b) * B + c) * B) (((a * B + b) * B + c) * B + k * 1))
        (flat_map_single (λ d. matrix (pos a) (pos b) (pos c) (pos d)) (range_with_len 0 k))
        (rises_joined (rank B) (λ d. matrix (pos a) (pos b) (pos c) (pos d) ∷ []) (((a * B + b) * B + c) * B) 1
        (λ d. rises_one (rank B) (((a * B + b) * B + c) * B + d * 1) (((a * B + b) * B + c) * B + (d + 1) * 1)
        (matrix (pos a) (pos b) (pos c) (pos d)) (omega arith) (omega arith)) k)

    piece : (a b c : ℕ) → Rises (rank B) ((a * B + b) * (B * B) + c * B) ((a * B + b) * (B * B) + (c + 1) * B)
        (map (λ d. matrix (pos a) (pos b) (pos c) (pos d)) (entries n))
    piece a b c =
        let e : ((a * B + b) * B + c) * B ≡ (a * B + b) * (B * B) + c * B = omega arith in
        subst (λ low. Rises (rank B) low ((a * B + b) * (B * B) + (c + 1) * B) (map (λ d. matrix (pos a) (pos b) (pos c) (pos d)) (entries n))) e
        (rises_wider (rank B) (((a * B + b) * B + c) * B) (((a * B + b) * B + c) * B + (n + 1) * 1) ((a * B + b) * (B * B) + (c + 1) * B)
        (map (λ d. matrix (pos a) (pos b) (pos c) (pos d)) (entries n)) (omega (arith, l)) (last a b c (n + 1)))

    row : (a b : ℕ) → Rises (rank B) (a * (B * (B * B)) + b * (B * B)) (a * (B * (B * B)) + (b + 1) * (B * B))
        (flat_map (λ c. map (λ d. matrix (pos a) (pos b) (pos c) (pos d)) (entries n)) (entries n))
    row a b =
        let e : (a * B + b) * (B * B) ≡ a * (B * (B * B)) + b * (B * B) = omega arith in
        subst (λ low. Rises (rank B) low (a * (B * (B * B)) + (b + 1) * (B * B))
        (flat_map (λ c. map (λ d. matrix (pos a) (pos b) (pos c) (pos d)) (entries n)) (entries n))) e
        (rises_wider (rank B) ((a * B + b) * (B * B)) ((a * B + b) * (B * B) + (n + 1) * B) (a * (B * (B * B)) + (b + 1) * (B * B))
        (flat_map (λ c. map (λ d. matrix (pos a) (pos b) (pos c) (pos d)) (entries n)) (entries n))
        (omega (arith, wide))
        (rises_joined (rank B) (λ c. map (λ d. matrix (pos a) (pos b) (pos c) (pos d)) (entries n)) ((a * B + b) * (B * B)) B (piece a b) (n + 1)))
      where
        wide : (n + 1) * B ≤ B * B
        wide = mul-le-mul_right B (omega arith)

    corner : (a : ℕ) → Rises (rank B) (0 + a * (B * (B * B))) (0 + (a + 1) * (B * (B * B)))
        (flat_map (λ b. flat_map (λ c. map (λ d. matrix (pos a) (pos b) (pos c) (pos d)) (entries n)) (entries n)) (entries n))
    corner a =
        let e : a * (B * (B * B)) ≡ 0 + a * (B * (B * B)) = omega arith in
        subst (λ low. Rises (rank B) low (0 + (a + 1) * (B * (B * B)))
        (flat_map (λ b. flat_map (λ c. map (λ d. matrix (pos a) (pos b) (pos c) (pos d)) (entries n)) (entries n)) (entries n))) e
        (rises_wider (rank B) (a * (B * (B * B))) (a * (B * (B * B)) + (n + 1) * (B * B)) (0 + (a + 1) * (B * (B * B)))
        (flat_map (λ b. flat_map (λ c. map (λ d. matrix (pos a) (pos b) (pos c) (pos d)) (entries n)) (entries n)) (entries n))
        (omega (arith, wide))
        (rises_joined (rank B) (λ b. flat_map (λ c. map (λ d. matrix (pos a) (pos b) (pos c) (pos d)) (entries n)) (entries n)) (a * (B * (B * B)))
        (B * B) (row a) (n + 1)))
      where
        wide : (n + 1) * (B * B) ≤ B * (B * B)
        wide = mul-le-mul_right (B * B) (omega arith)

-- Merel's set rises
pub merel_rises : (n B : ℕ) → n < B → AllPairs (λ x y. rank B x < rank B y) (merel_matrices n)
unfolding merel_matrices
merel_rises n B l = AllPairs-filter (λ x y. rank B x < rank B y) (is_merel n) (quadruples n) (quadruples_rise n B l).pairs

-- members of one rank are one
pub rank_injective : (n B : ℕ) (m k : Matrix) → n < B → IsMerel n m → IsMerel n k → rank B m ≡ rank B k → m ≡ k
rank_injective n B m k l g h e =
    let x = member_entries n m g in
    let y = member_entries n k h in
    let sum = entries_sum n x.a x.b x.c x.d x.entries in
    let other = entries_sum n y.a y.b y.c y.d y.entries in
    let left = x.entries.left in
    let right = x.entries.right in
    let upper = y.entries.left in
    let lower = y.entries.right in
    let f : ((x.a * B + x.b) * B + x.c) * B + x.d ≡ ((y.a * B + y.b) * B + y.c) * B + y.d = sym (ap (rank B) x.is) ∙ e ∙ ap (rank B) y.is in
    let (three, d) = same_from_place ((x.a * B + x.b) * B + x.c) x.d ((y.a * B + y.b) * B + y.c) y.d B (omega (arith, sum, left, l))
    (omega (arith, other, upper, l)) f in
    let (two, c) = same_from_place (x.a * B + x.b) x.c (y.a * B + y.b) y.c B (omega (arith, sum, right, l)) (omega (arith, other, lower, l)) three in
    let (a, b) = same_from_place x.a x.b y.a y.b B (omega (arith, sum, left, right, l)) (omega (arith, other, upper, lower, l)) two in
    x.is ∙ (λ t. matrix (pos (a t)) (pos (b t)) (pos (c t)) (pos (d t))) ∙ sym y.is

-- members in order, none of them twice, rise
pub rises_from_sorted : (n B : ℕ) (ms : List Matrix) → n < B → All (IsMerel n) ms → IsNonDecreasingBy (rank B) ms → AllPairs (λ x y. x ≢ y) ms →
    AllPairs (λ x y. rank B x < rank B y) ms
rises_from_sorted n B ms l all sorted apart = λ i j d lower within. elim (cases_lt (rank B (get_or ms i d)) (rank B (get_or ms j d))) [
  | inl less ↦ less
  | inr more ↦
      let most = sorted i j d (omega (arith, lower)) within in
      absurd (apart i j d lower within (rank_injective n B (get_or ms i d) (get_or ms j d) l (all i d (omega (arith, lower, within))) (all j d within)
      (omega (arith, more, most))))
]
