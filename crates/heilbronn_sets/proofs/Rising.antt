-- Merel's set rises in the lexicographic order, and so holds no matrix twice.
use Rattle.std.proofs.Common.{◌≡◌, ◌≢◌, ◌+◌, ◌<◌, ℕ, zero, suc, List, [], ◌∷◌, ◌++◌, get_or, All, refl, sym, ◌∙◌, subst, inl, inr, arith}
use Rattle.std.specs.Prelude.{ℤ, pos, ◌<ℤ◌, map}
use Rattle.std.specs.List.{AllPairs, flat_map, range_with_len}
use Rattle.std.proofs.lemmas.Int.{ints}
use Rattle.std.proofs.lemmas.List.Elements.{All-nil, All-append, All-map}
use Rattle.std.proofs.lemmas.List.FromFn.{get_or-range_with_len, length-range_with_len}
use Rattle.std.proofs.lemmas.List.Kept.{AllPairs-cons, AllPairs-filter}
use Rattle.p1_normal.specs.declared.matrix.Matrix.{Matrix}
use Rattle.p1_normal.specs.Actions.{matrix}
use Rattle.heilbronn_sets.specs.Merel.{entries, quadruples, is_merel, merel_matrices}
use Rattle.heilbronn_sets.specs.Order.{IsBefore}
use Rattle.heilbronn_sets.proofs.Members.{All-flat_map}

-- ---- lists that rise piece by piece
module _ {X : Type 0} (R : X → X → Type 0) where
  AllPairs-append : (xs ys : List X) → AllPairs R xs → AllPairs R ys → All (λ x. All (R x) ys) xs → AllPairs R (xs ++ ys)
  AllPairs-append [] ys h k cross = k
  AllPairs-append (x ∷ xs) ys h k cross = AllPairs-cons R x (xs ++ ys)
      (All-append (R x) xs ys (λ j d l. h 0 (suc j) d (omega arith) (omega arith)) (cross 0 x (omega arith)))
      (AllPairs-append xs ys (λ i j d l u. h (suc i) (suc j) d (omega arith) (omega arith)) k (λ j d l. cross (suc j) d (omega arith)))

  -- the images of a range
  module _ (f : ℕ → X) (h : (j k : ℕ) → j < k → R (f j) (f k)) where
    row_above : (a b n : ℕ) → a < b → All (R (f a)) (map f (range_with_len b n))
    row_above a b n l = All-map (R (f a)) f (range_with_len b n) (λ k d u.
        let w : k < n = omega (arith, u, length-range_with_len b n) in
        h a (get_or (range_with_len b n) k d) (omega (arith, get_or-range_with_len b n k d w)))

    pub row_rises : (a n : ℕ) → AllPairs R (map f (range_with_len a n))
    row_rises a zero = λ i j d l u. absurd (omega arith)
    row_rises a (suc n) = AllPairs-cons R (f a) (map f (range_with_len (a + 1) n)) (row_above a (a + 1) n (omega arith)) (row_rises (a + 1) n)

  -- the joined pieces of a range
  module _ (f : ℕ → List X) (each : (k : ℕ) → AllPairs R (f k)) (cross : (j k : ℕ) → j < k → All (λ x. All (R x) (f k)) (f j)) where
    pieces_above : (a b n : ℕ) → a < b → All (λ x. All (R x) (flat_map f (range_with_len b n))) (f a)
    pieces_above a b zero l k d u = All-nil (R (get_or (f a) k d))
    pieces_above a b (suc n) l k d u = All-append (R (get_or (f a) k d)) (f b) (flat_map f (range_with_len (b + 1) n)) (cross a b l k d u)
        (pieces_above a (b + 1) n (omega arith) k d u)

    pub pieces_rise : (a n : ℕ) → AllPairs R (flat_map f (range_with_len a n))
    pieces_rise a zero = λ i j d l u. absurd (omega arith)
    pieces_rise a (suc n) = AllPairs-append (f a) (flat_map f (range_with_len (a + 1) n)) (each a) (pieces_rise (a + 1) n)
        (pieces_above a (a + 1) n (omega arith))

  -- what two lists are apart by
  pub apart : (P Q : X → Type 0) (xs ys : List X) → ((x y : X) → P x → Q y → R x y) → All P xs → All Q ys → All (λ x. All (R x) ys) xs
  apart P Q xs ys h p q = λ k d l j e u. h (get_or xs k d) (get_or ys j e) (p k d l) (q j e u)

-- ---- the quadruples of the first entries a, b, c, of the first row (a, b), and of the first entry a
abbrev of_three : ℕ → ℕ → ℕ → ℕ → List Matrix
of_three n a b c = map (λ d. matrix (pos a) (pos b) (pos c) (pos d)) (entries n)

abbrev of_row : ℕ → ℕ → ℕ → List Matrix
of_row n a b = flat_map (of_three n a b) (entries n)

abbrev of_corner : ℕ → ℕ → List Matrix
of_corner n a = flat_map (of_row n a) (entries n)

three-entries : (n a b c : ℕ) → All (λ m. (m.a ≡ pos a) × (m.b ≡ pos b) × (m.c ≡ pos c)) (of_three n a b c)
three-entries n a b c = All-map (λ m. (m.a ≡ pos a) × (m.b ≡ pos b) × (m.c ≡ pos c)) (λ d. matrix (pos a) (pos b) (pos c) (pos d)) (entries n)
    (λ k d l. (refl, refl, refl))

row-entries : (n a b : ℕ) → All (λ m. (m.a ≡ pos a) × (m.b ≡ pos b)) (of_row n a b)
row-entries n a b = All-flat_map (λ m. (m.a ≡ pos a) × (m.b ≡ pos b)) (of_three n a b)
    (λ c k d l. let e = three-entries n a b c k d l in (e.0, e.1)) (entries n)

corner-entry : (n a : ℕ) → All (λ m. m.a ≡ pos a) (of_corner n a)
corner-entry n a = All-flat_map (λ m. m.a ≡ pos a) (of_row n a) (λ b k d l. (row-entries n a b k d l).0) (entries n)

below : (x y : ℤ) (j k : ℕ) → j < k → x ≡ pos j → y ≡ pos k → x <ℤ y
below x y j k l e g =
    let w : pos j <ℤ pos k = omega (arith, ints) in
    subst (λ u. u <ℤ y) (sym e) (subst (λ u. pos j <ℤ u) (sym g) w)

-- ---- each of them rises
three-rises : (n a b c : ℕ) → AllPairs IsBefore (of_three n a b c)
three-rises n a b c = row_rises IsBefore (λ d. matrix (pos a) (pos b) (pos c) (pos d))
    (λ j k l. inr (refl, inr (refl, inr (refl, below (pos j) (pos k) j k l refl refl)))) 0 (n + 1)

row-rises : (n a b : ℕ) → AllPairs IsBefore (of_row n a b)
row-rises n a b = pieces_rise IsBefore (of_three n a b) (three-rises n a b)
    (λ j k l. apart IsBefore (λ m. (m.a ≡ pos a) × (m.b ≡ pos b) × (m.c ≡ pos j)) (λ m. (m.a ≡ pos a) × (m.b ≡ pos b) × (m.c ≡ pos k))
    (of_three n a b j) (of_three n a b k)
    (λ x y p q. inr (p.0 ∙ sym q.0, inr (p.1 ∙ sym q.1, inl (below x.c y.c j k l p.2 q.2)))) (three-entries n a b j) (three-entries n a b k)) 0 (n + 1)

corner-rises : (n a : ℕ) → AllPairs IsBefore (of_corner n a)
corner-rises n a = pieces_rise IsBefore (of_row n a) (row-rises n a)
    (λ j k l. apart IsBefore (λ m. (m.a ≡ pos a) × (m.b ≡ pos j)) (λ m. (m.a ≡ pos a) × (m.b ≡ pos k)) (of_row n a j) (of_row n a k)
    (λ x y p q. inr (p.0 ∙ sym q.0, inl (below x.b y.b j k l p.1 q.1))) (row-entries n a j) (row-entries n a k)) 0 (n + 1)

quadruples-rise : (n : ℕ) → AllPairs IsBefore (quadruples n)
unfolding quadruples
quadruples-rise n = pieces_rise IsBefore (of_corner n) (corner-rises n)
    (λ j k l. apart IsBefore (λ m. m.a ≡ pos j) (λ m. m.a ≡ pos k) (of_corner n j) (of_corner n k)
    (λ x y p q. inl (below x.a y.a j k l p q)) (corner-entry n j) (corner-entry n k)) 0 (n + 1)

-- ---- and so does Merel's set
pub merel-rising : (n : ℕ) → AllPairs IsBefore (merel_matrices n)
unfolding merel_matrices
merel-rising n = AllPairs-filter IsBefore (is_merel n) (quadruples n) (quadruples-rise n)

-- no matrix comes before itself
never_before : (m : Matrix) → IsBefore m m → ⊥
never_before m h = elim h [
  | inl a ↦ omega (arith, ints, a)
  | inr (ea, hb) ↦ elim hb [
    | inl b ↦ omega (arith, ints, b)
    | inr (eb, hc) ↦ elim hc [
      | inl c ↦ omega (arith, ints, c)
      | inr (ec, d) ↦ omega (arith, ints, d)
    ]
  ]
]

pub merel-once : (n : ℕ) → AllPairs (λ m k. m ≢ k) (merel_matrices n)
merel-once n i j d l u same =
    never_before (get_or (merel_matrices n) j d) (subst (λ m. IsBefore m (get_or (merel_matrices n) j d)) same (merel-rising n i j d l u))
