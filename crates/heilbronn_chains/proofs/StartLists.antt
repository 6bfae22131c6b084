-- The list of the members of Merel's set with b = 0.
use Rattle.std.proofs.Common.{◌≡◌, ◌≢◌, ◌+◌, ◌*◌, ◌/◌, ◌%◌, ◌<◌, ◌≤◌, ℕ, zero, suc, Bool, true, false, cond, List, [], ◌∷◌, ◌++◌, All, refl, sym, ◌∙◌, ap, arith}
use Rattle.std.specs.Prelude.{pos, map, filter}
use Rattle.std.specs.Ordering.{int_eq}
use Rattle.std.specs.List.{range_with_len, flat_map}
use Rattle.std.proofs.Math.Nat.{div-add-mod, mod-lt}
use Rattle.std.proofs.lemmas.Int.{ints}
use Rattle.std.proofs.lemmas.Bool.{false_from_ne_true}
use Rattle.std.proofs.lemmas.Bool.Decides.{Decides-int_eq}
use Rattle.std.proofs.lemmas.List.{append-nil}
use Rattle.std.proofs.lemmas.List.Elements.{All-nil, All-head, All-tail, All-append, All-map, All-filter}
use Rattle.std.proofs.lemmas.List.FromFn.{map-range_with_len_more}
use Rattle.p1_normal.specs.declared.matrix.Matrix.{Matrix}
use Rattle.p1_normal.specs.Actions.{matrix}
use Rattle.heilbronn_sets.specs.Merel.{entries, is_merel, with_three, with_row, with_corner, starts}
use Rattle.heilbronn_sets.proofs.Pieces.{filter-flat_map, flat_map-same, flat_map-range_more, flat_map-range_part}
use Rattle.heilbronn_sets.proofs.Entries.{AreParts}
use Rattle.heilbronn_sets.proofs.Rows.{merel_corners, row_done, row_empty, with_three-one, with_three-rest}

-- ---- filters that keep all, or nothing
filter_all : {X : Type 0} (p : X → Bool) (xs : List X) → All (λ x. p x ≡ true) xs → filter p xs ≡ xs
filter_all p [] h = refl
filter_all p (x ∷ xs) h = ap (λ t. cond t (x ∷ filter p xs) (filter p xs)) (All-head (λ x. p x ≡ true) x xs h)
    ∙ ap (λ ys. x ∷ ys) (filter_all p xs (All-tail (λ x. p x ≡ true) x xs h))

filter_none : {X : Type 0} (p : X → Bool) (xs : List X) → All (λ x. p x ≡ false) xs → filter p xs ≡ []
filter_none p [] h = refl
filter_none p (x ∷ xs) h = ap (λ t. cond t (x ∷ filter p xs) (filter p xs)) (All-head (λ x. p x ≡ false) x xs h)
    ∙ filter_none p xs (All-tail (λ x. p x ≡ false) x xs h)

All-flat_map : {X Y : Type 0} (P : Y → Type 0) (f : X → List Y) → ((x : X) → All P (f x)) → (xs : List X) → All P (flat_map f xs)
All-flat_map P f h [] = All-nil P
All-flat_map P f h (x ∷ xs) = All-append P (f x) (flat_map f xs) (h x) (All-flat_map P f h xs)

-- ---- the rows with b = 0
row_upper : (n a b : ℕ) → All (λ m. m.b ≡ pos b) (with_row n a b)
unfolding with_row
row_upper n a b = All-flat_map (λ m. m.b ≡ pos b) (with_three n a b)
    (λ c. All-filter (is_merel n) (λ m. m.b ≡ pos b) (map (λ d. matrix (pos a) (pos b) (pos c) (pos d)) (entries n))
    (All-map (λ m. m.b ≡ pos b) (λ d. matrix (pos a) (pos b) (pos c) (pos d)) (entries n) (λ k d l. refl))) (entries n)

corner_starts : (n a : ℕ) → filter (λ m. int_eq m.b (pos 0)) (with_corner n a) ≡ with_row n a 0
unfolding with_corner
corner_starts n a =
    filter-flat_map (λ m. int_eq m.b (pos 0)) (with_row n a) (entries n)
    ∙ flat_map-range_part (λ b. filter (λ m. int_eq m.b (pos 0)) (with_row n a b)) 1 (n + 1) (omega arith) others
    ∙ append-nil (filter (λ m. int_eq m.b (pos 0)) (with_row n a 0))
    ∙ filter_all (λ m. int_eq m.b (pos 0)) (with_row n a 0) (λ k d l. (Decides-int_eq _ (pos 0)).1 (row_upper n a 0 k d l))
  where
    others : (j : ℕ) → 1 ≤ j → filter (λ m. int_eq m.b (pos 0)) (with_row n a j) ≡ []
    others j l = filter_none (λ m. int_eq m.b (pos 0)) (with_row n a j)
        (λ k d i. false_from_ne_true _ (λ e. apart j l ((sym (row_upper n a j k d i)) ∙ (Decides-int_eq _ (pos 0)).0 e)))
      where
        apart : (j : ℕ) → 1 ≤ j → pos j ≡ pos 0 → ⊥
        apart j l e = omega (arith, ints, l, e)

-- the starts by their first entries
pub starts_rows : (n : ℕ) → starts n ≡ flat_map (λ a. with_row n a 0) (range_with_len 0 (n + 1))
starts_rows n = ap (filter (λ m. int_eq m.b (pos 0))) (merel_corners n)
    ∙ filter-flat_map (λ m. int_eq m.b (pos 0)) (with_corner n) (range_with_len 0 (n + 1))
    ∙ flat_map-same (λ a. filter (λ m. int_eq m.b (pos 0)) (with_corner n a)) (λ a. with_row n a 0) (corner_starts n) (range_with_len 0 (n + 1))

-- the starts with the diagonal a, d
pub row_starts : (n a d : ℕ) → 0 < a → 0 < n → a * d ≡ n → with_row n a 0 ≡ map (λ c. matrix (pos a) (pos 0) (pos c) (pos d)) (range_with_len 0 d)
row_starts n a d some more e =
    row_done n a 0 d d 0 (within a some e) parts (omega arith) ∙ each d (omega arith)
  where
    parts : {c : ℕ} → AreParts n a 0 c d 0
    parts = record { value = omega (arith, e); below = some }

    within : (a : ℕ) → 0 < a → a * d ≡ n → d ≤ n
    within zero l e = absurd (omega (arith, l))
    within (suc a) l e = omega (arith, e)

    each : (k : ℕ) → k ≤ d → flat_map (with_three n a 0) (range_with_len 0 k) ≡ map (λ c. matrix (pos a) (pos 0) (pos c) (pos d)) (range_with_len 0 k)
    each zero l = refl
    each (suc k) l =
        let i : suc k ≡ k + 1 = omega arith in
        ap (λ m. flat_map (with_three n a 0) (range_with_len 0 m)) i ∙ flat_map-range_more (with_three n a 0) k
        ∙ ap (λ xs. xs ++ with_three n a 0 k) (each k (omega (arith, l)))
        ∙ ap (λ xs. map (λ c. matrix (pos a) (pos 0) (pos c) (pos d)) (range_with_len 0 k) ++ xs)
        (with_three-one n a 0 k d 0 some parts refl (omega (arith, l)))
        ∙ sym (map-range_with_len_more (λ c. matrix (pos a) (pos 0) (pos c) (pos d)) 0 k k (omega arith))
        ∙ ap (λ m. map (λ c. matrix (pos a) (pos 0) (pos c) (pos d)) (range_with_len 0 m)) (sym i)

-- ---- what the code appends
pub lower_more : (a d c : ℕ) (old list new : List Matrix) (m : Matrix) →
    list ≡ old ++ map (λ c. matrix (pos a) (pos 0) (pos c) (pos d)) (range_with_len 0 c) →
    new ≡ list ++ m ∷ [] → m ≡ matrix (pos a) (pos 0) (pos c) (pos d) →
    new ≡ old ++ map (λ c. matrix (pos a) (pos 0) (pos c) (pos d)) (range_with_len 0 (c + 1))
lower_more a d c old list new m e h is =
    h ∙ ap (λ xs. xs ++ m ∷ []) e ∙ joined old (map (λ c. matrix (pos a) (pos 0) (pos c) (pos d)) (range_with_len 0 c)) (m ∷ [])
    ∙ ap (λ w. old ++ (map (λ c. matrix (pos a) (pos 0) (pos c) (pos d)) (range_with_len 0 c) ++ w ∷ [])) is
    ∙ ap (λ xs. old ++ xs) (sym (map-range_with_len_more (λ c. matrix (pos a) (pos 0) (pos c) (pos d)) 0 c c (omega arith)))
  where
    joined : (xs ys zs : List Matrix) → (xs ++ ys) ++ zs ≡ xs ++ (ys ++ zs)
    joined [] ys zs = refl
    joined (x ∷ xs) ys zs = ap (λ us. x ∷ us) (joined xs ys zs)

-- a first entry that does not divide n gives no start
pub row_none : (n a : ℕ) → 0 < a → n % a ≢ 0 → with_row n a 0 ≡ []
unfolding with_row
row_none n a some more = flat_map-range_part (with_three n a 0) 0 (n + 1) (omega arith)
    (λ c l. with_three-rest n a 0 c (n / a) (n % a) (parts c) more)
  where
    parts : (c : ℕ) → AreParts n a 0 c (n / a) (n % a)
    parts c = record { value = omega (arith, div-add-mod n a); below = mod-lt n some }

pub corner_none : (n a : ℕ) (xs : List Matrix) → 0 < a → n % a ≢ 0 → xs ≡ xs ++ with_row n a 0
corner_none n a xs some more = sym (ap (λ ys. xs ++ ys) (row_none n a some more) ∙ append-nil xs)

pub corner_starts_are : (n a : ℕ) → 0 < a → 0 < n → n % a ≡ 0 →
    map (λ c. matrix (pos a) (pos 0) (pos c) (pos (n / a))) (range_with_len 0 (n / a)) ≡ with_row n a 0
corner_starts_are n a some more none = sym (row_starts n a (n / a) some more (omega (arith, div-add-mod n a, none)))

-- before the first entry there is nothing
pub rows_none : (n : ℕ) → [] ≡ flat_map (λ a. with_row n a 0) (range_with_len 0 1)
rows_none n = sym (append-nil (with_row n 0 0) ∙ row_empty n 0 0 (omega arith))

pub rows_more : (n a : ℕ) (list new : List Matrix) → list ≡ flat_map (λ a. with_row n a 0) (range_with_len 0 a) → new ≡ list ++ with_row n a 0 →
    new ≡ flat_map (λ a. with_row n a 0) (range_with_len 0 (a + 1))
rows_more n a list new e h = h ∙ ap (λ xs. xs ++ with_row n a 0) e ∙ sym (flat_map-range_more (λ a. with_row n a 0) a)

pub rows_all : (n a : ℕ) (list : List Matrix) → a ≤ n + 1 → n + 1 ≤ a → list ≡ flat_map (λ a. with_row n a 0) (range_with_len 0 a) → list ≡ starts n
rows_all n a list low high e =
    let all : a ≡ n + 1 = omega arith in
    e ∙ ap (λ k. flat_map (λ a. with_row n a 0) (range_with_len 0 k)) all ∙ sym (starts_rows n)

pub lower_all : (a d c : ℕ) (old new : List Matrix) → c ≤ d → d ≤ c →
    new ≡ old ++ map (λ c. matrix (pos a) (pos 0) (pos c) (pos d)) (range_with_len 0 c) →
    new ≡ old ++ map (λ c. matrix (pos a) (pos 0) (pos c) (pos d)) (range_with_len 0 d)
lower_all a d c old new low high e =
    let all : c ≡ d = omega arith in
    e ∙ ap (λ k. old ++ map (λ c. matrix (pos a) (pos 0) (pos c) (pos d)) (range_with_len 0 k)) all
