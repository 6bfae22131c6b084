-- The parts of Merel's set by first entries.
use Rattle.std.proofs.Common.{◌≡◌, ◌≢◌, ◌+◌, ◌*◌, ◌<◌, ◌≤◌, ℕ, true, false, List, [], ◌∷◌, ◌++◌, refl, sym, ◌∙◌, ap, arith, ◌&&◌}
use Rattle.std.specs.Prelude.{ℤ, pos, ◌<ℤ◌, map, filter, int_lt}
use Rattle.std.specs.Ordering.{int_eq}
use Rattle.std.specs.List.{range_with_len, flat_map}
use Rattle.std.specs.Int.{w32, cast_signed}
use Rattle.std.proofs.lemmas.Int.{ints, to_z_pos}
use Rattle.std.proofs.lemmas.Bool.{and_from, and_parts, false_from_ne_true, true_from_ne_false}
use Rattle.std.proofs.lemmas.Bool.Decides.{Decides-int_eq}
use Rattle.p1_normal.specs.declared.matrix.Matrix.{Matrix}
use Rattle.p1_normal.specs.declared.matrix.TheConstants.{MAX_DET}
use Rattle.p1_normal.specs.Actions.{matrix, determinant}
use Rattle.std.proofs.lemmas.List.{append-nil}
use Rattle.heilbronn_sets.specs.Merel.{entries, quadruples, is_merel, merel_matrices, with_three, with_row, with_corner}
use Rattle.heilbronn_sets.proofs.Pieces.{filter-flat_map, flat_map-same, flat_map-range_more, flat_map-range_part, filter-range_none, filter-range_one}
use Rattle.heilbronn_sets.proofs.Entries.{AreEntries, AreParts, quotient_le, last_is, rest_is, none_past}

-- the three tests
pub record Passes (n : ℕ) (m : Matrix) : Type 0 where
  pub left : m.b <ℤ m.a
  pub right : m.c <ℤ m.d
  pub value : determinant m ≡ pos n

-- what the test of an order says, and where it passes
lt_true : (x y : ℤ) → int_lt x y ≡ true → x <ℤ y
lt_true x y e = omega (arith, ints)

lt_from : (x y : ℤ) → x <ℤ y → int_lt x y ≡ true
lt_from x y l = true_from_ne_false (int_lt x y) (λ e. omega (arith, ints, l))

-- the test of Merel's set is the three tests
pub passes : (n : ℕ) (m : Matrix) → is_merel n m ≡ true → Passes n m
passes n m e =
    let (order, value) = and_parts (int_lt m.b m.a && int_lt m.c m.d) (int_eq (determinant m) (pos n)) e in
    let (left, right) = and_parts (int_lt m.b m.a) (int_lt m.c m.d) order in
    record { left = lt_true m.b m.a left; right = lt_true m.c m.d right; value = (Decides-int_eq (determinant m) (pos n)).0 value }

pub passes_from : (n : ℕ) (m : Matrix) → Passes n m → is_merel n m ≡ true
passes_from n m h = and_from (int_lt m.b m.a && int_lt m.c m.d) (int_eq (determinant m) (pos n))
    (and_from (int_lt m.b m.a) (int_lt m.c m.d) (lt_from m.b m.a h.left) (lt_from m.c m.d h.right))
    ((Decides-int_eq (determinant m) (pos n)).1 h.value)

-- the tests at natural entries
pub passes_entries : (n a b c d : ℕ) → Passes n (matrix (pos a) (pos b) (pos c) (pos d)) → AreEntries n a b c d
passes_entries n a b c d h = record { left = omega (arith, ints, h.left); right = omega (arith, ints, h.right); value = omega (arith, ints, h.value) }

pub entries_pass : (n a b c d : ℕ) → AreEntries n a b c d → Passes n (matrix (pos a) (pos b) (pos c) (pos d))
entries_pass n a b c d h = record { left = omega (arith, ints, h.left); right = omega (arith, ints, h.right); value = omega (arith, ints, h.value) }

-- the test of Merel's set at natural entries: what it says, where it passes and where it fails
pub merel_entries : (n a b c d : ℕ) → is_merel n (matrix (pos a) (pos b) (pos c) (pos d)) ≡ true → AreEntries n a b c d
merel_entries n a b c d e = passes_entries n a b c d (passes n (matrix (pos a) (pos b) (pos c) (pos d)) e)

pub merel_from : (n a b c d : ℕ) → AreEntries n a b c d → is_merel n (matrix (pos a) (pos b) (pos c) (pos d)) ≡ true
merel_from n a b c d h = passes_from n (matrix (pos a) (pos b) (pos c) (pos d)) (entries_pass n a b c d h)

pub merel_fails : (n a b c d : ℕ) → (AreEntries n a b c d → ⊥) → is_merel n (matrix (pos a) (pos b) (pos c) (pos d)) ≡ false
merel_fails n a b c d h = false_from_ne_true (is_merel n (matrix (pos a) (pos b) (pos c) (pos d))) (λ e. h (merel_entries n a b c d e))

-- where the quotient leaves nothing and is above c, it gives the one matrix
pub with_three-one : (n a b c q r : ℕ) → b < a → AreParts n a b c q r → r ≡ 0 → c < q
    → with_three n a b c ≡ matrix (pos a) (pos b) (pos c) (pos q) ∷ []
with_three-one n a b c q r l h none m =
    let small : q ≤ n = quotient_le n a b c q r l m h in
    let v : a * q ≡ n + b * c = omega (arith, h.value) in
    filter-range_one (is_merel n) (λ d. matrix (pos a) (pos b) (pos c) (pos d)) q (n + 1) (omega arith)
    (merel_from n a b c q (record { left = l; right = m; value = v }))
    (λ d other. merel_fails n a b c d (λ k. other (last_is n a b c d q r h k)))

-- and otherwise none
pub with_three-none : (n a b c : ℕ) → ((d : ℕ) → AreEntries n a b c d → ⊥) → with_three n a b c ≡ []
with_three-none n a b c h = filter-range_none (is_merel n) (λ d. matrix (pos a) (pos b) (pos c) (pos d)) (n + 1) (λ d. merel_fails n a b c d (h d))

-- as where the quotient leaves a remainder
pub with_three-rest : (n a b c q r : ℕ) → AreParts n a b c q r → r ≢ 0 → with_three n a b c ≡ []
with_three-rest n a b c q r h some = with_three-none n a b c (λ d k. some (rest_is n a b c d q r h k))

-- the row is done where the quotient is at most c
pub row_done : (n a b c q r : ℕ) → c ≤ n → AreParts n a b c q r → q ≤ c → with_row n a b ≡ flat_map (with_three n a b) (range_with_len 0 c)
unfolding with_row
row_done n a b c q r small h l = flat_map-range_part (with_three n a b) c (n + 1) (omega arith)
    (λ e m. with_three-none n a b e (λ d k. none_past n a b c q r e d h l m k))

-- a row with b at or above a is empty
pub row_empty : (n a b : ℕ) → a ≤ b → with_row n a b ≡ []
unfolding with_row
row_empty n a b l = flat_map-range_part (with_three n a b) 0 (n + 1) (omega arith)
    (λ c m. with_three-none n a b c (λ d k. let e = k.left in omega arith))

-- the rows with b below a are all
pub corner_done : (n a : ℕ) → a ≤ n → with_corner n a ≡ flat_map (with_row n a) (range_with_len 0 a)
unfolding with_corner
corner_done n a l = flat_map-range_part (with_row n a) a (n + 1) (omega arith) (λ b m. row_empty n a b m)

-- the corner 0 is empty
pub corner_zero : (n : ℕ) → with_corner n 0 ≡ []
corner_zero n = corner_done n 0 (omega arith)

-- Merel's set by its first entries
pub merel_corners : (n : ℕ) → merel_matrices n ≡ flat_map (with_corner n) (range_with_len 0 (n + 1))
unfolding merel_matrices quadruples with_row with_corner
merel_corners n =
    filter-flat_map (is_merel n) (λ a. flat_map (λ b. flat_map (λ c. map (λ d. matrix (pos a) (pos b) (pos c) (pos d)) (entries n)) (entries n))
    (entries n)) (entries n)
    ∙ flat_map-same (λ a. filter (is_merel n) (flat_map (λ b. flat_map (λ c. map (λ d. matrix (pos a) (pos b) (pos c) (pos d)) (entries n))
    (entries n)) (entries n))) (with_corner n) corner (entries n)
  where
    row : (a b : ℕ) → filter (is_merel n) (flat_map (λ c. map (λ d. matrix (pos a) (pos b) (pos c) (pos d)) (entries n)) (entries n)) ≡ with_row n a b
    row a b = filter-flat_map (is_merel n) (λ c. map (λ d. matrix (pos a) (pos b) (pos c) (pos d)) (entries n)) (entries n)

    corner : (a : ℕ) → filter (is_merel n) (flat_map (λ b. flat_map (λ c. map (λ d. matrix (pos a) (pos b) (pos c) (pos d)) (entries n)) (entries n))
        (entries n)) ≡ with_corner n a
    corner a = filter-flat_map (is_merel n) (λ b. flat_map (λ c. map (λ d. matrix (pos a) (pos b) (pos c) (pos d)) (entries n)) (entries n))
        (entries n)
        ∙ flat_map-same (λ b. filter (is_merel n) (flat_map (λ c. map (λ d. matrix (pos a) (pos b) (pos c) (pos d)) (entries n)) (entries n)))
        (with_row n a) (row a) (entries n)

-- a list grows by a piece
pub pieces_more : (f : ℕ → List Matrix) (c : ℕ) (old new xs : List Matrix) → new ≡ old ++ flat_map f (range_with_len 0 c) → f c ≡ xs
    → new ++ xs ≡ old ++ flat_map f (range_with_len 0 (c + 1))
pieces_more f c old new xs e h =
    ap (λ ys. ys ++ xs) e ∙ ap (λ ys. (old ++ flat_map f (range_with_len 0 c)) ++ ys) (sym h) ∙ joined old (flat_map f (range_with_len 0 c)) (f c)
    ∙ ap (λ ys. old ++ ys) (sym (flat_map-range_more f c))
  where
    joined : (xs ys zs : List Matrix) → (xs ++ ys) ++ zs ≡ xs ++ (ys ++ zs)
    joined [] ys zs = refl
    joined (x ∷ xs) ys zs = ap (λ us. x ∷ us) (joined xs ys zs)

-- numbers of at most the limit keep their values as signed entries
pub signed_entries : (a b c d : ℕ) → a ≤ MAX_DET → b ≤ MAX_DET → c ≤ MAX_DET → d ≤ MAX_DET →
    matrix (cast_signed w32 a) (cast_signed w32 b) (cast_signed w32 c) (cast_signed w32 d) ≡ matrix (pos a) (pos b) (pos c) (pos d)
signed_entries a b c d h k l m =
    ap (λ z. matrix z (cast_signed w32 b) (cast_signed w32 c) (cast_signed w32 d)) (to_z_pos w32 a (omega arith))
    ∙ ap (λ z. matrix (pos a) z (cast_signed w32 c) (cast_signed w32 d)) (to_z_pos w32 b (omega arith))
    ∙ ap (λ z. matrix (pos a) (pos b) z (cast_signed w32 d)) (to_z_pos w32 c (omega arith))
    ∙ ap (λ z. matrix (pos a) (pos b) (pos c) z) (to_z_pos w32 d (omega arith))

-- the list grows by the one matrix of a, b and c
pub one_more : (n a b c q r : ℕ) (old list new : List Matrix) (m : Matrix) → n ≤ MAX_DET → (b < a) × (a ≤ n) → AreParts n a b c q r → r ≡ 0 → c < q →
    list ≡ old ++ flat_map (with_three n a b) (range_with_len 0 c) → m
    ≡ matrix (cast_signed w32 a) (cast_signed w32 b) (cast_signed w32 c) (cast_signed w32 q) → new ≡ list ++ m ∷ [] →
    new ≡ old ++ flat_map (with_three n a b) (range_with_len 0 (c + 1))
one_more n a b c q r old list new m few row h none l e is pushed =
    let small : q ≤ n = quotient_le n a b c q r row.0 l h in
    let f = row.0 in
    let g = row.1 in
    pushed ∙ ap (λ k. list ++ k ∷ []) (is ∙ signed_entries a b c q (omega arith) (omega arith) (omega arith) (omega arith))
    ∙ pieces_more (with_three n a b) c old list (matrix (pos a) (pos b) (pos c) (pos q) ∷ []) e (with_three-one n a b c q r row.0 h none l)

-- or by none where a remainder is left
pub none_more : (n a b c q r : ℕ) (old list : List Matrix) → AreParts n a b c q r → r ≢ 0
    → list ≡ old ++ flat_map (with_three n a b) (range_with_len 0 c) → list ≡ old ++ flat_map (with_three n a b) (range_with_len 0 (c + 1))
none_more n a b c q r old list h some e = sym (append-nil list) ∙ pieces_more (with_three n a b) c old list [] e (with_three-rest n a b c q r h some)

-- before the first corner there is nothing
pub corners_none : (n : ℕ) → [] ≡ flat_map (with_corner n) (range_with_len 0 1)
corners_none n = sym (append-nil (with_corner n 0) ∙ corner_zero n)

-- behind all rows of a corner nothing of it is left
pub corner_all : (n a b : ℕ) (old new : List Matrix) → a ≤ n → b ≤ a → a ≤ b → new ≡ old ++ flat_map (with_row n a) (range_with_len 0 b)
    → new ≡ old ++ with_corner n a
corner_all n a b old new l low high e =
    let all : b ≡ a = omega arith in
    e ∙ ap (λ k. old ++ flat_map (with_row n a) (range_with_len 0 k)) all ∙ ap (λ xs. old ++ xs) (sym (corner_done n a l))

-- and all corners are Merel's set
pub corners_all : (n a : ℕ) (list : List Matrix) → a ≤ n + 1 → n + 1 ≤ a → list ≡ flat_map (with_corner n) (range_with_len 0 a)
    → list ≡ merel_matrices n
corners_all n a list low high e =
    let all : a ≡ n + 1 = omega arith in
    e ∙ ap (λ k. flat_map (with_corner n) (range_with_len 0 k)) all ∙ sym (merel_corners n)
