-- The way from each end x / z, of integers x and z. It depends on the end alone, and each integer matrix of determinant 1 joins the ways of its
-- two columns (`joins_all`).
use Rattle.std.proofs.Common.{◌≡◌, ◌+◌, ◌-◌, ◌*◌, ◌<◌, ◌≤◌, ℕ, zero, suc, length, refl, sym, ◌∙◌, ap, subst, inl, inr, arith}
use Rattle.std.specs.Prelude.{ℤ, pos, negsuc, neg_ℤ, ◌+ℤ◌, ◌-ℤ◌, ◌*ℤ◌}
use Rattle.std.proofs.lemmas.Int.{ints}
use Rattle.std.proofs.lemmas.Bool.{cases_lt}
use Rattle.linear_algebra.specs.Vector.{Vector, ◌⊞◌, zeros}
use Rattle.linear_algebra.specs.Coordinates.{unit}
use Rattle.linear_algebra.proofs.Vectors.{zeros-plus, plus_comm, plus_assoc}
use Rattle.p1_normal.specs.declared.matrix.Matrix.{Matrix}
use Rattle.p1_normal.specs.Points.{symbols}
use Rattle.p1_normal.specs.Actions.{matrix, product, determinant, image_number, matrix_s}
use Rattle.heilbronn_chains.proofs.Integers.{is_gap, pos_gap, neg_gap, gaps, gap_same}
use Rattle.merel_theorem.proofs.Terms.{by_s, by_u, by_v, s-lt, same_matrix, moved, moved-lt, by_opposite, pair}
use Rattle.merel_theorem.proofs.Ways.{way, way_end, way_zero, way_over, way_under, joined, positive_lower, positive_upper}
use Rattle.merel_theorem.specs.Ways.{Ways}
use Rattle.merel_theorem.proofs.Classes.{Same, same_by, same_from, same_left, same_refl, same_right, same_sym, same_trans}

-- the way from x / z: where the signs differ, S takes it from a / c with natural a and c
pub toward : {p : ℕ} → ℕ → ℤ → ℤ → ℕ → Vector p
toward N (pos a) (pos c) y = way N a c y
toward N (negsuc a) (negsuc c) y = way N (suc a) (suc c) y
toward N (pos zero) (negsuc c) y = way N 0 (suc c) y
toward N (pos (suc a)) (negsuc c) y = way N (suc c) (suc a) (by_s N y) ⊞ unit y
toward N (negsuc a) (pos zero) y = way N (suc a) 0 y
toward N (negsuc a) (pos (suc c)) y = way N (suc c) (suc a) (by_s N y) ⊞ unit y

-- ---- ends by signs
toward-both : {p : ℕ} (N a c y : ℕ) → toward {p = p} N (pos a) (pos c) y ≡ way N a c y
unfolding toward
toward-both N a c y = refl

toward-neither : {p : ℕ} (N a c y : ℕ) → toward {p = p} N (neg_ℤ (pos a)) (neg_ℤ (pos c)) y ≡ way N a c y
unfolding toward
toward-neither N zero zero y = refl
toward-neither N zero (suc c) y = refl
toward-neither N (suc a) zero y = refl
toward-neither N (suc a) (suc c) y = refl

toward-first : {p : ℕ} (N a c y : ℕ) → 0 < a → 0 < c → toward {p = p} N (pos a) (neg_ℤ (pos c)) y ≡ way N c a (by_s N y) ⊞ unit y
unfolding toward
toward-first N zero c y some more = absurd (omega (arith, some))
toward-first N (suc a) zero y some more = absurd (omega (arith, more))
toward-first N (suc a) (suc c) y some more = refl

toward-second : {p : ℕ} (N a c y : ℕ) → 0 < a → 0 < c → toward {p = p} N (neg_ℤ (pos a)) (pos c) y ≡ way N c a (by_s N y) ⊞ unit y
unfolding toward
toward-second N zero c y some more = absurd (omega (arith, some))
toward-second N (suc a) zero y some more = absurd (omega (arith, more))
toward-second N (suc a) (suc c) y some more = refl

-- opposite pairs name one end
pub toward-opposite : {p : ℕ} (N : ℕ) (x z : ℤ) (y : ℕ) → toward {p = p} N (neg_ℤ x) (neg_ℤ z) y ≡ toward N x z y
unfolding toward
toward-opposite N (pos zero) (pos zero) y = refl
toward-opposite N (pos zero) (pos (suc c)) y = refl
toward-opposite N (pos (suc a)) (pos zero) y = refl
toward-opposite N (pos (suc a)) (pos (suc c)) y = refl
toward-opposite N (negsuc a) (negsuc c) y = refl
toward-opposite N (pos zero) (negsuc c) y = refl
toward-opposite N (pos (suc a)) (negsuc c) y = refl
toward-opposite N (negsuc a) (pos zero) y = refl
toward-opposite N (negsuc a) (pos (suc c)) y = refl

-- ---- multiples of a pair name its end
way_scaled_within : {p : ℕ} (N f k a c y : ℕ) → a + c ≤ f → way {p = p} N (suc k * a) (suc k * c) y ≡ way N a c y
way_scaled_within {p} N f k a zero y l =
    let none : suc k * 0 ≡ 0 = omega arith in
    ap (λ n. way {p = p} N (suc k * a) n y) none ∙ way_end N (suc k * a) y ∙ sym (way_end N a y)
way_scaled_within {p} N zero k a (suc c) y l = absurd (omega (arith, l))
way_scaled_within {p} N (suc f) k zero (suc c) y l =
    let none : suc k * 0 ≡ 0 = omega arith in
    let some : suc k * suc c ≡ suc (k * suc c + c) = omega arith in
    ap (λ n. way {p = p} N n (suc k * suc c) y) none ∙ ap (λ n. way {p = p} N 0 n y) some ∙ way_zero N (k * suc c + c) y ∙ sym (way_zero N c y)
way_scaled_within {p} N (suc f) k (suc a) (suc c) y l = elim (cases_lt a c) [
  | inl less ↦
      let j : ℕ = c - suc a in
      let e : suc c ≡ suc a + suc j = omega (arith, less) in
      let some : suc k * suc a ≡ suc (k * suc a + a) = omega arith in
      let more : suc k * suc j ≡ suc (k * suc j + j) = omega arith in
      let sum : suc k * suc c ≡ suc (k * suc a + a) + suc (k * suc j + j) = ap (λ n. suc k * n) e ∙ omega arith in
      ap (λ n. way {p = p} N n (suc k * suc c) y) some ∙ ap (λ n. way {p = p} N (suc (k * suc a + a)) n y) sum
      ∙ way_under N (k * suc a + a) (k * suc j + j) y
      ∙ ap (λ v. v ⊞ unit (by_u N y)) (ap (λ n. way {p = p} N n (suc (k * suc j + j)) (by_v N y)) (sym some)
      ∙ ap (λ n. way {p = p} N (suc k * suc a) n (by_v N y)) (sym more) ∙ way_scaled_within N f k (suc a) (suc j) (by_v N y)
      (omega (arith, l, less)))
      ∙ sym (way_under N a j y) ∙ ap (λ n. way {p = p} N (suc a) n y) (sym e)
  | inr less ↦
      let i : ℕ = a - c in
      let e : suc a ≡ i + suc c = omega (arith, less) in
      let sum : suc k * suc a ≡ suc k * i + suc k * suc c = ap (λ n. suc k * n) e ∙ omega arith in
      ap (λ n. way {p = p} N n (suc k * suc c) y) sum ∙ way_over N (suc k * i) (suc k * suc c) y
      ∙ way_scaled_within N f k i (suc c) (by_u N y) (omega (arith, l, less))
      ∙ sym (way_over N i (suc c) y) ∙ ap (λ n. way {p = p} N n (suc c) y) (sym e)
]

way_scaled : {p : ℕ} (N k a c y : ℕ) → way {p = p} N (suc k * a) (suc k * c) y ≡ way N a c y
way_scaled N k a c y = way_scaled_within N (a + c) k a c y (omega arith)

positive_product : (k a : ℕ) → 0 < suc k * suc a
positive_product k a = omega arith

none_product : (k : ℕ) → suc k * 0 ≡ 0
none_product k = omega arith

scaled_positive : {p : ℕ} (N k : ℕ) (x z : ℤ) (y : ℕ) → toward {p = p} N (pos (suc k) *ℤ x) (pos (suc k) *ℤ z) y ≡ toward N x z y
unfolding toward
scaled_positive N k (pos a) (pos c) y = way_scaled N k a c y
scaled_positive N k (negsuc a) (negsuc c) y = toward-neither N (suc k * suc a) (suc k * suc c) y ∙ way_scaled N k (suc a) (suc c) y
scaled_positive {p} N k (pos zero) (negsuc c) y =
    ap (λ n. toward {p = p} N (pos n) (neg_ℤ (pos (suc k * suc c))) y) (none_product k)
    ∙ toward-neither N 0 (suc k * suc c) y ∙ ap (λ n. way {p = p} N n (suc k * suc c) y) (sym (none_product k)) ∙ way_scaled N k 0 (suc c) y
scaled_positive N k (pos (suc a)) (negsuc c) y = toward-first N (suc k * suc a) (suc k * suc c) y (positive_product k a) (positive_product k c)
    ∙ ap (λ v. v ⊞ unit y) (way_scaled N k (suc c) (suc a) (by_s N y))
scaled_positive {p} N k (negsuc a) (pos zero) y =
    ap (λ n. toward {p = p} N (neg_ℤ (pos (suc k * suc a))) (pos n) y) (none_product k)
    ∙ toward-neither N (suc k * suc a) 0 y ∙ ap (λ n. way {p = p} N (suc k * suc a) n y) (sym (none_product k)) ∙ way_scaled N k (suc a) 0 y
scaled_positive N k (negsuc a) (pos (suc c)) y = toward-second N (suc k * suc a) (suc k * suc c) y (positive_product k a) (positive_product k c)
    ∙ ap (λ v. v ⊞ unit y) (way_scaled N k (suc c) (suc a) (by_s N y))

-- t times the pair, for t other than 0
pub toward-scaled : {p : ℕ} (N : ℕ) (t x z : ℤ) (y : ℕ) → (t ≡ pos 0 → ⊥) → toward {p = p} N (t *ℤ x) (t *ℤ z) y ≡ toward N x z y
toward-scaled N (pos zero) x z y some = absurd (some refl)
toward-scaled N (pos (suc k)) x z y some = scaled_positive N k x z y
toward-scaled {p} N (negsuc k) x z y some =
    ap (λ w. toward {p = p} N w (negsuc k *ℤ z) y) (flip k x) ∙ ap (λ w. toward {p = p} N (neg_ℤ (pos (suc k) *ℤ x)) w y) (flip k z)
    ∙ toward-opposite N (pos (suc k) *ℤ x) (pos (suc k) *ℤ z) y ∙ scaled_positive N k x z y
  where
    flip : (k : ℕ) (x : ℤ) → negsuc k *ℤ x ≡ neg_ℤ (pos (suc k) *ℤ x)
    flip k x = rw (neg_gap k, pos_gap (suc k), is_gap x) (simp gaps (gap_same _ _ _ _ (omega arith)))

-- ---- S takes ends with natural a and c
first_turned : (p N a c y : ℕ) → 0 < p → y < length (symbols N) → 0 < a + c
    → Same {p = p} N (toward N (pos a) (neg_ℤ (pos c)) y) (way N c a (by_s N y) ⊞ unit y)
unfolding toward
first_turned p N zero zero y positive within some = absurd (omega (arith, some))
first_turned p N zero (suc c) y positive within some = same_from positive (way_zero N c y
    ∙ sym (ap (λ v. v ⊞ unit y) (way_end N (suc c) (by_s N y)) ∙ zeros-plus (unit y)))
first_turned p N (suc a) zero y positive within some = same_by (way_end N (suc a) y) (ap (λ v. v ⊞ unit y) (way_zero N a (by_s N y))
    ∙ plus_comm (unit (by_s N y)) (unit y)) (same_sym positive (pair p N y positive within))
first_turned p N (suc a) (suc c) y positive within some = same_refl positive (way N (suc c) (suc a) (by_s N y) ⊞ unit y)

second_turned : (p N a c y : ℕ) → 0 < p → y < length (symbols N) → 0 < a + c
    → Same {p = p} N (toward N (neg_ℤ (pos a)) (pos c) y) (way N c a (by_s N y) ⊞ unit y)
unfolding toward
second_turned p N zero zero y positive within some = absurd (omega (arith, some))
second_turned p N zero (suc c) y positive within some = same_from positive (way_zero N c y
    ∙ sym (ap (λ v. v ⊞ unit y) (way_end N (suc c) (by_s N y)) ∙ zeros-plus (unit y)))
second_turned p N (suc a) zero y positive within some = same_by (way_end N (suc a) y) (ap (λ v. v ⊞ unit y) (way_zero N a (by_s N y))
    ∙ plus_comm (unit (by_s N y)) (unit y)) (same_sym positive (pair p N y positive within))
second_turned p N (suc a) (suc c) y positive within some = same_refl positive (way N (suc c) (suc a) (by_s N y) ⊞ unit y)

-- ---- matrices that join ends
pub record Joins (p N : ℕ) (m : Matrix) : Type 0 where
  pub joins : (y : ℕ) → y < length (symbols N) → Same {p = p} N (unit (image_number N y m) ⊞ toward N m.a m.c y) (toward N m.b m.d y)

joins_natural : (p N a b c d : ℕ) → 0 < p → a * d ≡ b * c + 1 → Joins p N (matrix (pos a) (pos b) (pos c) (pos d))
unfolding toward
joins_natural p N a b c d positive e = record { joins = λ y within. joined p N a b c d y positive within e }

-- m S: the columns (b, d) and (-a, -c)
abbrev turned : Matrix → Matrix
turned m = matrix m.b (neg_ℤ m.a) m.d (neg_ℤ m.c)

turned_is : (m : Matrix) → product m matrix_s ≡ turned m
turned_is m = same_matrix (second m.a m.b) (first m.a m.b) (second m.c m.d) (first m.c m.d)
  where
    second : (a b : ℤ) → a *ℤ pos 0 +ℤ b *ℤ pos 1 ≡ b
    second a b = omega (arith, ints)

    first : (a b : ℤ) → a *ℤ negsuc 0 +ℤ b *ℤ pos 0 ≡ neg_ℤ a
    first a b = omega (arith, ints)

-- a symbol and its turned one cancel
turned_pair : (p N y : ℕ) (m : Matrix) → 0 < p → y < length (symbols N) → determinant m ≡ pos 1
    → Same {p = p} N (unit (image_number N y m) ⊞ unit (image_number N y (turned m))) zeros
turned_pair p N y m positive within e = subst (λ i. Same {p = p} N (unit (image_number N y m) ⊞ unit i) zeros)
    (moved N y m matrix_s within e ∙ ap (image_number N y) (turned_is m)) (pair p N (image_number N y m) positive (moved-lt N y m within e))

-- with m S, m joins
joins_back : (p N : ℕ) (m : Matrix) → 0 < p → determinant m ≡ pos 1 → Joins p N (turned m) → Joins p N m
joins_back p N m positive e h = record {
  joins = λ y within.
      let left : Vector p = unit (image_number N y m) in
      let right : Vector p = unit (image_number N y (turned m)) in
      same_trans positive (same_sym positive (same_right positive left
      (same_trans positive (h.joins y within) (same_from positive (toward-opposite N m.a m.c y)))))
      (same_trans positive (same_by (sym (plus_assoc left right (toward N m.b m.d y))) (sym (zeros-plus (toward N m.b m.d y)))
      (same_left positive (toward N m.b m.d y) (turned_pair p N y m positive within e)))
      (same_refl positive (toward N m.b m.d y)));
}

-- with -m, m joins
joins_opposite : (p N : ℕ) (m : Matrix) → 0 < p → determinant m ≡ pos 1
    → Joins p N (matrix (neg_ℤ m.a) (neg_ℤ m.b) (neg_ℤ m.c) (neg_ℤ m.d)) → Joins p N m
joins_opposite p N m positive e h = record {
  joins = λ y within.
      same_by (ap (λ i. unit i ⊞ toward {p = p} N m.a m.c y) (sym (by_opposite N y m within e))
      ∙ ap (λ v. unit (image_number N y (matrix (neg_ℤ m.a) (neg_ℤ m.b) (neg_ℤ m.c) (neg_ℤ m.d))) ⊞ v) (sym (toward-opposite N m.a m.c y)))
      (sym (toward-opposite N m.b m.d y)) (h.joins y within);
}

both_opposite : (x z : ℤ) → neg_ℤ x *ℤ neg_ℤ z ≡ x *ℤ z
both_opposite x z = rw (is_gap x, is_gap z) (simp gaps (gap_same _ _ _ _ (omega arith)))

-- one side of the diagonal negative
joins_lower : (p N a b c d : ℕ) → 0 < p → a * d ≡ b * c + 1 → Joins p N (matrix (pos a) (neg_ℤ (pos b)) (neg_ℤ (pos c)) (pos d))
joins_lower p N a b c d positive e = record { joins = at }
  where
    m : Matrix
    m = matrix (pos a) (neg_ℤ (pos b)) (neg_ℤ (pos c)) (pos d)

    det : (a b c d : ℕ) → a * d ≡ b * c + 1 → pos a *ℤ pos d -ℤ neg_ℤ (pos b) *ℤ neg_ℤ (pos c) ≡ pos 1
    det a b c d e = ap (λ w. pos (a * d) -ℤ w) (both_opposite (pos b) (pos c)) ∙ omega (arith, ints, e)

    rotated : (a b c d : ℕ) → product matrix_s (matrix (pos d) (pos c) (pos b) (pos a)) ≡ matrix (neg_ℤ (pos b)) (neg_ℤ (pos a)) (pos d) (pos c)
    rotated a b c d = same_matrix (upper d b) (upper c a) (lower d b) (lower c a)
      where
        upper : (d b : ℕ) → pos 0 *ℤ pos d +ℤ negsuc 0 *ℤ pos b ≡ neg_ℤ (pos b)
        upper d b = omega (arith, ints)

        lower : (d b : ℕ) → pos 1 *ℤ pos d +ℤ pos 0 *ℤ pos b ≡ pos d
        lower d b = omega (arith, ints)

    double : (c : ℕ) → neg_ℤ (neg_ℤ (pos c)) ≡ pos c
    double c = omega (arith, ints)

    at : (y : ℕ) → y < length (symbols N) → Same {p = p} N (unit (image_number N y m) ⊞ toward N m.a m.c y) (toward N m.b m.d y)
    at y within =
        let i : ℕ = image_number N y m in
        let j : ℕ = image_number N (by_s N y) (matrix (pos d) (pos c) (pos b) (pos a)) in
        let y_s : ℕ = by_s N y in
        let same_j : image_number N y (turned m) ≡ j = ap (λ w. image_number N y (matrix (neg_ℤ (pos b)) (neg_ℤ (pos a)) (pos d) w)) (double c)
        ∙ ap (image_number N y) (sym (rotated a b c d)) ∙ sym (moved N y matrix_s (matrix (pos d) (pos c) (pos b) (pos a)) within refl) in
        let cancels : Same {p = p} N (unit i ⊞ unit j) zeros = subst (λ k. Same {p = p} N (unit i ⊞ unit k) zeros) same_j
        (turned_pair p N y m positive within (det a b c d e)) in
        let inner : Same {p = p} N (unit j ⊞ way N d b y_s) (way N c a y_s) = joined p N d c b a y_s positive (s-lt N y within)
        (omega (arith, e)) in
        same_trans positive (same_right positive (unit i)
        (first_turned p N a c y positive within (omega (arith, positive_upper a b c d e))))
        (same_trans positive (same_right positive (unit i) (same_left positive (unit y) (same_sym positive inner)))
        (same_trans positive (same_by (sym (shuffle (unit i) (unit j) (way N d b y_s) (unit y))) (sym (zeros-plus (way N d b y_s ⊞ unit y)))
        (same_left positive (way N d b y_s ⊞ unit y) cancels))
        (same_sym positive (second_turned p N b d y positive within (omega (arith, positive_lower a b c d e))))))
      where
        shuffle : (u v w x : Vector p) → (u ⊞ v) ⊞ (w ⊞ x) ≡ u ⊞ ((v ⊞ w) ⊞ x)
        shuffle u v w x = plus_assoc u v (w ⊞ x) ∙ ap (λ s. u ⊞ s) (sym (plus_assoc v w x))

-- a positive diagonal
joins_diagonal : (p N x w : ℕ) (b c : ℤ) → 0 < p → pos (suc x) *ℤ pos (suc w) -ℤ b *ℤ c ≡ pos 1 → Joins p N (matrix (pos (suc x)) b c (pos (suc w)))
joins_diagonal p N x w (pos b) (pos c) positive e = joins_natural p N (suc x) b c (suc w) positive (omega (arith, ints, e))
joins_diagonal p N x w (negsuc b) (negsuc c) positive e = joins_lower p N (suc x) (suc b) (suc c) (suc w) positive (omega (arith, ints, e))
joins_diagonal p N x w (pos zero) (negsuc c) positive e = joins_lower p N (suc x) 0 (suc c) (suc w) positive (omega (arith, ints, e))
joins_diagonal p N x w (pos (suc b)) (negsuc c) positive e = absurd (omega (arith, ints, e))
joins_diagonal p N x w (negsuc b) (pos zero) positive e = joins_lower p N (suc x) (suc b) 0 (suc w) positive (omega (arith, ints, e))
joins_diagonal p N x w (negsuc b) (pos (suc c)) positive e = absurd (omega (arith, ints, e))

-- the product off the diagonal is not negative
joins_same_side : (p N k : ℕ) (a b c d : ℤ) → 0 < p → b *ℤ c ≡ pos k → a *ℤ d -ℤ b *ℤ c ≡ pos 1 → Joins p N (matrix a b c d)
joins_same_side p N k (pos (suc a)) b c (pos (suc d)) positive f e = joins_diagonal p N a d b c positive e
joins_same_side p N k (negsuc a) b c (negsuc d) positive f e = joins_opposite p N (matrix (negsuc a) b c (negsuc d)) positive e
    (joins_diagonal p N a d (neg_ℤ b) (neg_ℤ c) positive (law (pos (suc a)) b c (pos (suc d)) ∙ e))
  where
    law : (a b c d : ℤ) → a *ℤ d -ℤ neg_ℤ b *ℤ neg_ℤ c ≡ neg_ℤ a *ℤ neg_ℤ d -ℤ b *ℤ c
    law a b c d = rw (is_gap a, is_gap b, is_gap c, is_gap d) (simp gaps (gap_same _ _ _ _ (omega arith)))
joins_same_side p N k (pos zero) b c d positive f e = absurd (let g = none d in omega (arith, ints, e, f, g))
  where
    none : (d : ℤ) → pos 0 *ℤ d ≡ pos 0
    none d = omega (arith, ints)
joins_same_side p N k (pos (suc a)) b c (pos zero) positive f e = absurd (let g = none a in omega (arith, ints, e, f, g))
  where
    none : (a : ℕ) → pos (suc a) *ℤ pos 0 ≡ pos 0
    none a = omega (arith, ints)
joins_same_side p N k (pos (suc a)) b c (negsuc d) positive f e = absurd (omega (arith, ints, e, f))
joins_same_side p N k (negsuc a) b c (pos d) positive f e = absurd (omega (arith, ints, e, f))

turned_determinant : (a b c d : ℤ) → b *ℤ neg_ℤ c -ℤ neg_ℤ a *ℤ d ≡ a *ℤ d -ℤ b *ℤ c
turned_determinant a b c d = rw (is_gap a, is_gap b, is_gap c, is_gap d) (simp gaps (gap_same _ _ _ _ (omega arith)))

opposite_determinant : (a b c d : ℤ) → neg_ℤ a *ℤ neg_ℤ d -ℤ neg_ℤ b *ℤ neg_ℤ c ≡ a *ℤ d -ℤ b *ℤ c
opposite_determinant a b c d = rw (is_gap a, is_gap b, is_gap c, is_gap d) (simp gaps (gap_same _ _ _ _ (omega arith)))

joins_entries : (p N : ℕ) (a b c d : ℤ) → 0 < p → a *ℤ d -ℤ b *ℤ c ≡ pos 1 → Joins p N (matrix a b c d)
joins_entries p N a (pos b) (pos c) d positive e = joins_same_side p N (b * c) a (pos b) (pos c) d positive refl e
joins_entries p N a (negsuc b) (negsuc c) d positive e = joins_same_side p N (suc b * suc c) a (negsuc b) (negsuc c) d positive refl e
joins_entries p N a (pos zero) (negsuc c) d positive e = joins_same_side p N 0 a (pos 0) (negsuc c) d positive (omega (arith, ints)) e
joins_entries p N a (negsuc b) (pos zero) d positive e = joins_same_side p N 0 a (negsuc b) (pos 0) d positive (omega (arith, ints)) e
joins_entries p N a (pos (suc b)) (negsuc c) d positive e = joins_back p N (matrix a (pos (suc b)) (negsuc c) d) positive e
    (joins_diagonal p N b c (neg_ℤ a) d positive (turned_determinant a (pos (suc b)) (negsuc c) d ∙ e))
joins_entries p N a (negsuc b) (pos (suc c)) d positive e =
    let det : determinant (turned (matrix a (negsuc b) (pos (suc c)) d)) ≡ pos 1 = turned_determinant a (negsuc b) (pos (suc c)) d ∙ e in
    joins_back p N (matrix a (negsuc b) (pos (suc c)) d) positive e
    (joins_opposite p N (turned (matrix a (negsuc b) (pos (suc c)) d)) positive det
    (joins_diagonal p N b c (neg_ℤ (neg_ℤ a)) (neg_ℤ d) positive
    (opposite_determinant (negsuc b) (neg_ℤ a) d (negsuc c) ∙ det)))

-- each matrix of determinant 1
pub joins_all : (p N : ℕ) (m : Matrix) → 0 < p → determinant m ≡ pos 1 → Joins p N m
joins_all p N m positive e = joins_entries p N m.a m.b m.c m.d positive e

-- the way from infinity is none
toward-infinity : {p : ℕ} (N : ℕ) (x : ℤ) (y : ℕ) → toward {p = p} N x (pos 0) y ≡ zeros
unfolding toward
toward-infinity N (pos a) y = way_end N a y
toward-infinity N (negsuc a) y = way_end N (suc a) y

pub has_ways : (p N y : ℕ) → 0 < p → y < length (symbols N) → Ways p N y
has_ways p N y positive within = record {
  way = λ x z. toward N x z y;
  infinity = λ x. toward-infinity N x y;
  scaled = λ t x z some. toward-scaled N t x z y some;
  joins = λ m e. ((joins_all p N m positive e).joins y within).congruent;
}
