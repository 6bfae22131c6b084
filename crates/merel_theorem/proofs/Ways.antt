-- The way from an end a / c to infinity, for natural a and c: the symbols that subtraction passes as it brings a / c to infinity, moved by a
-- symbol y. Each step takes U or V off the left, so for a matrix (a, b; c, d) of determinant 1 and natural entries the symbol y (a, b; c, d),
-- followed by the way from a / c, is congruent to the way from b / d (`joined`).
use Rattle.std.proofs.Common.{◌≡◌, ◌+◌, ◌-◌, ◌*◌, ◌<◌, ◌≤◌, ℕ, zero, suc, cond, length, nat_le, refl, sym, ◌∙◌, ap, subst, inl, inr, arith}
use Rattle.std.specs.Prelude.{ℤ, pos, ◌+ℤ◌, ◌*ℤ◌}
use Rattle.std.proofs.lemmas.Int.{ints}
use Rattle.std.proofs.lemmas.Bool.{cases_lt, cond-true, cond-false, le-leb, lt-leb}
use Rattle.linear_algebra.specs.Vector.{Vector, ◌⊞◌, zeros}
use Rattle.linear_algebra.specs.Coordinates.{unit}
use Rattle.linear_algebra.proofs.Vectors.{plus-zeros, zeros-plus, plus_comm, plus_assoc}
use Rattle.p1_normal.specs.Points.{symbols}
use Rattle.p1_normal.specs.Actions.{matrix, image_number, matrix_u}
use Rattle.merel_theorem.proofs.Terms.{matrix_v, identity, by_u, by_v, u-lt, v-lt, same_matrix, moved, by_identity, three_terms}
use Rattle.merel_theorem.proofs.Classes.{Same, same_by, same_from, same_left, same_right, same_sym, same_trans}

-- the way within a number of steps
pub reach : {p : ℕ} → ℕ → ℕ → ℕ → ℕ → ℕ → Vector p
reach N zero a c y = zeros
reach N (suc f) a zero y = zeros
reach N (suc f) zero (suc c) y = unit y
reach N (suc f) (suc a) (suc c) y = cond (nat_le c a) (reach N f (a - c) (suc c) (by_u N y))
    (reach N f (suc a) (c - a) (by_v N y) ⊞ unit (by_u N y))

abbrev pub way : {p : ℕ} → ℕ → ℕ → ℕ → ℕ → Vector p
way N a c y = reach N (a + c) a c y

-- steps enough
reach_same : {p : ℕ} (N f g a c y : ℕ) → a + c ≤ f → a + c ≤ g → reach {p = p} N f a c y ≡ reach N g a c y
unfolding reach
reach_same N zero zero a c y l m = refl
reach_same N zero (suc g) a zero y l m = refl
reach_same N zero (suc g) a (suc c) y l m = absurd (omega (arith, l))
reach_same N (suc f) zero a zero y l m = refl
reach_same N (suc f) zero a (suc c) y l m = absurd (omega (arith, m))
reach_same N (suc f) (suc g) a zero y l m = refl
reach_same N (suc f) (suc g) zero (suc c) y l m = refl
reach_same N (suc f) (suc g) (suc a) (suc c) y l m =
    ap (λ v. cond (nat_le c a) v (reach N f (suc a) (c - a) (by_v N y) ⊞ unit (by_u N y)))
    (reach_same N f g (a - c) (suc c) (by_u N y) (omega (arith, l)) (omega (arith, m)))
    ∙ ap (λ v. cond (nat_le c a) (reach N g (a - c) (suc c) (by_u N y)) (v ⊞ unit (by_u N y)))
    (reach_same N f g (suc a) (c - a) (by_v N y) (omega (arith, l)) (omega (arith, m)))

pub way_is : {p : ℕ} (N f a c y : ℕ) → a + c ≤ f → way {p = p} N a c y ≡ reach N f a c y
way_is N f a c y l = reach_same N (a + c) f a c y (omega arith) l

-- ---- the steps
pub way_end : {p : ℕ} (N a y : ℕ) → way {p = p} N a 0 y ≡ zeros
unfolding reach
way_end N a y = way_is N (suc (a + 0)) a 0 y (omega arith)

pub way_zero : {p : ℕ} (N c y : ℕ) → way {p = p} N 0 (suc c) y ≡ unit y
unfolding reach
way_zero N c y = way_is N (suc (suc c)) 0 (suc c) y (omega arith)

-- U keeps the way
pub way_over : {p : ℕ} (N a c y : ℕ) → way {p = p} N (a + c) c y ≡ way N a c (by_u N y)
unfolding reach
way_over N a zero y = way_end N (a + 0) y ∙ sym (way_end N a (by_u N y))
way_over {p} N a (suc c) y =
    let shape : a + suc c ≡ suc (a + c) = omega arith in
    let back : (a + c) - c ≡ a = omega arith in
    ap (λ n. way {p = p} N n (suc c) y) shape
    ∙ way_is N (suc (suc (a + c) + suc c)) (suc (a + c)) (suc c) y (omega arith)
    ∙ cond-true (nat_le c (a + c)) _ _ (le-leb c (a + c) (omega arith))
    ∙ ap (λ n. reach {p = p} N (suc (a + c) + suc c) n (suc c) (by_u N y)) back
    ∙ sym (way_is N (suc (a + c) + suc c) a (suc c) (by_u N y) (omega arith))

-- V adds y U
pub way_under : {p : ℕ} (N a c y : ℕ) → way {p = p} N (suc a) (suc a + suc c) y ≡ way N (suc a) (suc c) (by_v N y) ⊞ unit (by_u N y)
unfolding reach
way_under {p} N a c y =
    let shape : suc a + suc c ≡ suc (a + suc c) = omega arith in
    let back : (a + suc c) - a ≡ suc c = omega arith in
    ap (λ n. way {p = p} N (suc a) n y) shape
    ∙ way_is N (suc (suc a + suc (a + suc c))) (suc a) (suc (a + suc c)) y (omega arith)
    ∙ cond-false (nat_le (a + suc c) a) _ _ (lt-leb (a + suc c) a (omega arith))
    ∙ ap (λ n. reach {p = p} N (suc a + suc (a + suc c)) (suc a) n (by_v N y) ⊞ unit (by_u N y)) back
    ∙ ap (λ v. v ⊞ unit (by_u N y)) (sym (way_is N (suc a + suc (a + suc c)) (suc a) (suc c) (by_v N y) (omega arith)))

-- at all ends, up to relations
pub way_below : (p N a c y : ℕ) → 0 < p → y < length (symbols N) → 0 < a + c
    → Same {p = p} N (way N a (a + c) y) (way N a c (by_v N y) ⊞ unit (by_u N y))
way_below p N zero zero y positive within some = absurd (omega (arith, some))
way_below p N zero (suc c) y positive within some =
    same_by (ap (λ n. way {p = p} N 0 n y) plain ∙ way_zero N c y)
    (ap (λ v. v ⊞ unit (by_u N y)) (way_zero N c (by_v N y)) ∙ plus_comm (unit (by_v N y)) (unit (by_u N y)))
    (three_terms p N y positive within)
  where
    plain : 0 + suc c ≡ suc c
    plain = omega arith
way_below p N (suc a) zero y positive within some =
    same_from positive (ap (λ n. way {p = p} N (suc a) n y) whole ∙ ap (λ n. way {p = p} N n (suc a) y) plain ∙ way_over N 0 (suc a) y
    ∙ way_zero N a (by_u N y)
    ∙ sym (ap (λ v. v ⊞ unit (by_u N y)) (way_end N (suc a) (by_v N y)) ∙ zeros-plus (unit (by_u N y))))
  where
    whole : suc a + 0 ≡ suc a
    whole = omega arith

    plain : suc a ≡ 0 + suc a
    plain = omega arith
way_below p N (suc a) (suc c) y positive within some = same_from positive (way_under N a c y)

-- ---- matrices of determinant 1 with natural entries are 1, or begin with U, or begin with V
pub data Step (a b c d : ℕ) : Type 0 where
  stays : a ≡ 1 → b ≡ 0 → c ≡ 0 → d ≡ 1 → Step a b c d
  over : (i j : ℕ) → a ≡ i + c → b ≡ j + d → Step a b c d
  under : (i j : ℕ) → c ≡ a + i → d ≡ b + j → Step a b c d

pub step : (a b c d : ℕ) → a * d ≡ b * c + 1 → Step a b c d
step a b c d e = elim (cases_lt a c) [
  | inl l ↦ elim (cases_lt d b) [
    | inl m ↦ absurd (crossed a d (c - suc a) (b - suc d) c b (omega (arith, l)) (omega (arith, m)) e)
    | inr m ↦ under (c - a) (d - b) (omega (arith, l)) (omega (arith, m))
  ]
  | inr l ↦ elim (cases_lt b d) [
    | inl m ↦ elim (cases_lt c a) [
      | inl k ↦ last c b (a - suc c) (d - suc b) a d (omega (arith, k)) (omega (arith, m)) e
      | inr k ↦ under 0 (d - b) (omega (arith, l, k)) (omega (arith, m))
    ]
    | inr m ↦ over (a - c) (b - d) (omega (arith, l)) (omega (arith, m))
  ]
]
  where
    crossed : (a d i j c b : ℕ) → c ≡ suc a + i → b ≡ suc d + j → a * d ≡ b * c + 1 → ⊥
    crossed a d i j c b f g e =
        let h : a * d ≡ (suc d + j) * (suc a + i) + 1 = e ∙ ap (λ n. n * c + 1) g ∙ ap (λ n. (suc d + j) * n + 1) f in
        omega (arith, h)

    last : (c b i j a d : ℕ) → a ≡ suc c + i → d ≡ suc b + j → a * d ≡ b * c + 1 → Step a b c d
    last c b i j a d f g e =
        let h : (suc c + i) * (suc b + j) ≡ b * c + 1 = sym (ap (λ n. n * d) f ∙ ap (λ n. (suc c + i) * n) g) ∙ e in
        let none : (c ≡ 0) × (b ≡ 0) × (i ≡ 0) × (j ≡ 0) = (omega (arith, h), omega (arith, h), omega (arith, h), omega (arith, h)) in
        let (c_none, b_none, i_none, j_none) = none in
        stays (omega (arith, f, c_none, i_none)) b_none c_none (omega (arith, g, b_none, j_none))

-- a factor of determinant 1 is not 0
pub positive_lower : (a b c d : ℕ) → a * d ≡ b * c + 1 → 0 < d
positive_lower a b c zero e = absurd (omega (arith, e))
positive_lower a b c (suc d) e = omega arith

pub positive_upper : (a b c d : ℕ) → a * d ≡ b * c + 1 → 0 < a
positive_upper zero b c d e = absurd (omega (arith, e))
positive_upper (suc a) b c d e = omega arith

-- the symbol y (a, b; c, d) joins the two ways
abbrev Joined : ℕ → ℕ → ℕ → ℕ → ℕ → ℕ → ℕ → Type 0
Joined p N a b c d y = Same {p = p} N (unit (image_number N y (matrix (pos a) (pos b) (pos c) (pos d))) ⊞ way N a c y) (way N b d y)

first_row : (x z : ℕ) → pos (x + z) ≡ pos 1 *ℤ pos x +ℤ pos 1 *ℤ pos z
first_row x z = omega (arith, ints)

only_second : (x z : ℕ) → pos z ≡ pos 0 *ℤ pos x +ℤ pos 1 *ℤ pos z
only_second x z = omega (arith, ints)

only_first : (x z : ℕ) → pos x ≡ pos 1 *ℤ pos x +ℤ pos 0 *ℤ pos z
only_first x z = omega (arith, ints)

joined_one : (p N y : ℕ) → 0 < p → y < length (symbols N) → Joined p N 1 0 0 1 y
joined_one p N y positive within = same_from positive (ap (λ v. unit (image_number N y identity) ⊞ v) (way_end N 1 y)
    ∙ plus-zeros (unit (image_number N y identity)) ∙ ap unit (by_identity N y within) ∙ sym (way_zero N 0 y))

joined_over : (p N i j c d y : ℕ) → 0 < p → y < length (symbols N) → Joined p N i j c d (by_u N y) → Joined p N (i + c) (j + d) c d y
joined_over p N i j c d y positive within h =
    same_by (ap (λ w. unit w ⊞ way {p = p} N (i + c) c y)
    (ap (image_number N y) (same_matrix (first_row i c) (first_row j d) (only_second i c) (only_second j d))
    ∙ sym (moved N y matrix_u (matrix (pos i) (pos j) (pos c) (pos d)) within refl))
    ∙ ap (λ v. unit (image_number N (by_u N y) (matrix (pos i) (pos j) (pos c) (pos d))) ⊞ v) (way_over N i c y)) (way_over N j d y) h

joined_under : (p N a b i j y : ℕ) → 0 < p → y < length (symbols N) → 0 < a → 0 < j → Joined p N a b i j (by_v N y) → Joined p N a b (a + i)
    (b + j) y
joined_under p N a b i j y positive within some more h =
    let left : ℕ = image_number N (by_v N y) (matrix (pos a) (pos b) (pos i) (pos j)) in
    same_trans positive (same_by (ap (λ w. unit w ⊞ way {p = p} N a (a + i) y) (ap (image_number N y)
    (same_matrix (only_first a i) (only_first b j) (first_row a i) (first_row b j))
    ∙ sym (moved N y matrix_v (matrix (pos a) (pos b) (pos i) (pos j)) within refl))) (plus_assoc (unit left) (way N a i (by_v N y)) (unit
    (by_u N y)))
    (same_right positive (unit left) (way_below p N a i y positive within (omega (arith, some)))))
    (same_trans positive (same_left positive (unit (by_u N y)) h) (same_sym positive (way_below p N b j y positive within (omega (arith, more)))))

joined_by : (p N f a b c d y : ℕ) → 0 < p → y < length (symbols N) → a + b + c + d ≤ suc f → a * d ≡ b * c + 1
    → ((a b c d y : ℕ) → y < length (symbols N) → a + b + c + d ≤ f → a * d ≡ b * c + 1 → Joined p N a b c d y) → Step a b c d
    → Joined p N a b c d y
joined_by p N f a b c d y positive within l e rest (stays g h k m) =
    subst (λ n. Joined p N n b c d y) (sym g) (subst (λ n. Joined p N 1 n c d y) (sym h) (subst (λ n. Joined p N 1 0 n d y) (sym k)
    (subst (λ n. Joined p N 1 0 0 n y) (sym m) (joined_one p N y positive within))))
joined_by p N f a b c d y positive within l e rest (over i j g h) =
    let det : (i + c) * d ≡ (j + d) * c + 1 = sym (ap (λ n. n * d) g) ∙ e ∙ ap (λ n. n * c + 1) h in
    let some : 0 < d = positive_lower a b c d e in
    subst (λ n. Joined p N n b c d y) (sym g) (subst (λ n. Joined p N (i + c) n c d y) (sym h)
    (joined_over p N i j c d y positive within (rest i j c d (by_u N y) (u-lt N y within) (omega (arith, g, h, l, some)) (omega (arith, det)))))
joined_by p N f a b c d y positive within l e rest (under i j g h) =
    let det : a * (b + j) ≡ b * (a + i) + 1 = sym (ap (λ n. a * n) h) ∙ e ∙ ap (λ n. b * n + 1) g in
    let inner : a * j ≡ b * i + 1 = omega (arith, det) in
    let some : 0 < a = positive_upper a b c d e in
    subst (λ n. Joined p N a b n d y) (sym g) (subst (λ n. Joined p N a b (a + i) n y) (sym h)
    (joined_under p N a b i j y positive within some (positive_lower a b i j inner)
    (rest a b i j (by_v N y) (v-lt N y within) (omega (arith, g, h, l, some)) inner)))

joined_within : (p N f : ℕ) → 0 < p → (a b c d y : ℕ) → y < length (symbols N) → a + b + c + d ≤ f → a * d ≡ b * c + 1 → Joined p N a b c d y
joined_within p N zero positive a b c d y within l e = absurd (let some = positive_upper a b c d e in omega (arith, some, l))
joined_within p N (suc f) positive a b c d y within l e = joined_by p N f a b c d y positive within l e (joined_within p N f positive)
    (step a b c d e)

pub joined : (p N a b c d y : ℕ) → 0 < p → y < length (symbols N) → a * d ≡ b * c + 1
    → Same {p = p} N (unit (image_number N y (matrix (pos a) (pos b) (pos c) (pos d))) ⊞ way N a c y) (way N b d y)
joined p N a b c d y positive within e = joined_within p N (a + b + c + d) positive a b c d y within (omega arith) e
