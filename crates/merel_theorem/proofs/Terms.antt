-- The symbol y m for a matrix m of determinant 1, and the relations: y + y S is congruent to 0, and y to y U + y V.
use Rattle.std.proofs.Common.{◌≡◌, ◌+◌, ◌<◌, ℕ, zero, suc, length, refl, sym, ◌∙◌, ap, subst, arith}
use Rattle.std.specs.Prelude.{ℤ, pos, negsuc, neg_ℤ, ◌+ℤ◌, ◌*ℤ◌}
use Rattle.std.proofs.lemmas.Int.{ints}
use Rattle.linear_algebra.specs.Vector.{Vector, ◌⊞◌, zeros}
use Rattle.linear_algebra.specs.Coordinates.{unit}
use Rattle.linear_algebra.proofs.Vectors.{plus-zeros, plus_comm, plus_assoc, plus_middle}
use Rattle.p1_normal.specs.declared.matrix.Matrix.{Matrix}
use Rattle.p1_normal.specs.Points.{symbols}
use Rattle.p1_normal.specs.Actions.{matrix, product, determinant, image_number, matrix_s, matrix_t, matrix_u}
use Rattle.p1_normal.proofs.Numbers.{level_positive}
use Rattle.p1_normal.proofs.Actions.{IsUnit-minus_one}
use Rattle.p1_normal.proofs.Moves.{image_number-lt, image_number-scalar, IsUnit-plus_one, invertible_s, invertible_u}
use Rattle.p1_normal.proofs.LevelLaws.{image_number_product}
use Rattle.manin_relations.proofs.RelationLaws.{Congruent-pair, Congruent-triple}
use Rattle.merel_theorem.proofs.Classes.{Same, same_by, same_cancel, same_plus, same_sym, same_trans}
use Rattle.heilbronn_chains.proofs.Turns.{invertible_one}

-- V
abbrev pub matrix_v : Matrix
matrix_v = matrix (pos 1) (pos 0) (pos 1) (pos 1)

abbrev pub identity : Matrix
identity = matrix (pos 1) (pos 0) (pos 0) (pos 1)

abbrev pub minus_one : Matrix
minus_one = matrix (negsuc 0) (pos 0) (pos 0) (negsuc 0)

abbrev pub by_s : ℕ → ℕ → ℕ
by_s N y = image_number N y matrix_s

abbrev pub by_u : ℕ → ℕ → ℕ
by_u N y = image_number N y matrix_u

abbrev pub by_v : ℕ → ℕ → ℕ
by_v N y = image_number N y matrix_v

pub same_matrix : {a b c d a' b' c' d' : ℤ} → a ≡ a' → b ≡ b' → c ≡ c' → d ≡ d' → matrix a b c d ≡ matrix a' b' c' d'
same_matrix e f g h = λ i. matrix (e i) (f i) (g i) (h i)

pub moved-lt : (N y : ℕ) (m : Matrix) → y < length (symbols N) → determinant m ≡ pos 1 → image_number N y m < length (symbols N)
moved-lt N y m within e = image_number-lt N y m within (invertible_one N m e)

pub moved : (N y : ℕ) (m w : Matrix) → y < length (symbols N) → determinant m ≡ pos 1 → image_number N (image_number N y m) w
    ≡ image_number N y (product m w)
moved N y m w within e = image_number_product N y m w within (invertible_one N m e)

pub s-lt : (N y : ℕ) → y < length (symbols N) → by_s N y < length (symbols N)
s-lt N y within = image_number-lt N y matrix_s within (invertible_s N)

pub u-lt : (N y : ℕ) → y < length (symbols N) → by_u N y < length (symbols N)
u-lt N y within = image_number-lt N y matrix_u within (invertible_u N)

pub v-lt : (N y : ℕ) → y < length (symbols N) → by_v N y < length (symbols N)
v-lt N y within = image_number-lt N y matrix_v within (invertible_s N)

pub by_identity : (N y : ℕ) → y < length (symbols N) → image_number N y identity ≡ y
by_identity zero y within = absurd (omega (arith, level_positive 0 y within))
by_identity (suc n) y within = image_number-scalar n y (pos 1) within (IsUnit-plus_one (suc n))

by_minus_one : (N y : ℕ) → y < length (symbols N) → image_number N y minus_one ≡ y
by_minus_one zero y within = absurd (omega (arith, level_positive 0 y within))
by_minus_one (suc n) y within = image_number-scalar n y (negsuc 0) within (IsUnit-minus_one n)

-- the opposite matrix moves as the matrix
pub by_opposite : (N y : ℕ) (m : Matrix) → y < length (symbols N) → determinant m ≡ pos 1
    → image_number N y (matrix (neg_ℤ m.a) (neg_ℤ m.b) (neg_ℤ m.c) (neg_ℤ m.d)) ≡ image_number N y m
by_opposite N y m within e =
    ap (image_number N y) (same_matrix (left m.a m.b) (right m.a m.b) (left m.c m.d) (right m.c m.d))
    ∙ sym (moved N y m minus_one within e) ∙ by_minus_one N (image_number N y m) (moved-lt N y m within e)
  where
    left : (a b : ℤ) → neg_ℤ a ≡ a *ℤ negsuc 0 +ℤ b *ℤ pos 0
    left a b = omega (arith, ints)

    right : (a b : ℤ) → neg_ℤ b ≡ a *ℤ pos 0 +ℤ b *ℤ negsuc 0
    right a b = omega (arith, ints)

-- ---- the relations
pub pair : (p N y : ℕ) → 0 < p → y < length (symbols N) → Same {p = p} N (unit y ⊞ unit (by_s N y)) zeros
pair p N y positive within = record { congruent = Congruent-pair p N y positive within }

triple : (p N y : ℕ) → 0 < p → y < length (symbols N)
    → Same {p = p} N (unit y ⊞ unit (image_number N y matrix_t) ⊞ unit (image_number N (image_number N y matrix_t) matrix_t)) zeros
triple p N y positive within = record { congruent = Congruent-triple p N y positive within }

-- y V S = y T
by_v_s : (N y : ℕ) → y < length (symbols N) → by_s N (by_v N y) ≡ image_number N y matrix_t
by_v_s N y within = moved N y matrix_v matrix_s within refl

-- y U S = y T T
by_u_s : (N y : ℕ) → y < length (symbols N) → by_s N (by_u N y) ≡ image_number N (image_number N y matrix_t) matrix_t
by_u_s N y within = moved N y matrix_u matrix_s within refl ∙ sym (by_opposite N y (product matrix_u matrix_s) within refl)
    ∙ sym (moved N y matrix_t matrix_t within refl)

-- y = y U + y V
pub three_terms : (p N y : ℕ) → 0 < p → y < length (symbols N) → Same {p = p} N (unit y) (unit (by_u N y) ⊞ unit (by_v N y))
three_terms p N y positive within =
    let t : ℕ = image_number N y matrix_t in
    let tt : ℕ = image_number N t matrix_t in
    let other : Vector p = unit tt ⊞ unit t in
    let by_u_pair : Same {p = p} N (unit (by_u N y) ⊞ unit tt) zeros = subst (λ i. Same {p = p} N (unit (by_u N y) ⊞ unit i) zeros)
    (by_u_s N y within)
    (pair p N (by_u N y) positive (u-lt N y within)) in
    let by_v_pair : Same {p = p} N (unit (by_v N y) ⊞ unit t) zeros = subst (λ i. Same {p = p} N (unit (by_v N y) ⊞ unit i) zeros)
    (by_v_s N y within)
    (pair p N (by_v N y) positive (v-lt N y within)) in
    let first : Same {p = p} N (unit y ⊞ other) zeros =
    same_by (ap (λ v. unit y ⊞ v) (plus_comm (unit tt) (unit t)) ∙ sym (plus_assoc (unit y) (unit t) (unit tt))) refl
    (triple p N y positive within) in
    let second : Same {p = p} N ((unit (by_u N y) ⊞ unit (by_v N y)) ⊞ other) zeros =
    same_by (plus_middle (unit (by_u N y)) (unit (by_v N y)) (unit tt) (unit t)) (sym (plus-zeros zeros))
    (same_plus positive by_u_pair by_v_pair) in
    same_cancel positive other (same_trans positive first (same_sym positive second))
