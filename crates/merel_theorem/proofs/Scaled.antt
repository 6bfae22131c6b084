-- The lattice of q t, for a number q: it has the arcs of that of t, where q is coprime to the level; and it lies in each lattice of index q.
use Rattle.std.proofs.Common.{◌≡◌, ◌≢◌, ◌*◌, ◌<◌, ℕ, zero, suc, length, sym, ◌∙◌, ap, arith}
use Rattle.std.specs.Prelude.{ℤ, pos, neg_ℤ, ◌+ℤ◌, ◌-ℤ◌, ◌*ℤ◌}
use Rattle.std.proofs.lemmas.Int.{ints}
use Rattle.linear_algebra.specs.Vector.{minus}
use Rattle.p1_normal.specs.declared.matrix.Matrix.{Matrix}
use Rattle.p1_normal.specs.Units.{gcd}
use Rattle.p1_normal.specs.Points.{symbols}
use Rattle.p1_normal.specs.Actions.{matrix, product, determinant, image_number, IsInvertible}
use Rattle.p1_normal.proofs.Numbers.{level_positive}
use Rattle.p1_normal.proofs.Units.{IsUnit-from_gcd, IsUnit-mod}
use Rattle.p1_normal.proofs.Moves.{image_number-lt, image_number-scalar}
use Rattle.p1_normal.proofs.LevelLaws.{image_number_product}
use Rattle.heilbronn_chains.proofs.Integers.{is_gap, pos_gap, gaps, gap_same}
use Rattle.merel_theorem.proofs.Terms.{same_matrix}
use Rattle.merel_theorem.proofs.Signs.{toward, toward-scaled}
use Rattle.merel_theorem.proofs.Bases.{product_assoc, adjoint}
use Rattle.merel_theorem.proofs.Chains.{from_end}
use Rattle.merel_theorem.proofs.Factors.{Divides}
use Rattle.merel_theorem.proofs.Arcs.{arc}

-- ---- q times the identity, and q times a matrix
abbrev pub scalar : ℕ → Matrix
scalar q = matrix (pos q) (pos 0) (pos 0) (pos q)

pub scalar_determinant : (q : ℕ) → determinant (scalar q) ≡ pos (q * q)
scalar_determinant q = law (pos q)
  where
    law : (x : ℤ) → x *ℤ x -ℤ pos 0 *ℤ pos 0 ≡ x *ℤ x
    law x = rw (is_gap x, pos_gap 0) (simp gaps (gap_same _ _ _ _ (omega arith)))

abbrev times : ℕ → Matrix → Matrix
times q t = matrix (pos q *ℤ t.a) (pos q *ℤ t.b) (pos q *ℤ t.c) (pos q *ℤ t.d)

scalar_left : (q : ℕ) (t : Matrix) → product (scalar q) t ≡ times q t
scalar_left q t = same_matrix (first (pos q) t.a t.c) (first (pos q) t.b t.d) (second (pos q) t.c t.a) (second (pos q) t.d t.b)
  where
    first : (q x z : ℤ) → q *ℤ x +ℤ pos 0 *ℤ z ≡ q *ℤ x
    first q x z = rw (is_gap q, is_gap x, is_gap z, pos_gap 0) (simp gaps (gap_same _ _ _ _ (omega arith)))

    second : (q x z : ℤ) → pos 0 *ℤ z +ℤ q *ℤ x ≡ q *ℤ x
    second q x z = rw (is_gap q, is_gap x, is_gap z, pos_gap 0) (simp gaps (gap_same _ _ _ _ (omega arith)))

scalar_right : (q : ℕ) (t : Matrix) → product t (scalar q) ≡ times q t
scalar_right q t = same_matrix (first (pos q) t.a t.b) (second (pos q) t.b t.a) (first (pos q) t.c t.d) (second (pos q) t.d t.c)
  where
    first : (q x z : ℤ) → x *ℤ q +ℤ z *ℤ pos 0 ≡ q *ℤ x
    first q x z = rw (is_gap q, is_gap x, is_gap z, pos_gap 0) (simp gaps (gap_same _ _ _ _ (omega arith)))

    second : (q x z : ℤ) → z *ℤ pos 0 +ℤ x *ℤ q ≡ q *ℤ x
    second q x z = rw (is_gap q, is_gap x, is_gap z, pos_gap 0) (simp gaps (gap_same _ _ _ _ (omega arith)))

-- ---- a number that is coprime to N moves no symbol
image-times : (N k q : ℕ) (t : Matrix) → k < length (symbols N) → gcd q N ≡ 1 → IsInvertible N t → image_number N k (times q t) ≡ image_number N k t
image-times zero k q t within coprime unit = absurd (omega (arith, level_positive 0 k within))
image-times (suc n) k q t within coprime unit =
    ap (image_number (suc n) k) (sym (scalar_right q t)) ∙ sym (image_number_product (suc n) k t (scalar q) within unit)
    ∙ image_number-scalar n (image_number (suc n) k t) (pos q) (image_number-lt (suc n) k t within unit)
    (IsUnit-mod (suc n) q (IsUnit-from_gcd (suc n) q (omega arith) coprime))

-- so the ways from each end stay
from_end-times : {p : ℕ} (N k q : ℕ) (t : Matrix) (x z : ℤ) → pos q ≢ pos 0 → image_number N k (times q t) ≡ image_number N k t
    → from_end {p = p} N k (times q t) x z ≡ from_end N k t x z
unfolding from_end
from_end-times {p} N k q t x z some same =
    ap (λ w. toward {p = p} N w (((pos q *ℤ t.a) *ℤ z) -ℤ ((pos q *ℤ t.c) *ℤ x)) (image_number N k (times q t))) (law (pos q) t.d t.b x z)
    ∙ ap (λ w. toward {p = p} N (pos q *ℤ ((t.d *ℤ x) -ℤ (t.b *ℤ z))) w (image_number N k (times q t))) (law (pos q) t.a t.c z x)
    ∙ toward-scaled N (pos q) ((t.d *ℤ x) -ℤ (t.b *ℤ z)) ((t.a *ℤ z) -ℤ (t.c *ℤ x)) (image_number N k (times q t)) some
    ∙ ap (toward {p = p} N ((t.d *ℤ x) -ℤ (t.b *ℤ z)) ((t.a *ℤ z) -ℤ (t.c *ℤ x))) same
  where
    law : (q d b x z : ℤ) → ((q *ℤ d) *ℤ x) -ℤ ((q *ℤ b) *ℤ z) ≡ q *ℤ ((d *ℤ x) -ℤ (b *ℤ z))
    law q d b x z = rw (is_gap q, is_gap d, is_gap b, is_gap x, is_gap z) (simp gaps (gap_same _ _ _ _ (omega arith)))

pub arc-scaled : (p N k q : ℕ) (t : Matrix) → 0 < q → k < length (symbols N) → gcd q N ≡ 1 → IsInvertible N t
    → arc {p = p} N k (product (scalar q) t) ≡ arc N k t
unfolding arc
arc-scaled p N k q t positive within coprime unit =
    let same = image-times N k q t within coprime unit in
    let some : pos q ≢ pos 0 = nonzero q positive in
    ap (λ w. minus (from_end {p = p} N k w (pos 0) (pos 1)) (from_end N k w (pos 1) (pos 0))) (scalar_left q t)
    ∙ ap (λ v. minus v (from_end {p = p} N k (times q t) (pos 1) (pos 0))) (from_end-times N k q t (pos 0) (pos 1) some same)
    ∙ ap (minus (from_end {p = p} N k t (pos 0) (pos 1))) (from_end-times N k q t (pos 1) (pos 0) some same)
  where
    nonzero : (q : ℕ) → 0 < q → pos q ≢ pos 0
    nonzero q l e = omega (arith, ints, l, e)

-- ---- where q divides t, each matrix of determinant q divides t
self_adjoint : (q : ℕ) (h : Matrix) → determinant h ≡ pos q → product h (adjoint h) ≡ scalar q
self_adjoint q h e = same_matrix (first h.a h.b h.c h.d ∙ e) (second h.a h.b) (third h.c h.d) (last h.a h.b h.c h.d ∙ e)
  where
    first : (a b c d : ℤ) → a *ℤ d +ℤ b *ℤ neg_ℤ c ≡ a *ℤ d -ℤ b *ℤ c
    first a b c d = rw (is_gap a, is_gap b, is_gap c, is_gap d) (simp gaps (gap_same _ _ _ _ (omega arith)))

    second : (a b : ℤ) → a *ℤ neg_ℤ b +ℤ b *ℤ a ≡ pos 0
    second a b = rw (is_gap a, is_gap b, pos_gap 0) (simp gaps (gap_same _ _ _ _ (omega arith)))

    third : (c d : ℤ) → c *ℤ d +ℤ d *ℤ neg_ℤ c ≡ pos 0
    third c d = rw (is_gap c, is_gap d, pos_gap 0) (simp gaps (gap_same _ _ _ _ (omega arith)))

    last : (a b c d : ℤ) → c *ℤ neg_ℤ b +ℤ d *ℤ a ≡ a *ℤ d -ℤ b *ℤ c
    last a b c d = rw (is_gap a, is_gap b, is_gap c, is_gap d) (simp gaps (gap_same _ _ _ _ (omega arith)))

pub all_divide : (q : ℕ) (h t : Matrix) → determinant h ≡ pos q → Divides (scalar q) t → Divides h t
all_divide q h t det d = record {
  cofactor = product (adjoint h) d.cofactor;
  is = d.is ∙ ap (λ w. product w d.cofactor) (sym (self_adjoint q h det)) ∙ product_assoc h (adjoint h) d.cofactor;
}
