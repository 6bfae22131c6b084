-- Steps on the columns of a matrix that keep its lattice and its determinant.
use Rattle.std.proofs.Common.{◌≡◌, ℕ, ◌∙◌, ap, subst, arith}
use Rattle.std.specs.Prelude.{ℤ, pos, neg_ℤ, ◌+ℤ◌, ◌-ℤ◌, ◌*ℤ◌}
use Rattle.p1_normal.specs.declared.matrix.Matrix.{Matrix}
use Rattle.p1_normal.specs.Actions.{matrix, determinant}
use Rattle.heilbronn_chains.specs.Lattice.{IsMultiple, SameLattice}
use Rattle.heilbronn_chains.proofs.Integers.{is_gap, pos_gap, gaps, gap_same}

-- ---- multiples
pub multiple_add : (n : ℕ) (u v : ℤ) → IsMultiple n u → IsMultiple n v → IsMultiple n (u +ℤ v)
multiple_add n u v g h = record {
  quotient = g.quotient +ℤ h.quotient;
  product = law g.quotient h.quotient (pos n)
      ∙ ap (λ z. z +ℤ h.quotient *ℤ pos n) g.product ∙ ap (λ z. u +ℤ z) h.product;
}
  where
    law : (x y z : ℤ) → (x +ℤ y) *ℤ z ≡ x *ℤ z +ℤ y *ℤ z
    law x y z = rw (is_gap x, is_gap y, is_gap z) (simp gaps (gap_same _ _ _ _ (omega arith)))

pub multiple_times : (n : ℕ) (k u : ℤ) → IsMultiple n u → IsMultiple n (k *ℤ u)
multiple_times n k u h = record { quotient = k *ℤ h.quotient; product = law k h.quotient (pos n) ∙ ap (λ z. k *ℤ z) h.product }
  where
    law : (x y z : ℤ) → (x *ℤ y) *ℤ z ≡ x *ℤ (y *ℤ z)
    law x y z = rw (is_gap x, is_gap y, is_gap z) (simp gaps (gap_same _ _ _ _ (omega arith)))

pub multiple_neg : (n : ℕ) (u : ℤ) → IsMultiple n u → IsMultiple n (neg_ℤ u)
multiple_neg n u h = record { quotient = neg_ℤ h.quotient; product = law h.quotient (pos n) ∙ ap neg_ℤ h.product }
  where
    law : (x z : ℤ) → neg_ℤ x *ℤ z ≡ neg_ℤ (x *ℤ z)
    law x z = rw (is_gap x, is_gap z) (simp gaps (gap_same _ _ _ _ (omega arith)))

-- ---- the step back along a chain: the columns (b, d) and k (b, d) - (a, c)
abbrev pub step_back : ℤ → Matrix → Matrix
step_back k m = matrix m.b ((k *ℤ m.b) -ℤ m.a) m.d ((k *ℤ m.d) -ℤ m.c)

pub determinant-step_back : (k : ℤ) (m : Matrix) → determinant (step_back k m) ≡ determinant m
determinant-step_back k m = law m.a m.b m.c m.d k
  where
    law : (a b c d k : ℤ) → b *ℤ ((k *ℤ d) -ℤ c) -ℤ ((k *ℤ b) -ℤ a) *ℤ d ≡ a *ℤ d -ℤ b *ℤ c
    law a b c d k = rw (is_gap a, is_gap b, is_gap c, is_gap d, is_gap k) (simp gaps (gap_same _ _ _ _ (omega arith)))

pub SameLattice-step_back : (n : ℕ) (k : ℤ) (m : Matrix) → SameLattice n m (step_back k m)
SameLattice-step_back n k m x y = (
  λ h. record {
    first = subst (IsMultiple n) (into m.a m.b m.c m.d) (multiple_add n (k *ℤ ((m.d *ℤ x) -ℤ (m.b *ℤ y))) ((m.a *ℤ y) -ℤ (m.c *ℤ x))
        (multiple_times n k ((m.d *ℤ x) -ℤ (m.b *ℤ y)) h.first) h.second);
    second = subst (IsMultiple n) (back m.b m.d x y) (multiple_neg n ((m.d *ℤ x) -ℤ (m.b *ℤ y)) h.first);
  },
  λ h. record {
    first = subst (IsMultiple n) (back m.d m.b y x) (multiple_neg n ((m.b *ℤ y) -ℤ (m.d *ℤ x)) h.second);
    second = subst (IsMultiple n) (out m.a m.b m.c m.d) (multiple_add n ((((k *ℤ m.d) -ℤ m.c) *ℤ x) -ℤ (((k *ℤ m.b) -ℤ m.a) *ℤ y))
        (k *ℤ ((m.b *ℤ y) -ℤ (m.d *ℤ x))) h.first (multiple_times n k ((m.b *ℤ y) -ℤ (m.d *ℤ x)) h.second));
  },
)
  where
    into : (a b c d : ℤ) → k *ℤ ((d *ℤ x) -ℤ (b *ℤ y)) +ℤ ((a *ℤ y) -ℤ (c *ℤ x)) ≡ (((k *ℤ d) -ℤ c) *ℤ x) -ℤ (((k *ℤ b) -ℤ a) *ℤ y)
    into a b c d = rw (is_gap a, is_gap b, is_gap c, is_gap d, is_gap k, is_gap x, is_gap y) (simp gaps (gap_same _ _ _ _ (omega arith)))

    back : (b d x y : ℤ) → neg_ℤ ((d *ℤ x) -ℤ (b *ℤ y)) ≡ (b *ℤ y) -ℤ (d *ℤ x)
    back b d x y = rw (is_gap b, is_gap d, is_gap x, is_gap y) (simp gaps (gap_same _ _ _ _ (omega arith)))

    out : (a b c d : ℤ) → ((((k *ℤ d) -ℤ c) *ℤ x) -ℤ (((k *ℤ b) -ℤ a) *ℤ y)) +ℤ k *ℤ ((b *ℤ y) -ℤ (d *ℤ x)) ≡ (a *ℤ y) -ℤ (c *ℤ x)
    out a b c d = rw (is_gap a, is_gap b, is_gap c, is_gap d, is_gap k, is_gap x, is_gap y) (simp gaps (gap_same _ _ _ _ (omega arith)))

-- ---- both columns turned
pub SameLattice-turned : (n : ℕ) (a b c d : ℤ) → SameLattice n (matrix a b c d) (matrix (neg_ℤ a) (neg_ℤ b) (neg_ℤ c) (neg_ℤ d))
SameLattice-turned n a b c d x y = (
  λ h. record {
    first = subst (IsMultiple n) (into d b x y) (multiple_neg n ((d *ℤ x) -ℤ (b *ℤ y)) h.first);
    second = subst (IsMultiple n) (into a c y x) (multiple_neg n ((a *ℤ y) -ℤ (c *ℤ x)) h.second);
  },
  λ h. record {
    first = subst (IsMultiple n) (out d b x y) (multiple_neg n ((neg_ℤ d *ℤ x) -ℤ (neg_ℤ b *ℤ y)) h.first);
    second = subst (IsMultiple n) (out a c y x) (multiple_neg n ((neg_ℤ a *ℤ y) -ℤ (neg_ℤ c *ℤ x)) h.second);
  },
)
  where
    into : (d b x y : ℤ) → neg_ℤ ((d *ℤ x) -ℤ (b *ℤ y)) ≡ (neg_ℤ d *ℤ x) -ℤ (neg_ℤ b *ℤ y)
    into d b x y = rw (is_gap b, is_gap d, is_gap x, is_gap y) (simp gaps (gap_same _ _ _ _ (omega arith)))

    out : (d b x y : ℤ) → neg_ℤ ((neg_ℤ d *ℤ x) -ℤ (neg_ℤ b *ℤ y)) ≡ (d *ℤ x) -ℤ (b *ℤ y)
    out d b x y = rw (is_gap b, is_gap d, is_gap x, is_gap y) (simp gaps (gap_same _ _ _ _ (omega arith)))

-- ---- a multiple of the second column (0, d) added to the first
pub SameLattice-lowered : (n : ℕ) (q a c d : ℤ) → SameLattice n (matrix a (pos 0) c d) (matrix a (pos 0) (c +ℤ q *ℤ d) d)
SameLattice-lowered n q a c d x y = (
  λ h. record {
    first = h.first;
    second = subst (IsMultiple n) (into x y) (multiple_add n ((a *ℤ y) -ℤ (c *ℤ x)) (neg_ℤ (q *ℤ ((d *ℤ x) -ℤ (pos 0 *ℤ y)))) h.second
        (multiple_neg n (q *ℤ ((d *ℤ x) -ℤ (pos 0 *ℤ y))) (multiple_times n q ((d *ℤ x) -ℤ (pos 0 *ℤ y)) h.first)));
  },
  λ h. record {
    first = h.first;
    second = subst (IsMultiple n) (out x y) (multiple_add n ((a *ℤ y) -ℤ ((c +ℤ q *ℤ d) *ℤ x)) (q *ℤ ((d *ℤ x) -ℤ (pos 0 *ℤ y))) h.second
        (multiple_times n q ((d *ℤ x) -ℤ (pos 0 *ℤ y)) h.first));
  },
)
  where
    into : (x y : ℤ) → ((a *ℤ y) -ℤ (c *ℤ x)) +ℤ neg_ℤ (q *ℤ ((d *ℤ x) -ℤ (pos 0 *ℤ y))) ≡ (a *ℤ y) -ℤ ((c +ℤ q *ℤ d) *ℤ x)
    into x y = rw (pos_gap 0, is_gap a, is_gap c, is_gap d, is_gap q, is_gap x, is_gap y) (simp gaps (gap_same _ _ _ _ (omega arith)))

    out : (x y : ℤ) → ((a *ℤ y) -ℤ ((c +ℤ q *ℤ d) *ℤ x)) +ℤ (q *ℤ ((d *ℤ x) -ℤ (pos 0 *ℤ y))) ≡ (a *ℤ y) -ℤ (c *ℤ x)
    out x y = rw (pos_gap 0, is_gap a, is_gap c, is_gap d, is_gap q, is_gap x, is_gap y) (simp gaps (gap_same _ _ _ _ (omega arith)))

-- ---- to have the same lattice is an equivalence
pub SameLattice_refl : (n : ℕ) (m : Matrix) → SameLattice n m m
SameLattice_refl n m x y = (λ h. h, λ h. h)

pub SameLattice_sym : (n : ℕ) (m k : Matrix) → SameLattice n m k → SameLattice n k m
SameLattice_sym n m k h x y = ((h x y).1, (h x y).0)

pub SameLattice_trans : (n : ℕ) (m k l : Matrix) → SameLattice n m k → SameLattice n k l → SameLattice n m l
SameLattice_trans n m k l g h x y = (λ i. (h x y).0 ((g x y).0 i), λ i. (g x y).1 ((h x y).1 i))
