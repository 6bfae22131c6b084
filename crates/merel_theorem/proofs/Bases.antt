-- Bases of one lattice: m is over g where m = g s with a matrix s of determinant 1. Each matrix of determinant n is over exactly one start.
use Rattle.std.proofs.Common.{◌≡◌, ◌+◌, ◌-◌, ◌*◌, ◌<◌, ℕ, zero, suc, refl, sym, ◌∙◌, ap, subst, arith}
use Rattle.std.specs.Prelude.{ℤ, pos, negsuc, neg_ℤ, ◌+ℤ◌, ◌-ℤ◌, ◌*ℤ◌}
use Rattle.std.proofs.lemmas.Int.{ints}
use Rattle.p1_normal.specs.declared.matrix.Matrix.{Matrix}
use Rattle.p1_normal.specs.Actions.{matrix, product, determinant}
use Rattle.heilbronn_chains.specs.Lattice.{IsMultiple, InLattice, SameLattice}
use Rattle.heilbronn_chains.specs.Starts.{IsStart}
use Rattle.heilbronn_chains.proofs.Integers.{is_gap, pos_gap, gaps, gap_same}
use Rattle.heilbronn_chains.proofs.ColumnSteps.{multiple_add, multiple_times, multiple_neg, SameLattice_sym}
use Rattle.heilbronn_chains.proofs.Hermite.{has_start, start_unique}
use Rattle.heilbronn_chains.proofs.Runs.{merel_from_start}
use Rattle.merel_theorem.proofs.Terms.{same_matrix, identity}

-- ---- products
pub product_assoc : (x y z : Matrix) → product (product x y) z ≡ product x (product y z)
product_assoc x y z = same_matrix (law x.a x.b y.a y.b y.c y.d z.a z.c) (law x.a x.b y.a y.b y.c y.d z.b z.d)
    (law x.c x.d y.a y.b y.c y.d z.a z.c) (law x.c x.d y.a y.b y.c y.d z.b z.d)
  where
    law : (a b e f g h u v : ℤ) → (a *ℤ e +ℤ b *ℤ g) *ℤ u +ℤ (a *ℤ f +ℤ b *ℤ h) *ℤ v ≡ a *ℤ (e *ℤ u +ℤ f *ℤ v) +ℤ b *ℤ (g *ℤ u +ℤ h *ℤ v)
    law a b e f g h u v = rw (is_gap a, is_gap b, is_gap e, is_gap f, is_gap g, is_gap h, is_gap u, is_gap v)
        (simp gaps (gap_same _ _ _ _ (omega arith)))

pub determinant-product : (m k : Matrix) → determinant (product m k) ≡ determinant m *ℤ determinant k
determinant-product m k = law m.a m.b m.c m.d k.a k.b k.c k.d
  where
    law : (a b c d x y z w : ℤ) → (a *ℤ x +ℤ b *ℤ z) *ℤ (c *ℤ y +ℤ d *ℤ w) -ℤ (a *ℤ y +ℤ b *ℤ w) *ℤ (c *ℤ x +ℤ d *ℤ z) ≡ (a *ℤ d -ℤ b *ℤ c) *ℤ
        (x *ℤ w -ℤ y *ℤ z)
    law a b c d x y z w = rw (is_gap a, is_gap b, is_gap c, is_gap d, is_gap x, is_gap y, is_gap z, is_gap w)
        (simp gaps (gap_same _ _ _ _ (omega arith)))

-- ---- a positive factor is cancelled
cancels : (n : ℕ) (x : ℤ) → 0 < n → x *ℤ pos n ≡ pos 0 → x ≡ pos 0
cancels zero x some e = absurd (omega (arith, some))
cancels (suc n) (pos zero) some e = refl
cancels (suc n) (pos (suc x)) some e = absurd (omega (arith, ints, e))
cancels (suc n) (negsuc x) some e = absurd (omega (arith, ints, e))

equal_from_difference : (s t : ℤ) → s -ℤ t ≡ pos 0 → s ≡ t
equal_from_difference s t e = omega (arith, ints, e)

none_from_equal : (s t : ℤ) → s ≡ t → s -ℤ t ≡ pos 0
none_from_equal s t e = omega (arith, ints, e)

pub cancelled : (n : ℕ) (x y : ℤ) → 0 < n → x *ℤ pos n ≡ y *ℤ pos n → x ≡ y
cancelled n x y some e = equal_from_difference x y (cancels n (x -ℤ y) some (law x y (pos n) ∙ none_from_equal (x *ℤ pos n) (y *ℤ pos n) e))
  where
    law : (x y z : ℤ) → (x -ℤ y) *ℤ z ≡ x *ℤ z -ℤ y *ℤ z
    law x y z = rw (is_gap x, is_gap y, is_gap z) (simp gaps (gap_same _ _ _ _ (omega arith)))

pub times_comm : (x y : ℤ) → x *ℤ y ≡ y *ℤ x
times_comm x y = rw (is_gap x, is_gap y) (simp gaps (gap_same _ _ _ _ (omega arith)))

pub one_times : (x : ℤ) → pos 1 *ℤ x ≡ x
one_times x = rw (pos_gap 1, is_gap x) (simp gaps (gap_same _ _ _ _ (omega arith)))

-- ---- inverses of matrices of determinant 1
abbrev pub adjoint : Matrix → Matrix
adjoint m = matrix m.d (neg_ℤ m.b) (neg_ℤ m.c) m.a

pub determinant-adjoint : (m : Matrix) → determinant (adjoint m) ≡ determinant m
determinant-adjoint m = law m.a m.b m.c m.d
  where
    law : (a b c d : ℤ) → d *ℤ a -ℤ neg_ℤ b *ℤ neg_ℤ c ≡ a *ℤ d -ℤ b *ℤ c
    law a b c d = rw (is_gap a, is_gap b, is_gap c, is_gap d) (simp gaps (gap_same _ _ _ _ (omega arith)))

-- back on the left
pub undone_left : (s m : Matrix) → determinant s ≡ pos 1 → product (adjoint s) (product s m) ≡ m
undone_left s m e = same_matrix (first s.a s.b s.c s.d m.a m.c ∙ at m.a) (first s.a s.b s.c s.d m.b m.d ∙ at m.b)
    (second s.a s.b s.c s.d m.a m.c ∙ at m.c) (second s.a s.b s.c s.d m.b m.d ∙ at m.d)
  where
    at : (x : ℤ) → determinant s *ℤ x ≡ x
    at x = ap (λ z. z *ℤ x) e ∙ one_times x

    first : (a b c d x z : ℤ) → d *ℤ (a *ℤ x +ℤ b *ℤ z) +ℤ neg_ℤ b *ℤ (c *ℤ x +ℤ d *ℤ z) ≡ (a *ℤ d -ℤ b *ℤ c) *ℤ x
    first a b c d x z = rw (is_gap a, is_gap b, is_gap c, is_gap d, is_gap x, is_gap z) (simp gaps (gap_same _ _ _ _ (omega arith)))

    second : (a b c d x z : ℤ) → neg_ℤ c *ℤ (a *ℤ x +ℤ b *ℤ z) +ℤ a *ℤ (c *ℤ x +ℤ d *ℤ z) ≡ (a *ℤ d -ℤ b *ℤ c) *ℤ z
    second a b c d x z = rw (is_gap a, is_gap b, is_gap c, is_gap d, is_gap x, is_gap z) (simp gaps (gap_same _ _ _ _ (omega arith)))

-- and on the right
pub undone_right : (m s : Matrix) → determinant s ≡ pos 1 → product (product m s) (adjoint s) ≡ m
undone_right m s e = same_matrix (first m.a m.b s.a s.b s.c s.d ∙ at m.a) (second m.a m.b s.a s.b s.c s.d ∙ at m.b)
    (first m.c m.d s.a s.b s.c s.d ∙ at m.c) (second m.c m.d s.a s.b s.c s.d ∙ at m.d)
  where
    at : (x : ℤ) → determinant s *ℤ x ≡ x
    at x = ap (λ z. z *ℤ x) e ∙ one_times x

    first : (x z a b c d : ℤ) → (x *ℤ a +ℤ z *ℤ c) *ℤ d +ℤ (x *ℤ b +ℤ z *ℤ d) *ℤ neg_ℤ c ≡ (a *ℤ d -ℤ b *ℤ c) *ℤ x
    first x z a b c d = rw (is_gap a, is_gap b, is_gap c, is_gap d, is_gap x, is_gap z) (simp gaps (gap_same _ _ _ _ (omega arith)))

    second : (x z a b c d : ℤ) → (x *ℤ a +ℤ z *ℤ c) *ℤ neg_ℤ b +ℤ (x *ℤ b +ℤ z *ℤ d) *ℤ a ≡ (a *ℤ d -ℤ b *ℤ c) *ℤ z
    second x z a b c d = rw (is_gap a, is_gap b, is_gap c, is_gap d, is_gap x, is_gap z) (simp gaps (gap_same _ _ _ _ (omega arith)))

pub left_identity : (m : Matrix) → product identity m ≡ m
left_identity m = same_matrix (first m.a m.c) (first m.b m.d) (second m.a m.c) (second m.b m.d)
  where
    first : (x z : ℤ) → pos 1 *ℤ x +ℤ pos 0 *ℤ z ≡ x
    first x z = rw (pos_gap 1, pos_gap 0, is_gap x, is_gap z) (simp gaps (gap_same _ _ _ _ (omega arith)))

    second : (x z : ℤ) → pos 0 *ℤ x +ℤ pos 1 *ℤ z ≡ z
    second x z = rw (pos_gap 1, pos_gap 0, is_gap x, is_gap z) (simp gaps (gap_same _ _ _ _ (omega arith)))

pub right_identity : (m : Matrix) → product m identity ≡ m
right_identity m = same_matrix (first m.a m.b) (second m.a m.b) (first m.c m.d) (second m.c m.d)
  where
    first : (x z : ℤ) → x *ℤ pos 1 +ℤ z *ℤ pos 0 ≡ x
    first x z = rw (pos_gap 1, pos_gap 0, is_gap x, is_gap z) (simp gaps (gap_same _ _ _ _ (omega arith)))

    second : (x z : ℤ) → x *ℤ pos 0 +ℤ z *ℤ pos 1 ≡ z
    second x z = rw (pos_gap 1, pos_gap 0, is_gap x, is_gap z) (simp gaps (gap_same _ _ _ _ (omega arith)))

-- ---- m is over g
pub record Over (g m : Matrix) : Type 0 where
  pub factor : Matrix
  pub is : m ≡ product g factor
  pub one : determinant factor ≡ pos 1

pub one_and_one : (m k : Matrix) → determinant m ≡ pos 1 → determinant k ≡ pos 1 → determinant (product m k) ≡ pos 1
one_and_one m k e f = determinant-product m k ∙ ap (λ z. z *ℤ determinant k) e ∙ one_times (determinant k) ∙ f

pub Over_refl : (g : Matrix) → Over g g
Over_refl g = record { factor = identity; is = sym (right_identity g); one = refl }

pub Over_sym : {g m : Matrix} → Over g m → Over m g
Over_sym {g} {m} h = record {
  factor = adjoint h.factor;
  is = sym (ap (λ w. product w (adjoint h.factor)) h.is ∙ undone_right g h.factor h.one);
  one = determinant-adjoint h.factor ∙ h.one;
}

pub Over_trans : {g m k : Matrix} → Over g m → Over m k → Over g k
Over_trans {g} {m} {k} h j = record {
  factor = product h.factor j.factor;
  is = j.is ∙ ap (λ w. product w j.factor) h.is ∙ product_assoc g h.factor j.factor;
  one = one_and_one h.factor j.factor h.one j.one;
}

-- with a factor on the left of both
pub Over-left : (s : Matrix) {g m : Matrix} → Over g m → Over (product s g) (product s m)
Over-left s {g} {m} h = record { factor = h.factor; is = ap (product s) h.is ∙ sym (product_assoc s g h.factor); one = h.one }

-- and without it, where it has determinant 1
pub Over-cancel : (s : Matrix) {g m : Matrix} → determinant s ≡ pos 1 → Over (product s g) (product s m) → Over g m
Over-cancel s {g} {m} e h = record {
  factor = h.factor;
  is = sym (undone_left s m e) ∙ ap (product (adjoint s)) (h.is ∙ product_assoc s g h.factor) ∙ undone_left s (product g h.factor) e;
  one = h.one;
}

pub Over-times : (g s : Matrix) → determinant s ≡ pos 1 → Over g (product g s)
Over-times g s e = record { factor = s; is = refl; one = e }

-- determinants agree
pub Over-determinant : {g m : Matrix} → Over g m → determinant m ≡ determinant g
Over-determinant {g} {m} h = ap determinant h.is ∙ determinant-product g h.factor ∙ ap (λ z. determinant g *ℤ z) h.one
    ∙ times_comm (determinant g) (pos 1) ∙ one_times (determinant g)

-- ---- over g is the lattice of g
lattice_forth : (n : ℕ) (g s : Matrix) (x y : ℤ) → InLattice n g x y → InLattice n (product g s) x y
lattice_forth n g s x y h = record {
  first = subst (IsMultiple n) (first g.a g.b g.c g.d s.b s.d x y)
      (multiple_add n (s.d *ℤ ((g.d *ℤ x) -ℤ (g.b *ℤ y))) (neg_ℤ (s.b *ℤ ((g.a *ℤ y) -ℤ (g.c *ℤ x))))
      (multiple_times n s.d ((g.d *ℤ x) -ℤ (g.b *ℤ y)) h.first)
      (multiple_neg n (s.b *ℤ ((g.a *ℤ y) -ℤ (g.c *ℤ x))) (multiple_times n s.b ((g.a *ℤ y) -ℤ (g.c *ℤ x)) h.second)));
  second = subst (IsMultiple n) (second g.a g.b g.c g.d s.a s.c x y)
      (multiple_add n (s.a *ℤ ((g.a *ℤ y) -ℤ (g.c *ℤ x))) (neg_ℤ (s.c *ℤ ((g.d *ℤ x) -ℤ (g.b *ℤ y))))
      (multiple_times n s.a ((g.a *ℤ y) -ℤ (g.c *ℤ x)) h.second)
      (multiple_neg n (s.c *ℤ ((g.d *ℤ x) -ℤ (g.b *ℤ y))) (multiple_times n s.c ((g.d *ℤ x) -ℤ (g.b *ℤ y)) h.first)));
}
  where
    first : (a b c d u v x y : ℤ) → v *ℤ ((d *ℤ x) -ℤ (b *ℤ y)) +ℤ neg_ℤ (u *ℤ ((a *ℤ y) -ℤ (c *ℤ x)))
        ≡ ((c *ℤ u +ℤ d *ℤ v) *ℤ x) -ℤ ((a *ℤ u +ℤ b *ℤ v) *ℤ y)
    first a b c d u v x y = rw (is_gap a, is_gap b, is_gap c, is_gap d, is_gap u, is_gap v, is_gap x, is_gap y)
        (simp gaps (gap_same _ _ _ _ (omega arith)))

    second : (a b c d u v x y : ℤ) → u *ℤ ((a *ℤ y) -ℤ (c *ℤ x)) +ℤ neg_ℤ (v *ℤ ((d *ℤ x) -ℤ (b *ℤ y)))
        ≡ ((a *ℤ u +ℤ b *ℤ v) *ℤ y) -ℤ ((c *ℤ u +ℤ d *ℤ v) *ℤ x)
    second a b c d u v x y = rw (is_gap a, is_gap b, is_gap c, is_gap d, is_gap u, is_gap v, is_gap x, is_gap y)
        (simp gaps (gap_same _ _ _ _ (omega arith)))

pub SameLattice-over : (n : ℕ) {g m : Matrix} → Over g m → SameLattice n g m
SameLattice-over n {g} {m} h x y = (
  λ i. subst (λ w. InLattice n w x y) (sym h.is) (lattice_forth n g h.factor x y i),
  λ i. let back = Over_sym h in subst (λ w. InLattice n w x y) (sym back.is) (lattice_forth n m back.factor x y i),
)

-- the columns of a matrix lie in its lattice
first_column : (n : ℕ) (m : Matrix) → determinant m ≡ pos n → InLattice n m m.a m.c
first_column n m e = record {
  first = record { quotient = pos 1; product = one_times (pos n) ∙ sym (flip m.a m.b m.c m.d ∙ e) };
  second = record { quotient = pos 0; product = none m.a m.c (pos n) };
}
  where
    flip : (a b c d : ℤ) → (d *ℤ a) -ℤ (b *ℤ c) ≡ a *ℤ d -ℤ b *ℤ c
    flip a b c d = rw (is_gap a, is_gap b, is_gap c, is_gap d) (simp gaps (gap_same _ _ _ _ (omega arith)))

    none : (a c n : ℤ) → pos 0 *ℤ n ≡ (a *ℤ c) -ℤ (c *ℤ a)
    none a c n = rw (pos_gap 0, is_gap a, is_gap c, is_gap n) (simp gaps (gap_same _ _ _ _ (omega arith)))

second_column : (n : ℕ) (m : Matrix) → determinant m ≡ pos n → InLattice n m m.b m.d
second_column n m e = record {
  first = record { quotient = pos 0; product = none m.b m.d (pos n) };
  second = record { quotient = pos 1; product = one_times (pos n) ∙ sym (flip m.a m.b m.c m.d ∙ e) };
}
  where
    flip : (a b c d : ℤ) → (a *ℤ d) -ℤ (c *ℤ b) ≡ a *ℤ d -ℤ b *ℤ c
    flip a b c d = rw (is_gap a, is_gap b, is_gap c, is_gap d) (simp gaps (gap_same _ _ _ _ (omega arith)))

    none : (b d n : ℤ) → pos 0 *ℤ n ≡ (d *ℤ b) -ℤ (b *ℤ d)
    none b d n = rw (pos_gap 0, is_gap b, is_gap d, is_gap n) (simp gaps (gap_same _ _ _ _ (omega arith)))

-- with columns in the lattice of g, m is g times the quotients
pub factored : (n : ℕ) (g m : Matrix) → 0 < n → determinant g ≡ pos n → (first : InLattice n g m.a m.c) (second : InLattice n g m.b m.d)
    → m ≡ product g (matrix first.first.quotient second.first.quotient first.second.quotient second.second.quotient)
factored n g m some e first second =
    sym (same_matrix (above m.a m.c first) (above m.b m.d second) (below m.a m.c first) (below m.b m.d second))
  where
    spread : (a b u v n : ℤ) → (a *ℤ u +ℤ b *ℤ v) *ℤ n ≡ a *ℤ (u *ℤ n) +ℤ b *ℤ (v *ℤ n)
    spread a b u v n = rw (is_gap a, is_gap b, is_gap u, is_gap v, is_gap n) (simp gaps (gap_same _ _ _ _ (omega arith)))

    whole_first : (a b c d x z : ℤ) → a *ℤ ((d *ℤ x) -ℤ (b *ℤ z)) +ℤ b *ℤ ((a *ℤ z) -ℤ (c *ℤ x)) ≡ x *ℤ (a *ℤ d -ℤ b *ℤ c)
    whole_first a b c d x z = rw (is_gap a, is_gap b, is_gap c, is_gap d, is_gap x, is_gap z) (simp gaps (gap_same _ _ _ _ (omega arith)))

    whole_second : (a b c d x z : ℤ) → c *ℤ ((d *ℤ x) -ℤ (b *ℤ z)) +ℤ d *ℤ ((a *ℤ z) -ℤ (c *ℤ x)) ≡ z *ℤ (a *ℤ d -ℤ b *ℤ c)
    whole_second a b c d x z = rw (is_gap a, is_gap b, is_gap c, is_gap d, is_gap x, is_gap z) (simp gaps (gap_same _ _ _ _ (omega arith)))

    above : (x z : ℤ) (h : InLattice n g x z) → g.a *ℤ h.first.quotient +ℤ g.b *ℤ h.second.quotient ≡ x
    above x z h = cancelled n (g.a *ℤ h.first.quotient +ℤ g.b *ℤ h.second.quotient) x some
        (spread g.a g.b h.first.quotient h.second.quotient (pos n)
        ∙ ap (λ w. g.a *ℤ w +ℤ g.b *ℤ (h.second.quotient *ℤ pos n)) h.first.product
        ∙ ap (λ w. g.a *ℤ ((g.d *ℤ x) -ℤ (g.b *ℤ z)) +ℤ g.b *ℤ w) h.second.product ∙ whole_first g.a g.b g.c g.d x z ∙ ap (λ w. x *ℤ w) e)

    below : (x z : ℤ) (h : InLattice n g x z) → g.c *ℤ h.first.quotient +ℤ g.d *ℤ h.second.quotient ≡ z
    below x z h = cancelled n (g.c *ℤ h.first.quotient +ℤ g.d *ℤ h.second.quotient) z some
        (spread g.c g.d h.first.quotient h.second.quotient (pos n)
        ∙ ap (λ w. g.c *ℤ w +ℤ g.d *ℤ (h.second.quotient *ℤ pos n)) h.first.product
        ∙ ap (λ w. g.c *ℤ ((g.d *ℤ x) -ℤ (g.b *ℤ z)) +ℤ g.d *ℤ w) h.second.product ∙ whole_second g.a g.b g.c g.d x z ∙ ap (λ w. z *ℤ w) e)

pub Over-lattice : (n : ℕ) (g m : Matrix) → 0 < n → determinant g ≡ pos n → determinant m ≡ pos n → SameLattice n g m → Over g m
Over-lattice n g m some e f same =
    let first = (same m.a m.c).1 (first_column n m f) in
    let second = (same m.b m.d).1 (second_column n m f) in
    let s : Matrix = matrix first.first.quotient second.first.quotient first.second.quotient second.second.quotient in
    let is : m ≡ product g s = factored n g m some e first second in
    record {
      factor = s;
      is = is;
      one = cancelled n (determinant s) (pos 1) some (times_comm (determinant s) (pos n) ∙ ap (λ z. z *ℤ determinant s) (sym e)
          ∙ sym (determinant-product g s) ∙ ap determinant (sym is) ∙ f ∙ sym (one_times (pos n)));
    }

-- ---- each matrix is over exactly one start
pub record Start (n : ℕ) (m : Matrix) : Type 0 where
  pub start : Matrix
  pub is : IsStart n start
  pub over : Over start m

pub start_determinant : (n : ℕ) (m : Matrix) → 0 < n → IsStart n m → determinant m ≡ pos n
start_determinant n m some h = (merel_from_start n m some h).determinant_is

pub start_of : (n : ℕ) (m : Matrix) → 0 < n → determinant m ≡ pos n → Start n m
start_of n m some e =
    let s = has_start n m some e in
    record {
      start = s.start;
      is = s.is;
      over = Over-lattice n s.start m some (start_determinant n s.start some s.is) e
          (SameLattice_sym n m s.start s.same);
    }

pub one_start : (n : ℕ) (m k : Matrix) → 0 < n → IsStart n m → IsStart n k → Over m k → m ≡ k
one_start n m k some g h over = start_unique n m k some g h (SameLattice-over n over)
