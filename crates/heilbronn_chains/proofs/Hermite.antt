-- Each integer matrix of positive determinant has the lattice of exactly one start.
use Rattle.std.proofs.Common.{◌≡◌, ◌+◌, ◌*◌, ◌-◌, ◌<◌, ◌≤◌, ℕ, zero, suc, refl, sym, ◌∙◌, ap, subst, inl, inr, arith}
use Rattle.std.specs.Prelude.{ℤ, pos, negsuc, neg_ℤ, ◌+ℤ◌, ◌-ℤ◌, ◌*ℤ◌, ◌<ℤ◌, ◌≤ℤ◌, unsigned_abs}
use Rattle.std.proofs.lemmas.Bool.{cases_lt}
use Rattle.std.proofs.lemmas.Int.{ints}
use Rattle.p1_normal.specs.declared.matrix.Matrix.{Matrix}
use Rattle.p1_normal.specs.Actions.{matrix, determinant}
use Rattle.heilbronn_chains.specs.Lattice.{InLattice, SameLattice}
use Rattle.heilbronn_chains.specs.Starts.{IsStart}
use Rattle.heilbronn_chains.proofs.Integers.{is_gap, pos_gap, neg_gap, gaps, gap_same, division}
use Rattle.heilbronn_chains.proofs.ColumnSteps.{determinant-step_back, SameLattice-step_back, SameLattice-turned, SameLattice-lowered, SameLattice_trans}

-- the start with the lattice of m
pub record HasStart (n : ℕ) (m : Matrix) : Type 0 where
  pub start : Matrix
  pub is : IsStart n start
  pub same : SameLattice n m start

HasStart-from : (n : ℕ) (m k : Matrix) → SameLattice n m k → HasStart n k → HasStart n m
HasStart-from n m k g h = record { start = h.start; is = h.is; same = SameLattice_trans n m k h.start g h.same }

-- a triangular matrix with a positive diagonal: the lower entry is reduced
from_positive : (n i j : ℕ) (c : ℤ) → 0 < n → i * j ≡ n → 0 < j → HasStart n (matrix (pos i) (pos 0) c (pos j))
from_positive n i j c some e more =
    let d = division c j more in
    record {
      start = matrix (pos i) (pos 0) (pos d.rest) (pos j);
      is = record { upper = refl; diagonal = ap pos e; lower = omega (arith, ints); below = omega (arith, ints, d.below) };
      same = subst (λ z. SameLattice n (matrix (pos i) (pos 0) c (pos j)) (matrix (pos i) (pos 0) z (pos j))) d.is
          (SameLattice-lowered n d.quotient (pos i) c (pos j));
    }

-- the diagonal of a triangular matrix is positive, or both entries are negative
from_diagonal : (n : ℕ) (a c d : ℤ) → 0 < n → a *ℤ d ≡ pos n → HasStart n (matrix a (pos 0) c d)
from_diagonal n (pos i) c (pos zero) some e = absurd (omega (arith, ints, e))
from_diagonal n (pos i) c (pos (suc j)) some e = from_positive n i (suc j) c some (omega (arith, ints, e)) (omega arith)
from_diagonal n (pos i) c (negsuc j) some e = absurd (omega (arith, ints, e))
from_diagonal n (negsuc i) c (pos j) some e = absurd (omega (arith, ints, e))
from_diagonal n (negsuc i) c (negsuc j) some e =
    HasStart-from n (matrix (negsuc i) (pos 0) c (negsuc j)) (matrix (pos (suc i)) (pos 0) (neg_ℤ c) (pos (suc j)))
    (SameLattice-turned n (negsuc i) (pos 0) c (negsuc j))
    (from_positive n (suc i) (suc j) (neg_ℤ c) some (omega (arith, ints, e)) (omega arith))

-- Euclid's steps on the upper row
reach : (n fuel : ℕ) (a b c d : ℤ) → 0 < n → determinant (matrix a b c d) ≡ pos n → unsigned_abs b ≤ fuel → HasStart n (matrix a b c d)
reach n fuel a (pos zero) c d some e l = from_diagonal n a c d some (product ∙ e)
  where
    product : a *ℤ d ≡ a *ℤ d -ℤ pos 0 *ℤ c
    product = rw (pos_gap 0, is_gap a, is_gap c, is_gap d) (simp gaps (gap_same _ _ _ _ (omega arith)))
reach n zero a (pos (suc j)) c d some e l = absurd (omega (arith, l))
reach n (suc fuel) a (pos (suc j)) c d some e l =
    let v = division (neg_ℤ a) (suc j) (omega arith) in
    let entry : (v.quotient *ℤ pos (suc j)) -ℤ a ≡ pos v.rest = swapped a (v.quotient *ℤ pos (suc j)) ∙ v.is in
    HasStart-from n (matrix a (pos (suc j)) c d) (matrix (pos (suc j)) (pos v.rest) d ((v.quotient *ℤ d) -ℤ c))
    (subst (λ z. SameLattice n (matrix a (pos (suc j)) c d) (matrix (pos (suc j)) z d ((v.quotient *ℤ d) -ℤ c))) entry
    (SameLattice-step_back n v.quotient (matrix a (pos (suc j)) c d)))
    (reach n fuel (pos (suc j)) (pos v.rest) d ((v.quotient *ℤ d) -ℤ c) some
    (subst (λ z. determinant (matrix (pos (suc j)) z d ((v.quotient *ℤ d) -ℤ c)) ≡ pos n) entry
    (determinant-step_back v.quotient (matrix a (pos (suc j)) c d) ∙ e))
    (omega (arith, v.below, l)))
  where
    swapped : (a z : ℤ) → z -ℤ a ≡ neg_ℤ a +ℤ z
    swapped a z = rw (is_gap a, is_gap z) (simp gaps (gap_same _ _ _ _ (omega arith)))
reach n zero a (negsuc j) c d some e l = absurd (omega (arith, l))
reach n (suc fuel) a (negsuc j) c d some e l =
    let v = division (neg_ℤ a) (suc j) (omega arith) in
    let k = neg_ℤ v.quotient in
    let entry : (k *ℤ negsuc j) -ℤ a ≡ pos v.rest = swapped a v.quotient j ∙ v.is in
    HasStart-from n (matrix a (negsuc j) c d) (matrix (negsuc j) (pos v.rest) d ((k *ℤ d) -ℤ c))
    (subst (λ z. SameLattice n (matrix a (negsuc j) c d) (matrix (negsuc j) z d ((k *ℤ d) -ℤ c))) entry
    (SameLattice-step_back n k (matrix a (negsuc j) c d)))
    (reach n fuel (negsuc j) (pos v.rest) d ((k *ℤ d) -ℤ c) some
    (subst (λ z. determinant (matrix (negsuc j) z d ((k *ℤ d) -ℤ c)) ≡ pos n) entry (determinant-step_back k (matrix a (negsuc j) c d) ∙ e))
    (omega (arith, v.below, l)))
  where
    swapped : (a q : ℤ) (j : ℕ) → (neg_ℤ q *ℤ negsuc j) -ℤ a ≡ neg_ℤ a +ℤ q *ℤ pos (suc j)
    swapped a q j = rw (is_gap a, is_gap q, neg_gap j, pos_gap (suc j)) (simp gaps (gap_same _ _ _ _ (omega arith)))

pub has_start : (n : ℕ) (m : Matrix) → 0 < n → determinant m ≡ pos n → HasStart n m
has_start n m some e = reach n (unsigned_abs m.b) m.a m.b m.c m.d some e (omega arith)

-- ---- one start has the lattice
-- a positive factor is cancelled
pub cancelled : (a x y : ℕ) → 0 < a → a * x ≡ a * y → x ≡ y
cancelled a x y some e = elim (cases_lt x y) [
  | inl l ↦ absurd (below a x y some e l)
  | inr m ↦ elim (cases_lt y x) [
    | inl l ↦ absurd (below a y x some (sym e) l)
    | inr k ↦ omega arith
  ]
]
  where
    below : (a x y : ℕ) → 0 < a → a * x ≡ a * y → x < y → ⊥
    below a x y some e l =
        let k = y - suc x in
        let is : y ≡ suc x + k = omega arith in
        let f : a * x ≡ a * (suc x + k) = e ∙ ap (λ z. a * z) is in
        omega (arith, f, some)

-- the lattice of a start
lowest_in : (n a c d : ℕ) → a * d ≡ n → InLattice n (matrix (pos a) (pos 0) (pos c) (pos d)) (pos 0) (pos d)
lowest_in n a c d e = record {
  first = record { quotient = pos 0; product = omega (arith, ints) };
  second = record { quotient = pos 1; product = omega (arith, ints, e) };
}

corner_in : (n a c d : ℕ) → a * d ≡ n → InLattice n (matrix (pos a) (pos 0) (pos c) (pos d)) (pos a) (pos c)
corner_in n a c d e = record {
  first = record { quotient = pos 1; product = omega (arith, ints, e) };
  second = record { quotient = pos 0; product = omega (arith, ints) };
}

-- a product is 0 only where a factor is
pub some_factor : (a d n : ℕ) → a * d ≡ n → 0 < n → (0 < a) × (0 < d)
some_factor zero d n e some = absurd (omega (arith, e))
some_factor (suc a) zero n e some = absurd (omega (arith, e))
some_factor (suc a) (suc d) n e some = (omega arith, omega arith)

-- (0, y) lies in it only where d divides y
lowest_out : (n a c d y : ℕ) → a * d ≡ n → 0 < n → 0 < y → InLattice n (matrix (pos a) (pos 0) (pos c) (pos d)) (pos 0) (pos y) → d ≤ y
lowest_out n a c d y e some more h = from h.second.quotient h.second.product
  where
    from : (q : ℤ) → q *ℤ pos n ≡ (pos a *ℤ pos y) -ℤ (pos c *ℤ pos 0) → d ≤ y
    from (pos zero) f =
        let none : a * y ≡ 0 = omega (arith, ints, f) in
        let (i, j) = some_factor a d n e some in
        absurd (positive a y i more none)
      where
        positive : (a y : ℕ) → 0 < a → 0 < y → a * y ≡ 0 → ⊥
        positive zero y i j z = omega arith
        positive (suc a) zero i j z = omega arith
        positive (suc a) (suc y) i j z = omega (arith, z)
    from (pos (suc k)) f =
        let (i, j) = some_factor a d n e some in
        let whole : a * (suc k * d) ≡ a * y = omega (arith, ints, f, ap (λ x. suc k * x) e) in
        let is : suc k * d ≡ y = cancelled a (suc k * d) y i whole in
        omega (arith, is)
    from (negsuc k) f = absurd (omega (arith, ints, f, some))

-- (a, y) lies in it only where d divides y - c
corner_out : (n a c d y : ℕ) → a * d ≡ n → 0 < n → c < d → y < d → InLattice n (matrix (pos a) (pos 0) (pos c) (pos d)) (pos a) (pos y) → y ≡ c
corner_out n a c d y e some l m h = from h.second.quotient h.second.product
  where
    positive : 0 < a
    positive = (some_factor a d n e some).0

    from : (q : ℤ) → q *ℤ pos n ≡ (pos a *ℤ pos y) -ℤ (pos c *ℤ pos a) → y ≡ c
    from (pos k) f =
        let whole : a * (k * d + c) ≡ a * y = omega (arith, ints, f, ap (λ x. k * x) e) in
        let is : k * d + c ≡ y = cancelled a (k * d + c) y positive whole in
        above k is
      where
        above : (k : ℕ) → k * d + c ≡ y → y ≡ c
        above zero is = omega (arith, is)
        above (suc k) is = absurd (omega (arith, is, m))
    from (negsuc k) f =
        let whole : a * (suc k * d + y) ≡ a * c = omega (arith, ints, f, ap (λ x. suc k * x) e) in
        let is : suc k * d + y ≡ c = cancelled a (suc k * d + y) c positive whole in
        absurd (omega (arith, is, l))

-- the entries of a start
pub record StartEntries (n : ℕ) (m : Matrix) : Type 0 where
  pub a : ℕ
  pub c : ℕ
  pub d : ℕ
  pub is : m ≡ matrix (pos a) (pos 0) (pos c) (pos d)
  pub diagonal : a * d ≡ n
  pub below : c < d

pub start_entries : (n : ℕ) (m : Matrix) → 0 < n → IsStart n m → StartEntries n m
start_entries n m some h = from m.a m.b m.c m.d h.upper h.diagonal h.lower h.below
  where
    from : (a b c d : ℤ) → b ≡ pos 0 → a *ℤ d ≡ pos n → pos 0 ≤ℤ c → c <ℤ d → StartEntries n (matrix a b c d)
    from (pos a) b (pos c) (pos d) e f g l = record {
      a = a;
      c = c;
      d = d;
      is = λ i. matrix (pos a) (e i) (pos c) (pos d);
      diagonal =
          omega (arith, ints, f);
      below = omega (arith, ints, l);
    }
    from (negsuc a) b (pos c) (pos d) e f g l = absurd (omega (arith, ints, f, some))
    from a b (pos c) (negsuc d) e f g l = absurd (omega (arith, ints, l))
    from a b (negsuc c) d e f g l = absurd (omega (arith, ints, g))

-- two starts with one lattice are one
same_entries : (n a c d a' c' d' : ℕ) → 0 < n → a * d ≡ n → c < d → a' * d' ≡ n → c' < d' →
    SameLattice n (matrix (pos a) (pos 0) (pos c) (pos d)) (matrix (pos a') (pos 0) (pos c') (pos d')) →
    matrix (pos a) (pos 0) (pos c) (pos d) ≡ matrix (pos a') (pos 0) (pos c') (pos d')
same_entries n a c d a' c' d' some e l e' l' h =
    let (i, j) = some_factor a d n e some in
    let (i', j') = some_factor a' d' n e' some in
    let low : d' ≤ d = lowest_out n a' c' d' d e' some j ((h (pos 0) (pos d)).0 (lowest_in n a c d e)) in
    let high : d ≤ d' = lowest_out n a c d d' e some j' ((h (pos 0) (pos d')).1 (lowest_in n a' c' d' e')) in
    let right : d ≡ d' = omega arith in
    let left : a ≡ a' = cancelled d a a' j (omega (arith, e, ap (λ x. a' * x) right, e')) in
    let corner : c ≡ c' = corner_out n a' c' d' c e' some l' (omega arith)
    (subst (λ x. InLattice n (matrix (pos a') (pos 0) (pos c') (pos d')) (pos x) (pos c)) left ((h (pos a) (pos c)).0 (corner_in n a c d e))) in
    λ t. matrix (pos (left t)) (pos 0) (pos (corner t)) (pos (right t))

pub start_unique : (n : ℕ) (m k : Matrix) → 0 < n → IsStart n m → IsStart n k → SameLattice n m k → m ≡ k
start_unique n m k some g h same =
    let x = start_entries n m some g in
    let y = start_entries n k some h in
    let one : SameLattice n (matrix (pos x.a) (pos 0) (pos x.c) (pos x.d)) k = subst (λ w. SameLattice n w k) x.is same in
    let both : SameLattice n (matrix (pos x.a) (pos 0) (pos x.c) (pos x.d)) (matrix (pos y.a) (pos 0) (pos y.c) (pos y.d)) =
    subst (SameLattice n (matrix (pos x.a) (pos 0) (pos x.c) (pos x.d))) y.is one in
    x.is ∙ same_entries n x.a x.c x.d y.a y.c y.d some x.diagonal x.below y.diagonal y.below both ∙ sym y.is
