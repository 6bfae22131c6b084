-- A lattice of index m n lies in a lattice of index m (`above`), and where m and n are coprime in one alone (`one_divides`).
use Rattle.std.proofs.Common.{◌≡◌, ◌≢◌, ◌+◌, ◌*◌, ◌/◌, ◌%◌, ◌<◌, ℕ, Bool, length, sym, ◌∙◌, ap, subst, arith}
use Rattle.std.specs.Prelude.{ℤ, pos, neg_ℤ, ◌+ℤ◌, ◌-ℤ◌, ◌*ℤ◌, filter}
use Rattle.std.specs.Int.{◌∣◌}
use Rattle.std.proofs.Math.Nat.{div-add-mod, mul-div_cancel', mul-dvd-mul_left, dvd_of_mul-dvd-mul_left, eq-one_of_dvd-one, dvd_antisymm, pos_of_dvd_of_pos}
use Rattle.std.proofs.lemmas.Int.{ints}
use Rattle.std.proofs.lemmas.List.Kept.{AllPairs-filter}
use Rattle.p1_normal.specs.declared.matrix.Matrix.{Matrix}
use Rattle.p1_normal.specs.Units.{gcd}
use Rattle.p1_normal.specs.Actions.{matrix, product, determinant}
use Rattle.p1_normal.proofs.Units.{IsGcd-gcd, IsUnit-from_gcd}
use Rattle.heilbronn_sets.specs.Merel.{starts}
use Rattle.heilbronn_chains.specs.Lattice.{IsMultiple, InLattice}
use Rattle.heilbronn_chains.specs.Starts.{IsStart}
use Rattle.heilbronn_chains.proofs.Integers.{is_gap, pos_gap, gaps, gap_same}
use Rattle.heilbronn_chains.proofs.Hermite.{start_entries, some_factor, cancelled}
use Rattle.heilbronn_chains.proofs.ChainLists.{Contains-starts}
use Rattle.merel_theorem.proofs.Terms.{same_matrix}
use Rattle.merel_theorem.proofs.Bases.{product_assoc, adjoint, Over, factored, start_of, start_determinant, one_start}
use Rattle.merel_theorem.proofs.Factors.{Divides, Divides-over, divides, divides_from_test, test_from_divides}
use Rattle.merel_theorem.proofs.Lands.{starts_apart}
use Rattle.merel_theorem.proofs.Counts.{filtered_start, cofactor_determinant}
use Rattle.merel_theorem.proofs.Members.{contains_filter, filtered_passes, one_member}
use Rattle.merel_theorem.proofs.Moved.{positive_times}

-- ---- coprime numbers
pub coprime_turned : (a b : ℕ) → gcd a b ≡ 1 → gcd b a ≡ 1
coprime_turned a b e =
    let g = IsGcd-gcd a b in
    let h = IsGcd-gcd b a in
    dvd_antisymm (g.2 (gcd b a) h.1 h.0) (h.2 (gcd a b) g.1 g.0) ∙ e

-- an inverse of n modulo m, over the integers
record Inverse (m n : ℕ) : Type 0 where
  inverse : ℤ
  quotient : ℤ
  is : inverse *ℤ pos n ≡ pos 1 +ℤ quotient *ℤ pos m

inverse_of : (m n : ℕ) → 0 < m → gcd n m ≡ 1 → Inverse m n
inverse_of m n some e =
    let u = IsUnit-from_gcd m n some e in
    record {
      inverse = pos u.inverse;
      quotient = pos ((n * u.inverse) / m) -ℤ pos (1 / m);
      is = whole (n * u.inverse) (u.inverse * n) ((n * u.inverse) / m) (1 / m) ((n * u.inverse) % m) (omega arith) (div-add-mod (n * u.inverse) m)
          (ap (λ r. m * (1 / m) + r) u.gives_one ∙ div-add-mod 1 m);
    }
  where
    whole : (x y q r s : ℕ) → y ≡ x → m * q + s ≡ x → m * r + s ≡ 1 → pos y ≡ pos 1 +ℤ (pos q -ℤ pos r) *ℤ pos m
    whole x y q r s e f g = sym (ap (λ z. pos 1 +ℤ z) (law (pos q) (pos r) (pos m)) ∙ omega (arith, ints, e, f, g))
      where
        law : (q r m : ℤ) → (q -ℤ r) *ℤ m ≡ q *ℤ m -ℤ r *ℤ m
        law q r m = rw (is_gap q, is_gap r, is_gap m) (simp gaps (gap_same _ _ _ _ (omega arith)))

-- what is a multiple of m after n times is so before
pub multiple_without : (m n : ℕ) (z : ℤ) → 0 < m → gcd n m ≡ 1 → IsMultiple m (pos n *ℤ z) → IsMultiple m z
multiple_without m n z some e h =
    let i = inverse_of m n some e in
    record {
      quotient = (i.inverse *ℤ h.quotient) -ℤ (i.quotient *ℤ z);
      product = spread i.inverse h.quotient i.quotient z (pos m) ∙ ap (λ w. (i.inverse *ℤ w) -ℤ ((i.quotient *ℤ pos m) *ℤ z)) h.product
          ∙ join i.inverse (pos n) z (i.quotient *ℤ pos m) ∙ ap (λ w. (w *ℤ z) -ℤ ((i.quotient *ℤ pos m) *ℤ z)) i.is ∙ rest (i.quotient *ℤ pos m) z;
    }
  where
    spread : (i q k z m : ℤ) → ((i *ℤ q) -ℤ (k *ℤ z)) *ℤ m ≡ (i *ℤ (q *ℤ m)) -ℤ ((k *ℤ m) *ℤ z)
    spread i q k z m = rw (is_gap i, is_gap q, is_gap k, is_gap z, is_gap m) (simp gaps (gap_same _ _ _ _ (omega arith)))

    join : (i n z k : ℤ) → (i *ℤ (n *ℤ z)) -ℤ (k *ℤ z) ≡ ((i *ℤ n) *ℤ z) -ℤ (k *ℤ z)
    join i n z k = rw (is_gap i, is_gap n, is_gap z, is_gap k) (simp gaps (gap_same _ _ _ _ (omega arith)))

    rest : (k z : ℤ) → ((pos 1 +ℤ k) *ℤ z) -ℤ (k *ℤ z) ≡ z
    rest k z = rw (is_gap k, is_gap z, pos_gap 1) (simp gaps (gap_same _ _ _ _ (omega arith)))

-- ---- at most one
-- t = h w = k v: with n = det w, n h = k (v adj w)
column_in : (m n : ℕ) (k : Matrix) (x z s r : ℤ) → 0 < m → gcd n m ≡ 1 → determinant k ≡ pos m → k.a *ℤ s +ℤ k.b *ℤ r ≡ x *ℤ pos n
    → k.c *ℤ s +ℤ k.d *ℤ r ≡ z *ℤ pos n → InLattice m k x z
column_in m n k x z s r some coprime det e f = record {
  first = multiple_without m n ((k.d *ℤ x) -ℤ (k.b *ℤ z)) some coprime (record {
    quotient = s;
    product = ap (λ w. s *ℤ w) (sym det) ∙ first k.a k.b k.c k.d s r ∙ ap (λ w. (k.d *ℤ w) -ℤ (k.b *ℤ (k.c *ℤ s +ℤ k.d *ℤ r))) e
        ∙ ap (λ w. (k.d *ℤ (x *ℤ pos n)) -ℤ (k.b *ℤ w)) f ∙ out k.d k.b x z (pos n);
  });
  second = multiple_without m n ((k.a *ℤ z) -ℤ (k.c *ℤ x)) some coprime (record {
    quotient = r;
    product = ap (λ w. r *ℤ w) (sym det) ∙ second k.a k.b k.c k.d s r ∙ ap (λ w. (k.a *ℤ w) -ℤ (k.c *ℤ (k.a *ℤ s +ℤ k.b *ℤ r))) f
        ∙ ap (λ w. (k.a *ℤ (z *ℤ pos n)) -ℤ (k.c *ℤ w)) e ∙ out k.a k.c z x (pos n);
  });
}
  where
    first : (a b c d x z : ℤ) → x *ℤ (a *ℤ d -ℤ b *ℤ c) ≡ (d *ℤ (a *ℤ x +ℤ b *ℤ z)) -ℤ (b *ℤ (c *ℤ x +ℤ d *ℤ z))
    first a b c d x z = rw (is_gap a, is_gap b, is_gap c, is_gap d, is_gap x, is_gap z) (simp gaps (gap_same _ _ _ _ (omega arith)))

    second : (a b c d x z : ℤ) → z *ℤ (a *ℤ d -ℤ b *ℤ c) ≡ (a *ℤ (c *ℤ x +ℤ d *ℤ z)) -ℤ (c *ℤ (a *ℤ x +ℤ b *ℤ z))
    second a b c d x z = rw (is_gap a, is_gap b, is_gap c, is_gap d, is_gap x, is_gap z) (simp gaps (gap_same _ _ _ _ (omega arith)))

    out : (d b x z n : ℤ) → (d *ℤ (x *ℤ n)) -ℤ (b *ℤ (z *ℤ n)) ≡ n *ℤ ((d *ℤ x) -ℤ (b *ℤ z))
    out d b x z n = rw (is_gap d, is_gap b, is_gap x, is_gap z, is_gap n) (simp gaps (gap_same _ _ _ _ (omega arith)))

-- (h w) adj w = det w times h
scaled_back : (h w : Matrix) → product (product h w) (adjoint w) ≡ matrix (h.a *ℤ determinant w) (h.b *ℤ determinant w) (h.c *ℤ determinant w)
    (h.d *ℤ determinant w)
scaled_back h w = same_matrix (first h.a h.b w.a w.b w.c w.d) (second h.a h.b w.a w.b w.c w.d) (first h.c h.d w.a w.b w.c w.d)
    (second h.c h.d w.a w.b w.c w.d)
  where
    first : (x z a b c d : ℤ) → (x *ℤ a +ℤ z *ℤ c) *ℤ d +ℤ (x *ℤ b +ℤ z *ℤ d) *ℤ neg_ℤ c ≡ x *ℤ (a *ℤ d -ℤ b *ℤ c)
    first x z a b c d = rw (is_gap a, is_gap b, is_gap c, is_gap d, is_gap x, is_gap z) (simp gaps (gap_same _ _ _ _ (omega arith)))

    second : (x z a b c d : ℤ) → (x *ℤ a +ℤ z *ℤ c) *ℤ neg_ℤ b +ℤ (x *ℤ b +ℤ z *ℤ d) *ℤ a ≡ z *ℤ (a *ℤ d -ℤ b *ℤ c)
    second x z a b c d = rw (is_gap a, is_gap b, is_gap c, is_gap d, is_gap x, is_gap z) (simp gaps (gap_same _ _ _ _ (omega arith)))

-- lattices of index m over one of index m n are one
pub one_above : (m n : ℕ) (h k t : Matrix) → 0 < m → gcd n m ≡ 1 → determinant h ≡ pos m → determinant k ≡ pos m → determinant t ≡ pos (m * n)
    → Divides h t → Divides k t → Over k h
one_above m n h k t some coprime h_det k_det t_det d e =
    let w : Matrix = d.cofactor in
    let u : Matrix = product e.cofactor (adjoint w) in
    let w_det : determinant w ≡ pos n = cofactor_determinant m n h w t some h_det t_det d.is in
    let is : product k u ≡ matrix (h.a *ℤ determinant w) (h.b *ℤ determinant w) (h.c *ℤ determinant w) (h.d *ℤ determinant w) =
    sym (product_assoc k e.cofactor (adjoint w)) ∙ ap (λ x. product x (adjoint w)) (sym e.is ∙ d.is) ∙ scaled_back h w in
    let f : h ≡ product k _ = factored m k h some k_det
    (column_in m n k h.a h.c u.a u.c some coprime k_det (ap (λ x. x.a) is ∙ ap (λ z. h.a *ℤ z) w_det) (ap (λ x. x.c) is ∙ ap (λ z. h.c *ℤ z) w_det))
    (column_in m n k h.b h.d u.b u.d some coprime k_det (ap (λ x. x.b) is ∙ ap (λ z. h.b *ℤ z) w_det)
    (ap (λ x. x.d) is ∙ ap (λ z. h.d *ℤ z) w_det)) in
    record { factor = _; is = f; one = cofactor_determinant m 1 k _ h some k_det (h_det ∙ ap pos (plain m)) f }
  where
    plain : (m : ℕ) → m ≡ m * 1
    plain m = omega arith

-- ---- at least one
-- the rest of a and of m after their greatest common divisor
record Split (a m : ℕ) : Type 0 where
  common : ℕ
  left : ℕ
  right : ℕ
  left_is : common * left ≡ a
  right_is : common * right ≡ m
  coprime : gcd left right ≡ 1

split : (a m : ℕ) → 0 < m → Split a m
split a m some =
    let g = IsGcd-gcd a m in
    let e : gcd a m * (a / gcd a m) ≡ a = mul-div_cancel' (gcd a m) g.0 in
    let f : gcd a m * (m / gcd a m) ≡ m = mul-div_cancel' (gcd a m) g.1 in
    let positive : 0 < gcd a m = pos_of_dvd_of_pos g.1 some in
    let i = IsGcd-gcd (a / gcd a m) (m / gcd a m) in
    let c : ℕ = gcd (a / gcd a m) (m / gcd a m) in
    record {
      common = gcd a m;
      left = a / gcd a m;
      right = m / gcd a m;
      left_is = e;
      right_is = f;
      coprime = once (gcd a m) c positive
          (g.2 (gcd a m * c) (subst (λ x. gcd a m * c ∣ x) e (mul-dvd-mul_left c (gcd a m) i.0))
          (subst (λ x. gcd a m * c ∣ x) f (mul-dvd-mul_left c (gcd a m) i.1)));
    }
  where
    once : (g c : ℕ) → 0 < g → g * c ∣ g → c ≡ 1
    once g c positive h = eq-one_of_dvd-one (dvd_of_mul-dvd-mul_left c positive (subst (λ x. g * c ∣ x) (plain g) h))
      where
        plain : (g : ℕ) → g ≡ g * 1
        plain g = omega arith

pub record Above (m : ℕ) (t : Matrix) : Type 0 where
  pub start : Matrix
  pub is : IsStart m start
  pub divides : Divides start t

above_entries : (m n a c d : ℕ) → 0 < m → a * d ≡ m * n → Above m (matrix (pos a) (pos 0) (pos c) (pos d))
above_entries m n a c d some e =
    let s = split a m some in
    let parts = some_factor s.common s.right m s.right_is some in
    let i = inverse_of s.right s.left parts.1 s.coprime in
    let other : s.left * d ≡ s.right * n = cancelled s.common (s.left * d) (s.right * n) parts.0
    (turned s.common s.left d ∙ ap (λ x. x * d) s.left_is ∙ e ∙ ap (λ x. x * n) (sym s.right_is) ∙ sym (turned s.common s.right n)) in
    let low : IsMultiple s.right (pos d) = multiple_without s.right s.left (pos d) parts.1 s.coprime
    (record { quotient = pos n; product = whole n s.right (s.left * d) (other ∙ swapped s.right n) }) in
    let h : Matrix = matrix (pos s.common) (pos 0) (pos c *ℤ i.inverse) (pos s.right) in
    let det : determinant h ≡ pos m = lower_determinant (pos s.common) (pos c *ℤ i.inverse) (pos s.right) ∙ ap pos s.right_is in
    let k = start_of m h some det in
    record {
      start = k.start;
      is = k.is;
      divides = Divides-over k.over (record {
        cofactor = matrix (pos s.left) (pos 0) (neg_ℤ (pos c *ℤ i.quotient)) low.quotient;
        is = same_matrix (ap pos (sym s.left_is) ∙ corner (pos s.common) (pos s.left) (neg_ℤ (pos c *ℤ i.quotient)))
            (none (pos s.common) low.quotient)
            (side (pos c) i.inverse i.quotient (pos s.left) (pos s.right) i.is)
            (sym low.product ∙ last (pos c *ℤ i.inverse) low.quotient (pos s.right));
      });
    }
  where
    turned : (g x d : ℕ) → g * (x * d) ≡ g * x * d
    turned g x d = omega arith

    swapped : (r n : ℕ) → r * n ≡ n * r
    swapped r n = omega arith

    whole : (n r x : ℕ) → x ≡ n * r → pos n *ℤ pos r ≡ pos x
    whole n r x e = ap pos (sym e)

    lower_determinant : (a c d : ℤ) → a *ℤ d -ℤ pos 0 *ℤ c ≡ a *ℤ d
    lower_determinant a c d = rw (is_gap a, is_gap c, is_gap d, pos_gap 0) (simp gaps (gap_same _ _ _ _ (omega arith)))

    corner : (g l x : ℤ) → g *ℤ l ≡ g *ℤ l +ℤ pos 0 *ℤ x
    corner g l x = rw (is_gap g, is_gap l, is_gap x, pos_gap 0) (simp gaps (gap_same _ _ _ _ (omega arith)))

    none : (g x : ℤ) → pos 0 ≡ g *ℤ pos 0 +ℤ pos 0 *ℤ x
    none g x = rw (is_gap g, is_gap x, pos_gap 0) (simp gaps (gap_same _ _ _ _ (omega arith)))

    side : (c i q l r : ℤ) → i *ℤ l ≡ pos 1 +ℤ q *ℤ r → c ≡ (c *ℤ i) *ℤ l +ℤ r *ℤ neg_ℤ (c *ℤ q)
    side c i q l r e = sym (first c i l r q ∙ ap (λ w. (c *ℤ w) -ℤ (c *ℤ (q *ℤ r))) e ∙ second c (q *ℤ r))
      where
        first : (c i l r q : ℤ) → (c *ℤ i) *ℤ l +ℤ r *ℤ neg_ℤ (c *ℤ q) ≡ (c *ℤ (i *ℤ l)) -ℤ (c *ℤ (q *ℤ r))
        first c i l r q = rw (is_gap c, is_gap i, is_gap l, is_gap r, is_gap q) (simp gaps (gap_same _ _ _ _ (omega arith)))

        second : (c k : ℤ) → (c *ℤ (pos 1 +ℤ k)) -ℤ (c *ℤ k) ≡ c
        second c k = rw (is_gap c, is_gap k, pos_gap 1) (simp gaps (gap_same _ _ _ _ (omega arith)))

    last : (x q r : ℤ) → q *ℤ r ≡ x *ℤ pos 0 +ℤ r *ℤ q
    last x q r = rw (is_gap x, is_gap q, is_gap r, pos_gap 0) (simp gaps (gap_same _ _ _ _ (omega arith)))

pub above : (m n : ℕ) (t : Matrix) → 0 < m → 0 < n → IsStart (m * n) t → Above m t
above m n t some other is =
    let e = start_entries (m * n) t (positive_times m n some other) is in
    subst (Above m) (sym e.is) (above_entries m n e.a e.c e.d some e.diagonal)

pub one_divides : (m n : ℕ) (t : Matrix) → 0 < m → 0 < n → gcd n m ≡ 1 → IsStart (m * n) t → length (filter (λ h. divides m h t) (starts m)) ≡ 1
one_divides m n t some other coprime is =
    let det = start_determinant (m * n) t (positive_times m n some other) is in
    let a = above m n t some other is in
    let test : Matrix → Bool = λ h. divides m h t in
    let a_det = start_determinant m a.start some a.is in
    one_member (filter test (starts m)) a.start (AllPairs-filter (λ x y. x ≢ y) test (starts m) (starts_apart m))
    (contains_filter test (starts m) a.start ((Contains-starts m a.start some).1 a.is) (test_from_divides m a.start t a_det a.divides))
    (λ y inside.
    let y_is = filtered_start m test y inside in
    let y_det = start_determinant m y some y_is in
    one_start m y a.start some y_is a.is
    (one_above m n a.start y t some coprime a_det y_det det a.divides
    (divides_from_test m y t some y_det (filtered_passes test (starts m) y inside))))
