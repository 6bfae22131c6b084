-- A lattice of index m n lies in as many lattices of index m as of index n. For its matrix is symmetric up to matrices of determinant 1 on both
-- sides, and transposing turns a left factor of determinant m into one of determinant n (`across_divides`, `across_one`).
use Rattle.std.proofs.Common.{◌≡◌, ◌≢◌, ◌+◌, ◌-◌, ◌*◌, ◌/◌, ◌%◌, ◌<◌, ◌≤◌, ◌&&◌, ℕ, zero, suc, Bool, true, nat_eq, refl, sym, ◌∙◌, ap, subst, inl, inr, arith, eq-eqb, eqb-true}
use Rattle.std.specs.Prelude.{ℤ, pos, negsuc, neg_ℤ, ◌+ℤ◌, ◌-ℤ◌, ◌*ℤ◌, unsigned_abs}
use Rattle.std.proofs.Math.Nat.{div-add-mod, mod-lt, mul-mod_left}
use Rattle.std.proofs.lemmas.Int.{ints}
use Rattle.std.proofs.lemmas.Bool.{cases_eq, and_parts, and_from}
use Rattle.p1_normal.specs.declared.matrix.Matrix.{Matrix}
use Rattle.p1_normal.specs.Actions.{matrix, product, determinant, matrix_s}
use Rattle.heilbronn_chains.specs.Lattice.{IsMultiple, InLattice}
use Rattle.heilbronn_chains.specs.Starts.{IsStart}
use Rattle.heilbronn_chains.proofs.Integers.{is_gap, pos_gap, gaps, gap_same}
use Rattle.heilbronn_chains.proofs.Hermite.{start_entries, some_factor}
use Rattle.merel_theorem.proofs.Terms.{same_matrix, identity}
use Rattle.merel_theorem.proofs.Bases.{product_assoc, determinant-product, cancelled, times_comm, one_times, one_and_one, adjoint, determinant-adjoint, undone_left, undone_right, left_identity, right_identity, Over, Over_sym, Over-cancel, factored, start_of, start_determinant}

-- ---- a left factor
pub record Divides (h g : Matrix) : Type 0 where
  pub cofactor : Matrix
  pub is : g ≡ product h cofactor

pub Divides-over : {h k g : Matrix} → Over h k → Divides k g → Divides h g
Divides-over {h} {k} {g} over d = record {
  cofactor = product over.factor d.cofactor;
  is = d.is ∙ ap (λ w. product w d.cofactor) over.is ∙ product_assoc h over.factor d.cofactor;
}

pub over_divides : {h g : Matrix} → Over h g → Divides h g
over_divides over = record { cofactor = over.factor; is = over.is }

-- ---- the test of it
pub is_multiple : ℕ → ℤ → Bool
is_multiple n z = nat_eq (unsigned_abs z % n) 0

opposite_size : (z : ℤ) → unsigned_abs (neg_ℤ z) ≡ unsigned_abs z
opposite_size (pos zero) = refl
opposite_size (pos (suc k)) = refl
opposite_size (negsuc k) = refl

multiple_from_test : (n : ℕ) (z : ℤ) → is_multiple n z ≡ true → IsMultiple n z
unfolding is_multiple
multiple_from_test n (pos k) e =
    let none : k % n ≡ 0 = eqb-true (k % n) 0 e in
    record { quotient = pos (k / n); product = law n (k / n) k (omega (arith, div-add-mod k n, none)) }
  where
    law : (n q k : ℕ) → n * q ≡ k → pos q *ℤ pos n ≡ pos k
    law n q k e = omega (arith, ints, e)
multiple_from_test n (negsuc k) e =
    let none : suc k % n ≡ 0 = eqb-true (suc k % n) 0 e in
    record {
      quotient = neg_ℤ (pos (suc k / n));
      product = law (pos (suc k / n)) (pos n) ∙ ap neg_ℤ
          (whole n (suc k / n) (suc k) (omega (arith, div-add-mod (suc k) n, none)));
    }
  where
    law : (q n : ℤ) → neg_ℤ q *ℤ n ≡ neg_ℤ (q *ℤ n)
    law q n = rw (is_gap q, is_gap n) (simp gaps (gap_same _ _ _ _ (omega arith)))

    whole : (n q k : ℕ) → n * q ≡ k → pos q *ℤ pos n ≡ pos k
    whole n q k e = omega (arith, ints, e)

test_from_multiple : (n : ℕ) (z : ℤ) → IsMultiple n z → is_multiple n z ≡ true
unfolding is_multiple
test_from_multiple n z h = eq-eqb (unsigned_abs z % n) 0 (ap (λ w. unsigned_abs w % n) (sym h.product) ∙ size h.quotient)
  where
    size : (q : ℤ) → unsigned_abs (q *ℤ pos n) % n ≡ 0
    size (pos j) = mul-mod_left j n
    size (negsuc j) = ap (λ w. w % n) (opposite_size (pos (suc j * n))) ∙ mul-mod_left (suc j) n

in_lattice : ℕ → Matrix → ℤ → ℤ → Bool
in_lattice n g x z = is_multiple n ((g.d *ℤ x) -ℤ (g.b *ℤ z)) && is_multiple n ((g.a *ℤ z) -ℤ (g.c *ℤ x))

pub divides : ℕ → Matrix → Matrix → Bool
divides n h g = in_lattice n h g.a g.c && in_lattice n h g.b g.d

in_from_test : (n : ℕ) (g : Matrix) (x z : ℤ) → in_lattice n g x z ≡ true → InLattice n g x z
unfolding in_lattice
in_from_test n g x z e =
    let (first, second) = and_parts (is_multiple n ((g.d *ℤ x) -ℤ (g.b *ℤ z))) (is_multiple n ((g.a *ℤ z) -ℤ (g.c *ℤ x))) e in
    record { first = multiple_from_test n _ first; second = multiple_from_test n _ second }

pub divides_from_test : (n : ℕ) (h g : Matrix) → 0 < n → determinant h ≡ pos n → divides n h g ≡ true → Divides h g
unfolding divides
divides_from_test n h g some det e =
    let (first, second) = and_parts (in_lattice n h g.a g.c) (in_lattice n h g.b g.d) e in
    record { cofactor = _; is = factored n h g some det (in_from_test n h g.a g.c first) (in_from_test n h g.b g.d second) }

pub test_from_divides : (n : ℕ) (h g : Matrix) → determinant h ≡ pos n → Divides h g → divides n h g ≡ true
unfolding divides in_lattice
test_from_divides n h g det d =
    let w = d.cofactor in
    subst (λ k. divides n h k ≡ true) (sym d.is)
    (and_from (in_lattice n h (product h w).a (product h w).c) (in_lattice n h (product h w).b (product h w).d) (column w.a w.c) (column w.b w.d))
  where
    first : (a b c d x z : ℤ) → x *ℤ (a *ℤ d -ℤ b *ℤ c) ≡ (d *ℤ (a *ℤ x +ℤ b *ℤ z)) -ℤ (b *ℤ (c *ℤ x +ℤ d *ℤ z))
    first a b c d x z = rw (is_gap a, is_gap b, is_gap c, is_gap d, is_gap x, is_gap z) (simp gaps (gap_same _ _ _ _ (omega arith)))

    second : (a b c d x z : ℤ) → z *ℤ (a *ℤ d -ℤ b *ℤ c) ≡ (a *ℤ (c *ℤ x +ℤ d *ℤ z)) -ℤ (c *ℤ (a *ℤ x +ℤ b *ℤ z))
    second a b c d x z = rw (is_gap a, is_gap b, is_gap c, is_gap d, is_gap x, is_gap z) (simp gaps (gap_same _ _ _ _ (omega arith)))

    column : (x z : ℤ) → in_lattice n h (h.a *ℤ x +ℤ h.b *ℤ z) (h.c *ℤ x +ℤ h.d *ℤ z) ≡ true
    column x z = and_from (is_multiple n _) (is_multiple n _)
        (test_from_multiple n _ (record { quotient = x; product = ap (λ k. x *ℤ k) (sym det) ∙ first h.a h.b h.c h.d x z }))
        (test_from_multiple n _ (record { quotient = z; product = ap (λ k. z *ℤ k) (sym det) ∙ second h.a h.b h.c h.d x z }))

-- ---- a factor of positive determinant is cancelled
pub cancel_right : (n : ℕ) (x y w : Matrix) → 0 < n → determinant w ≡ pos n → product x w ≡ product y w → x ≡ y
cancel_right n x y w some det e = same_matrix (left x.a x.b y.a y.b (ap (λ k. k.a) e) (ap (λ k. k.b) e))
    (right x.a x.b y.a y.b (ap (λ k. k.a) e) (ap (λ k. k.b) e))
    (left x.c x.d y.c y.d (ap (λ k. k.c) e) (ap (λ k. k.d) e)) (right x.c x.d y.c y.d (ap (λ k. k.c) e) (ap (λ k. k.d) e))
  where
    first : (a b c d x z : ℤ) → x *ℤ (a *ℤ d -ℤ b *ℤ c) ≡ ((x *ℤ a +ℤ z *ℤ c) *ℤ d) -ℤ ((x *ℤ b +ℤ z *ℤ d) *ℤ c)
    first a b c d x z = rw (is_gap a, is_gap b, is_gap c, is_gap d, is_gap x, is_gap z) (simp gaps (gap_same _ _ _ _ (omega arith)))

    second : (a b c d x z : ℤ) → z *ℤ (a *ℤ d -ℤ b *ℤ c) ≡ ((x *ℤ b +ℤ z *ℤ d) *ℤ a) -ℤ ((x *ℤ a +ℤ z *ℤ c) *ℤ b)
    second a b c d x z = rw (is_gap a, is_gap b, is_gap c, is_gap d, is_gap x, is_gap z) (simp gaps (gap_same _ _ _ _ (omega arith)))

    left : (x z u v : ℤ) → x *ℤ w.a +ℤ z *ℤ w.c ≡ u *ℤ w.a +ℤ v *ℤ w.c → x *ℤ w.b +ℤ z *ℤ w.d ≡ u *ℤ w.b +ℤ v *ℤ w.d → x ≡ u
    left x z u v f g = cancelled n x u some (ap (λ k. x *ℤ k) (sym det) ∙ first w.a w.b w.c w.d x z ∙ ap
        (λ k. (k *ℤ w.d) -ℤ ((x *ℤ w.b +ℤ z *ℤ w.d) *ℤ w.c)) f
        ∙ ap (λ k. ((u *ℤ w.a +ℤ v *ℤ w.c) *ℤ w.d) -ℤ (k *ℤ w.c)) g ∙ sym (first w.a w.b w.c w.d u v) ∙ ap (λ k. u *ℤ k) det)

    right : (x z u v : ℤ) → x *ℤ w.a +ℤ z *ℤ w.c ≡ u *ℤ w.a +ℤ v *ℤ w.c → x *ℤ w.b +ℤ z *ℤ w.d ≡ u *ℤ w.b +ℤ v *ℤ w.d → z ≡ v
    right x z u v f g = cancelled n z v some
        (ap (λ k. z *ℤ k) (sym det) ∙ second w.a w.b w.c w.d x z ∙ ap (λ k. (k *ℤ w.a) -ℤ ((x *ℤ w.a +ℤ z *ℤ w.c) *ℤ w.b)) g
        ∙ ap (λ k. ((u *ℤ w.b +ℤ v *ℤ w.d) *ℤ w.a) -ℤ (k *ℤ w.b)) f ∙ sym (second w.a w.b w.c w.d u v) ∙ ap (λ k. v *ℤ k) det)

-- ---- transposes
abbrev pub transpose : Matrix → Matrix
transpose m = matrix m.a m.c m.b m.d

pub transpose-product : (x y : Matrix) → transpose (product x y) ≡ product (transpose y) (transpose x)
transpose-product x y = same_matrix (law x.a x.b y.a y.c) (law x.c x.d y.a y.c) (law x.a x.b y.b y.d) (law x.c x.d y.b y.d)
  where
    law : (a b x z : ℤ) → a *ℤ x +ℤ b *ℤ z ≡ x *ℤ a +ℤ z *ℤ b
    law a b x z = rw (is_gap a, is_gap b, is_gap x, is_gap z) (simp gaps (gap_same _ _ _ _ (omega arith)))

determinant-transpose : (m : Matrix) → determinant (transpose m) ≡ determinant m
determinant-transpose m = ap (λ k. m.a *ℤ m.d -ℤ k) (times_comm m.c m.b)

pub cancel_left : (n : ℕ) (w x y : Matrix) → 0 < n → determinant w ≡ pos n → product w x ≡ product w y → x ≡ y
cancel_left n w x y some det e = ap transpose (cancel_right n (transpose x) (transpose y) (transpose w) some (determinant-transpose w ∙ det)
    (sym (transpose-product w x) ∙ ap transpose e ∙ transpose-product w y))

-- ---- up to matrices of determinant 1 on both sides, symmetric
pub record Symmetric (g : Matrix) : Type 0 where
  pub left : Matrix
  pub right : Matrix
  pub left_one : determinant left ≡ pos 1
  pub right_one : determinant right ≡ pos 1
  pub same : transpose (product (product left g) right) ≡ product (product left g) right

symmetric_from : (u v h k : Matrix) → determinant u ≡ pos 1 → determinant v ≡ pos 1 → k ≡ product (product u h) v → Symmetric k → Symmetric h
symmetric_from u v h k u_one v_one is s = record {
  left = product s.left u;
  right = product v s.right;
  left_one = one_and_one s.left u s.left_one u_one;
  right_one = one_and_one v s.right v_one s.right_one;
  same = subst (λ w. transpose w ≡ w) (sym whole) s.same;
}
  where
    whole : product (product (product s.left u) h) (product v s.right) ≡ product (product s.left k) s.right
    whole = sym (product_assoc (product (product s.left u) h) v s.right)
        ∙ ap (λ w. product (product w v) s.right) (product_assoc s.left u h)
        ∙ ap (λ w. product w s.right) (product_assoc s.left (product u h) v ∙ ap (product s.left) (sym is))

symmetric_entries : (m : Matrix) → m.b ≡ m.c → transpose m ≡ m
symmetric_entries m e = same_matrix refl (sym e) e refl

-- row reduction: the lower entry less q times the upper
lowered : (a c d q r : ℕ) → a * q + r ≡ c → product (matrix (pos 1) (pos 0) (neg_ℤ (pos q)) (pos 1)) (matrix (pos a) (pos 0) (pos c) (pos d))
    ≡ matrix (pos a) (pos 0) (pos r) (pos d)
lowered a c d q r e = same_matrix (top (pos a) (pos c)) (top (pos 0) (pos d)) (low a c q r e) (side (pos q) (pos d))
  where
    top : (x z : ℤ) → pos 1 *ℤ x +ℤ pos 0 *ℤ z ≡ x
    top x z = rw (pos_gap 1, pos_gap 0, is_gap x, is_gap z) (simp gaps (gap_same _ _ _ _ (omega arith)))

    side : (q d : ℤ) → neg_ℤ q *ℤ pos 0 +ℤ pos 1 *ℤ d ≡ d
    side q d = rw (pos_gap 1, pos_gap 0, is_gap q, is_gap d) (simp gaps (gap_same _ _ _ _ (omega arith)))

    opposite : (q a : ℤ) → neg_ℤ q *ℤ a ≡ neg_ℤ (a *ℤ q)
    opposite q a = rw (is_gap q, is_gap a) (simp gaps (gap_same _ _ _ _ (omega arith)))

    low : (a c q r : ℕ) → a * q + r ≡ c → neg_ℤ (pos q) *ℤ pos a +ℤ pos 1 *ℤ pos c ≡ pos r
    low a c q r e = ap (λ w. w +ℤ pos 1 *ℤ pos c) (opposite (pos q) (pos a)) ∙ omega (arith, ints, e)

lowering_one : (q : ℕ) → determinant (matrix (pos 1) (pos 0) (neg_ℤ (pos q)) (pos 1)) ≡ pos 1
lowering_one q = law (pos q)
  where
    law : (q : ℤ) → pos 1 *ℤ pos 1 -ℤ pos 0 *ℤ neg_ℤ q ≡ pos 1
    law q = rw (is_gap q, pos_gap 0, pos_gap 1) (simp gaps (gap_same _ _ _ _ (omega arith)))

-- a divisor of a small entry is small
small : (a2 r f : ℕ) (g : ℤ) → r ≢ 0 → r ≤ f → pos a2 *ℤ g ≡ neg_ℤ (pos r) → a2 ≤ f
small a2 zero f g some l e = absurd (some refl)
small a2 (suc r) f (pos j) some l e = absurd (omega (arith, ints, e))
small a2 (suc r) f (negsuc j) some l e = let h : a2 * suc j ≡ suc r = omega (arith, ints, e) in omega (arith, l, h)

symmetric_within : (fuel n : ℕ) (h : Matrix) → 0 < n → IsStart n h → unsigned_abs h.a ≤ fuel → Symmetric h
symmetric_within zero n h some is l = absurd (
    let e = start_entries n h some is in
    let (more, right) = some_factor e.a e.d n e.diagonal some in
    omega (arith, more, l, ap (λ m. unsigned_abs m.a) e.is))
symmetric_within (suc fuel) n h some is l =
    let e = start_entries n h some is in
    let (more, right) = some_factor e.a e.d n e.diagonal some in
    let q : ℕ = e.c / e.a in
    let r : ℕ = e.c % e.a in
    let s : Matrix = matrix (pos 1) (pos 0) (neg_ℤ (pos q)) (pos 1) in
    let row : product s h ≡ matrix (pos e.a) (pos 0) (pos r) (pos e.d) = ap (product s) e.is ∙ lowered e.a e.c e.d q r (div-add-mod e.c e.a) in
    elim (cases_eq r 0) [
      | inl none ↦ symmetric_from s identity h (product s h) (lowering_one q) refl (sym (right_identity (product s h))) (record {
        left = identity;
        right = identity;
        left_one = refl;
        right_one = refl;
        same = subst (λ w. transpose w ≡ w) (sym (right_identity (product identity (product s h)) ∙ left_identity (product s h) ∙ row))
            (symmetric_entries (matrix (pos e.a) (pos 0) (pos r) (pos e.d)) (ap pos (sym none)));
      })
      | inr rest ↦
          let m : Matrix = product matrix_s (product s h) in
          let det : determinant m ≡ pos n = determinant-product matrix_s (product s h) ∙ one_times (determinant (product s h))
          ∙ determinant-product s h
          ∙ ap (λ z. z *ℤ determinant h) (lowering_one q) ∙ one_times (determinant h) ∙ start_determinant n h some is in
          let k = start_of n m some det in
          let ke = start_entries n k.start some k.is in
          let back = Over_sym k.over in
          let first : pos ke.a *ℤ k.over.factor.a ≡ neg_ℤ (pos r) = corner ke.a ke.c ke.d k.over.factor.a k.over.factor.c
          ∙ ap (λ w. (product w k.over.factor).a) (sym ke.is) ∙ ap (λ w. w.a) (sym k.over.is) ∙ ap (λ w. (product matrix_s w).a) row
          ∙ turned e.a r in
          let lower : ke.a ≤ fuel = small ke.a r fuel k.over.factor.a rest
          (omega (arith, mod-lt e.c more, l, ap (λ m. unsigned_abs m.a) e.is)) first in
          symmetric_from (product matrix_s s) back.factor h k.start (one_and_one matrix_s s refl (lowering_one q))
          back.one
          (back.is ∙ ap (λ w. product w back.factor) (sym (product_assoc matrix_s s h)))
          (symmetric_within fuel n k.start some k.is (omega (arith, lower, ap (λ m. unsigned_abs m.a) ke.is)))
    ]
  where
    corner : (a c d : ℕ) (x z : ℤ) → pos a *ℤ x ≡ pos a *ℤ x +ℤ pos 0 *ℤ z
    corner a c d x z = law (pos a) x z
      where
        law : (a x z : ℤ) → a *ℤ x ≡ a *ℤ x +ℤ pos 0 *ℤ z
        law a x z = rw (is_gap a, is_gap x, is_gap z, pos_gap 0) (simp gaps (gap_same _ _ _ _ (omega arith)))

    turned : (a r : ℕ) → pos 0 *ℤ pos a +ℤ negsuc 0 *ℤ pos r ≡ neg_ℤ (pos r)
    turned a r = omega (arith, ints)

pub symmetric : (n : ℕ) (h : Matrix) → 0 < n → IsStart n h → Symmetric h
symmetric n h some is = symmetric_within (unsigned_abs h.a) n h some is (omega arith)

-- ---- the factor on the other side
-- h in t = h w goes to the start of left^-1 right^T w^T, which divides t
abbrev pub across : {t : Matrix} → Symmetric t → Matrix → Matrix
across s w = product (adjoint s.left) (product (transpose s.right) (transpose w))

pub across_determinant : (t w : Matrix) (s : Symmetric t) → determinant (across s w) ≡ determinant w
across_determinant t w s = determinant-product (adjoint s.left) (product (transpose s.right) (transpose w))
    ∙ ap (λ z. z *ℤ determinant (product (transpose s.right) (transpose w))) (determinant-adjoint s.left ∙ s.left_one)
    ∙ one_times (determinant (product (transpose s.right) (transpose w))) ∙ determinant-product (transpose s.right) (transpose w)
    ∙ ap (λ z. z *ℤ determinant (transpose w)) (determinant-transpose s.right ∙ s.right_one) ∙ one_times (determinant (transpose w))
    ∙ determinant-transpose w

pub across_divides : (t h w : Matrix) (s : Symmetric t) → t ≡ product h w → Divides (across s w) t
across_divides t h w s e = record {
  cofactor = product (transpose h) (product (transpose s.left) (adjoint s.right));
  is = sym (undone_left s.left t s.left_one) ∙ ap (product (adjoint s.left)) (sym (undone_right (product s.left t) s.right s.right_one)
      ∙ ap (λ k. product k (adjoint s.right)) (sym s.same ∙ transpose-product (product s.left t) s.right
      ∙ ap (product (transpose s.right)) (transpose-product s.left t ∙ ap (λ k. product k (transpose s.left))
      (ap transpose e ∙ transpose-product h w))))
      ∙ regroup (adjoint s.left) (transpose s.right) (transpose w) (transpose h) (transpose s.left) (adjoint s.right);
}
  where
    regroup : (a b w h c d : Matrix) → product a (product (product b (product (product w h) c)) d) ≡ product (product a (product b w))
        (product h (product c d))
    regroup a b w h c d =
        ap (product a) (product_assoc b (product (product w h) c) d
        ∙ ap (product b) (product_assoc (product w h) c d ∙ product_assoc w h (product c d)) ∙ sym (product_assoc b w (product h (product c d))))
        ∙ sym (product_assoc a (product b w) (product h (product c d)))

pub across_one : (t h k w v : Matrix) (s : Symmetric t) (n : ℕ) → 0 < n → determinant w ≡ pos n → t ≡ product h w → t ≡ product k v
    → Over (across s w) (across s v) → Over k h
across_one t h k w v s n some det e f over =
    let inner = Over-cancel (transpose s.right) (determinant-transpose s.right ∙ s.right_one)
    (Over-cancel (adjoint s.left) (determinant-adjoint s.left ∙ s.left_one) over) in
    let v_is : v ≡ product (transpose inner.factor) w = ap transpose inner.is ∙ transpose-product (transpose w) inner.factor in
    record {
      factor = transpose inner.factor;
      is = cancel_right n h (product k (transpose inner.factor)) w some det
          (sym e ∙ f ∙ ap (product k) v_is ∙ sym (product_assoc k (transpose inner.factor) w));
      one = determinant-transpose inner.factor ∙ inner.one;
    }
