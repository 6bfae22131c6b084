-- Along the chain of a lattice the ways telescope: the sum over the chain of a symbol that a matrix e moved is the difference of the ways from the
-- second column of e and from the first, all in the lattice of e times the chain's matrices (`chain_sum`).
use Rattle.std.proofs.Common.{◌≡◌, ◌≢◌, ◌+◌, ◌*◌, ◌<◌, ℕ, List, [], ◌∷◌, length, refl, sym, ◌∙◌, ap, subst, arith}
use Rattle.std.specs.Prelude.{ℤ, pos, ◌+ℤ◌, ◌-ℤ◌, ◌*ℤ◌, ◌<ℤ◌, ◌≤ℤ◌}
use Rattle.std.proofs.lemmas.Int.{ints}
use Rattle.linear_algebra.specs.Vector.{Vector, ◌⊞◌, zeros}
use Rattle.linear_algebra.specs.Coordinates.{unit}
use Rattle.linear_algebra.proofs.Vectors.{plus-zeros, plus_assoc}
use Rattle.linear_algebra.proofs.SparseLaws.{sparse_nil}
use Rattle.p1_normal.specs.declared.matrix.Matrix.{Matrix}
use Rattle.p1_normal.specs.Points.{symbols}
use Rattle.p1_normal.specs.Actions.{product, determinant, image_number, IsInvertible}
use Rattle.p1_normal.proofs.Moves.{image_number-lt}
use Rattle.p1_normal.proofs.LevelLaws.{image_number_product}
use Rattle.heilbronn_sets.specs.Merel.{IsMerel}
use Rattle.heilbronn_chains.specs.Chains.{IsChain, member}
use Rattle.heilbronn_chains.proofs.Integers.{is_gap, pos_gap, gaps, gap_same}
use Rattle.heilbronn_chains.proofs.Runs.{IsRun, chain_run}
use Rattle.hecke_columns.specs.Hecke.{symbol_sum}
use Rattle.hecke_columns.proofs.Hits.{sparse-hits}
use Rattle.hecke_columns.proofs.Permuted.{symbol_sum-append, symbol_sum-one}
use Rattle.merel_theorem.proofs.Signs.{toward, toward-scaled, joins_all}
use Rattle.merel_theorem.proofs.Bases.{Over, Over_trans, Over-left, Over-lattice}
use Rattle.merel_theorem.proofs.Classes.{Same, same_by, same_from, same_right, same_trans}

-- ---- the sum of a symbol over matrices, one before the others
pub sum-none : (p N k : ℕ) → symbol_sum {p = p} N [] k ≡ zeros
sum-none p N k = sym (sparse-hits p N [] k) ∙ sparse_nil p

pub sum-more : (p N : ℕ) (m : Matrix) (ms : List Matrix) (k : ℕ) → symbol_sum {p = p} N (m ∷ ms) k ≡ unit (image_number N k m) ⊞ symbol_sum N ms k
sum-more p N m ms k = symbol_sum-append p N (m ∷ []) ms k ∙ ap (λ v. v ⊞ symbol_sum N ms k) (symbol_sum-one p N m k)

-- ---- the way from an end of a lattice with the basis g: that of its coordinates, times the determinant
unfoldable pub from_end : {p : ℕ} → ℕ → ℕ → Matrix → ℤ → ℤ → Vector p
from_end N k g x z = toward N ((g.d *ℤ x) -ℤ (g.b *ℤ z)) ((g.a *ℤ z) -ℤ (g.c *ℤ x)) (image_number N k g)

-- multiples name one end
pub from_end-scaled : {p : ℕ} (N k : ℕ) (g : Matrix) (t x z : ℤ) → t ≢ pos 0 → from_end {p = p} N k g (t *ℤ x) (t *ℤ z) ≡ from_end N k g x z
unfolding from_end
from_end-scaled {p} N k g t x z some =
    ap (λ w. toward {p = p} N w ((g.a *ℤ (t *ℤ z)) -ℤ (g.c *ℤ (t *ℤ x))) (image_number N k g)) (law g.d g.b t x z)
    ∙ ap (λ w. toward {p = p} N (t *ℤ ((g.d *ℤ x) -ℤ (g.b *ℤ z))) w (image_number N k g)) (law g.a g.c t z x)
    ∙ toward-scaled N t ((g.d *ℤ x) -ℤ (g.b *ℤ z)) ((g.a *ℤ z) -ℤ (g.c *ℤ x)) (image_number N k g) some
  where
    law : (d b t x z : ℤ) → (d *ℤ (t *ℤ x)) -ℤ (b *ℤ (t *ℤ z)) ≡ t *ℤ ((d *ℤ x) -ℤ (b *ℤ z))
    law d b t x z = rw (is_gap d, is_gap b, is_gap t, is_gap x, is_gap z) (simp gaps (gap_same _ _ _ _ (omega arith)))

-- the end of a column of g s
from_end-column : {p : ℕ} (N k : ℕ) (g : Matrix) (x z : ℤ) → determinant g ≢ pos 0
    → from_end {p = p} N k g (g.a *ℤ x +ℤ g.b *ℤ z) (g.c *ℤ x +ℤ g.d *ℤ z) ≡ toward N x z (image_number N k g)
unfolding from_end
from_end-column {p} N k g x z some =
    ap (λ w. toward {p = p} N w ((g.a *ℤ (g.c *ℤ x +ℤ g.d *ℤ z)) -ℤ (g.c *ℤ (g.a *ℤ x +ℤ g.b *ℤ z))) (image_number N k g))
    (first g.a g.b g.c g.d x z)
    ∙ ap (λ w. toward {p = p} N (determinant g *ℤ x) w (image_number N k g)) (second g.a g.b g.c g.d x z)
    ∙ toward-scaled N (determinant g) x z (image_number N k g) some
  where
    first : (a b c d x z : ℤ) → (d *ℤ (a *ℤ x +ℤ b *ℤ z)) -ℤ (b *ℤ (c *ℤ x +ℤ d *ℤ z)) ≡ (a *ℤ d -ℤ b *ℤ c) *ℤ x
    first a b c d x z = rw (is_gap a, is_gap b, is_gap c, is_gap d, is_gap x, is_gap z) (simp gaps (gap_same _ _ _ _ (omega arith)))

    second : (a b c d x z : ℤ) → (a *ℤ (c *ℤ x +ℤ d *ℤ z)) -ℤ (c *ℤ (a *ℤ x +ℤ b *ℤ z)) ≡ (a *ℤ d -ℤ b *ℤ c) *ℤ z
    second a b c d x z = rw (is_gap a, is_gap b, is_gap c, is_gap d, is_gap x, is_gap z) (simp gaps (gap_same _ _ _ _ (omega arith)))

-- a matrix over g joins the ends of its columns
pub over_joins : (p N k : ℕ) (g m : Matrix) → 0 < p → k < length (symbols N) → IsInvertible N g → determinant g ≢ pos 0 → Over g m
    → Same {p = p} N (unit (image_number N k m) ⊞ from_end N k g m.a m.c) (from_end N k g m.b m.d)
over_joins p N k g m positive within unit_g some h =
    subst (λ w. Same {p = p} N (unit (image_number N k w) ⊞ from_end N k g w.a w.c) (from_end N k g w.b w.d)) (sym h.is)
    (same_by (ap (λ v. unit (image_number N k (product g h.factor)) ⊞ v) (from_end-column N k g h.factor.a h.factor.c some)
    ∙ ap (λ i. unit i ⊞ toward {p = p} N h.factor.a h.factor.c (image_number N k g)) (sym (image_number_product N k g h.factor within unit_g)))
    (from_end-column N k g h.factor.b h.factor.d some)
    ((joins_all p N h.factor positive h.one).joins (image_number N k g) (image_number-lt N k g within unit_g)))

-- ---- along a chain, with a matrix e on the left
pub not_zero : (a b : ℤ) → b <ℤ a → pos 0 ≤ℤ b → a ≢ pos 0
not_zero a b l m e = omega (arith, ints, l, m, e)

run_sum : (p N k n : ℕ) (g e m : Matrix) (ks : List Matrix) → 0 < p → 0 < n → k < length (symbols N) → IsInvertible N g → determinant g ≢ pos 0
    → IsInvertible N e → IsMerel n m → IsRun n m ks → Over g (product e m)
    → Same {p = p} N (symbol_sum N (m ∷ ks) (image_number N k e) ⊞ from_end N k g e.a e.c)
    (from_end N k g (e.a *ℤ m.b +ℤ e.b *ℤ m.d) (e.c *ℤ m.b +ℤ e.d *ℤ m.d))
run_sum p N k n g e m [] positive some_n within unit_g some unit_e is run over =
    same_by (ap (λ v. v ⊞ from_end N k g e.a e.c) (sum-more p N m [] (image_number N k e)
    ∙ ap (λ v. unit (image_number N (image_number N k e) m) ⊞ v) (sum-none p N (image_number N k e))
    ∙ plus-zeros (unit (image_number N (image_number N k e) m)))
    ∙ ap (λ i. unit i ⊞ from_end N k g e.a e.c) (image_number_product N k e m within unit_e)
    ∙ ap (λ v. unit (image_number N k (product e m)) ⊞ v) (sym end)) refl
    (over_joins p N k g (product e m) positive within unit_g some over)
  where
    at : (a b c : ℤ) (m c' : ℤ) → c' ≡ pos 0 → a *ℤ m +ℤ b *ℤ c' ≡ m *ℤ a
    at a b c m c' z = ap (λ w. a *ℤ m +ℤ b *ℤ w) z ∙ plain a b m
      where
        plain : (a b m : ℤ) → a *ℤ m +ℤ b *ℤ pos 0 ≡ m *ℤ a
        plain a b m = rw (is_gap a, is_gap b, is_gap m, pos_gap 0) (simp gaps (gap_same _ _ _ _ (omega arith)))

    end : from_end {p = p} N k g (e.a *ℤ m.a +ℤ e.b *ℤ m.c) (e.c *ℤ m.a +ℤ e.d *ℤ m.c) ≡ from_end N k g e.a e.c
    end = ap (λ w. from_end {p = p} N k g w (e.c *ℤ m.a +ℤ e.d *ℤ m.c)) (at e.a e.b e.c m.a m.c run)
        ∙ ap (from_end {p = p} N k g (m.a *ℤ e.a)) (at e.c e.d e.c m.a m.c run)
        ∙ from_end-scaled N k g m.a e.a e.c (not_zero m.a m.b is.left is.upper)
run_sum p N k n g e m (l ∷ ks) positive some_n within unit_g some unit_e is run over =
    let j : ℕ = image_number N k e in
    let last : Vector p = from_end N k g e.a e.c in
    let next : Over g (product e l) = Over_trans over
    (Over-left e (Over-lattice n m l some_n is.determinant_is run.0.is_member.determinant_is run.0.lattice)) in
    let rest = run_sum p N k n g e l ks positive some_n within unit_g some unit_e run.0.is_member run.1 next in
    let link : from_end {p = p} N k g (e.a *ℤ l.b +ℤ e.b *ℤ l.d) (e.c *ℤ l.b +ℤ e.d *ℤ l.d) ≡ from_end N k g (e.a *ℤ m.a +ℤ e.b *ℤ m.c)
    (e.c *ℤ m.a +ℤ e.d *ℤ m.c) =
    ap (λ w. from_end {p = p} N k g (e.a *ℤ w +ℤ e.b *ℤ l.d) (e.c *ℤ w +ℤ e.d *ℤ l.d)) run.0.upper
    ∙ ap (λ w. from_end {p = p} N k g (e.a *ℤ m.a +ℤ e.b *ℤ w) (e.c *ℤ m.a +ℤ e.d *ℤ w)) run.0.lower in
    same_trans positive (same_by (ap (λ v. v ⊞ last) (sum-more p N m (l ∷ ks) j) ∙ plus_assoc (unit (image_number N j m))
    (symbol_sum N (l ∷ ks) j) last
    ∙ ap (λ i. unit i ⊞ (symbol_sum N (l ∷ ks) j ⊞ last)) (image_number_product N k e m within unit_e)) (ap
    (λ v. unit (image_number N k (product e m)) ⊞ v) (sym link))
    (same_right positive (unit (image_number N k (product e m))) rest))
    (over_joins p N k g (product e m) positive within unit_g some over)

-- the sum over a chain
pub chain_sum : (p N k n : ℕ) (g e : Matrix) (ms : List Matrix) → 0 < p → 0 < n → k < length (symbols N) → IsInvertible N g → determinant g ≢ pos 0
    → IsInvertible N e → IsChain n ms → Over g (product e (member ms 0))
    → Same {p = p} N (symbol_sum N ms (image_number N k e) ⊞ from_end N k g e.a e.c) (from_end N k g e.b e.d)
chain_sum p N k n g e ms positive some_n within unit_g some unit_e chain over =
    let r = chain_run n ms chain in
    let m : Matrix = r.first in
    subst (λ ws. Same {p = p} N (symbol_sum N ws (image_number N k e) ⊞ from_end N k g e.a e.c) (from_end N k g e.b e.d)) (sym r.is)
    (same_trans positive (run_sum p N k n g e m r.rest positive some_n within unit_g some unit_e r.is_member r.run
    (subst (λ w. Over g (product e w)) (ap (λ ws. member ws 0) r.is) over))
    (same_from positive (ap (λ w. from_end {p = p} N k g w (e.c *ℤ m.b +ℤ e.d *ℤ m.d)) (at e.a e.b m.b m.d r.begins)
    ∙ ap (from_end {p = p} N k g (m.d *ℤ e.b)) (at e.c e.d m.b m.d r.begins)
    ∙ from_end-scaled N k g m.d e.b e.d (not_zero m.d m.c r.is_member.right r.is_member.lower))))
  where
    at : (a b m d : ℤ) → m ≡ pos 0 → a *ℤ m +ℤ b *ℤ d ≡ d *ℤ b
    at a b m d z = ap (λ w. a *ℤ w +ℤ b *ℤ d) z ∙ plain a b d
      where
        plain : (a b d : ℤ) → a *ℤ pos 0 +ℤ b *ℤ d ≡ d *ℤ b
        plain a b d = rw (is_gap a, is_gap b, is_gap d, pos_gap 0) (simp gaps (gap_same _ _ _ _ (omega arith)))
