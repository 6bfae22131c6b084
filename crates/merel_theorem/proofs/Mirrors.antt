-- Star commutes with Merel's sums. For m star = star m' with the mirror image m' = (a, -b; -c, d) of m; mirror images of chains lead from 0 to
-- infinity through the negative ends, and mirror images of the lattices of one index are these lattices in another order.
use Rattle.std.proofs.Common.{◌≡◌, ◌≢◌, ◌+◌, ◌*◌, ◌<◌, ℕ, List, [], ◌∷◌, length, All, refl, sym, ◌∙◌, ap, subst, arith}
use Rattle.std.specs.Prelude.{ℤ, pos, negsuc, neg_ℤ, ◌+ℤ◌, ◌-ℤ◌, ◌*ℤ◌}
use Rattle.std.specs.List.{flat_map}
use Rattle.std.proofs.lemmas.Int.{ints}
use Rattle.std.proofs.lemmas.List.Elements.{All-head, All-tail, All-weaker}
use Rattle.linear_algebra.specs.Vector.{Vector, ◌⊞◌}
use Rattle.linear_algebra.specs.Coordinates.{unit}
use Rattle.linear_algebra.proofs.Vectors.{plus-zeros, plus_assoc}
use Rattle.p1_normal.specs.declared.matrix.Matrix.{Matrix}
use Rattle.p1_normal.specs.Units.{gcd}
use Rattle.p1_normal.specs.Points.{symbols}
use Rattle.p1_normal.specs.Actions.{matrix, product, determinant, image_number, IsInvertible, matrix_star}
use Rattle.p1_normal.proofs.Numbers.{level_positive}
use Rattle.p1_normal.proofs.Moves.{image_number-lt, invertible_star}
use Rattle.p1_normal.proofs.LevelLaws.{image_number_product}
use Rattle.manin_relations.specs.Relations.{Congruent}
use Rattle.heilbronn_sets.specs.Merel.{IsMerel, merel_matrices, starts}
use Rattle.heilbronn_sets.proofs.Members.{All-merel_matrices}
use Rattle.heilbronn_chains.specs.Starts.{IsStart}
use Rattle.heilbronn_chains.specs.Chains.{IsChain, member}
use Rattle.heilbronn_chains.proofs.Integers.{is_gap, pos_gap, neg_gap, gaps, gap_same}
use Rattle.heilbronn_chains.proofs.Runs.{IsRun, chain_run, start_from_merel}
use Rattle.heilbronn_chains.proofs.ChainLists.{All-starts, chains_permutation}
use Rattle.hecke_columns.specs.Hecke.{symbol_sum, merel_sum}
use Rattle.hecke_columns.proofs.Coprime.{all_invertible}
use Rattle.hecke_columns.proofs.Sums.{hecke_sum-unit}
use Rattle.star_map.specs.Star.{star}
use Rattle.star_map.proofs.Stars.{star-plus, star-unit, star-zeros}
use Rattle.merel_theorem.proofs.Terms.{same_matrix}
use Rattle.merel_theorem.proofs.Bases.{Over, Over_refl, Over_sym, Over_trans, Over-lattice, start_determinant}
use Rattle.merel_theorem.proofs.Chains.{from_end, from_end-scaled, over_joins, sum-none, sum-more, not_zero}
use Rattle.merel_theorem.proofs.Lands.{Lands, none, more, Keeps, lands, lands_onto, chains_from}
use Rattle.merel_theorem.proofs.Moved.{HasIndex, index_invertible, index_nonzero, start_index}
use Rattle.merel_theorem.proofs.Products.{times_one, times_zero}
use Rattle.merel_theorem.proofs.Classes.{Same, difference, same_by, same_from, same_plus, same_right, same_sym, same_trans}
use Rattle.merel_theorem.proofs.Combinations.{after_by, from_symbols, merel_by, star_by}
use Rattle.merel_theorem.proofs.Arcs.{arc, arc_over, single_sum}
use Rattle.merel_theorem.proofs.Totals.{total, total-joined, total-map, total-more, total-none, total-permutation, total_congruent}

abbrev pub mirror : Matrix → Matrix
mirror m = matrix m.a (neg_ℤ m.b) (neg_ℤ m.c) m.d

mirror-product : (x y : Matrix) → mirror (product x y) ≡ product (mirror x) (mirror y)
mirror-product x y = same_matrix (even x.a x.b y.a y.c) (first x.a x.b y.b y.d) (second x.c x.d y.a y.c) (other x.c x.d y.b y.d)
  where
    even : (a b x z : ℤ) → a *ℤ x +ℤ b *ℤ z ≡ a *ℤ x +ℤ neg_ℤ b *ℤ neg_ℤ z
    even a b x z = rw (is_gap a, is_gap b, is_gap x, is_gap z) (simp gaps (gap_same _ _ _ _ (omega arith)))

    first : (a b x z : ℤ) → neg_ℤ (a *ℤ x +ℤ b *ℤ z) ≡ a *ℤ neg_ℤ x +ℤ neg_ℤ b *ℤ z
    first a b x z = rw (is_gap a, is_gap b, is_gap x, is_gap z) (simp gaps (gap_same _ _ _ _ (omega arith)))

    second : (c d x z : ℤ) → neg_ℤ (c *ℤ x +ℤ d *ℤ z) ≡ neg_ℤ c *ℤ x +ℤ d *ℤ neg_ℤ z
    second c d x z = rw (is_gap c, is_gap d, is_gap x, is_gap z) (simp gaps (gap_same _ _ _ _ (omega arith)))

    other : (c d x z : ℤ) → c *ℤ x +ℤ d *ℤ z ≡ neg_ℤ c *ℤ neg_ℤ x +ℤ d *ℤ z
    other c d x z = rw (is_gap c, is_gap d, is_gap x, is_gap z) (simp gaps (gap_same _ _ _ _ (omega arith)))

mirror_mirror : (m : Matrix) → mirror (mirror m) ≡ m
mirror_mirror m = same_matrix refl (double m.b) (double m.c) refl
  where
    double : (z : ℤ) → neg_ℤ (neg_ℤ z) ≡ z
    double z = omega (arith, ints)

determinant-mirror : (m : Matrix) → determinant (mirror m) ≡ determinant m
determinant-mirror m = law m.a m.b m.c m.d
  where
    law : (a b c d : ℤ) → a *ℤ d -ℤ neg_ℤ b *ℤ neg_ℤ c ≡ a *ℤ d -ℤ b *ℤ c
    law a b c d = rw (is_gap a, is_gap b, is_gap c, is_gap d) (simp gaps (gap_same _ _ _ _ (omega arith)))

over_mirror : {g m : Matrix} → Over g m → Over (mirror g) (mirror m)
over_mirror {g} {m} h = record {
  factor = mirror h.factor;
  is = ap mirror h.is ∙ mirror-product g h.factor;
  one = determinant-mirror h.factor
      ∙ h.one;
}

keeps_mirror : Keeps mirror
keeps_mirror g m over = subst (λ w. Over w m) (mirror_mirror g) (subst (Over (mirror (mirror g))) (mirror_mirror m) (over_mirror over))

-- M star is star M'
star_turns : (m : Matrix) → product m matrix_star ≡ product matrix_star (mirror m)
star_turns m = same_matrix (upper m.a m.b m.c) (other m.a m.b m.d) (lower m.a m.c m.d) (last m.b m.c m.d)
  where
    upper : (a b c : ℤ) → a *ℤ negsuc 0 +ℤ b *ℤ pos 0 ≡ negsuc 0 *ℤ a +ℤ pos 0 *ℤ neg_ℤ c
    upper a b c = rw (is_gap a, is_gap b, is_gap c, pos_gap 0, neg_gap 0) (simp gaps (gap_same _ _ _ _ (omega arith)))

    other : (a b d : ℤ) → a *ℤ pos 0 +ℤ b *ℤ pos 1 ≡ negsuc 0 *ℤ neg_ℤ b +ℤ pos 0 *ℤ d
    other a b d = rw (is_gap a, is_gap b, is_gap d, pos_gap 0, pos_gap 1, neg_gap 0) (simp gaps (gap_same _ _ _ _ (omega arith)))

    lower : (a c d : ℤ) → c *ℤ negsuc 0 +ℤ d *ℤ pos 0 ≡ pos 0 *ℤ a +ℤ pos 1 *ℤ neg_ℤ c
    lower a c d = rw (is_gap a, is_gap c, is_gap d, pos_gap 0, pos_gap 1, neg_gap 0) (simp gaps (gap_same _ _ _ _ (omega arith)))

    last : (b c d : ℤ) → c *ℤ pos 0 +ℤ d *ℤ pos 1 ≡ pos 0 *ℤ neg_ℤ b +ℤ pos 1 *ℤ d
    last b c d = rw (is_gap b, is_gap c, is_gap d, pos_gap 0, pos_gap 1) (simp gaps (gap_same _ _ _ _ (omega arith)))

-- ---- along the mirror of a chain
abbrev mirrored : {p : ℕ} → ℕ → ℕ → Matrix → Vector p
mirrored N y m = unit (image_number N y (mirror m))

opposite_end : {p : ℕ} (N y : ℕ) (g : Matrix) (x z : ℤ) → from_end {p = p} N y g (neg_ℤ x) z ≡ from_end N y g x (neg_ℤ z)
opposite_end {p} N y g x z = ap (λ w. from_end {p = p} N y g w z) (first x) ∙ ap (from_end {p = p} N y g (negsuc 0 *ℤ x)) (second z)
    ∙ from_end-scaled N y g (negsuc 0) x (neg_ℤ z) (λ e. apart e)
  where
    apart : negsuc 0 ≡ pos 0 → ⊥
    apart e = omega (arith, ints, e)

    first : (x : ℤ) → neg_ℤ x ≡ negsuc 0 *ℤ x
    first x = rw (is_gap x, neg_gap 0) (simp gaps (gap_same _ _ _ _ (omega arith)))

    second : (z : ℤ) → z ≡ negsuc 0 *ℤ neg_ℤ z
    second z = rw (is_gap z, neg_gap 0) (simp gaps (gap_same _ _ _ _ (omega arith)))

run_mirrored : (p N y q : ℕ) (g m : Matrix) (ks : List Matrix) → 0 < p → y < length (symbols N) → HasIndex N q g → IsMerel q m → IsRun q m ks
    → Over g (mirror m)
    → Same {p = p} N (total (mirrored N y) (m ∷ ks) ⊞ from_end N y g (pos 1) (pos 0)) (from_end N y g (neg_ℤ m.b) m.d)
run_mirrored p N y q g m [] positive within index is run over =
    same_by (ap (λ v. v ⊞ from_end N y g (pos 1) (pos 0))
    (total-more (mirrored N y) m [] ∙ ap (λ v. mirrored {p = p} N y m ⊞ v) (total-none (mirrored N y))
    ∙ plus-zeros (mirrored N y m)) ∙ ap (λ v. mirrored {p = p} N y m ⊞ v) (sym last)) refl
    (over_joins p N y g (mirror m) positive within (index_invertible N q g index) (index_nonzero N q g index) over)
  where
    none : (c : ℤ) → c ≡ pos 0 → neg_ℤ c ≡ pos 0
    none c e = omega (arith, ints, e)

    last : from_end {p = p} N y g m.a (neg_ℤ m.c) ≡ from_end N y g (pos 1) (pos 0)
    last = ap (λ x. from_end {p = p} N y g x (neg_ℤ m.c)) (times_one m.a) ∙ ap (from_end {p = p} N y g (m.a *ℤ pos 1))
        (none m.c run ∙ times_zero m.a)
        ∙ from_end-scaled N y g m.a (pos 1) (pos 0) (not_zero m.a m.b is.left is.upper)
run_mirrored p N y q g m (l ∷ ks) positive within index is run over =
    let last : Vector p = from_end N y g (pos 1) (pos 0) in
    let next : Over g (mirror l) = Over_trans over
    (over_mirror (Over-lattice q m l index.positive is.determinant_is run.0.is_member.determinant_is run.0.lattice)) in
    let rest = run_mirrored p N y q g l ks positive within index run.0.is_member run.1 next in
    let link : from_end {p = p} N y g (neg_ℤ l.b) l.d ≡ from_end N y g m.a (neg_ℤ m.c) = opposite_end N y g l.b l.d
    ∙ ap (λ x. from_end {p = p} N y g x (neg_ℤ l.d)) run.0.upper ∙ ap (λ z. from_end {p = p} N y g m.a (neg_ℤ z)) run.0.lower in
    same_trans positive (same_by (ap (λ v. v ⊞ last) (total-more (mirrored N y) m (l ∷ ks)) ∙ plus_assoc (mirrored N y m)
    (total (mirrored N y) (l ∷ ks)) last)
    (ap (λ v. mirrored N y m ⊞ v) (sym link)) (same_right positive (mirrored N y m) rest))
    (over_joins p N y g (mirror m) positive within (index_invertible N q g index) (index_nonzero N q g index) over)

mirror_index : (N q : ℕ) (g : Matrix) → HasIndex N q g → HasIndex N q (mirror g)
mirror_index N q g h = record { determinant_is = determinant-mirror g ∙ h.determinant_is; positive = h.positive; coprime = h.coprime }

chain_mirrored : (p N y q : ℕ) (ms : List Matrix) → 0 < p → y < length (symbols N) → 0 < q → gcd q N ≡ 1 → IsChain q ms
    → Same {p = p} N (total (mirrored N y) ms) (arc N y (mirror (member ms 0)))
unfolding arc
chain_mirrored p N y q ms positive within some coprime chain =
    let r = chain_run q ms chain in
    let h : Matrix = r.first in
    let index = mirror_index N q h (start_index N q h some coprime (start_from_merel q h r.is_member r.begins)) in
    subst (λ ws. Same {p = p} N (total (mirrored N y) ws) (arc N y (mirror (member ws 0)))) (sym r.is)
    (difference positive (total (mirrored N y) (h ∷ r.rest)) (from_end N y (mirror h) (pos 1) (pos 0)) (from_end N y (mirror h) (pos 0) (pos 1))
    (same_trans positive (run_mirrored p N y q (mirror h) h r.rest positive within index r.is_member r.run (Over_refl (mirror h)))
    (same_from positive (origin h r.begins (not_zero h.d h.c r.is_member.right r.is_member.lower)))))
  where
    none : (b : ℤ) → b ≡ pos 0 → neg_ℤ b ≡ pos 0
    none b e = omega (arith, ints, e)

    origin : (h : Matrix) → h.b ≡ pos 0 → h.d ≢ pos 0 → from_end {p = p} N y (mirror h) (neg_ℤ h.b) h.d ≡ from_end N y (mirror h) (pos 0) (pos 1)
    origin h begins apart = ap (λ x. from_end {p = p} N y (mirror h) x h.d) (none h.b begins ∙ times_zero h.d)
        ∙ ap (from_end {p = p} N y (mirror h) (h.d *ℤ pos 0)) (times_one h.d)
        ∙ from_end-scaled N y (mirror h) h.d (pos 0) (pos 1) apart

-- ---- mirrors permute the lattices
mirrored_landed : (p N y q : ℕ) (hs ts : List Matrix) → 0 < p → y < length (symbols N) → 0 < q → gcd q N ≡ 1 → All (IsStart q) hs
    → Lands q mirror hs ts
    → Same {p = p} N (total (λ h. arc N y (mirror h)) hs) (total (arc N y) ts)
mirrored_landed p N y q [] [] positive within some coprime all none = same_from positive
    (total-none (λ h. arc N y (mirror h)) ∙ sym (total-none (arc N y)))
mirrored_landed p N y q [] (t ∷ ts) positive within some coprime all x = elim x [ ]
mirrored_landed p N y q (h ∷ hs) [] positive within some coprime all x = elim x [ ]
mirrored_landed p N y q (h ∷ hs) (t ∷ ts) positive within some coprime all (more is over rest) =
    same_by (total-more (λ h. arc N y (mirror h)) h hs) (total-more (arc N y) t ts)
    (same_plus positive (arc_over p N y q (mirror h) t positive within
    (mirror_index N q h (start_index N q h some coprime (All-head (IsStart q) h hs all)))
    (start_index N q t some coprime is) (Over_sym over))
    (mirrored_landed p N y q hs ts positive within some coprime (All-tail (IsStart q) h hs all) rest))

mirrored_arcs : (p N y q : ℕ) → 0 < p → y < length (symbols N) → 0 < q → gcd q N ≡ 1
    → Same {p = p} N (total (λ h. arc N y (mirror h)) (starts q)) (total (arc N y) (starts q))
mirrored_arcs p N y q positive within some coprime =
    let (ts, landing) = lands q q mirror (starts q) some (λ h is. determinant-mirror h ∙ start_determinant q h some is) (All-starts q) in
    same_trans positive (mirrored_landed p N y q (starts q) ts positive within some coprime (All-starts q) landing)
    (same_from positive (total-permutation (arc N y) ts (starts q) (lands_onto q mirror ts some keeps_mirror
    (λ x is. (
      mirror x,
      determinant-mirror x ∙ start_determinant q x some is,
      λ h over. subst (Over (mirror h)) (mirror_mirror x)
          (over_mirror over),
    )) landing)))

mirror_sum : (p N y n : ℕ) → 0 < p → y < length (symbols N) → 0 < n → gcd n N ≡ 1
    → Same {p = p} N (total (mirrored N y) (merel_matrices n)) (symbol_sum N (merel_matrices n) y)
mirror_sum p N y n positive within some coprime =
    let c = chains_from n (starts n) some (All-starts n) in
    let order = chains_permutation n c.chains some (record { chains = c.are; begins = c.begins }) in
    let there : Same {p = p} N (total (mirrored N y) (merel_matrices n)) (total (arc N y) (starts n)) =
    same_trans positive (same_from positive (sym (total-permutation (mirrored N y) (flat_map (λ ms. ms) c.chains) (merel_matrices n) order)
    ∙ total-joined (mirrored N y) c.chains))
    (same_trans positive (total_congruent positive (IsChain n) (total (mirrored N y)) (λ ms. arc N y (mirror (member ms 0))) c.chains c.are
    (λ ms chain. chain_mirrored p N y n ms positive within some coprime chain))
    (same_trans positive (same_from positive
    (sym (total-map (λ h. arc N y (mirror h)) (λ ms. member ms 0) c.chains) ∙ ap (total (λ h. arc N y (mirror h))) c.begins))
    (mirrored_arcs p N y n positive within some coprime))) in
    let here : Same {p = p} N (symbol_sum N (merel_matrices n) y) (total (arc N y) (starts n)) =
    same_by (sym (hecke_sum-unit N (merel_matrices n) y within)) refl (single_sum p N n y positive some coprime within) in
    same_trans positive there (same_sym positive here)

-- ---- star of the sum
star_sum : (p N k : ℕ) (ms : List Matrix) → k < length (symbols N) → All (IsInvertible N) ms
    → star N (symbol_sum {p = p} N ms k) ≡ total (mirrored N (image_number N k matrix_star)) ms
star_sum p N k [] within all = ap (star N) (sum-none p N k) ∙ star-zeros p N ∙ sym (total-none (mirrored N (image_number N k matrix_star)))
star_sum p N k (m ∷ ms) within all =
    let unit_m : IsInvertible N m = All-head (IsInvertible N) m ms all in
    ap (star N) (sum-more p N m ms k) ∙ star-plus N (unit (image_number N k m)) (symbol_sum N ms k)
    ∙ ap (λ v. v ⊞ star {p = p} N (symbol_sum N ms k)) (star-unit N (image_number N k m) (image_number-lt N k m within unit_m)
    ∙ ap unit (image_number_product N k m matrix_star within unit_m ∙ ap (image_number N k) (star_turns m)
    ∙ sym (image_number_product N k matrix_star (mirror m) within (invertible_star N (level_positive N k within)))))
    ∙ ap (λ v. mirrored N (image_number N k matrix_star) m ⊞ v) (star_sum p N k ms within (All-tail (IsInvertible N) m ms all))
    ∙ sym (total-more (mirrored N (image_number N k matrix_star)) m ms)

star_symbol : (p N n k : ℕ) → 0 < p → 0 < n → gcd n N ≡ 1 → k < length (symbols N)
    → Same {p = p} N (star N (merel_sum N n (unit k))) (merel_sum N n (star N (unit k)))
star_symbol p N n k positive some coprime within =
    let y : ℕ = image_number N k matrix_star in
    let y_within : y < length (symbols N) = image_number-lt N k matrix_star within (invertible_star N (level_positive N k within)) in
    let invertible : All (IsInvertible N) (merel_matrices n) = all_invertible N n (merel_matrices n) coprime
    (All-weaker (IsMerel n) (λ w. determinant w ≡ pos n) (λ w h. h.determinant_is) (merel_matrices n) (All-merel_matrices n)) in
    same_by (ap (star N) (hecke_sum-unit N (merel_matrices n) k within) ∙ star_sum p N k (merel_matrices n) within invertible)
    (ap (merel_sum N n) (star-unit N k within) ∙ hecke_sum-unit N (merel_matrices n) y y_within)
    (mirror_sum p N y n positive y_within some coprime)

-- so of each combination
pub star_commutes : (p N n : ℕ) (x : Vector p) → 0 < p → 0 < n → gcd n N ≡ 1 → Congruent N (star N (merel_sum N n x)) (merel_sum N n (star N x))
star_commutes p N n x positive some coprime =
    from_symbols p N (λ v. star N (merel_sum N n v)) (λ v. merel_sum N n (star N v)) positive
    (after_by N (star N) (merel_sum N n) (star_by N) (merel_by N n)) (after_by N (merel_sum N n) (star N) (merel_by N n) (star_by N))
    (λ k within. star_symbol p N n k positive some coprime within) x
