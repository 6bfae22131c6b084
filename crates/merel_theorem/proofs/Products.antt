-- Merel's sum of determinant n of that of determinant m is the sum of the arcs of all lattices of index m n, each as often as it lies in a lattice
-- of index m (`product_sum`). That number is the same for m and n in the other order, so Merel's sums commute.
use Rattle.std.proofs.Common.{◌≡◌, ◌≢◌, ◌*◌, ◌<◌, ℕ, cond, List, [], ◌∷◌, length, All, refl, sym, ◌∙◌, ap, subst, arith}
use Rattle.std.specs.Prelude.{ℤ, pos, ◌*ℤ◌, filter}
use Rattle.std.specs.List.{flat_map}
use Rattle.std.proofs.lemmas.Int.{ints}
use Rattle.std.proofs.lemmas.List.Elements.{All-head, All-tail, All-weaker}
use Rattle.linear_algebra.specs.Vector.{Vector, ◌⊞◌, zeros}
use Rattle.linear_algebra.specs.Coordinates.{unit}
use Rattle.linear_algebra.proofs.Vectors.{plus-zeros, plus_assoc}
use Rattle.p1_normal.specs.declared.matrix.Matrix.{Matrix}
use Rattle.p1_normal.specs.Units.{gcd}
use Rattle.p1_normal.specs.Points.{symbols}
use Rattle.p1_normal.specs.Actions.{product, determinant, image_number, IsInvertible}
use Rattle.p1_normal.proofs.Numbers.{level_positive}
use Rattle.p1_normal.proofs.Moves.{image_number-lt}
use Rattle.manin_relations.specs.Relations.{Congruent}
use Rattle.heilbronn_sets.specs.Merel.{IsMerel, merel_matrices, starts}
use Rattle.heilbronn_sets.proofs.Members.{All-merel_matrices}
use Rattle.heilbronn_chains.specs.Starts.{IsStart}
use Rattle.heilbronn_chains.specs.Chains.{IsChain, member}
use Rattle.heilbronn_chains.proofs.Runs.{IsRun, chain_run, start_from_merel}
use Rattle.heilbronn_chains.proofs.ChainLists.{All-starts, chains_permutation}
use Rattle.hecke_columns.specs.Hecke.{symbol_sum, hecke_sum, merel_sum}
use Rattle.hecke_columns.proofs.Coprime.{all_invertible}
use Rattle.hecke_columns.proofs.Sums.{hecke_sum-plus, hecke_sum-zeros, hecke_sum-unit}
use Rattle.merel_theorem.proofs.Bases.{Over, Over_refl, Over_sym, Over_trans, Over-lattice}
use Rattle.merel_theorem.proofs.Chains.{from_end, from_end-scaled, sum-none, sum-more, not_zero}
use Rattle.merel_theorem.proofs.Lands.{Lands, none, more, lands, chains_from}
use Rattle.merel_theorem.proofs.Moved.{HasIndex, product_index, start_index, ends, merel_moved, positive_times}
use Rattle.merel_theorem.proofs.Factors.{divides}
use Rattle.merel_theorem.proofs.Counts.{counts_same, multiples}
use Rattle.merel_theorem.proofs.Classes.{Same, difference, same_by, same_from, same_plus, same_right, same_sym, same_trans}
use Rattle.merel_theorem.proofs.Combinations.{after_by, from_symbols, merel_by}
use Rattle.merel_theorem.proofs.Arcs.{arc, arc_over}
use Rattle.merel_theorem.proofs.Totals.{repeated, total, total-exchange, total-filter, total-joined, total-map, total-minus, total-more, total-none, total-permutation, total-repeated, total-same, total_congruent, total_equal}

-- ---- the sums over Merel's set of determinant n of the images of symbol k
abbrev after : {p : ℕ} → ℕ → ℕ → ℕ → Matrix → Vector p
after N n k m = symbol_sum N (merel_matrices n) (image_number N k m)

-- the sum of a sum
sum_of_sums : (p N k : ℕ) (L K : List Matrix) → k < length (symbols N) → All (IsInvertible N) K → hecke_sum {p = p} N L (symbol_sum N K k)
    ≡ total (λ m. symbol_sum N L (image_number N k m)) K
sum_of_sums p N k L [] within all = ap (hecke_sum N L) (sum-none p N k) ∙ hecke_sum-zeros N L ∙ sym
    (total-none (λ m. symbol_sum N L (image_number N k m)))
sum_of_sums p N k L (m ∷ K) within all =
    ap (hecke_sum N L) (sum-more p N m K k) ∙ hecke_sum-plus N L (unit (image_number N k m)) (symbol_sum N K k)
    ∙ ap (λ v. v ⊞ hecke_sum {p = p} N L (symbol_sum N K k)) (hecke_sum-unit N L (image_number N k m)
    (image_number-lt N k m within (All-head (IsInvertible N) m K all)))
    ∙ ap (λ v. symbol_sum {p = p} N L (image_number N k m) ⊞ v) (sum_of_sums p N k L K within (All-tail (IsInvertible N) m K all))
    ∙ sym (total-more (λ m. symbol_sum N L (image_number N k m)) m K)

ends-scaled : {p : ℕ} (N k n : ℕ) (e : Matrix) (t x z : ℤ) → t ≢ pos 0 → ends {p = p} N k n e (t *ℤ x) (t *ℤ z) ≡ ends N k n e x z
ends-scaled {p} N k n e t x z some = total-same (λ h. from_end {p = p} N k (product e h) (t *ℤ x) (t *ℤ z))
    (λ h. from_end N k (product e h) x z) (starts n)
    (λ h. from_end-scaled N k (product e h) t x z some)

pub times_one : (x : ℤ) → x ≡ x *ℤ pos 1
times_one x = omega (arith, ints)

pub times_zero : (x : ℤ) → pos 0 ≡ x *ℤ pos 0
times_zero x = omega (arith, ints)

-- one matrix over h
after_one : (p N k n q : ℕ) (h m : Matrix) → 0 < p → 0 < n → k < length (symbols N) → gcd n N ≡ 1 → HasIndex N q h → Over h m
    → Same {p = p} N (after N n k m ⊞ ends N k n h m.a m.c) (ends N k n h m.b m.d)
after_one p N k n q h m positive some within coprime index over =
    subst (λ w. Same {p = p} N (after N n k w ⊞ ends N k n h w.a w.c) (ends N k n h w.b w.d)) (sym over.is)
    (merel_moved p N k n q h over.factor positive some within coprime index over.one)

-- along a chain
run_after : (p N k n q : ℕ) (h m : Matrix) (ks : List Matrix) → 0 < p → 0 < n → k < length (symbols N) → gcd n N ≡ 1 → HasIndex N q h
    → IsMerel q m → IsRun q m ks
    → Over h m → Same {p = p} N (total (after N n k) (m ∷ ks) ⊞ ends N k n h (pos 1) (pos 0)) (ends N k n h m.b m.d)
run_after p N k n q h m [] positive some within coprime index is run over =
    same_by (ap (λ v. v ⊞ ends {p = p} N k n h (pos 1) (pos 0))
    (total-more (after N n k) m [] ∙ ap (λ v. after {p = p} N n k m ⊞ v) (total-none (after N n k))
    ∙ plus-zeros (after N n k m)) ∙ ap (λ v. after {p = p} N n k m ⊞ v) (sym last)) refl
    (after_one p N k n q h m positive some within coprime index over)
  where
    last : ends {p = p} N k n h m.a m.c ≡ ends N k n h (pos 1) (pos 0)
    last = ap (λ x. ends {p = p} N k n h x m.c) (times_one m.a) ∙ ap (ends {p = p} N k n h (m.a *ℤ pos 1)) (run ∙ times_zero m.a)
        ∙ ends-scaled N k n h m.a (pos 1) (pos 0) (not_zero m.a m.b is.left is.upper)
run_after p N k n q h m (l ∷ ks) positive some within coprime index is run over =
    let last : Vector p = ends N k n h (pos 1) (pos 0) in
    let next : Over h l = Over_trans over (Over-lattice q m l index.positive is.determinant_is run.0.is_member.determinant_is run.0.lattice) in
    let rest = run_after p N k n q h l ks positive some within coprime index run.0.is_member run.1 next in
    let link : ends {p = p} N k n h l.b l.d ≡ ends N k n h m.a m.c = ap (λ x. ends {p = p} N k n h x l.d) run.0.upper
    ∙ ap (ends {p = p} N k n h m.a) run.0.lower in
    same_trans positive (same_by (ap (λ v. v ⊞ last) (total-more (after N n k) m (l ∷ ks)) ∙ plus_assoc (after N n k m)
    (total (after N n k) (l ∷ ks)) last)
    (ap (λ v. after N n k m ⊞ v) (sym link)) (same_right positive (after N n k m) rest))
    (after_one p N k n q h m positive some within coprime index over)

-- the arcs of the lattices of index n in that of h
abbrev pub arcs_below : {p : ℕ} → ℕ → ℕ → ℕ → Matrix → Vector p
arcs_below N k n h = total (λ t. arc N k (product h t)) (starts n)

chain_after : (p N k n q : ℕ) (ms : List Matrix) → 0 < p → 0 < n → k < length (symbols N) → gcd n N ≡ 1 → 0 < q → gcd q N ≡ 1 → IsChain q ms
    → Same {p = p} N (total (after N n k) ms) (arcs_below N k n (member ms 0))
unfolding arc
chain_after p N k n q ms positive some within coprime some_q coprime_q chain =
    let r = chain_run q ms chain in
    let h : Matrix = r.first in
    let index = start_index N q h some_q coprime_q (start_from_merel q h r.is_member r.begins) in
    subst (λ ws. Same {p = p} N (total (after N n k) ws) (arcs_below N k n (member ws 0))) (sym r.is)
    (same_trans positive (difference positive (total (after N n k) (h ∷ r.rest)) (ends N k n h (pos 1) (pos 0)) (ends N k n h (pos 0) (pos 1))
    (same_trans positive (run_after p N k n q h h r.rest positive some within coprime index r.is_member r.run (Over_refl h))
    (same_from positive (origin h r.begins
    (not_zero h.d h.c r.is_member.right r.is_member.lower)))))
    (same_from positive (total-minus positive (λ t. from_end N k (product h t) (pos 0) (pos 1))
    (λ t. from_end N k (product h t) (pos 1) (pos 0)) (starts n))))
  where
    origin : (h : Matrix) → h.b ≡ pos 0 → h.d ≢ pos 0 → ends {p = p} N k n h h.b h.d ≡ ends N k n h (pos 0) (pos 1)
    origin h begins apart = ap (λ x. ends {p = p} N k n h x h.d) (begins ∙ times_zero h.d) ∙ ap (ends {p = p} N k n h (h.d *ℤ pos 0))
        (times_one h.d)
        ∙ ends-scaled N k n h h.d (pos 0) (pos 1) apart

-- the starts of the lattices below that of h
below_landed : (p N k n q : ℕ) (h : Matrix) (hs ts : List Matrix) → 0 < p → 0 < n → k < length (symbols N) → gcd n N ≡ 1 → HasIndex N q h → All
    (IsStart n) hs
    → Lands (q * n) (product h) hs ts → Same {p = p} N (total (λ t. arc N k (product h t)) hs) (total (arc N k) ts)
below_landed p N k n q h [] [] positive some within coprime index all none = same_from positive
    (total-none (λ t. arc N k (product h t)) ∙ sym (total-none (arc N k)))
below_landed p N k n q h [] (t ∷ ts) positive some within coprime index all x = elim x [ ]
below_landed p N k n q h (g ∷ hs) [] positive some within coprime index all x = elim x [ ]
below_landed p N k n q h (g ∷ hs) (t ∷ ts) positive some within coprime index all (more is over rest) =
    let level : 0 < N = level_positive N k within in
    let here = product_index N q n h g level index (start_index N n g some coprime (All-head (IsStart n) g hs all)) in
    let there = start_index N (q * n) t here.positive here.coprime is in
    same_by (total-more (λ t. arc N k (product h t)) g hs) (total-more (arc N k) t ts)
    (same_plus positive (arc_over p N k (q * n) (product h g) t positive within here there (Over_sym over))
    (below_landed p N k n q h hs ts positive some within coprime index (All-tail (IsStart n) g hs all) rest))

pub arcs_are : (p N k n q : ℕ) (h : Matrix) → 0 < p → 0 < n → k < length (symbols N) → gcd n N ≡ 1 → HasIndex N q h
    → Same {p = p} N (arcs_below N k n h) (total (λ t. cond (divides q h t) (arc N k t) zeros) (starts (q * n)))
arcs_are p N k n q h positive some within coprime index =
    let level : 0 < N = level_positive N k within in
    let (ts, landing) = lands n (q * n) (product h) (starts n) (positive_times q n index.positive some)
    (λ g is. (product_index N q n h g level index (start_index N n g some coprime is)).determinant_is) (All-starts n) in
    same_trans positive (below_landed p N k n q h (starts n) ts positive some within coprime index (All-starts n) landing)
    (same_from positive (total-permutation (arc N k) ts (filter (λ t. divides q h t) (starts (q * n)))
    (multiples q n h ts index.positive some index.determinant_is landing)
    ∙ total-filter (arc N k) (λ t. divides q h t) (starts (q * n))))

-- each lattice of index m n as often as starts of determinant m divide it
abbrev pub counted : {p : ℕ} → ℕ → ℕ → ℕ → ℕ → Vector p
counted N k m q = total (λ t. repeated (length (filter (λ h. divides m h t) (starts m))) (arc N k t)) (starts q)

pub product_sum : (p N m n k : ℕ) → 0 < p → 0 < m → 0 < n → gcd m N ≡ 1 → gcd n N ≡ 1 → k < length (symbols N)
    → Same {p = p} N (merel_sum N n (merel_sum N m (unit k))) (counted N k m (m * n))
product_sum p N m n k positive some other coprime_m coprime_n within =
    let K : List Matrix = merel_matrices m in
    let c = chains_from m (starts m) some (All-starts m) in
    let invertible : All (IsInvertible N) K = all_invertible N m K coprime_m
    (All-weaker (IsMerel m) (λ w. determinant w ≡ pos m) (λ w h. h.determinant_is) K (All-merel_matrices m)) in
    let G : Matrix → Vector p = arcs_below N k n in
    same_trans positive (same_from positive (ap (merel_sum {p = p} N n) (hecke_sum-unit N K k within) ∙ sum_of_sums p N k
    (merel_matrices n) K within invertible
    ∙ sym (total-permutation (after N n k) (flat_map (λ ms. ms) c.chains) K
    (chains_permutation m c.chains some (record { chains = c.are; begins = c.begins })))
    ∙ total-joined (after N n k) c.chains))
    (same_trans positive (total_congruent positive (IsChain m) (total (after N n k)) (λ ms. G (member ms 0)) c.chains c.are
    (λ ms chain. chain_after p N k n m ms positive other within coprime_n some coprime_m chain))
    (same_trans positive (same_from positive (sym (total-map G (λ ms. member ms 0) c.chains) ∙ ap (total G) c.begins))
    (same_trans positive (total_congruent positive (IsStart m) G (λ h. total (λ t. cond (divides m h t) (arc N k t) zeros) (starts (m * n)))
    (starts m) (All-starts m)
    (λ h is. arcs_are p N k n m h positive other within coprime_n (start_index N m h some coprime_m is)))
    (same_from positive (total-exchange (λ h t. cond (divides m h t) (arc N k t) zeros) (starts m) (starts (m * n))
    ∙ total-same (λ t. total (λ h. cond (divides m h t) (arc N k t) zeros) (starts m))
    (λ t. repeated (length (filter (λ h. divides m h t) (starts m))) (arc N k t)) (starts (m * n))
    (λ t. total-repeated (arc N k t) (λ h. divides m h t) (starts m)))))))

counted_same : (p N k m n : ℕ) → 0 < m → 0 < n → counted {p = p} N k m (m * n) ≡ counted N k n (n * m)
counted_same p N k m n some other =
    let swapped : m * n ≡ n * m = omega arith in
    total_equal (IsStart (m * n)) (λ t. repeated (length (filter (λ h. divides m h t) (starts m))) (arc N k t))
    (λ t. repeated (length (filter (λ h. divides n h t) (starts n))) (arc N k t)) (starts (m * n)) (All-starts (m * n))
    (λ t is. ap (λ c. repeated c (arc {p = p} N k t)) (counts_same m n t some other is))
    ∙ ap (counted {p = p} N k n) swapped

pub commute_symbols : (p N m n k : ℕ) → 0 < p → 0 < m → 0 < n → gcd m N ≡ 1 → gcd n N ≡ 1 → k < length (symbols N)
    → Same {p = p} N (merel_sum N n (merel_sum N m (unit k))) (merel_sum N m (merel_sum N n (unit k)))
commute_symbols p N m n k positive some other coprime_m coprime_n within =
    same_trans positive (product_sum p N m n k positive some other coprime_m coprime_n within)
    (same_trans positive (same_from positive (counted_same p N k m n some other))
    (same_sym positive (product_sum p N n m k positive other some coprime_n coprime_m within)))

-- so of each combination
pub commute : (p N m n : ℕ) (x : Vector p) → 0 < p → 0 < m → 0 < n → gcd m N ≡ 1 → gcd n N ≡ 1
    → Congruent N (merel_sum N n (merel_sum N m x)) (merel_sum N m (merel_sum N n x))
commute p N m n x positive some other coprime_m coprime_n =
    from_symbols p N (λ v. merel_sum N n (merel_sum N m v)) (λ v. merel_sum N m (merel_sum N n v)) positive
    (after_by N (merel_sum N n) (merel_sum N m) (merel_by N n) (merel_by N m))
    (after_by N (merel_sum N m) (merel_sum N n) (merel_by N m) (merel_by N n))
    (λ k within. commute_symbols p N m n k positive some other coprime_m coprime_n within) x
