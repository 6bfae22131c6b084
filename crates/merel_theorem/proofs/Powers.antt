-- The recurrence at a prime q that does not divide the level: T_q T_(q l) = T_(q q l) + q T_l. For of the lattices of index q q l those that q
-- divides are counted q times more, and they are q times the lattices of index l.
use Rattle.std.proofs.Common.{◌≡◌, ◌+◌, ◌*◌, ◌^◌, ◌<◌, ℕ, zero, suc, Bool, true, false, cond, List, length, sym, ◌∙◌, ap, subst, arith}
use Rattle.std.specs.Prelude.{filter}
use Rattle.std.specs.Int.{◌∣◌}
use Rattle.std.proofs.Math.Nat.{pow-succ', pow-zero, eq-one_of_dvd-one}
use Rattle.std.proofs.lemmas.Nat.Gcd.{dvd_refl, dvd-zero}
use Rattle.linear_algebra.specs.Prime.{IsPrime}
use Rattle.linear_algebra.specs.Residue.{residue}
use Rattle.linear_algebra.specs.Vector.{Vector, ◌⊞◌, ◌⊡◌, zeros}
use Rattle.linear_algebra.specs.Coordinates.{unit}
use Rattle.linear_algebra.proofs.ResidueLaws.{residue-add}
use Rattle.linear_algebra.proofs.Vectors.{plus-zeros, plus-scale, zero-scale, scale-zeros, one-scale}
use Rattle.p1_normal.specs.declared.matrix.Matrix.{Matrix}
use Rattle.p1_normal.specs.Units.{gcd}
use Rattle.p1_normal.specs.Points.{symbols}
use Rattle.p1_normal.specs.Actions.{product}
use Rattle.p1_normal.proofs.Numbers.{level_positive}
use Rattle.p1_normal.proofs.Units.{IsGcd-gcd, gcd_from_IsUnit, IsUnit-one}
use Rattle.manin_relations.specs.Relations.{Congruent}
use Rattle.heilbronn_sets.specs.Merel.{starts}
use Rattle.heilbronn_chains.specs.Starts.{IsStart}
use Rattle.heilbronn_chains.proofs.ChainLists.{All-starts}
use Rattle.hecke_columns.specs.Hecke.{merel_sum}
use Rattle.merel_theorem.proofs.Moved.{HasIndex, start_index, index_invertible, coprime_product, positive_times}
use Rattle.merel_theorem.proofs.Factors.{divides}
use Rattle.merel_theorem.proofs.Products.{arcs_are, counted, product_sum}
use Rattle.merel_theorem.proofs.Scaled.{scalar, scalar_determinant, arc-scaled}
use Rattle.merel_theorem.proofs.Primes.{prime_count}
use Rattle.merel_theorem.proofs.Classes.{Same, same_from, same_plus, same_scale, same_sym, same_trans}
use Rattle.merel_theorem.proofs.Combinations.{after_by, from_symbols, merel_by, plus_by}
use Rattle.merel_theorem.proofs.Arcs.{arc, single_sum}
use Rattle.merel_theorem.proofs.Totals.{total-scale, repeated, total, total-plus, total_equal}

one_more : {p : ℕ} (c : ℕ) (v : Vector p) → residue p (1 + c) ⊡ v ≡ v ⊞ (residue p c ⊡ v)
one_more {p} c v = ap (λ a. a ⊡ v) (sym (residue-add p 1 c)) ∙ plus-scale (residue p 1) (residue p c) v ∙ ap (λ w. w ⊞ (residue p c ⊡ v))
    (one-scale v)

repeated_scale : {p : ℕ} (c : ℕ) (v : Vector p) → repeated c v ≡ residue p c ⊡ v
unfolding repeated
repeated_scale zero v = sym (zero-scale v)
repeated_scale {p} (suc c) v = let e : 1 + c ≡ suc c = omega arith in
    ap (λ w. v ⊞ w) (repeated_scale c v) ∙ sym (one_more c v) ∙ ap (λ n. residue p n ⊡ v) e

-- once, and q times more where the test holds
more_where : {p : ℕ} (b : Bool) (q : ℕ) (v : Vector p) → repeated (1 + cond b q 0) v ≡ v ⊞ (residue p q ⊡ cond b v zeros)
more_where true q v = repeated_scale (1 + q) v ∙ one_more q v
more_where {p} false q v = repeated_scale 1 v ∙ one-scale v ∙ sym (ap (λ w. v ⊞ w) (scale-zeros (residue p q)) ∙ plus-zeros v)

-- ---- each lattice of index q n once, and those that q divides q times more
abbrev whole_arcs : {p : ℕ} → ℕ → ℕ → ℕ → ℕ → Vector p
whole_arcs N k q Q = total (λ t. cond (divides (q * q) (scalar q) t) (arc N k t) zeros) (starts Q)

counted_prime : (p N k q n : ℕ) → IsPrime q → 0 < n
    → counted {p = p} N k q (q * n) ≡ total (arc N k) (starts (q * n)) ⊞ (residue p q ⊡ whole_arcs N k q (q * n))
counted_prime p N k q n prime other =
    let whole : Matrix → Bool = λ t. divides (q * q) (scalar q) t in
    let L : List Matrix = starts (q * n) in
    total_equal (IsStart (q * n)) (λ t. repeated (length (filter (λ h. divides q h t) (starts q))) (arc {p = p} N k t))
    (λ t. arc {p = p} N k t ⊞ (residue p q ⊡ cond (whole t) (arc N k t) zeros)) L (All-starts (q * n))
    (λ t is. ap (λ c. repeated c (arc {p = p} N k t)) (prime_count q n t prime other is) ∙ more_where (whole t) q (arc N k t))
    ∙ total-plus (arc {p = p} N k) (λ t. residue p q ⊡ cond (whole t) (arc N k t) zeros) L
    ∙ ap (λ v. total (arc {p = p} N k) L ⊞ v) (total-scale (residue p q) (λ t. cond (whole t) (arc {p = p} N k t) zeros) L)

-- those are the lattices of index l, times q
whole_sum : (p N k q l : ℕ) → 0 < p → 0 < q → 0 < l → gcd q N ≡ 1 → gcd l N ≡ 1 → k < length (symbols N)
    → Same {p = p} N (whole_arcs N k q (q * q * l)) (merel_sum N l (unit k))
whole_sum p N k q l positive some other coprime_q coprime_l within =
    let level : 0 < N = level_positive N k within in
    let index : HasIndex N (q * q) (scalar q) = record {
      determinant_is = scalar_determinant q;
      positive = positive_times q q some some;
      coprime = coprime_product N q q level coprime_q coprime_q;
    } in
    same_trans positive (same_sym positive (arcs_are p N k l (q * q) (scalar q) positive other within coprime_l index))
    (same_trans positive (same_from positive
    (total_equal (IsStart l) (λ t. arc {p = p} N k (product (scalar q) t)) (arc N k) (starts l) (All-starts l)
    (λ t is. arc-scaled p N k q t some within coprime_q (index_invertible N l t (start_index N l t other coprime_l is)))))
    (same_sym positive (single_sum p N l k positive other coprime_l within)))

-- ---- one symbol
recurrence_symbols : (p N q l k : ℕ) → 0 < p → IsPrime q → 0 < l → gcd q N ≡ 1 → gcd l N ≡ 1 → k < length (symbols N)
    → Same {p = p} N (merel_sum N (q * l) (merel_sum N q (unit k))) (merel_sum N (q * q * l) (unit k) ⊞ (residue p q ⊡ merel_sum N l (unit k)))
recurrence_symbols p N q l k positive prime other coprime_q coprime_l within =
    let some : 0 < q = omega (arith, prime.above_one) in
    let level : 0 < N = level_positive N k within in
    let next : 0 < q * l = positive_times q l some other in
    let coprime_next : gcd (q * l) N ≡ 1 = coprime_product N q l level coprime_q coprime_l in
    let e : q * (q * l) ≡ q * q * l = omega arith in
    same_trans positive (product_sum p N q (q * l) k positive some next coprime_q coprime_next within)
    (same_trans positive (same_from positive (counted_prime p N k q (q * l) prime next))
    (subst (λ Q. Same {p = p} N (total (arc N k) (starts Q) ⊞ (residue p q ⊡ whole_arcs N k q Q))
    (merel_sum N (q * q * l) (unit k) ⊞ (residue p q ⊡ merel_sum N l (unit k)))) (sym e)
    (same_plus positive (same_sym positive (single_sum p N (q * q * l) k positive (positive_times (q * q) l (positive_times q q some some) other)
    (coprime_product N (q * q) l level (coprime_product N q q level coprime_q coprime_q) coprime_l) within))
    (same_scale positive (residue p q) (whole_sum p N k q l positive some other coprime_q coprime_l within)))))

-- of each combination
pub recurrence : (p N q l : ℕ) (x : Vector p) → 0 < p → 0 < l → IsPrime q → gcd q N ≡ 1 → gcd l N ≡ 1
    → Congruent N (merel_sum N (q * l) (merel_sum N q x)) (merel_sum N (q * q * l) x ⊞ residue p q ⊡ merel_sum N l x)
recurrence p N q l x positive other prime coprime_q coprime_l =
    from_symbols p N (λ v. merel_sum N (q * l) (merel_sum N q v)) (λ v. merel_sum N (q * q * l) v ⊞ (residue p q ⊡ merel_sum N l v)) positive
    (after_by N (merel_sum N (q * l)) (merel_sum N q) (merel_by N (q * l)) (merel_by N q))
    (plus_by N (residue p q) (merel_sum N (q * q * l)) (merel_sum N l) (merel_by N (q * q * l)) (merel_by N l))
    (λ k within. recurrence_symbols p N q l k positive prime other coprime_q coprime_l within) x

-- ---- for powers
pub positive_power : (q r : ℕ) → 0 < q → 0 < q ^ r
positive_power q zero some = omega (arith, pow-zero q)
positive_power q (suc r) some = subst (λ n. 0 < n) (sym (pow-succ' q r)) (positive_times q (q ^ r) some (positive_power q r some))

pub coprime_power : (N q r : ℕ) → 0 < N → gcd q N ≡ 1 → gcd (q ^ r) N ≡ 1
coprime_power N q zero some e = ap (λ n. gcd n N) (pow-zero q) ∙ gcd_from_IsUnit N 1 (IsUnit-one N)
coprime_power N q (suc r) some e = ap (λ n. gcd n N) (pow-succ' q r) ∙ coprime_product N q (q ^ r) some e (coprime_power N q r some e)

-- no prime is coprime to 0
pub coprime_level : (N q : ℕ) → IsPrime q → gcd q N ≡ 1 → 0 < N
coprime_level zero q prime e = absurd (
    let g = IsGcd-gcd q 0 in
    omega (arith, prime.above_one, eq-one_of_dvd-one (subst (λ d. q ∣ d) e (g.2 q (dvd_refl q) (dvd-zero q)))))
coprime_level (suc n) q prime e = omega arith

pub powers : (p N q r : ℕ) (x : Vector p) → 0 < p → IsPrime q → gcd q N ≡ 1
    → Congruent N (merel_sum N (q ^ (r + 1)) (merel_sum N q x)) (merel_sum N (q ^ (r + 2)) x ⊞ residue p q ⊡ merel_sum N (q ^ r) x)
powers p N q r x positive prime coprime =
    subst (λ m. Congruent N (merel_sum N m (merel_sum N q x)) (merel_sum N (q ^ (r + 2)) x ⊞ residue p q ⊡ merel_sum N (q ^ r) x)) (sym (next q r))
    (subst (λ m. Congruent N (merel_sum N (q * q ^ r) (merel_sum N q x)) (merel_sum N m x ⊞ residue p q ⊡ merel_sum N (q ^ r) x)) (sym (last q r))
    (recurrence p N q (q ^ r) x positive (positive_power q r (omega (arith, prime.above_one))) prime coprime
    (coprime_power N q r (coprime_level N q prime coprime) coprime)))
  where
    next : (q r : ℕ) → q ^ (r + 1) ≡ q * q ^ r
    next q r = let e : r + 1 ≡ suc r = omega arith in ap (λ s. q ^ s) e ∙ pow-succ' q r

    last : (q r : ℕ) → q ^ (r + 2) ≡ q * q * q ^ r
    last q r =
        let e : r + 2 ≡ suc (suc r) = omega arith in
        let turned : q * (q * q ^ r) ≡ q * q * q ^ r = omega arith in
        ap (λ s. q ^ s) e ∙ pow-succ' q (suc r) ∙ ap (λ n. q * n) (pow-succ' q r) ∙ turned
