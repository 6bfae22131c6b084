-- The polynomial of n in the sums over Merel's matrices of prime determinants is the sum over those of determinant n.
use Rattle.std.proofs.Common.{◌≡◌, ◌+◌, ◌*◌, ◌%◌, ◌^◌, ◌<◌, ℕ, zero, suc, List, [], ◌∷◌, length, All, sym, ◌∙◌, ap, subst, arith}
use Rattle.std.specs.Prelude.{pos, neg_ℤ}
use Rattle.std.specs.Int.{◌∣◌}
use Rattle.std.proofs.Math.Nat.{pow-zero, pow-succ', mul-one, mod-eq_of_lt, mul-mod_left, mul-mod_right, mul_comm, dvd_trans, dvd_of_mod-eq-zero, eq-one_of_dvd-one}
use Rattle.std.specs.List.{range_with_len}
use Rattle.std.proofs.lemmas.List.Elements.{All-head, All-tail, All-weaker}
use Rattle.std.proofs.lemmas.List.FromFn.{get_or-range_with_len, length-map-range_with_len, length-range_with_len}
use Rattle.linear_algebra.specs.Prime.{IsPrime}
use Rattle.linear_algebra.specs.Residue.{Residue, residue}
use Rattle.linear_algebra.specs.Vector.{Vector, ◌⊞◌, ◌⊡◌, EndsBefore}
use Rattle.linear_algebra.specs.Span.{row}
use Rattle.linear_algebra.specs.Coordinates.{unit}
use Rattle.linear_algebra.proofs.Coordinates.{unit_elsewhere}
use Rattle.linear_algebra.proofs.Primes.{has_inverse}
use Rattle.linear_algebra.proofs.Spans.{Each-rows}
use Rattle.linear_algebra.proofs.Rows.{row-map}
use Rattle.linear_algebra.proofs.Support.{EndsBefore-zeros, EndsBefore-plus, EndsBefore-scale, EndsBefore-combination}
use Rattle.linear_algebra.proofs.Congruence.{Congruent_sym}
use Rattle.linear_algebra.proofs.Vectors.{plus_assoc, plus-zeros, plus-scale, zero-scale}
use Rattle.p1_normal.specs.declared.matrix.Matrix.{Matrix}
use Rattle.p1_normal.specs.Units.{gcd}
use Rattle.p1_normal.specs.Points.{symbols}
use Rattle.p1_normal.specs.Actions.{image_number, IsInvertible}
use Rattle.p1_normal.proofs.Moves.{image_number-lt}
use Rattle.p1_normal.proofs.Units.{IsGcd-gcd, gcd_from_IsUnit}
use Rattle.manin_relations.specs.Relations.{relations, Congruent}
use Rattle.heilbronn_sets.specs.Merel.{IsMerel, merel_matrices}
use Rattle.heilbronn_sets.proofs.Members.{All-merel_matrices}
use Rattle.hecke_columns.specs.Hecke.{symbol_sum, merel_sum}
use Rattle.hecke_columns.proofs.Coprime.{IsInvertible-from_determinant}
use Rattle.hecke_columns.proofs.Sums.{symbol_sums, hecke_sum-plus, hecke_sum-scale}
use Rattle.merel_theorem.specs.PrimePowers.{IsPrimeDivisor}
use Rattle.merel_theorem.specs.Polynomials.{Polynomial, power_polynomial, product_polynomial, hecke_polynomial, integer_residue, polynomial_value, HasPrimes}
use Rattle.merel_theorem.proofs.Classes.{Same, same_from, same_trans, same_plus, same_scale}
use Rattle.merel_theorem.proofs.Chains.{sum-none, sum-more}
use Rattle.merel_theorem.proofs.Respects.{merel_congruent}
use Rattle.merel_theorem.proofs.Products.{commute}
use Rattle.merel_theorem.proofs.Only.{coprime_turned}
use Rattle.merel_theorem.proofs.Multiplied.{multiplied, one_congruent}
use Rattle.merel_theorem.proofs.Powers.{powers, positive_power, coprime_power, coprime_level}
use Rattle.merel_theorem.proofs.PrimePowers.{Parts, by_factors}
use Rattle.merel_theorem.proofs.Values.{IsLinear, integer-opposite, value-times, value-one, value-variable, value-power, constant-primes, value_kept}
use Rattle.merel_theorem.proofs.PolynomialPrimes.{product_over, next_over}

-- ---- sums over Merel's matrices
pub merel_linear : {p : ℕ} (N n : ℕ) → IsLinear (merel_sum {p = p} N n)
merel_linear N n = record { plus = hecke_sum-plus N (merel_matrices n); scale = hecke_sum-scale N (merel_matrices n) }

symbol_sum_ends : (p N k : ℕ) (L : List Matrix) → k < length (symbols N) → All (IsInvertible N) L
    → EndsBefore (length (symbols N)) (symbol_sum {p = p} N L k)
symbol_sum_ends p N k [] within all = subst (EndsBefore (length (symbols N))) (sym (sum-none p N k)) (EndsBefore-zeros (length (symbols N)))
symbol_sum_ends p N k (m ∷ L) within all =
    let image : ℕ = image_number N k m in
    let inside : image < length (symbols N) = image_number-lt N k m within (All-head (IsInvertible N) m L all) in
    subst (EndsBefore (length (symbols N))) (sym (sum-more p N m L k))
    (EndsBefore-plus (length (symbols N)) (unit image) (symbol_sum N L k)
    (λ i l. unit_elsewhere image i (λ e. omega (arith, inside, l, e)))
    (symbol_sum_ends p N k L within (All-tail (IsInvertible N) m L all)))

row_of_sums : {p : ℕ} (N : ℕ) (L : List Matrix) (k : ℕ) → k < length (symbols N) → row (symbol_sums {p = p} N L) k ≡ symbol_sum N L k
row_of_sums N L k l =
    let m : ℕ = length (symbols N) in
    row-map (symbol_sum N L) (range_with_len 0 m) k 0 (omega (arith, l, length-range_with_len 0 m))
    ∙ ap (symbol_sum N L) (get_or-range_with_len 0 m k 0 l ∙ plain k)
  where
    plain : (k : ℕ) → 0 + k ≡ k
    plain k = omega arith

pub merel_ends : (p N n : ℕ) (x : Vector p) → gcd n N ≡ 1 → EndsBefore (length (symbols N)) (merel_sum {p = p} N n x)
merel_ends p N n x coprime =
    let m : ℕ = length (symbols N) in
    let L : List Matrix = merel_matrices n in
    let all : All (IsInvertible N) L = All-weaker (IsMerel n) (IsInvertible N)
    (λ g h. IsInvertible-from_determinant N n g coprime h.determinant_is) L (All-merel_matrices n) in
    EndsBefore-combination m x (symbol_sums N L) (Each-rows (EndsBefore m) (symbol_sums N L) (λ k l.
    let within : k < m = omega (arith, l, length-map-range_with_len (symbol_sum {p = p} N L) 0 m) in
    subst (EndsBefore m) (sym (row_of_sums N L k within)) (symbol_sum_ends p N k L within all)))

-- congruent combinations have congruent sums
same_sums : (p N n : ℕ) {x y : Vector p} → 0 < p → 0 < n → gcd n N ≡ 1 → Same N x y → Same N (merel_sum N n x) (merel_sum N n y)
same_sums p N n {x} {y} positive some coprime h = record { congruent = merel_congruent p N n x y positive some coprime h.congruent }

one_same : (p N : ℕ) (x : Vector p) → 0 < p → EndsBefore (length (symbols N)) x → Same N x (merel_sum N 1 x)
one_same p N x positive ends = record {
  congruent = Congruent_sym positive (relations {p = p} N) (merel_sum N 1 x) x (one_congruent p N x positive ends);
}

product_same : (p N m n : ℕ) (x : Vector p) → 0 < p → 0 < m → 0 < n → gcd m N ≡ 1 → gcd n N ≡ 1 → gcd m n ≡ 1
    → Same N (merel_sum N n (merel_sum N m x)) (merel_sum N (m * n) x)
product_same p N m n x positive some other coprime_m coprime_n coprime = record {
  congruent = multiplied p N m n x positive some other coprime_m coprime_n coprime;
}

-- ---- divisors of numbers that are coprime to N
pub divisor_coprime : (N n d : ℕ) → n % d ≡ 0 → gcd n N ≡ 1 → gcd d N ≡ 1
divisor_coprime N n d z coprime =
    let g = IsGcd-gcd d N in
    let whole = IsGcd-gcd n N in
    eq-one_of_dvd-one {n = gcd d N} (subst (λ e. gcd d N ∣ e) coprime
    (whole.2 (gcd d N) (dvd_trans (gcd d N) {b = d} {c = n} g.0 (dvd_of_mod-eq-zero d {n = n} z)) g.1))

-- a number that a prime does not divide is coprime to it
coprime_without : (q m : ℕ) → IsPrime q → (m % q ≡ 0 → ⊥) → gcd m q ≡ 1
coprime_without q m prime without =
    let (inverse, e) = has_inverse prime m without in
    gcd_from_IsUnit q m (record { inverse = inverse; gives_one = e ∙ sym (mod-eq_of_lt prime.above_one) })

-- ---- powers of a prime
record ArePowers (p N q r : ℕ) (x : Vector p) : Type 0 where
  first : Same N (polynomial_value (merel_sum N) (power_polynomial q r) x) (merel_sum N (q ^ r) x)
  second : Same N (polynomial_value (merel_sum N) (power_polynomial q (suc r)) x) (merel_sum N (q ^ suc r) x)

-- v + q w - q w is v
cancelled : {p : ℕ} → 0 < p → (q : ℕ) (v w : Vector p) → (v ⊞ residue p q ⊡ w) ⊞ integer_residue p (neg_ℤ (pos q)) ⊡ w ≡ v
cancelled {p} positive q v w =
    plus_assoc v (residue p q ⊡ w) (integer_residue p (neg_ℤ (pos q)) ⊡ w)
    ∙ ap (λ y. v ⊞ y) (sym (plus-scale (residue p q) (integer_residue p (neg_ℤ (pos q))) w)
    ∙ ap (λ a. a ⊡ w) (integer-opposite p positive q) ∙ zero-scale w)
    ∙ plus-zeros v

next_power : (p N q r : ℕ) (x : Vector p) → 0 < p → IsPrime q → gcd q N ≡ 1 → ArePowers p N q r x → ArePowers p N q (suc r) x
next_power p N q r x positive prime coprime h = record { first = h.second; second = step }
  where
    some : 0 < q
    some = omega (arith, prime.above_one)

    minus_q : Residue p
    minus_q = integer_residue p (neg_ℤ (pos q))

    recurs : Same N (merel_sum N (q ^ suc r) (merel_sum N q x)) (merel_sum N (q ^ suc (suc r)) x ⊞ residue p q ⊡ merel_sum N (q ^ r) x)
    recurs =
        let first : r + 1 ≡ suc r = omega arith in
        let second : r + 2 ≡ suc (suc r) = omega arith in
        subst (λ i. Same N (merel_sum N (q ^ i) (merel_sum N q x)) (merel_sum N (q ^ suc (suc r)) x ⊞ residue p q ⊡ merel_sum N (q ^ r) x)) first
        (subst (λ i. Same N (merel_sum N (q ^ (r + 1)) (merel_sum N q x)) (merel_sum N (q ^ i) x ⊞ residue p q ⊡ merel_sum N (q ^ r) x)) second
        (record { congruent = powers p N q r x positive prime coprime }))

    coprime_next : gcd (q ^ suc r) N ≡ 1
    coprime_next = coprime_power N q (suc r) (coprime_level N q prime coprime) coprime

    turned : Same N (merel_sum N q (merel_sum N (q ^ suc r) x)) (merel_sum N (q ^ suc r) (merel_sum N q x))
    turned = record { congruent = commute p N (q ^ suc r) q x positive (positive_power q (suc r) some) some coprime_next coprime }

    step : Same N (polynomial_value (merel_sum N) (power_polynomial q (suc (suc r))) x) (merel_sum N (q ^ suc (suc r)) x)
    step = same_trans positive (same_from positive (value-power positive (merel_sum N) (merel_linear N) q r x))
        (same_trans positive (same_plus positive
        (same_trans positive (same_sums p N q positive some coprime h.second) (same_trans positive turned recurs))
        (same_scale positive minus_q h.first))
        (same_from positive (cancelled positive q (merel_sum N (q ^ suc (suc r)) x) (merel_sum N (q ^ r) x))))

are_powers : (p N q r : ℕ) (x : Vector p) → 0 < p → IsPrime q → gcd q N ≡ 1 → EndsBefore (length (symbols N)) x → ArePowers p N q r x
are_powers p N q zero x positive prime coprime ends =
    let one : 1 ≡ q ^ 0 = sym (pow-zero q) in
    let itself : q ≡ q ^ 1 = sym (pow-succ' q 0 ∙ ap (λ i. q * i) (pow-zero q) ∙ mul-one q) in
    record {
      first = same_trans positive (same_from positive (value-one positive (merel_sum N) (merel_linear N) x))
          (same_trans positive (one_same p N x positive ends) (same_from positive (ap (λ i. merel_sum N i x) one)));
      second = same_from positive (value-variable positive (merel_sum N) (merel_linear N) q x ∙ ap (λ i. merel_sum N i x) itself);
    }
are_powers p N q (suc r) x positive prime coprime ends =
    next_power p N q r x positive prime coprime (are_powers p N q r x positive prime coprime ends)

-- ---- the polynomial of n, from that of what is left after its first power
record IsSum (n : ℕ) (powers : List (ℕ × ℕ)) : Type 0 where
  over : HasPrimes (IsPrimeDivisor n) (product_polynomial powers)
  same : (p N : ℕ) (x : Vector p) → 0 < p → gcd n N ≡ 1 → EndsBefore (length (symbols N)) x
      → Same N (polynomial_value (merel_sum N) (product_polynomial powers) x) (merel_sum N n x)

one_sum : IsSum 1 []
one_sum = record {
  over = constant-primes (IsPrimeDivisor 1) (pos 1);
  same = λ p N x positive coprime ends. same_trans positive (same_from positive (value-one positive (merel_sum N) (merel_linear N) x))
      (one_same p N x positive ends);
}

value_ends : (p N n : ℕ) (f : Polynomial) (x : Vector p) → HasPrimes (IsPrimeDivisor n) f → gcd n N ≡ 1 → EndsBefore (length (symbols N)) x
    → EndsBefore (length (symbols N)) (polynomial_value (merel_sum N) f x)
value_ends p N n f x over coprime ends =
    let m : ℕ = length (symbols N) in
    value_kept (merel_sum N) (merel_sum N) (λ (x v : Vector p). EndsBefore m x) (IsPrimeDivisor n) (EndsBefore-zeros m)
    (λ x y v w h k. EndsBefore-plus m x y h k) (λ a x v h. EndsBefore-scale m a x h)
    (λ q is x v h. merel_ends p N q x (divisor_coprime N n q is.1 coprime)) f over x x ends

next_sum : (n q e m : ℕ) (powers : List (ℕ × ℕ)) → Parts n q e m → IsSum m powers → IsSum n ((q, e) ∷ powers)
next_sum n q e m powers h k = record { over = next_over n q e m powers h k.over; same = same }
  where
    same : (p N : ℕ) (x : Vector p) → 0 < p → gcd n N ≡ 1 → EndsBefore (length (symbols N)) x
        → Same N (polynomial_value (merel_sum N) (product_polynomial ((q, e) ∷ powers)) x) (merel_sum N n x)
    same p N x positive coprime ends =
        let g : Polynomial = product_polynomial powers in
        let y : Vector p = polynomial_value (merel_sum N) g x in
        let some : 0 < q ^ e = positive_power q e (omega (arith, h.prime.above_one)) in
        let coprime_q : gcd q N ≡ 1 = divisor_coprime N n q h.divisor coprime in
        let coprime_e : gcd (q ^ e) N ≡ 1 = divisor_coprime N n (q ^ e) (ap (λ i. i % q ^ e) (sym h.whole) ∙ mul-mod_right (q ^ e) m) coprime in
        let coprime_m : gcd m N ≡ 1 = divisor_coprime N n m (ap (λ i. i % m) (sym h.whole) ∙ mul-mod_left (q ^ e) m) coprime in
        let apart : gcd m (q ^ e) ≡ 1 = coprime_turned (q ^ e) m
        (coprime_power m q e h.positive (coprime_turned m q (coprime_without q m h.prime h.without))) in
        same_trans positive (same_from positive (value-times positive (merel_sum N) (merel_linear N) (power_polynomial q e) g x))
        (same_trans positive (are_powers p N q e y positive h.prime coprime_q
        (value_ends p N n g x (product_over n q e m powers h k.over) coprime ends)).first
        (same_trans positive (same_sums p N (q ^ e) positive some coprime_e (k.same p N x positive coprime_m ends))
        (same_trans positive (product_same p N m (q ^ e) x positive h.positive some coprime_m coprime_e apart)
        (same_from positive (ap (λ i. merel_sum N i x) (mul_comm m (q ^ e) ∙ h.whole))))))

pub merel_polynomial : (p N n : ℕ) (x : Vector p) → 0 < p → 0 < n → gcd n N ≡ 1 → EndsBefore (length (symbols N)) x
    → Congruent N (polynomial_value (merel_sum N) (hecke_polynomial n) x) (merel_sum N n x)
unfolding hecke_polynomial
merel_polynomial p N n x positive some coprime ends = ((by_factors IsSum one_sum next_sum n some).same p N x positive coprime ends).congruent

pub merel_powers : (p N q r : ℕ) (x : Vector p) → 0 < p → IsPrime q → gcd q N ≡ 1 → EndsBefore (length (symbols N)) x
    → Congruent N (polynomial_value (merel_sum N) (power_polynomial q r) x) (merel_sum N (q ^ r) x)
merel_powers p N q r x positive prime coprime ends = (are_powers p N q r x positive prime coprime ends).first.congruent
