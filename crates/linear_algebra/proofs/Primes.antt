-- A number that passes the trial is prime, and each number that a prime does not divide has an inverse modulo it.
use Rattle.std.proofs.Common.{◌≡◌, ◌≢◌, ◌⊎◌, ◌+◌, ◌*◌, ◌-◌, ◌%◌, ◌/◌, ◌<◌, ◌≤◌, ℕ, zero, suc, sym, ◌∙◌, ap, subst, inl, inr, ⊎_elim, arith, true, not, ◌&&◌, nat_eq, nat_lt, eq-eqb, ltb-true}
use Rattle.std.proofs.lemmas.Bool.{and_parts}
use Rattle.std.proofs.Math.Nat.{mod-lt, mod-eq_of_lt, mul-add-mod_self_left, add-mul-mod_self_left, div-add-mod, mul-le-mul_right, mul-le-mul, mul-one, mul-mod_right, mul-mod_left, zero-mul, mul-zero}
use Rattle.std.proofs.Math.Decide.{ℕ_discrete}
use Rattle.std.proofs.lemmas.Nat.{mul-mod_first}
use Rattle.linear_algebra.specs.Prime.{IsPrime, none_divides, passes_trial}

-- (p - q) n and r differ by a multiple of p, where p = n q + r
turn : (p n q r u : ℕ) → n * q + r ≡ p → u + q ≡ p → n * u + p ≡ p * n + r
turn p n q r u e f =
    let g : n * (u + q) ≡ n * p = ap (λ x. n * x) f in
    omega arith

-- some number times n is 1 modulo p
abbrev HasInverse : ℕ → ℕ → Type 0
HasInverse p n = (m : ℕ) × ((n * m) % p ≡ 1)

-- the inverse of n is -(p / n) times the inverse of p % n
pub inverse_by_rest : (p n m : ℕ) → n ≤ p → 0 < n → ((p % n) * m) % p ≡ 1 → (n * ((p - p / n) * m)) % p ≡ 1
inverse_by_rest p n m l positive e =
    let q : ℕ = p / n in
    let u : ℕ = p - q in
    let split : n * q + p % n ≡ p = div-add-mod p n in
    let grown : q ≤ n * q = omega (arith, mul-le-mul_right q positive) in
    let turned : n * u + p ≡ p * n + p % n = turn p n q (p % n) u split (omega arith) in
    let same : n * (u * m) + p * m ≡ p * (n * m) + (p % n) * m = scaled n u p (p % n) m turned in
    let left : (n * (u * m) + p * m) % p ≡ (n * (u * m)) % p = add-mul-mod_self_left (n * (u * m)) p m in
    let right : (p * (n * m) + (p % n) * m) % p ≡ ((p % n) * m) % p = mul-add-mod_self_left p (n * m) ((p % n) * m) in
    sym left ∙ ap (λ x. x % p) same ∙ right ∙ e
  where
    scaled : (n u p r m : ℕ) → n * u + p ≡ p * n + r → n * (u * m) + p * m ≡ p * (n * m) + r * m
    scaled n u p r m e = let g : (n * u + p) * m ≡ (p * n + r) * m = ap (λ x. x * m) e in omega arith

-- each number from 1 to p - 1 has an inverse, by descent to the rest of p by n
inverse_below : {p : ℕ} → IsPrime p → (fuel n : ℕ) → n ≤ fuel → 0 < n → n < p → HasInverse p n
inverse_below prime zero n le positive l = absurd (omega arith)
inverse_below {p} prime (suc fuel) n le positive l = by_rest n (ℕ_discrete n 1) le positive l (inverse_below prime fuel)
  where
    by_rest : (n : ℕ) → Dec (n ≡ 1) → n ≤ suc fuel → 0 < n → n < p → ((r : ℕ) → r ≤ fuel → 0 < r → r < p → HasInverse p r) → HasInverse p n
    by_rest n (yes one) le positive l smaller = let P : ℕ → Type 0 = HasInverse p in subst P (sym one) (1, mod-eq_of_lt prime.above_one)
    by_rest n (no more) le positive l smaller =
        let small : p % n < n = mod-lt p positive in
        let some : p % n ≢ 0 = λ z. ⊎_elim more (λ w. absurd (omega arith)) (prime.only_trivial n z) in
        let (m, e) = smaller (p % n) (omega arith) (omega arith) (omega arith) in
        ((p - p / n) * m, inverse_by_rest p n m (omega arith) positive e)

-- each number that a prime does not divide has an inverse modulo it
pub has_inverse : {p : ℕ} → IsPrime p → (n : ℕ) → n % p ≢ 0 → (m : ℕ) × ((n * m) % p ≡ 1)
has_inverse {p} prime n some =
    let (m, e) = inverse_below prime (n % p) (n % p) (omega arith) (omega arith) (mod-lt n (omega (arith, prime.above_one))) in
    (m, sym (mul-mod_first n m p) ∙ e)

-- the test of trial division means that no number of its range divides p
none_from_test : (k d p : ℕ) → none_divides k d p ≡ true → (e : ℕ) → d ≤ e → e < d + k → p % e ≢ 0
none_from_test zero d p t e l u z = omega arith
none_from_test (suc k) d p t e l u z =
    let (here, rest) = and_parts (not (nat_eq (p % d) 0)) (none_divides k (suc d) p) t in
    elim (ℕ_discrete e d) [ yes same ↦ at_d here same | no other ↦ none_from_test k (suc d) p rest e (omega arith) (omega arith) z ]
  where
    at_d : not (nat_eq (p % d) 0) ≡ true → e ≡ d → ⊥
    at_d here same = let zero_at : p % d ≡ 0 = sym (ap (λ x. p % x) same) ∙ z in
        let w : nat_eq (p % d) 0 ≡ true = eq-eqb (p % d) 0 zero_at in grind (arith, here, w)

-- p = d q with d past the trial has q within it
quotient_small : (d q s p : ℕ) → d * q ≡ p → p < s * s → s ≤ d → q < s
quotient_small d q s p e l le = let big : s ≤ q → s * s ≤ d * q = λ w. mul-le-mul le w in grind arith

-- a number past 1 with a divisor d other than 1 and itself has a small one
no_parts : (k p d q : ℕ) → 1 < p → p < (k + 2) * (k + 2) → none_divides k 2 p ≡ true → d * q ≡ p → d ≢ 1 → q ≢ 1 → ⊥
no_parts k p d q above within tried e d_more q_more =
    let d_some : d ≡ 0 → p ≡ 0 = λ w. sym e ∙ ap (λ x. x * q) w ∙ zero-mul q in
    let q_some : q ≡ 0 → p ≡ 0 = λ w. sym e ∙ ap (λ x. d * x) w ∙ mul-zero d in
    let d_high : 2 ≤ d = grind arith in
    let q_high : 2 ≤ q = grind arith in
    let d_divides : p % d ≡ 0 = ap (λ x. x % d) (sym e) ∙ mul-mod_right d q in
    let q_divides : p % q ≡ 0 = ap (λ x. x % q) (sym e) ∙ mul-mod_left d q in
    let d_past : k + 2 ≤ d = not_lt (λ l. none_from_test k 2 p tried d d_high (omega arith) d_divides) in
    let q_small : q < k + 2 = quotient_small d q (k + 2) p e within d_past in
    none_from_test k 2 p tried q q_high (omega arith) q_divides
  where
    not_lt : {a b : ℕ} → (a < b → ⊥) → b ≤ a
    not_lt h = omega arith

-- a number that passes the trial is prime
pub prime_by_trial : (k p : ℕ) → passes_trial k p ≡ true → IsPrime p
prime_by_trial k p t =
    let (above, rest) = and_parts (nat_lt 1 p) (nat_lt p ((k + 2) * (k + 2)) && none_divides k 2 p) t in
    let (square, tried) = and_parts (nat_lt p ((k + 2) * (k + 2))) (none_divides k 2 p) rest in
    record {
      above_one = ltb-true 1 p above;
      only_trivial = λ d z. trivial (ltb-true 1 p above) (ltb-true p ((k + 2) * (k + 2)) square) tried d
          (p / d) (split d z) (ℕ_discrete d 1) (ℕ_discrete (p / d) 1);
    }
  where
    split : (d : ℕ) → p % d ≡ 0 → d * (p / d) ≡ p
    split d z = omega (arith, div-add-mod p d)

    trivial : 1 < p → p < (k + 2) * (k + 2) → none_divides k 2 p ≡ true → (d q : ℕ) → d * q ≡ p → Dec (d ≡ 1) → Dec (q ≡ 1) → (d ≡ 1) ⊎ (d ≡ p)
    trivial above within tried d q e (yes one) c = inl one
    trivial above within tried d q e (no more) (yes one) = inr (sym (mul-one d) ∙ ap (λ x. d * x) (sym one) ∙ e)
    trivial above within tried d q e (no more) (no two) = absurd (no_parts k p d q above within tried e more two)
