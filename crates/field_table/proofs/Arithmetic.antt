-- Sums, differences and inverses of numbers below p are those of their residues.
use Rattle.std.proofs.Common.{◌≡◌, ◌≢◌, ◌<◌, ◌≤◌, ◌+◌, ◌-◌, ◌*◌, ◌/◌, ◌%◌, ℕ, sym, ◌∙◌, ap, refl, arith, ⊎_elim}
use Rattle.std.proofs.Math.Nat.{mod-eq_of_lt, mod-lt, mod-mod, div-add-mod, mul-le-mul_right, mul-add-mod_self_left, add-mod_right}
use Rattle.std.proofs.lemmas.Nat.{mul-mod_first, mul-mod_second}
use Rattle.linear_algebra.specs.Residue.{residue, opposite, ◌⊕◌, ◌⊖◌, ◌⊗◌}
use Rattle.linear_algebra.specs.Prime.{IsPrime}
use Rattle.linear_algebra.proofs.ResidueLaws.{same_residue, same_from_mod, values, value-opposite}

-- a number that is the remainder of a sum is the sum of the residues
pub residue_sum : (p a b r : ℕ) → r ≡ (a + b) % p → residue p r ≡ residue p a ⊕ residue p b
residue_sum p a b r e = same_residue (residue p r) (residue p a ⊕ residue p b) (simp values (ap (λ n. n % p) e ∙ mod-mod (a + b) p))

-- the same for a product
pub residue_product : (p a b r : ℕ) → r ≡ (a * b) % p → residue p r ≡ residue p a ⊗ residue p b
residue_product p a b r e = same_residue (residue p r) (residue p a ⊗ residue p b) (simp values (ap (λ n. n % p) e ∙ mod-mod (a * b) p))

-- the same for the opposite of a number below p
pub residue_opposite : (p a r : ℕ) → a < p → r ≡ (p - a) % p → residue p r ≡ opposite (residue p a)
residue_opposite p a r below e =
    let same : a % p ≡ a = mod-eq_of_lt below in
    same_residue (residue p r) (opposite (residue p a)) (simp (values, value-opposite)
    (ap (λ n. n % p) e ∙ mod-mod (p - a) p ∙ ap (λ n. (p - n) % p) (sym same)))

-- the same for a difference of numbers below p
pub residue_difference : (p a b r : ℕ) → b < p → r ≡ (a + (p - b)) % p → residue p r ≡ residue p a ⊖ residue p b
unfolding ◌⊖◌
residue_difference p a b r below e = residue_sum p a (p - b) r e ∙ ap (λ s. residue p a ⊕ s)
    (sym (residue-mod p (p - b)) ∙ residue_opposite p b ((p - b) % p) below refl)
  where
    residue-mod : (p n : ℕ) → residue p (n % p) ≡ residue p n
    residue-mod p n = same_from_mod p (n % p) n (mod-mod n p)

-- n times p - p / n is p % n, modulo p
turned : (p n : ℕ) → 0 < n → n < p → (n * (p - p / n)) % p ≡ p % n
turned p n positive below =
    let q : ℕ = p / n in
    let split : n * q + p % n ≡ p = div-add-mod p n in
    let grown : q ≤ n * q = omega (arith, mul-le-mul_right q positive) in
    let whole : n * (p - q) + p ≡ p * n + p % n = whole_turn p n q (p % n) (p - q) split (omega arith) in
    let small : p % n < n = mod-lt p positive in
    sym (add-mod_right (n * (p - q)) p) ∙ ap (λ x. x % p) whole ∙ mul-add-mod_self_left p n (p % n) ∙ mod-eq_of_lt (omega arith)
  where
    whole_turn : (p n q r u : ℕ) → n * q + r ≡ p → u + q ≡ p → n * u + p ≡ p * n + r
    whole_turn p n q r u e f = let g : n * (u + q) ≡ n * p = ap (λ x. n * x) f in omega arith

-- where a x is n modulo p, a times (p - p / n) x is p % n
pub inverse_step : (p a x n : ℕ) → (a * x) % p ≡ n → 0 < n → n < p → (a * (((p - p / n) * x) % p)) % p ≡ p % n
inverse_step p a x n e positive below =
    let u : ℕ = p - p / n in
    let same : a * (u * x) ≡ (a * x) * u = omega arith in
    mul-mod_second a (u * x) p ∙ ap (λ y. y % p) same ∙ sym (mul-mod_first (a * x) u p) ∙ ap (λ y. (y * u) % p) e ∙ turned p n positive below

-- a prime leaves a remainder by each number between 1 and itself
pub prime-mod : (p n : ℕ) → IsPrime p → 1 < n → n < p → 0 < p % n
prime-mod p n prime above below = positive (λ z. ⊎_elim (λ e. absurd (omega arith)) (λ e. absurd (omega arith)) (prime.only_trivial n z))
  where
    positive : {m : ℕ} → m ≢ 0 → 0 < m
    positive h = grind arith

-- a product that is 1 modulo p, as residues
pub residue_inverse : (p a b : ℕ) → (a * b) % p ≡ 1 → residue p a ⊗ residue p b ≡ residue p 1
residue_inverse p a b e = sym (residue_product p a b 1 (sym e))
