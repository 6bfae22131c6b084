-- The product of two numbers less a multiple of p that a precomputed quotient gives.
use Rattle.std.proofs.Common.{◌≡◌, ◌<◌, ◌≤◌, ◌+◌, ◌-◌, ◌*◌, ◌/◌, ◌%◌, ◌^◌, ℕ, sym, ◌∙◌, ap, subst, arith}
use Rattle.std.proofs.Math.Nat.{mod-lt, div-add-mod, mul-le-mul_right, mul-le-mul_left, le_of_mul-le-mul_left, add-mul-mod_self_right}
use Rattle.field_table.specs.Ratio.{ratio_of, word}

-- where c m = p ratio + r and ratio b = m q + s, the rest c b - q p times m is s p + r b
whole_rest : (p c b m ratio r q s : ℕ) → p * ratio + r ≡ c * m → m * q + s ≡ ratio * b → m * (c * b) ≡ m * (q * p) + s * p + r * b
whole_rest p c b m ratio r q s e f =
    let g : (p * ratio + r) * b ≡ c * m * b = ap (λ n. n * b) e in
    let h : (m * q + s) * p ≡ ratio * b * p = ap (λ n. n * p) f in
    omega arith

-- the quotient is not too large
pub quotient_low : (p c b m : ℕ) → 0 < p → 0 < m → (((c * m) / p * b) / m) * p ≤ c * b
quotient_low p c b m positive some =
    let ratio : ℕ = (c * m) / p in
    let q : ℕ = (ratio * b) / m in
    at q (whole_rest p c b m ratio ((c * m) % p) q ((ratio * b) % m) (div-add-mod (c * m) p) (div-add-mod (ratio * b) m))
  where
    at : (q : ℕ) → m * (c * b) ≡ m * (q * p) + (((c * m) / p * b) % m) * p + ((c * m) % p) * b → q * p ≤ c * b
    at q e = let h : m * (q * p) ≤ m * (c * b) = omega arith in le_of_mul-le-mul_left h some

not_le : {m n : ℕ} → (m ≤ n → ⊥) → n < m
not_le h = omega arith

-- nor too small by more than one
pub quotient_high : (p c b m : ℕ) → 0 < p → 0 < m → b ≤ m → c * b < (((c * m) / p * b) / m) * p + (p + p)
quotient_high p c b m positive some within =
    let ratio : ℕ = (c * m) / p in
    let q : ℕ = (ratio * b) / m in
    let r : ℕ = (c * m) % p in
    let s : ℕ = (ratio * b) % m in
    at q r s (mod-lt (c * m) positive) (mod-lt (ratio * b) some) (whole_rest p c b m ratio r q s (div-add-mod (c * m) p) (div-add-mod (ratio * b) m))
  where
    at : (q r s : ℕ) → r < p → s < m → m * (c * b) ≡ m * (q * p) + s * p + r * b → c * b < q * p + (p + p)
    at q r s below small e = not_le (λ l.
        let h : m * (q * p + (p + p)) ≤ m * (c * b) = mul-le-mul_left m l in
        let next : s + 1 ≤ m = omega arith in
        let i : (s + 1) * p ≤ m * p = mul-le-mul_right p next in
        let j : r * b ≤ p * b = mul-le-mul_right b (omega arith) in
        let k : p * b ≤ p * m = mul-le-mul_left p within in
        omega arith)

-- a difference that is formed modulo 2^32 and fits is the difference
pub wrapped_difference : (x y : ℕ) → y ≤ x → x < y + 2 ^ 32 → (x % 2 ^ 32 + (2 ^ 32 - y % 2 ^ 32)) % 2 ^ 32 ≡ x - y
wrapped_difference x y low high = omega arith

-- a multiple of p less leaves the same remainder
pub sub_mul-mod : (x q p : ℕ) → q * p ≤ x → (x - q * p) % p ≡ x % p
sub_mul-mod x q p low =
    let e : (x - q * p) + q * p ≡ x = omega arith in
    sym (add-mul-mod_self_right (x - q * p) q p) ∙ ap (λ n. n % p) e

-- the word is past each number below p
below_word : (p b : ℕ) → b < p → p ≤ 2 ^ 31 → b < word p
below_word p b below small = grind arith

-- what holds of the rest that is formed modulo 2^32 by the precomputed quotient
pub record IsRest (p c b q rest : ℕ) : Type 0 where
  pub below : rest < p + p
  pub same : rest % p ≡ (c * b) % p

pub rest_by_quotient : (p c b q : ℕ) → b < p → p ≤ 2 ^ 31 → q ≡ (ratio_of p c * b) / word p
    → IsRest p c b q ((c * b % 2 ^ 32 + (2 ^ 32 - q * p % 2 ^ 32)) % 2 ^ 32)
rest_by_quotient p c b q below small e =
    let w : b < word p = below_word p b below small in
    let low : q * p ≤ c * b = subst (λ n. n * p ≤ c * b) (sym e) (quotient_low p c b (word p) (omega arith) (omega arith)) in
    let high : c * b < q * p + (p + p) = subst (λ n. c * b < n * p + (p + p)) (sym e)
    (quotient_high p c b (word p) (omega arith) (omega arith) (omega arith)) in
    let rest : (c * b % 2 ^ 32 + (2 ^ 32 - q * p % 2 ^ 32)) % 2 ^ 32 ≡ c * b - q * p = wrapped_difference (c * b) (q * p) low (omega arith) in
    record { below = omega arith; same = ap (λ n. n % p) rest ∙ sub_mul-mod (c * b) q p low }
