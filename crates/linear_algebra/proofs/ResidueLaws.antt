-- The laws of residues: a commutative ring modulo each p, and a field modulo a prime.
use Rattle.std.proofs.Common.{◌≡◌, ◌≢◌, ◌⊎◌, ◌+◌, ◌*◌, ◌-◌, ◌%◌, ◌<◌, ℕ, refl, sym, ◌∙◌, ap, subst, inl, inr, arith}
use Rattle.std.proofs.Math.Nat.{mod-add-mod, add-mod-mod, mod-mod, zero-mod, mod-lt, mod_self, mod-eq_of_lt, ℕ_set}
use Rattle.std.proofs.Math.Decide.{ℕ_discrete}
use mathlib.Core.HLevel.{is_prop→PathP}
use Rattle.std.proofs.lemmas.Nat.{mul-mod_first, mul-mod_second}
use Rattle.linear_algebra.specs.Residue.{Residue, residue, ◌⊕◌, ◌⊗◌, opposite}
use Rattle.linear_algebra.specs.Prime.{IsPrime}
use Rattle.linear_algebra.proofs.Primes.{has_inverse}

-- residues of equal value are equal
pub same_residue : {p : ℕ} (a b : Residue p) → a.value ≡ b.value → a ≡ b
same_residue {p} a b e = λ i. record { value = e i; reduced = is_prop→PathP (λ j. e j % p ≡ e j) (λ j. ℕ_set (e j % p) (e j)) a.reduced b.reduced i }

-- the value of a sum
pub value-add : {p : ℕ} (a b : Residue p) → (a ⊕ b).value ≡ (a.value + b.value) % p
unfolding ◌⊕◌ residue
value-add a b = refl

-- the value of a product
pub value-mul : {p : ℕ} (a b : Residue p) → (a ⊗ b).value ≡ (a.value * b.value) % p
unfolding ◌⊗◌ residue
value-mul a b = refl

-- the value of the residue of a number
pub value-residue : (p n : ℕ) → (residue p n).value ≡ n % p
unfolding residue
value-residue p n = refl

pub ruleset values = (value-add, value-mul, value-residue, mod-add-mod, add-mod-mod, mul-mod_first, mul-mod_second, mod-mod)

-- sums commute
pub add_comm : {p : ℕ} (a b : Residue p) → a ⊕ b ≡ b ⊕ a
add_comm {p} a b = same_residue (a ⊕ b) (b ⊕ a) (simp values (ap (λ n. n % p) (omega arith)))

-- sums associate
pub add_assoc : {p : ℕ} (a b c : Residue p) → (a ⊕ b) ⊕ c ≡ a ⊕ (b ⊕ c)
add_assoc {p} a b c = same_residue ((a ⊕ b) ⊕ c) (a ⊕ (b ⊕ c)) (simp values (ap (λ n. n % p) (omega arith)))

-- products distribute over a sum on the left
pub add-mul : {p : ℕ} (a b c : Residue p) → (a ⊕ b) ⊗ c ≡ (a ⊗ c) ⊕ (b ⊗ c)
add-mul {p} a b c = same_residue ((a ⊕ b) ⊗ c) ((a ⊗ c) ⊕ (b ⊗ c)) (simp values (ap (λ n. n % p) (omega arith)))

-- products associate
pub mul_assoc : {p : ℕ} (a b c : Residue p) → (a ⊗ b) ⊗ c ≡ a ⊗ (b ⊗ c)
mul_assoc {p} a b c = same_residue ((a ⊗ b) ⊗ c) (a ⊗ (b ⊗ c)) (simp values (ap (λ n. n % p) (omega arith)))

-- products commute
pub mul_comm : {p : ℕ} (a b : Residue p) → a ⊗ b ≡ b ⊗ a
mul_comm {p} a b = same_residue (a ⊗ b) (b ⊗ a) (simp values (ap (λ n. n % p) (omega arith)))

-- 0 added
pub add-zero : {p : ℕ} (a : Residue p) → a ⊕ residue p 0 ≡ a
add-zero {p} a = same_residue (a ⊕ residue p 0) a (simp values (ap (λ n. n % p) (omega arith) ∙ a.reduced))

-- two sums of two, with the inner terms exchanged
pub add_middle : {p : ℕ} (a b c d : Residue p) → (a ⊕ b) ⊕ (c ⊕ d) ≡ (a ⊕ c) ⊕ (b ⊕ d)
add_middle {p} a b c d = same_residue ((a ⊕ b) ⊕ (c ⊕ d)) ((a ⊕ c) ⊕ (b ⊕ d)) (simp values (ap (λ n. n % p) (omega arith)))

-- a sum of three, with the first two exchanged
pub add_left_comm : {p : ℕ} (a b c : Residue p) → a ⊕ (b ⊕ c) ≡ b ⊕ (a ⊕ c)
add_left_comm {p} a b c = same_residue (a ⊕ (b ⊕ c)) (b ⊕ (a ⊕ c)) (simp values (ap (λ n. n % p) (omega arith)))

-- a sum of three, with the last two exchanged
pub add_right_comm : {p : ℕ} (a b c : Residue p) → (a ⊕ b) ⊕ c ≡ (a ⊕ c) ⊕ b
add_right_comm {p} a b c = same_residue ((a ⊕ b) ⊕ c) ((a ⊕ c) ⊕ b) (simp values (ap (λ n. n % p) (omega arith)))

-- 0 times a residue
pub zero-mul : {p : ℕ} (a : Residue p) → residue p 0 ⊗ a ≡ residue p 0
zero-mul {p} a = same_residue (residue p 0 ⊗ a) (residue p 0) (simp values (ap (λ n. n % p) (omega arith)))

-- 1 times a residue
pub one-mul : {p : ℕ} (a : Residue p) → residue p 1 ⊗ a ≡ a
one-mul {p} a = same_residue (residue p 1 ⊗ a) a (simp values (ap (λ n. n % p) (omega arith) ∙ a.reduced))

-- added to 0
pub zero-add : {p : ℕ} (a : Residue p) → residue p 0 ⊕ a ≡ a
zero-add {p} a = add_comm (residue p 0) a ∙ add-zero a

-- a residue times 0
pub mul-zero : {p : ℕ} (a : Residue p) → a ⊗ residue p 0 ≡ residue p 0
mul-zero {p} a = mul_comm a (residue p 0) ∙ zero-mul a

-- a residue times 1
pub mul-one : {p : ℕ} (a : Residue p) → a ⊗ residue p 1 ≡ a
mul-one {p} a = mul_comm a (residue p 1) ∙ one-mul a

-- products distribute over a sum on the right
pub mul-add : {p : ℕ} (a b c : Residue p) → a ⊗ (b ⊕ c) ≡ (a ⊗ b) ⊕ (a ⊗ c)
mul-add {p} a b c = same_residue (a ⊗ (b ⊕ c)) ((a ⊗ b) ⊕ (a ⊗ c)) (simp values (ap (λ n. n % p) (omega arith)))

-- values are below p
pub value_below : {p : ℕ} → 0 < p → (a : Residue p) → a.value < p
value_below {p} positive a = subst (λ n. n < p) a.reduced (mod-lt a.value positive)

-- the value of the opposite
pub value-opposite : {p : ℕ} (a : Residue p) → (opposite a).value ≡ (p - a.value) % p
unfolding opposite residue
value-opposite a = refl

-- a residue and its opposite cancel
pub add-opposite : {p : ℕ} → 0 < p → (a : Residue p) → a ⊕ opposite a ≡ residue p 0
add-opposite {p} positive a =
    let l : a.value < p = value_below positive a in
    let e : a.value + (p - a.value) ≡ p = omega arith in
    same_residue (a ⊕ opposite a) (residue p 0) (simp (values, value-opposite) (ap (λ n. n % p) e ∙ mod_self p ∙ sym (zero-mod p)))

-- a is 0 or has an inverse
pub zero_or_inverse : {p : ℕ} → IsPrime p → (a : Residue p) → (a ≡ residue p 0) ⊎ ((b : Residue p) × (a ⊗ b ≡ residue p 1))
zero_or_inverse {p} prime a = elim (ℕ_discrete a.value 0) [
  | yes e ↦ inl (same_residue a (residue p 0) (simp values (e ∙ sym (zero-mod p))))
  | no n ↦
      inr (found n)
]
  where
    found : a.value ≢ 0 → (b : Residue p) × (a ⊗ b ≡ residue p 1)
    found n = let m = has_inverse prime a.value (λ z. n (sym a.reduced ∙ z)) in
        (residue p m.0, same_residue (a ⊗ residue p m.0) (residue p 1) (simp values (m.1 ∙ sym (mod-eq_of_lt prime.above_one))))

-- 1 is not 0 modulo a prime
pub one≢zero : {p : ℕ} → IsPrime p → residue p 1 ≢ residue p 0
one≢zero {p} prime e =
    let h : 1 % p ≡ 0 % p = simp values at (ap (λ a. a.value) e) in
    let one : 1 % p ≡ 1 = mod-eq_of_lt prime.above_one in
    let none : 0 % p ≡ 0 = zero-mod p in
    omega arith

-- the residue of a sum is the sum of residues
pub residue-add : (p a b : ℕ) → residue p a ⊕ residue p b ≡ residue p (a + b)
residue-add p a b = same_residue (residue p a ⊕ residue p b) (residue p (a + b)) (simp values)

-- the residue of a product is the product of residues
pub residue-mul : (p a b : ℕ) → residue p a ⊗ residue p b ≡ residue p (a * b)
residue-mul p a b = same_residue (residue p a ⊗ residue p b) (residue p (a * b)) (simp values)

-- numbers with one remainder have one residue
pub same_from_mod : (p a b : ℕ) → a % p ≡ b % p → residue p a ≡ residue p b
same_from_mod p a b e = same_residue (residue p a) (residue p b) (simp values e)

-- and numbers with one residue have one remainder
pub mod_from_residue : (p a b : ℕ) → residue p a ≡ residue p b → a % p ≡ b % p
mod_from_residue p a b e = sym (value-residue p a) ∙ ap (λ r. r.value) e ∙ value-residue p b
