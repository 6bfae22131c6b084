-- The greatest common divisor, inverses and units modulo N.
use Rattle.std.proofs.Common.{◌≡◌, ◌+◌, ◌*◌, ◌%◌, ◌/◌, ◌<◌, ℕ, zero, suc, refl, sym, ◌∙◌, ap, subst, inl, inr, arith, Bool, true, max, eq-eqb, eqb-true, ◌&&◌, ◌≤◌}
use Rattle.std.specs.Int.{IsGcd, ◌∣◌}
use Rattle.std.proofs.lemmas.Nat.Gcd.{IsGcd-from_zero, IsGcd-from_mod, same_from_IsGcd, dvd_of_mod-eq-zero, mod-eq-zero_of_dvd, le_of_dvd, dvd_antisymm, dvd_trans, dvd-zero}
use Rattle.std.proofs.lemmas.Bool.{and_from, and_parts, cond_both, cases_eq, false≢true}
use Rattle.std.proofs.Math.Nat.{mod-lt, mod-mod, mul-mod_left, mod_self, mod-add-mod, add-mod-mod, add-mul-mod_self_left, div-add-mod, dvd-mod_iff, dvd-mul_right_of_dvd, eq-one_of_dvd-one, eq-zero_of_zero-dvd}
use Rattle.std.proofs.lemmas.Nat.{mul-mod_first, mul-mod_second}
use Rattle.p1_normal.specs.Units.{divides, greatest, gcd, IsUnit}

-- Euclid's steps, at most `steps` of them
gcd_within : ℕ → ℕ → ℕ → ℕ
gcd_within zero a b = a
gcd_within (suc steps) a zero = a
gcd_within (suc steps) a (suc b) = gcd_within steps (suc b) (a % suc b)

-- they reach a greatest common divisor
IsGcd-gcd_within : (steps a b : ℕ) → b < steps → IsGcd a b (gcd_within steps a b)
unfolding gcd_within
IsGcd-gcd_within zero a b le = absurd (omega arith)
IsGcd-gcd_within (suc steps) a zero le = IsGcd-from_zero a 0 refl
IsGcd-gcd_within (suc steps) a (suc b) le =
    let small : a % suc b < suc b = mod-lt a (omega arith) in
    IsGcd-from_mod a (suc b) (gcd_within steps (suc b) (a % suc b)) (IsGcd-gcd_within steps (suc b) (a % suc b) (omega arith))

-- the greatest number below n that passes
greatest_is : (t : ℕ → Bool) (n g : ℕ) → g < n → t g ≡ true → ((d : ℕ) → d < n → t d ≡ true → d ≤ g) → greatest t n ≡ g
greatest_is t zero g low passes bound = absurd (omega arith)
greatest_is t (suc n) g low passes bound = cond_both (t n) n (greatest t n) (λ x. x ≡ g)
    (λ e. omega (arith, bound n (omega arith) e))
    (λ e. elim (cases_eq g n) [
      | inl same ↦ absurd (false≢true (sym e ∙ ap t (sym same) ∙ passes))
      | inr other ↦ greatest_is t n g (omega arith) passes (λ d l f. bound d (omega arith) f)
    ])

-- a common divisor passes the tests
divides_both : (a b d : ℕ) → d ∣ a → d ∣ b → (divides d a && divides d b) ≡ true
divides_both a b d x y = and_from (divides d a) (divides d b) (eq-eqb (a % d) 0 (mod-eq-zero_of_dvd d x)) (eq-eqb (b % d) 0 (mod-eq-zero_of_dvd d y))

divides_first : (a b d : ℕ) → (divides d a && divides d b) ≡ true → d ∣ a
divides_first a b d e = let (x, y) = and_parts (divides d a) (divides d b) e in dvd_of_mod-eq-zero d (eqb-true (a % d) 0 x)

divides_second : (a b d : ℕ) → (divides d a && divides d b) ≡ true → d ∣ b
divides_second a b d e = let (x, y) = and_parts (divides d a) (divides d b) e in dvd_of_mod-eq-zero d (eqb-true (b % d) 0 y)

-- no common divisor is above max a b or above a greatest one
IsGcd-small : (a b g : ℕ) → IsGcd a b g → g < max a b + 1
IsGcd-small zero zero g h = omega (arith, dvd_antisymm (h.2 0 (dvd-zero 0) (dvd-zero 0)) (dvd-zero g))
IsGcd-small zero (suc b) g h = omega (arith, le_of_dvd {m = g} {n = suc b} (omega arith) h.1)
IsGcd-small (suc a) b g h = omega (arith, le_of_dvd {m = g} {n = suc a} (omega arith) h.0)

IsGcd-bound : (a b g d : ℕ) → IsGcd a b g → d < max a b + 1 → d ∣ a → d ∣ b → d ≤ g
IsGcd-bound a b zero d h low x y =
    let f : a ≡ 0 = eq-zero_of_zero-dvd h.0 in
    let e : b ≡ 0 = eq-zero_of_zero-dvd h.1 in
    omega arith
IsGcd-bound a b (suc g) d h low x y = le_of_dvd (omega arith) (h.2 d x y)

gcd_is : (a b g : ℕ) → IsGcd a b g → gcd a b ≡ g
unfolding gcd
gcd_is a b g h = greatest_is (λ d. divides d a && divides d b) (max a b + 1) g (IsGcd-small a b g h) (divides_both a b g h.0 h.1)
    (λ d l e. IsGcd-bound a b g d h l (divides_first a b d e) (divides_second a b d e))

-- Euclid's steps find it
gcd-gcd_within : (a b : ℕ) → gcd a b ≡ gcd_within (suc b) a b
gcd-gcd_within a b = gcd_is a b (gcd_within (suc b) a b) (IsGcd-gcd_within (suc b) a b (omega arith))

-- `gcd` is the greatest common divisor: each common divisor divides it
pub IsGcd-gcd : (a b : ℕ) → IsGcd a b (gcd a b)
IsGcd-gcd a b = subst (IsGcd a b) (sym (gcd-gcd_within a b)) (IsGcd-gcd_within (suc b) a b (omega arith))

pub gcd_from_IsGcd : (a b g : ℕ) → IsGcd a b g → g ≡ gcd a b
gcd_from_IsGcd a b g is = same_from_IsGcd a b g (gcd a b) is (IsGcd-gcd a b)

-- the common divisor of u and N may be taken before v
pub gcd-turned : (u v N : ℕ) → gcd v (gcd u N) ≡ gcd (gcd u v) N
gcd-turned u v N =
    let pair = IsGcd-gcd u v in
    let row = IsGcd-gcd u N in
    let all = IsGcd-gcd v (gcd u N) in
    let d : ℕ = gcd v (gcd u N) in
    gcd_from_IsGcd (gcd u v) N d
    (pair.2 d (dvd_trans d all.1 row.0) all.0, dvd_trans d all.1 row.1, λ e x y. all.2 e (dvd_trans e x pair.1) (row.2 e (dvd_trans e x pair.0) y))

-- d is a multiple of s modulo N
pub record IsMultiple (N s d : ℕ) : Type 0 where
  pub factor : ℕ
  pub same : (s * factor) % N ≡ d % N

-- multiples leave multiples as remainders: a % b is a + (N - 1) (a / b) b
IsMultiple-mod : (n s a b : ℕ) → IsMultiple (suc n) s a → IsMultiple (suc n) s b → IsMultiple (suc n) s (a % b)
IsMultiple-mod n s a b x y = record {
  factor = x.factor + n * (a / b) * y.factor;
  same =
      step s x.factor y.factor (a / b) (a % b) x.same y.same (div-add-mod a b);
}
  where
    step : (s f g q r : ℕ) → (s * f) % suc n ≡ a % suc n → (s * g) % suc n ≡ b % suc n → b * q + r ≡ a → (s * (f + n * q * g)) % suc n ≡ r % suc n
    step s f g q r e h split =
        let opened : s * (f + n * q * g) ≡ s * f + n * q * (s * g) = omega arith in
        let turned : a + n * q * b ≡ r + suc n * (q * b) = omega arith in
        ap (λ x. x % suc n) opened
        ∙ sym (mod-add-mod (s * f) (suc n) (n * q * (s * g)))
        ∙ ap (λ x. (x + n * q * (s * g)) % suc n) e
        ∙ sym (add-mod-mod (a % suc n) (n * q * (s * g)) (suc n))
        ∙ ap (λ x. (a % suc n + x) % suc n) (sym (mul-mod_second (n * q) (s * g) (suc n)) ∙ ap (λ x. (n * q * x) % suc n) h
        ∙ mul-mod_second (n * q) b (suc n))
        ∙ add-mod-mod (a % suc n) (n * q * b) (suc n)
        ∙ mod-add-mod a (suc n) (n * q * b)
        ∙ ap (λ x. x % suc n) turned
        ∙ add-mul-mod_self_left r (suc n) (q * b)

IsMultiple-gcd_within : (n s steps a b : ℕ) → IsMultiple (suc n) s a → IsMultiple (suc n) s b → IsMultiple (suc n) s (gcd_within steps a b)
unfolding gcd_within
IsMultiple-gcd_within n s zero a b x y = x
IsMultiple-gcd_within n s (suc steps) a zero x y = x
IsMultiple-gcd_within n s (suc steps) a (suc b) x y = IsMultiple-gcd_within n s steps (suc b) (a % suc b) y (IsMultiple-mod n s a (suc b) x y)

-- Bezout: the greatest common divisor of s and N is a multiple of s modulo N
pub IsMultiple-gcd : (n s : ℕ) → IsMultiple (suc n) s (gcd s (suc n))
IsMultiple-gcd n s = subst (IsMultiple (suc n) s) (sym (gcd-gcd_within s (suc n)))
    (IsMultiple-gcd_within n s (suc (suc n)) s (suc n) (record { factor = 1; same = ap (λ x. x % suc n) (omega arith) })
    (record { factor = suc n; same = mul-mod_left s (suc n) ∙ sym (mod_self (suc n)) }))

-- a number coprime to N is a unit
pub IsUnit-from_gcd : (N s : ℕ) → 0 < N → gcd s N ≡ 1 → IsUnit N s
IsUnit-from_gcd zero s some e = absurd (omega arith)
IsUnit-from_gcd (suc n) s some e = let m = IsMultiple-gcd n s in record { inverse = m.factor; gives_one = m.same ∙ ap (λ x. x % suc n) e }

-- a unit is coprime to N
pub gcd_from_IsUnit : (N s : ℕ) → IsUnit N s → gcd s N ≡ 1
gcd_from_IsUnit N s h =
    let g = IsGcd-gcd s N in
    let in_product : gcd s N ∣ s * h.inverse = dvd-mul_right_of_dvd (gcd s N) g.0 h.inverse in
    let in_rest : gcd s N ∣ (s * h.inverse) % N = (dvd-mod_iff (gcd s N) g.1).1 in_product in
    let in_one : gcd s N ∣ 1 % N = subst (λ x. gcd s N ∣ x) h.gives_one in_rest in
    eq-one_of_dvd-one ((dvd-mod_iff (gcd s N) g.1).0 in_one)

pub ruleset inner = (mod-add-mod, add-mod-mod, mul-mod_first, mul-mod_second, mod-mod)

pub IsUnit-one : (N : ℕ) → IsUnit N 1
IsUnit-one N = record { inverse = 1; gives_one = refl }

pub IsUnit-mul : (N s t : ℕ) → IsUnit N s → IsUnit N t → IsUnit N (s * t)
IsUnit-mul N s t x y = record { inverse = x.inverse * y.inverse; gives_one = step x.inverse y.inverse x.gives_one y.gives_one }
  where
    step : (f g : ℕ) → (s * f) % N ≡ 1 % N → (t * g) % N ≡ 1 % N → (s * t * (f * g)) % N ≡ 1 % N
    step f g e h =
        let turned : s * t * (f * g) ≡ s * f * (t * g) = omega arith in
        ap (λ x. x % N) turned ∙ sym (mul-mod_first (s * f) (t * g) N) ∙ ap (λ x. (x * (t * g)) % N) e ∙ mul-mod_first 1 (t * g) N
        ∙ ap (λ x. x % N) (omega arith) ∙ h

pub IsUnit-inverse : (N s : ℕ) (h : IsUnit N s) → IsUnit N h.inverse
IsUnit-inverse N s h = record { inverse = s; gives_one = ap (λ x. x % N) (omega arith) ∙ h.gives_one }

pub IsUnit-mod : (N s : ℕ) → IsUnit N s → IsUnit N (s % N)
IsUnit-mod N s h = record { inverse = h.inverse; gives_one = mul-mod_first s h.inverse N ∙ h.gives_one }

pub IsUnit-from_mod : (N s : ℕ) → IsUnit N (s % N) → IsUnit N s
IsUnit-from_mod N s h = record { inverse = h.inverse; gives_one = sym (mul-mod_first s h.inverse N) ∙ h.gives_one }
