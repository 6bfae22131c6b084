-- The factorisation by trial division: the least divisor above 1 is a prime, and what is left after its power is coprime to it.
use Rattle.std.proofs.Common.{◌≡◌, ◌≢◌, ◌+◌, ◌-◌, ◌*◌, ◌/◌, ◌%◌, ◌^◌, ◌<◌, ◌≤◌, ◌⊎◌, ℕ, zero, suc, Bool, true, false, List, [], ◌∷◌, if◌then◌else◌, get_or, map, All, nat_lt, nat_eq, inl, inr, refl, sym, ◌∙◌, ap, subst, arith, eqb-true, eq-eqb, ltb-true}
use Rattle.std.specs.List.Sorted.{IsStrictlyIncreasing}
use Rattle.std.proofs.Math.Decide.{ℕ_discrete}
use Rattle.std.proofs.Math.Nat.{pow-succ', pow-zero, mod_self, mod-zero, zero-mod, mul-zero, mul-div_cancel', mul-div_right, div-lt_self, dvd-mul_left, dvd_of_mod-eq-zero, mod-eq-zero_of_dvd, dvd_trans, le_of_dvd}
use Rattle.std.proofs.lemmas.Bool.{cases_lt}
use Rattle.std.specs.Int.{◌∣◌}
use Rattle.std.proofs.lemmas.List.Elements.{All-nil, All-cons, All-weaker, All-map, All-get_or}
use Rattle.linear_algebra.specs.Prime.{IsPrime}
use Rattle.p1_normal.specs.Units.{divides}
use Rattle.merel_theorem.proofs.Powers.{positive_power}
use Rattle.merel_theorem.specs.PrimePowers.{least_from, least_divisor, multiplicity, prime_powers_within, prime_powers, IsFactorisation}

-- ---- the least divisor from d on
record IsLeast (d n r : ℕ) : Type 0 where
  from : d ≤ r
  divisor : n % r ≡ 0
  none : (i : ℕ) → d ≤ i → i < r → n % i ≢ 0

least_is : (k d n : ℕ) → d + k ≡ n → IsLeast d n (least_from k d n)
least_is zero d n e = record {
  from = omega arith;
  divisor = let same : n ≡ d = omega (arith, e) in subst (λ r. n % r ≡ 0) same (mod_self n);
  none = λ i l u z. omega (arith, l, u);
}
least_is (suc k) d n e = by (divides d n) refl (least_is k (suc d) n (omega (arith, e)))
  where
    by : (t : Bool) → divides d n ≡ t → IsLeast (suc d) n (least_from k (suc d) n) → IsLeast d n (if t then d else least_from k (suc d) n)
    by true h rest = record { from = omega arith; divisor = eqb-true (n % d) 0 h; none = λ i l u z. omega (arith, l, u) }
    by false h rest = record {
      from = omega (arith, rest.from);
      divisor = rest.divisor;
      none = λ i l u z. elim (ℕ_discrete i d) [
        | yes same ↦ let w : nat_eq (n % d) 0 ≡ true = eq-eqb (n % d) 0 (sym (ap (λ x. n % x) same) ∙ z) in grind (arith, h, w)
        | no other ↦ rest.none i (omega (arith, l, other)) u z
      ];
    }

-- from 2 on it is a prime
least_prime : (n r : ℕ) → IsLeast 2 n r → IsPrime r
least_prime n r h = record { above_one = omega (arith, h.from); only_trivial = λ d z. by d z (ℕ_discrete d 0) (ℕ_discrete d 1) (ℕ_discrete d r) }
  where
    by : (d : ℕ) → r % d ≡ 0 → Dec (d ≡ 0) → Dec (d ≡ 1) → Dec (d ≡ r) → (d ≡ 1) ⊎ (d ≡ r)
    by d z (yes nought) one whole = absurd (omega (arith, h.from, sym (mod-zero r) ∙ sym (ap (λ x. r % x) nought) ∙ z))
    by d z (no some) (yes one) whole = inl one
    by d z (no some) (no more) (yes whole) = inr whole
    by d z (no some) (no more) (no less) = absurd (
        let within : d ∣ r = dvd_of_mod-eq-zero d {n = r} z in
        let small : d ≤ r = le_of_dvd {m = d} {n = r} (omega (arith, h.from)) within in
        h.none d (omega (arith, some, more)) (omega (arith, small, less))
        (mod-eq-zero_of_dvd d {n = n} (dvd_trans d {b = r} {c = n} within (dvd_of_mod-eq-zero r {n = n} h.divisor))))

-- ---- how often it can be divided out
record IsMultiplicity (q n e : ℕ) : Type 0 where
  rest : ℕ
  whole : q ^ e * rest ≡ n
  without : rest % q ≢ 0

multiplicity_is : (k q n : ℕ) → n ≤ k → 0 < n → 1 < q → IsMultiplicity q n (multiplicity k q n)
multiplicity_is zero q n l some above = absurd (omega (arith, l, some))
multiplicity_is (suc k) q n l some above = by (divides q n) refl (multiplicity_is k q (n / q))
  where
    quotient_positive : q * (n / q) ≡ n → 0 < n / q
    quotient_positive split = elim (ℕ_discrete (n / q) 0) [
      | yes z ↦ absurd (omega (arith, some, sym split ∙ ap (λ x. q * x) z ∙ mul-zero q))
      | no other ↦ omega (arith, other)
    ]

    assoc : (a b c : ℕ) → a * b * c ≡ a * (b * c)
    assoc a b c = omega arith

    one : (a : ℕ) → 1 * a ≡ a
    one a = omega arith

    by : (t : Bool) → divides q n ≡ t → (n / q ≤ k → 0 < n / q → 1 < q → IsMultiplicity q (n / q) (multiplicity k q (n / q)))
        → IsMultiplicity q n (if t then suc (multiplicity k q (n / q)) else 0)
    by true h smaller =
        let split : q * (n / q) ≡ n = mul-div_cancel' q {m = n} (dvd_of_mod-eq-zero q {n = n} (eqb-true (n % q) 0 h)) in
        let less : n / q < n = div-lt_self {n = n} {k = q} some above in
        let e : ℕ = multiplicity k q (n / q) in
        let rest = smaller (omega (arith, less, l)) (quotient_positive split) above in
        record {
          rest = rest.rest;
          whole = ap (λ s. s * rest.rest) (pow-succ' q e) ∙ assoc q (q ^ e) rest.rest ∙ ap (λ s. q * s) rest.whole ∙ split;
          without = rest.without;
        }
    by false h smaller = record {
      rest = n;
      whole = ap (λ s. s * n) (pow-zero q) ∙ one n;
      without = λ z. let w : nat_eq (n % q) 0 ≡ true = eq-eqb (n % q) 0 z in grind (arith, h, w);
    }

-- ---- n is a power of its least divisor q times m, which q does not divide
pub record Parts (n q e m : ℕ) : Type 0 where
  pub prime : IsPrime q
  pub least : (i : ℕ) → 2 ≤ i → i < q → n % i ≢ 0
  pub divisor : n % q ≡ 0
  pub some : 0 < e
  pub whole : q ^ e * m ≡ n
  pub without : m % q ≢ 0
  pub positive : 0 < m
  pub smaller : m < n

parts_of : (n q e : ℕ) → 1 < n → IsLeast 2 n q → IsMultiplicity q n e → Parts n q e (n / q ^ e)
parts_of n q e above h k = subst (Parts n q e) (sym rest_is) (record {
  prime = least_prime n q h;
  least = h.none;
  divisor = h.divisor;
  some = elim (ℕ_discrete e 0) [
    | yes z ↦ absurd (apart (one k.rest ∙ ap (λ s. s * k.rest) (sym (ap (λ i. q ^ i) z ∙ pow-zero q)) ∙ k.whole))
    | no other ↦ omega (arith, other)
  ];
  whole = k.whole;
  without = k.without;
  positive = elim (ℕ_discrete k.rest 0) [
    | yes z ↦ absurd (k.without (ap (λ s. s % q) z ∙ zero-mod q))
    | no other ↦ omega (arith, other)
  ];
  smaller =
      let within : k.rest ≤ n = le_of_dvd {m = k.rest} {n = n} (omega (arith, above))
      (subst (λ s. k.rest ∣ s) k.whole (dvd-mul_left k.rest (q ^ e))) in
      omega (arith, within, apart);
})
  where
    apart : k.rest ≢ n
    apart same = k.without (ap (λ s. s % q) same ∙ h.divisor)

    one : (a : ℕ) → a ≡ 1 * a
    one a = omega arith

    rest_is : n / q ^ e ≡ k.rest
    rest_is = ap (λ s. s / q ^ e) (sym k.whole) ∙ mul-div_right k.rest (positive_power q e (omega (arith, h.from)))

pub parts : (n : ℕ) → 1 < n
    → Parts n (least_divisor n) (multiplicity n (least_divisor n) n) (n / least_divisor n ^ multiplicity n (least_divisor n) n)
parts n above =
    let q : ℕ = least_divisor n in
    let least : IsLeast 2 n q = least_is (n - 2) 2 n (omega (arith, above)) in
    parts_of n q (multiplicity n q n) above least
    (multiplicity_is n q n (omega arith) (omega (arith, above)) (omega (arith, least.from)))

-- ---- what holds of 1, and of n where it holds of m, holds of each number and its powers
pub by_parts : (P : ℕ → List (ℕ × ℕ) → Type 0) → P 1 []
    → ((n q e m : ℕ) (powers : List (ℕ × ℕ)) → Parts n q e m → P m powers → P n ((q, e) ∷ powers))
    → (k n : ℕ) → n ≤ k → 0 < n → P n (prime_powers_within k n)
by_parts P one next zero n l some = absurd (omega (arith, l, some))
by_parts P one next (suc k) n l some = by (nat_lt 1 n) refl (by_parts P one next k)
  where
    q : ℕ
    q = least_divisor n

    e : ℕ
    e = multiplicity n q n

    by : (t : Bool) → nat_lt 1 n ≡ t → ((m : ℕ) → m ≤ k → 0 < m → P m (prime_powers_within k m))
        → P n (if t then (q, e) ∷ prime_powers_within k (n / q ^ e) else [])
    by true h smaller =
        let h : Parts n q e (n / q ^ e) = parts n (ltb-true 1 n h) in
        next n q e (n / q ^ e) (prime_powers_within k (n / q ^ e)) h (smaller (n / q ^ e) (omega (arith, h.smaller, l)) h.positive)
    by false h smaller = let low : 1 ≡ n = grind (arith, some, h) in subst (λ i. P i []) low one

pub by_factors : (P : ℕ → List (ℕ × ℕ) → Type 0) → P 1 []
    → ((n q e m : ℕ) (powers : List (ℕ × ℕ)) → Parts n q e m → P m powers → P n ((q, e) ∷ powers))
    → (n : ℕ) → 0 < n → P n (prime_powers n)
unfolding prime_powers
by_factors P one next n some = by_parts P one next n n (omega arith) some

-- ---- the factorisation
rising_more : (q : ℕ) (rs : List ℕ) → All (λ r. q < r) rs → IsStrictlyIncreasing rs → IsStrictlyIncreasing (q ∷ rs)
rising_more q rs above rising zero l = All-get_or (λ r. q < r) rs 0 0 (omega (arith, l)) above
rising_more q rs above rising (suc k) l =
    let next : k + 1 ≡ suc k = omega arith in
    let last : suc k + 1 ≡ suc (suc k) = omega arith in
    subst (λ i. get_or rs k 0 < get_or (q ∷ rs) i 0) (sym last)
    (subst (λ i. get_or rs k 0 < get_or rs i 0) next (rising k (omega (arith, l))))

pub divisor_of_whole : (n q e m i : ℕ) → q ^ e * m ≡ n → m % i ≡ 0 → n % i ≡ 0
divisor_of_whole n q e m i whole z =
    mod-eq-zero_of_dvd i {n = n} (subst (λ s. i ∣ s) whole
    (dvd_trans i {b = m} {c = q ^ e * m} (dvd_of_mod-eq-zero i {n = m} z) (dvd-mul_left m (q ^ e))))

record Factors (n : ℕ) (powers : List (ℕ × ℕ)) : Type 0 where
  divisors : All (λ t. n % t.0 ≡ 0) powers
  is : IsFactorisation n powers

next_factor : (n q e m : ℕ) (powers : List (ℕ × ℕ)) → Parts n q e m → Factors m powers → Factors n ((q, e) ∷ powers)
next_factor n q e m powers h k = record {
  divisors = All-cons (λ t. n % t.0 ≡ 0) (q, e) powers h.divisor
      (All-weaker (λ (t : ℕ × ℕ). m % t.0 ≡ 0) (λ t. n % t.0 ≡ 0) (λ t z. divisor_of_whole n q e m t.0 h.whole z) powers k.divisors);
  is = record {
    each = All-cons (λ t. IsPrime t.0 × (0 < t.1)) (q, e) powers (h.prime, h.some) k.is.each;
    rising = rising_more q (map (λ t. t.0) powers)
        (All-map (λ r. q < r) (λ t. t.0) powers (λ i d l. above (get_or powers i d) (k.is.each i d l).0 (k.divisors i d l))) k.is.rising;
    whole = ap (λ s. q ^ e * s) k.is.whole ∙ h.whole;
  };
}
  where
    above : (t : ℕ × ℕ) → IsPrime t.0 → m % t.0 ≡ 0 → q < t.0
    above t prime z = elim (cases_lt q t.0) [
      | inl l ↦ l
      | inr l ↦ absurd (elim (ℕ_discrete t.0 q) [
        | yes same ↦ h.without (sym (ap (λ i. m % i) same) ∙ z)
        | no other ↦ h.least t.0 (omega (arith, prime.above_one)) (omega (arith, l, other)) (divisor_of_whole n q e m t.0 h.whole z)
      ])
    ]

pub factorisation : (n : ℕ) → 0 < n → IsFactorisation n (prime_powers n)
factorisation n some = (by_factors Factors first next_factor n some).is
  where
    first : Factors 1 []
    first = record {
      divisors = All-nil (λ (t : ℕ × ℕ). 1 % t.0 ≡ 0);
      is = record { each = All-nil (λ t. IsPrime t.0 × (0 < t.1)); rising = λ k l. absurd (omega (arith, l)); whole = refl };
    }
