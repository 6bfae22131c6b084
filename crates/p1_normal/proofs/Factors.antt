-- The unit that turns u into the greatest common divisor of u and N.
use Rattle.std.proofs.Common.{◌≡◌, ◌+◌, ◌*◌, ◌/◌, ◌%◌, ◌-◌, ◌<◌, ◌≤◌, ℕ, zero, suc, sym, ◌∙◌, ap, subst, inl, inr, arith, eq-zero-or-pos}
use Rattle.std.specs.Int.{IsGcd, ◌∣◌}
use Rattle.std.proofs.lemmas.Nat.Gcd.{IsGcd-from_zero, IsGcd-from_mod, IsGcd-swap, dvd_refl, dvd_trans, le_of_dvd}
use Rattle.std.proofs.lemmas.Nat.{mul-mod_first, mul-mod_second}
use Rattle.std.proofs.Math.Nat.{mod-lt, mod-mod, mod-le, mod_self, zero-mod, mod-add-mod, add-mod-mod, add-mul-mod_self_left, div-add-mod, div-le_self, mul-le-mul, div-mul_cancel, mul-div_cancel', dvd-mod_iff, dvd-mul_left_of_dvd, dvd-mul_right_of_dvd, dvd-add_iff_left, dvd-add_iff_right, mul-dvd-mul, dvd_of_mul-dvd-mul_right, eq-one_of_dvd-one, eq-zero_of_zero-dvd}
use Rattle.p1_normal.specs.declared.level.TheConstants.{MAX_LEVEL}
use Rattle.p1_normal.specs.Units.{gcd, IsUnit}
use Rattle.p1_normal.specs.Tables.{IsHead, IsTurn}
use Rattle.p1_normal.proofs.Units.{IsGcd-gcd, gcd_from_IsGcd, IsUnit-from_gcd, gcd_from_IsUnit, IsUnit-mul, IsUnit-mod}
use Rattle.p1_normal.proofs.SamePoints.{undone}

divisor_positive : (d n : ℕ) → 0 < n → d ∣ n → 0 < d
divisor_positive zero n some h = let e : n ≡ 0 = eq-zero_of_zero-dvd h in omega arith
divisor_positive (suc d) n some h = omega arith

pub gcd_positive : (a n : ℕ) → 0 < n → 0 < gcd a n
gcd_positive a n some = divisor_positive (gcd a n) n some (IsGcd-gcd a n).1

-- ---- Euclid's steps with a factor of u for each remainder: s u is x and t u is y, modulo N
pub record Euclid (N u x y s t : ℕ) : Type 0 where
  pub divisor : (g : ℕ) → IsGcd x y g → IsGcd N u g
  pub first : (s * u) % N ≡ x % N
  pub second : (t * u) % N ≡ y % N
  pub low_x : x ≤ N
  pub low_y : y ≤ N
  pub low_s : s ≤ N
  pub low_t : t ≤ N

pub euclid_start : (N u : ℕ) → u < N → Euclid N u N u 0 1
euclid_start N u below =
    record {
      divisor = λ g h. h;
      first = ap (λ x. x % N) (omega arith) ∙ zero-mod N ∙ sym (mod_self N);
      second = ap (λ x. x % N) (omega arith);
      low_x = omega arith;
      low_y = omega arith;
      low_s = omega arith;
      low_t = omega arith;
    }

-- q times the factor of y is taken off, as q times what it lacks of N is added
factor_step : (N u x y s t q r z : ℕ) → z + t ≡ N → y * q + r ≡ x → (s * u) % N ≡ x % N → (t * u) % N ≡ y % N
    → ((s + q * z) * u) % N ≡ r % N
factor_step N u x y s t q r z whole split e h =
    let opened : (s + q * z) * u ≡ s * u + q * z * u = omega arith in
    let turned : x + q * z * u ≡ r + q * z * u + q * y = omega arith in
    let joined : r + q * z * u + q * (t * u) ≡ r + N * (q * u) = omega (arith, ap (λ n. n * (q * u)) whole) in
    ap (λ n. n % N) opened
    ∙ sym (mod-add-mod (s * u) N (q * z * u))
    ∙ ap (λ n. (n + q * z * u) % N) e
    ∙ mod-add-mod x N (q * z * u)
    ∙ ap (λ n. n % N) turned
    ∙ sym (add-mod-mod (r + q * z * u) (q * y) N)
    ∙ ap (λ n. (r + q * z * u + n) % N) (sym (mul-mod_second q y N) ∙ ap (λ n. (q * n) % N) (sym h) ∙ mul-mod_second q (t * u) N)
    ∙ add-mod-mod (r + q * z * u) (q * (t * u)) N
    ∙ ap (λ n. n % N) joined
    ∙ add-mul-mod_self_left r N (q * u)

pub euclid_step : (N u x y s t : ℕ) → 0 < N → 0 < y → Euclid N u x y s t → Euclid N u y (x % y) t ((s + x / y * (N - t)) % N)
euclid_step N u x y s t some more h =
    let low = h.low_t in
    let low_y = h.low_y in
    let rest : x % y < y = mod-lt x more in
    let small : (s + x / y * (N - t)) % N < N = mod-lt (s + x / y * (N - t)) some in
    record {
      divisor = λ g e. h.divisor g (IsGcd-from_mod x y g e);
      first = h.second;
      second = mul-mod_first (s + x / y * (N - t)) u N
          ∙ factor_step N u x y s t (x / y) (x % y) (N - t) (omega arith) (div-add-mod x y) h.first h.second;
      low_x = h.low_y;
      low_y = omega arith;
      low_s = h.low_t;
      low_t = omega arith;
    }

pub step_small : (N x y t : ℕ) → N ≤ MAX_LEVEL → x ≤ N → x / y * (N - t) ≤ MAX_LEVEL * MAX_LEVEL
step_small N x y t small low =
    let quotient : x / y ≤ MAX_LEVEL = omega (arith, div-le_self x y) in
    let lack : N - t ≤ MAX_LEVEL = omega arith in
    mul-le-mul quotient lack

pub euclid_end : (N u x y s t : ℕ) → y ≡ 0 → Euclid N u x y s t → (s * u) % N ≡ gcd u N % N
euclid_end N u x y s t none h =
    h.first ∙ ap (λ g. g % N) (gcd_from_IsGcd u N x (IsGcd-swap N u x (h.divisor x (IsGcd-from_zero x y none))))

-- ---- divisors and units
IsUnit-dvd : (N a s : ℕ) → a ∣ s → IsUnit N s → IsUnit N a
IsUnit-dvd N a s divides h = record {
  inverse = s / a * h.inverse;
  gives_one =
      let turned : a * (s / a * h.inverse) ≡ a * (s / a) * h.inverse = omega arith in
      ap (λ x. x % N) (turned ∙ ap (λ x. x * h.inverse) (mul-div_cancel' a divides)) ∙ h.gives_one;
}

coprime_to_divisor : (a b d : ℕ) → 0 < d → gcd a b ≡ 1 → d ∣ b → IsUnit d a
coprime_to_divisor a b d some one h =
    let g = IsGcd-gcd a d in
    IsUnit-from_gcd d a some
    (eq-one_of_dvd-one (subst (λ x. gcd a d ∣ x) one ((IsGcd-gcd a b).2 (gcd a d) g.0 (dvd_trans (gcd a d) g.1 h))))

unit_divisor : (d a : ℕ) → IsUnit d a → d ∣ a → d ≡ 1
unit_divisor d a h divides = eq-one_of_dvd-one (subst (λ x. d ∣ x) (gcd_from_IsUnit d a h) ((IsGcd-gcd a d).2 d divides (dvd_refl d)))

-- ---- what is left of N without the divisors that it shares with s
pub record PartSoFar (N s rest shared : ℕ) : Type 0 where
  pub positive : 0 < rest
  pub small : rest ≤ N
  pub whole : (d : ℕ) → IsUnit d rest → IsUnit d s → IsUnit d N
  pub divisor : shared ≡ gcd rest s

pub part_start : (N s shared : ℕ) → 0 < N → shared ≡ gcd N s → PartSoFar N s N shared
part_start N s shared some is = record { positive = some; small = omega arith; whole = λ d h g. h; divisor = is }

positive_factor : (a b c : ℕ) → a * b ≡ c → 0 < c → 0 < a
positive_factor zero b c e some = absurd (omega arith)
positive_factor (suc a) b c e some = omega arith

pub part_step : (N s rest shared next : ℕ) → next ≡ gcd (rest / shared) s → PartSoFar N s rest shared → PartSoFar N s (rest / shared) next
part_step N s rest shared next is h =
    let both : IsGcd rest s shared = subst (IsGcd rest s) (sym h.divisor) (IsGcd-gcd rest s) in
    let split : rest / shared * shared ≡ rest = div-mul_cancel shared both.0 in
    record {
      positive = positive_factor (rest / shared) shared rest split h.positive;
      small = omega (arith, div-le_self rest shared, h.small);
      whole = λ d a b. h.whole d (subst (IsUnit d) split (IsUnit-mul d (rest / shared) shared a (IsUnit-dvd d shared s both.1 b))) b;
      divisor = is;
    }

pub part_end : (N s rest shared : ℕ) → shared ≤ 1 → PartSoFar N s rest shared → gcd rest s ≡ 1
part_end N s rest shared few h =
    omega (arith, divisor_positive (gcd rest s) rest h.positive (IsGcd-gcd rest s).0, h.divisor)

-- ---- the turn
-- a divisor of N is the least of its multiples by units
head_of_divisor : (N g : ℕ) → 0 < N → g ∣ N → IsHead N (g % N)
head_of_divisor N g some divides = record {
  least = λ s h. elim (eq-zero-or-pos ((s * (g % N)) % N)) [
    | inl none ↦
        let back : (h.inverse * 0) % N ≡ (g % N) % N = undone N s h.inverse (g % N) 0 h.gives_one (none ∙ sym (zero-mod N)) in
        let nothing : h.inverse * 0 ≡ 0 = omega arith in
        let is : g % N ≡ 0 = sym (mod-mod g N) ∙ sym back ∙ ap (λ x. x % N) nothing ∙ zero-mod N in
        omega arith
    | inr more ↦
        let in_rest : g ∣ (s * (g % N)) % N = (dvd-mod_iff g divides).1 (dvd-mul_left_of_dvd g ((dvd-mod_iff g divides).1 (dvd_refl g)) s) in
        let le : g ≤ (s * (g % N)) % N = le_of_dvd more in_rest in
        let below : g % N ≤ g = mod-le g N in
        omega arith
  ];
}

-- a factor that takes u to g has no divisor in common with N / g
coprime_to_rest : (N u g s : ℕ) → 0 < g → g ∣ u → g ∣ N → (s * u) % N ≡ g % N → gcd (N / g) s ≡ 1
coprime_to_rest N u g s some in_u in_n e =
    let both = IsGcd-gcd (N / g) s in
    let d : ℕ = gcd (N / g) s in
    let times : d * g ∣ N = subst (λ n. d * g ∣ n) (div-mul_cancel g in_n) (mul-dvd-mul d g both.0 (dvd_refl g)) in
    let in_product : d * g ∣ s * u = mul-dvd-mul d g both.1 in_u in
    let in_g : d * g ∣ g = (dvd-mod_iff (d * g) times).0 (subst (λ n. d * g ∣ n) e ((dvd-mod_iff (d * g) times).1 in_product)) in
    let single : g ≡ 1 * g = omega arith in
    eq-one_of_dvd-one (dvd_of_mul-dvd-mul_right d some (subst (λ n. d * g ∣ n) single in_g))

-- the factor becomes a unit
lifted_unit : (N s k m : ℕ) → 0 < N → gcd m s ≡ 1 → gcd k s ≡ 1 → ((d : ℕ) → IsUnit d k → IsUnit d s → IsUnit d N)
    → IsUnit N (s + k * m)
lifted_unit N s k m some one_m one_k whole =
    let both = IsGcd-gcd (s + k * m) N in
    let d : ℕ = gcd (s + k * m) N in
    let d_some : 0 < d = gcd_positive (s + k * m) N some in
    IsUnit-from_gcd N (s + k * m) some
    (unit_divisor d N (whole d (IsUnit-from_gcd d k d_some (no_k d both.0)) (IsUnit-from_gcd d s d_some (no_s d d_some both.0))) both.1)
  where
    no_k : (d : ℕ) → d ∣ s + k * m → gcd k d ≡ 1
    no_k d h =
        let both = IsGcd-gcd k d in
        let e : ℕ = gcd k d in
        let in_s : e ∣ s = (dvd-add_iff_left e (dvd-mul_right_of_dvd e both.0 m)).1 (dvd_trans e both.1 h) in
        eq-one_of_dvd-one (subst (λ x. e ∣ x) one_k ((IsGcd-gcd k s).2 e both.0 in_s))

    no_s : (d : ℕ) → 0 < d → d ∣ s + k * m → gcd s d ≡ 1
    no_s d d_some h =
        let both = IsGcd-gcd s d in
        let e : ℕ = gcd s d in
        let e_some : 0 < e = gcd_positive s d d_some in
        let in_product : e ∣ k * m = (dvd-add_iff_right e both.0).1 (dvd_trans e both.1 h) in
        unit_divisor e (k * m) (IsUnit-mul e k m (coprime_to_divisor k s e e_some one_k both.0) (coprime_to_divisor m s e e_some one_m both.0))
        in_product

-- and takes u to g as before
lifted_product : (N u g s k : ℕ) → g ∣ u → g ∣ N → ((s + k * (N / g)) * u) % N ≡ (s * u) % N
lifted_product N u g s k in_u in_n =
    let m : ℕ = N / g in
    let w : ℕ = u / g in
    let opened : (s + k * m) * u ≡ s * u + k * m * u = omega arith in
    let turned : k * m * (g * w) ≡ m * g * (k * w) = omega arith in
    let rest : k * m * u ≡ N * (k * w) =
    ap (λ x. k * m * x) (sym (mul-div_cancel' g in_u)) ∙ turned ∙ ap (λ n. n * (k * w)) (div-mul_cancel g in_n) in
    ap (λ x. x % N) (opened ∙ ap (λ x. s * u + x) rest) ∙ add-mul-mod_self_left (s * u) N (k * w)

-- the greatest common divisor and that unit are the turn of u
pub turn_found : (N u g s k : ℕ) → 0 < N → g ≡ gcd u N → (s * u) % N ≡ gcd u N % N → gcd k s ≡ 1
    → ((d : ℕ) → IsUnit d k → IsUnit d s → IsUnit d N) →
    IsTurn N u (record { head = g % N; factor = (s + k * (N / g)) % N })
turn_found N u g s k some is product one whole =
    let both : IsGcd u N g = subst (IsGcd u N) (sym is) (IsGcd-gcd u N) in
    let e : (s * u) % N ≡ g % N = product ∙ ap (λ x. x % N) (sym is) in
    let coprime : gcd (N / g) s ≡ 1 = coprime_to_rest N u g s (divisor_positive g N some both.1) both.0 both.1 e in
    record {
      unit = IsUnit-mod N (s + k * (N / g)) (lifted_unit N s k (N / g) some coprime one whole);
      small = mod-lt (s + k * (N / g)) some;
      turned = mul-mod_first (s + k * (N / g)) u N ∙ lifted_product N u g s k both.0 both.1 ∙ e;
      head = head_of_divisor N g some both.1;
    }
