-- The keys of symbols.
use Rattle.std.proofs.Common.{◌≡◌, ◌≢◌, ◌+◌, ◌*◌, ◌/◌, ◌%◌, ◌<◌, ◌≤◌, ◌↔◌, ℕ, zero, suc, length, refl, sym, ◌∙◌, ap, subst, inl, inr, arith}
use Rattle.std.specs.List.{Contains}
use Rattle.std.proofs.Math.Nat.{dvd_refl, mod_self, mod-eq_of_lt, pos_of_dvd_of_pos, zero-mod}
use Rattle.std.proofs.lemmas.Nat.Gcd.{dvd-zero, le_of_dvd}
use Rattle.std.proofs.lemmas.Bool.{cases_eq}
use Rattle.p1_normal.specs.declared.point.Point.{Point}
use Rattle.p1_normal.specs.Units.{gcd}
use Rattle.p1_normal.specs.Points.{point, SamePoint, symbols, symbol_at, IsNumber}
use Rattle.p1_normal.specs.Actions.{image_number, image, matrix_u}
use Rattle.p1_normal.specs.Tables.{IsHead}
use Rattle.p1_normal.proofs.Units.{inner, IsGcd-gcd, gcd_from_IsGcd, IsUnit-one}
use Rattle.p1_normal.proofs.SamePoints.{SamePoint_sym, SamePoint_trans}
use Rattle.p1_normal.proofs.NormalForms.{SamePoint-normal_form}
use Rattle.p1_normal.proofs.Heads.{head_of_form}
use Rattle.p1_normal.proofs.Symbols.{IsOneOfSymbols, symbol_is, symbol_unique}
use Rattle.p1_normal.proofs.Numbers.{level_positive, number_unique, IsNumber-symbol_at}
use Rattle.p1_normal.proofs.Moves.{image_number-lt, symbol_at-image_number, invertible_u}
use Rattle.cusps_boundary.specs.Cusps.{cusp, times_u}
use Rattle.cusps_boundary.specs.Keys.{IsShifted, IsCuspKey}
use Rattle.cusps_boundary.proofs.Lifting.{turns_to_divisor}
use Rattle.cusps_boundary.proofs.Keys.{shifted_names, key_iff, key_shifted}
use Rattle.cusps_boundary.proofs.Orbits.{IsTurned, times_u-lt, contains_from_turned, turned_from_contains}

-- ---- the key that is computed from a symbol
pub symbol_at_is_one : (N k : ℕ) → k < length (symbols N) → IsOneOfSymbols N (symbol_at N k)
symbol_at_is_one N k within = symbol_is N k (symbol_at N k) (level_positive N k within) (IsNumber-symbol_at N k within)

-- the least of the multiples of u by units is its common divisor with N, or 0 where that is N
head_divisor : (N u g : ℕ) → 0 < N → IsHead N u → (u ≡ 0 → g ≡ N) → (u ≢ 0 → g ≡ u) → g ≡ gcd u N
head_divisor N u g some head at_zero elsewhere = elim (cases_eq u 0) [
  | inl none ↦ at_zero none ∙ gcd_from_IsGcd 0 N N (dvd-zero N, dvd_refl N, λ d x y. y) ∙ ap (λ x. gcd x N) (sym none)
  | inr other ↦
      let is = IsGcd-gcd u N in
      let t = turns_to_divisor N u some in
      let le : u ≤ gcd u N % N = subst (λ x. u ≤ x) t.turned (head.least t.factor t.unit) in
      let in_N : gcd u N ≤ N = le_of_dvd some is.1 in
      let in_u : gcd u N ≤ u = le_of_dvd (omega arith) is.0 in
      elsewhere other ∙ elim (cases_eq (gcd u N) N) [
        | inl whole ↦ let e : gcd u N % N ≡ 0 = ap (λ x. x % N) whole ∙ mod_self N in absurd (omega arith)
        | inr part ↦ let e : gcd u N % N ≡ gcd u N = mod-eq_of_lt (omega arith) in omega arith
      ]
]

pub symbol_divisor : (N k g : ℕ) → k < length (symbols N) → ((symbol_at N k).u ≡ 0 → g ≡ N) → ((symbol_at N k).u ≢ 0 → g ≡ (symbol_at N k).u) →
    g ≡ gcd (symbol_at N k).u N
symbol_divisor N k g within at_zero elsewhere =
    let is = symbol_at_is_one N k within in
    let some : 0 < N = level_positive N k within in
    head_divisor N (symbol_at N k).u g some (head_of_form N (symbol_at N k) some is.below is.own) at_zero elsewhere

pub symbol_key : (N k g h : ℕ) → k < length (symbols N) → ((symbol_at N k).u ≡ 0 → g ≡ N) → ((symbol_at N k).u ≢ 0 → g ≡ (symbol_at N k).u) →
    h ≡ gcd g (N / g) → IsCuspKey N (symbol_at N k) (g, (symbol_at N k).v % h)
symbol_key N k g h within at_zero elsewhere is_h = record {
  divisor = symbol_divisor N k g within at_zero elsewhere;
  factor = 1;
  unit = IsUnit-one N;
  scaled = elim (cases_eq (symbol_at N k).u 0) [
    | inl none ↦
        let e : 1 * (symbol_at N k).u ≡ 0 = omega arith in
        ap (λ x. x % N) e ∙ zero-mod N ∙ sym (ap (λ x. x % N) (at_zero none) ∙ mod_self N)
    | inr other ↦
        let e : 1 * (symbol_at N k).u ≡ g = let f = elsewhere other in omega arith in
        ap (λ x. x % N) e
  ];
  rest =
      let e : (symbol_at N k).v ≡ 1 * (symbol_at N k).v = omega arith in
      ap (λ x. (symbol_at N k).v % x) is_h ∙ ap (λ x. x % gcd g (N / g)) e;
}

-- what the code divides by
pub divisor_positive : (N u n g h : ℕ) → 0 < n → (u ≡ 0 → g ≡ n) → (u ≢ 0 → g ≡ u) → h ≡ gcd g (n / g) → 0 < h
divisor_positive N u n g h some at_zero elsewhere is_h = subst (λ x. 0 < x) (sym is_h)
    (pos_of_dvd_of_pos (IsGcd-gcd g (n / g)).0 (elim (cases_eq u 0) [
      | inl none ↦ let e = at_zero none in omega arith
      | inr other ↦ let e = elsewhere other in omega arith
    ]))

-- what the code answers
pub key_value : (N k n g h : ℕ) (p : Point) → k < length (symbols N) → n ≡ N → p ≡ symbol_at N k → (p.u ≡ 0 → g ≡ n) → (p.u ≢ 0 → g ≡ p.u) →
    h ≡ gcd g (n / g) → IsCuspKey N (symbol_at N k) (g, p.v % h)
key_value N k n g h p within level is at_zero elsewhere is_h = subst (λ q. IsCuspKey N (symbol_at N k) (g, q.v % h)) (sym is)
    (symbol_key N k g h within
    (λ e. at_zero (ap (λ q. q.u) is ∙ e) ∙ level)
    (λ other. elsewhere (λ e. other (ap (λ q. q.u) (sym is) ∙ e)) ∙ ap (λ q. q.u) is)
    (is_h ∙ ap (λ m. gcd g (m / g)) level))

-- ---- powers of U on symbols and on pairs
-- symbol k times U is named by (u, u + v)
image_by_u : (n : ℕ) (p : Point) → image (suc n) p matrix_u ≡ point ((p.u * 1 + p.v * 0) % suc n) ((p.u * 1 + p.v * 1) % suc n)
unfolding image
image_by_u n p = refl

once : (n : ℕ) (p : Point) → SamePoint (suc n) (point p.u (p.v + 1 * p.u)) (image (suc n) p matrix_u)
once n p = subst (SamePoint (suc n) (point p.u (p.v + 1 * p.u))) (sym (image_by_u n p))
    (record { factor = 1; unit = IsUnit-one (suc n); first = same_first p.u p.v; second = same_second p.u p.v })
  where
    same_first : (u v : ℕ) → (1 * u) % suc n ≡ (u * 1 + v * 0) % suc n % suc n
    same_first u v = simp inner (ap (λ x. x % suc n) (omega arith))

    same_second : (u v : ℕ) → (1 * (v + 1 * u)) % suc n ≡ (u * 1 + v * 1) % suc n % suc n
    same_second u v = simp inner (ap (λ x. x % suc n) (omega arith))

symbol_once : (N k : ℕ) → k < length (symbols N) → SamePoint N (point (symbol_at N k).u ((symbol_at N k).v + 1 * (symbol_at N k).u))
    (symbol_at N (image_number N k matrix_u))
symbol_once zero k within = absurd (omega (arith, level_positive 0 k within))
symbol_once (suc n) k within =
    let p : Point = symbol_at (suc n) k in
    subst (SamePoint (suc n) (point p.u (p.v + 1 * p.u))) (sym (symbol_at-image_number (suc n) k matrix_u within (invertible_u (suc n))))
    (SamePoint_trans (once n p) (SamePoint-normal_form (suc n) (image (suc n) p matrix_u)))

symbol_times : (N i k : ℕ) → k < length (symbols N) → SamePoint N (point (symbol_at N k).u ((symbol_at N k).v + i * (symbol_at N k).u))
    (symbol_at N (times_u N i k))
symbol_times N zero k within =
    let p : Point = symbol_at N k in
    record {
      factor = 1;
      unit = IsUnit-one N;
      first = let e : 1 * p.u ≡ p.u = omega arith in ap (λ x. x % N) e;
      second =
          let e : 1 * (p.v + 0 * p.u) ≡ p.v = omega arith in ap (λ x. x % N) e;
    }
symbol_times N (suc i) k within =
    let p : Point = symbol_at N k in
    let e : p.v + 1 * p.u + i * p.u ≡ p.v + suc i * p.u = omega arith in
    SamePoint_trans (subst (λ v. SamePoint N (point p.u v) (point (symbol_at N (image_number N k matrix_u)).u
    ((symbol_at N (image_number N k matrix_u)).v + i * (symbol_at N (image_number N k matrix_u)).u))) e
    (shifted_names i (symbol_once N k within)))
    (symbol_times N i (image_number N k matrix_u) (image_number-lt N k matrix_u within (invertible_u N)))

-- symbols that name one point are one
same_symbol : (N j k : ℕ) → j < length (symbols N) → k < length (symbols N) → SamePoint N (symbol_at N j) (symbol_at N k) → j ≡ k
same_symbol N j k within_j within_k same =
    let at_j : IsNumber N j (symbol_at N j) = IsNumber-symbol_at N j within_j in
    let at_k : IsNumber N k (symbol_at N k) = IsNumber-symbol_at N k within_k in
    number_unique N j k (symbol_at N j) at_j (subst (IsNumber N k)
    (sym (symbol_unique N j k (symbol_at N j) (symbol_at N k) (level_positive N j within_j) at_j at_k same)) at_k)

shifted_from_turned : (N k j : ℕ) → k < length (symbols N) → IsTurned N k j → IsShifted N (symbol_at N k) (symbol_at N j)
shifted_from_turned N k j within h = record {
  times = h.times;
  same =
      subst (λ i. SamePoint N (point (symbol_at N k).u ((symbol_at N k).v + h.times * (symbol_at N k).u)) (symbol_at N i)) h.reached
      (symbol_times N h.times k within);
}

turned_from_shifted : (N k j : ℕ) → k < length (symbols N) → j < length (symbols N) → IsShifted N (symbol_at N k) (symbol_at N j) → IsTurned N k j
turned_from_shifted N k j within_k within_j h = record {
  times = h.times;
  reached = same_symbol N (times_u N h.times k) j (times_u-lt N h.times k within_k) within_j
      (SamePoint_trans (SamePoint_sym (symbol_times N h.times k within_k)) h.same);
}

-- two symbols have one key exactly where they lie in one cusp
pub key_symbols : (N j k : ℕ) (a b : ℕ × ℕ) → j < length (symbols N) → k < length (symbols N) → IsCuspKey N (symbol_at N j) a →
    IsCuspKey N (symbol_at N k) b → (a ≡ b) ↔ Contains (cusp N j) k
key_symbols N j k a b within_j within_k key_j key_k =
    let iff = key_iff N (symbol_at N j) (symbol_at N k) a b (level_positive N j within_j) (symbol_at_is_one N j within_j).coprime
    (symbol_at_is_one N k within_k).coprime key_j key_k in (
      λ e. contains_from_turned N j k within_j (turned_from_shifted N j k within_j within_k (iff.0 e)),
      λ h. iff.1 (shifted_from_turned N j k within_j (turned_from_contains N j k h)),
    )

-- a point has a key
pub key_exists : (N : ℕ) (p : Point) → 0 < N → (key : ℕ × ℕ) × IsCuspKey N p key
key_exists N p some =
    let t = turns_to_divisor N p.u some in (
      (gcd p.u N, (t.factor * p.v) % gcd (gcd p.u N) (N / gcd p.u N)),
      record { divisor = refl; factor = t.factor; unit = t.unit; scaled = t.turned; rest = refl },
    )

-- and no other
pub key_unique : (N : ℕ) (p : Point) (a b : ℕ × ℕ) → 0 < N → IsCuspKey N p a → IsCuspKey N p b → a ≡ b
key_unique N p a b some key_a key_b = key_shifted N p p a b some key_a key_b (record {
  times = 0;
  same = record {
    factor = 1;
    unit = IsUnit-one N;
    first = let e : 1 * p.u ≡ p.u = omega arith in ap (λ x. x % N) e;
    second = let e : 1 * (p.v + 0 * p.u) ≡ p.v = omega arith in ap (λ x. x % N) e;
  };
})
