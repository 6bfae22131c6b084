-- Naming one point is an equivalence, and keeps the common divisor.
use Rattle.std.proofs.Common.{◌≡◌, ◌*◌, ◌%◌, ℕ, sym, ◌∙◌, ap, subst, arith}
use Rattle.std.specs.Int.{◌∣◌}
use Rattle.std.proofs.lemmas.Nat.Gcd.{dvd_trans}
use Rattle.std.proofs.Math.Nat.{dvd-mod_iff, dvd-mul_left_of_dvd, mod-mod, dvd_antisymm}
use Rattle.std.proofs.lemmas.Nat.{mul-mod_first, mul-mod_second}
use Rattle.p1_normal.specs.Units.{gcd, IsUnit}
use Rattle.p1_normal.specs.Points.{pair_multiple, SamePoint, common_divisor}
use Rattle.p1_normal.specs.declared.point.Point.{Point}
use Rattle.p1_normal.proofs.Units.{IsGcd-gcd, IsUnit-one, IsUnit-mul, IsUnit-inverse}

pub SamePoint_refl : (N : ℕ) (p : Point) → SamePoint N p p
SamePoint_refl N p = record { factor = 1; unit = IsUnit-one N; first = ap (λ x. x % N) (omega arith); second = ap (λ x. x % N) (omega arith) }

-- back by the inverse
pub undone : (N s t u w : ℕ) → (s * t) % N ≡ 1 % N → (s * u) % N ≡ w % N → (t * w) % N ≡ u % N
undone N s t u w inverse e =
    let turned : t * (s * u) ≡ s * t * u = omega arith in
    sym (mul-mod_second t w N) ∙ ap (λ x. (t * x) % N) (sym e) ∙ mul-mod_second t (s * u) N ∙ ap (λ x. x % N) turned
    ∙ sym (mul-mod_first (s * t) u N) ∙ ap (λ x. (x * u) % N) inverse ∙ mul-mod_first 1 u N ∙ ap (λ x. x % N) (omega arith)

pub SamePoint_sym : {N : ℕ} {p q : Point} → SamePoint N p q → SamePoint N q p
SamePoint_sym {N} {p} {q} h = record {
  factor = h.unit.inverse;
  unit = IsUnit-inverse N h.factor h.unit;
  first = undone N h.factor h.unit.inverse p.u q.u h.unit.gives_one h.first;
  second = undone N h.factor h.unit.inverse p.v q.v h.unit.gives_one h.second;
}

twice : (N s t u w x : ℕ) → (s * u) % N ≡ w % N → (t * w) % N ≡ x % N → (t * s * u) % N ≡ x % N
twice N s t u w x e h =
    let turned : t * s * u ≡ t * (s * u) = omega arith in
    ap (λ n. n % N) turned ∙ sym (mul-mod_second t (s * u) N) ∙ ap (λ n. (t * n) % N) e ∙ mul-mod_second t w N ∙ h

pub SamePoint_trans : {N : ℕ} {p q r : Point} → SamePoint N p q → SamePoint N q r → SamePoint N p r
SamePoint_trans {N} {p} {q} {r} g h = record {
  factor = h.factor * g.factor;
  unit = IsUnit-mul N h.factor g.factor h.unit g.unit;
  first = twice N g.factor h.factor p.u q.u r.u g.first h.first;
  second = twice N g.factor h.factor p.v q.v r.v g.second h.second;
}

pub SamePoint-pair_multiple : (N s : ℕ) (p : Point) → IsUnit N s → SamePoint N p (pair_multiple N s p)
SamePoint-pair_multiple N s p h = record { factor = s; unit = h; first = sym (mod-mod (s * p.u) N); second = sym (mod-mod (s * p.v) N) }

-- a common divisor with N of one pair divides the other
pub across : (N s u w d : ℕ) → (s * u) % N ≡ w % N → d ∣ N → d ∣ u → d ∣ w
across N s u w d e divides h = (dvd-mod_iff d divides).0 (subst (λ x. d ∣ x) e ((dvd-mod_iff d divides).1 (dvd-mul_left_of_dvd d h s)))

common_divisor-dvd : {N : ℕ} {p q : Point} → SamePoint N p q → common_divisor N p ∣ common_divisor N q
common_divisor-dvd {N} {p} {q} h =
    let d : ℕ = common_divisor N p in
    let whole = IsGcd-gcd (gcd p.u p.v) N in
    let pair = IsGcd-gcd p.u p.v in
    let in_u : d ∣ p.u = dvd_trans d whole.0 pair.0 in
    let in_v : d ∣ p.v = dvd_trans d whole.0 pair.1 in
    (IsGcd-gcd (gcd q.u q.v) N).2 d ((IsGcd-gcd q.u q.v).2 d (across N h.factor p.u q.u d h.first whole.1 in_u)
    (across N h.factor p.v q.v d h.second whole.1 in_v)) whole.1

-- two names of one point have the same common divisor with N
pub common_divisor-same : {N : ℕ} {p q : Point} → SamePoint N p q → common_divisor N p ≡ common_divisor N q
common_divisor-same h = dvd_antisymm (common_divisor-dvd h) (common_divisor-dvd (SamePoint_sym h))
