-- Each number is turned into its common divisor with N by a unit.
use Rattle.std.proofs.Common.{◌≡◌, ◌≢◌, ◌+◌, ◌*◌, ◌/◌, ◌%◌, ◌<◌, ◌≤◌, ℕ, zero, suc, refl, sym, ◌∙◌, ap, subst, inl, inr, arith}
use Rattle.std.specs.Int.{◌∣◌}
use Rattle.std.proofs.lemmas.Bool.{cases_eq}
use Rattle.std.proofs.Math.Nat.{dvd_refl, dvd_trans, dvd-add_iff_left, dvd-add_iff_right, dvd-mul_left_of_dvd, dvd-mul_right_of_dvd, dvd_antisymm, eq-one_of_dvd-one, mul-div_cancel', pos_of_dvd_of_pos, mul-le-mul_right, div-add-mod, add-mul-mod_self_left, mul-one, mul-dvd-mul_left, dvd_of_mul-dvd-mul_left}
use Rattle.p1_normal.specs.Units.{gcd, IsUnit}
use Rattle.p1_normal.proofs.Units.{IsGcd-gcd, IsUnit-from_gcd, gcd_from_IsUnit, IsUnit-mul}
use Rattle.p1_normal.proofs.Actions.{freed}

pub gcd_comm : (a b : ℕ) → gcd a b ≡ gcd b a
gcd_comm a b = let g = IsGcd-gcd a b in let h = IsGcd-gcd b a in dvd_antisymm (h.2 (gcd a b) g.1 g.0) (g.2 (gcd b a) h.1 h.0)

-- what divides a product and is coprime to one factor divides the other
pub gauss : (d x y : ℕ) → 0 < d → gcd x d ≡ 1 → d ∣ y * x → d ∣ y
gauss d x y some coprime h = freed d x y d (IsUnit-from_gcd d x some coprime) (dvd_refl d) h

gcd-divisor : (d g a : ℕ) → g ∣ a → gcd d a ≡ 1 → gcd g d ≡ 1
gcd-divisor d g a h coprime =
    let k = IsGcd-gcd g d in
    eq-one_of_dvd-one (subst (λ x. gcd g d ∣ x) coprime ((IsGcd-gcd d a).2 (gcd g d) k.1 (dvd_trans (gcd g d) k.0 h)))

-- a number coprime to a that each divisor of N coprime to a divides
record Stripped (N a : ℕ) : Type 0 where
  rest : ℕ
  coprime : gcd rest a ≡ 1
  keeps : (d : ℕ) → 0 < d → d ∣ N → gcd d a ≡ 1 → d ∣ rest

strip : (fuel N a c : ℕ) → 0 < c → c ≤ fuel → ((d : ℕ) → 0 < d → d ∣ N → gcd d a ≡ 1 → d ∣ c) → Stripped N a
strip zero N a c some le keeps = absurd (omega arith)
strip (suc fuel) N a c some le keeps =
    let g : ℕ = gcd c a in
    let is = IsGcd-gcd c a in
    let split : gcd c a * (c / gcd c a) ≡ c = mul-div_cancel' (gcd c a) is.0 in
    let g_some : 0 < gcd c a = pos_of_dvd_of_pos is.0 some in
    elim (cases_eq (gcd c a) 1) [
      | inl one ↦ record { rest = c; coprime = one; keeps = keeps }
      | inr more ↦
          let q_some : 0 < c / gcd c a = positive (gcd c a) (c / gcd c a) c split some in
          let q_less : c / gcd c a < c = smaller (gcd c a) (c / gcd c a) c split g_some more q_some in
          strip fuel N a (c / gcd c a) q_some (omega arith) (λ d d_some h coprime.
          gauss d (gcd c a) (c / gcd c a) d_some (gcd-divisor d (gcd c a) a is.1 coprime)
          (subst (λ x. d ∣ x) (sym split ∙ turn (gcd c a) (c / gcd c a)) (keeps d d_some h coprime)))
    ]
  where
    turn : (g q : ℕ) → g * q ≡ q * g
    turn g q = omega arith

    positive : (g q c : ℕ) → g * q ≡ c → 0 < c → 0 < q
    positive g zero c e h = absurd (omega arith)
    positive g (suc q) c e h = omega arith

    smaller : (g q c : ℕ) → g * q ≡ c → 0 < g → g ≢ 1 → 0 < q → q < c
    smaller g q c e h more some = let two : 2 * q ≤ g * q = mul-le-mul_right q (omega arith) in omega arith

-- a number coprime to M is, modulo M, a unit modulo N
record Lifted (N M a : ℕ) : Type 0 where
  turns : ℕ
  unit : IsUnit N (a + turns * M)

lift : (N M a : ℕ) → 0 < N → 0 < a → gcd M a ≡ 1 → Lifted N M a
lift N M a some a_some coprime =
    let c = strip N N a N some (omega arith) (λ d d_some h one. h) in
    let s : ℕ = a + c.rest * M in
    let is = IsGcd-gcd (a + c.rest * M) N in
    let d_some : 0 < gcd (a + c.rest * M) N = pos_of_dvd_of_pos is.1 some in
    let with_a = IsGcd-gcd (gcd (a + c.rest * M) N) a in
    let e : ℕ = gcd (gcd (a + c.rest * M) N) a in
    let e_in_sum : gcd (gcd (a + c.rest * M) N) a ∣ a + c.rest * M = dvd_trans e with_a.0 is.0 in
    let e_in_product : e ∣ c.rest * M = (dvd-add_iff_right e with_a.1).1 e_in_sum in
    let product : IsUnit a (c.rest * M) = IsUnit-mul a c.rest M (IsUnit-from_gcd a c.rest a_some c.coprime) (IsUnit-from_gcd a M a_some coprime) in
    let e_one : e ≡ 1 = eq-one_of_dvd-one (freed a (c.rest * M) 1 e product with_a.1 (dvd-mul_left_of_dvd e e_in_product 1)) in
    let in_rest : gcd (a + c.rest * M) N ∣ c.rest = c.keeps (gcd (a + c.rest * M) N) d_some is.1 e_one in
    let in_a : gcd (a + c.rest * M) N ∣ a = (dvd-add_iff_left (gcd (a + c.rest * M) N)
    (dvd-mul_right_of_dvd (gcd (a + c.rest * M) N) in_rest M)).1 is.0 in
    let one : gcd (a + c.rest * M) N ≡ 1 = eq-one_of_dvd-one (subst (λ x. gcd (a + c.rest * M) N ∣ x) e_one
    (with_a.2 (gcd (a + c.rest * M) N) (dvd_refl (gcd (a + c.rest * M) N)) in_a)) in
    record { turns = c.rest; unit = IsUnit-from_gcd N (a + c.rest * M) some one }

-- g x modulo g M hangs on x modulo M alone
pub scaled_mod : (g M x y : ℕ) → x % M ≡ y % M → (g * x) % (g * M) ≡ (g * y) % (g * M)
scaled_mod g M x y e = opened x ∙ ap (λ r. (g * r) % (g * M)) e ∙ sym (opened y)
  where
    opened : (x : ℕ) → (g * x) % (g * M) ≡ (g * (x % M)) % (g * M)
    opened x =
        let split : M * (x / M) + x % M ≡ x = div-add-mod x M in
        let turned : g * (M * (x / M) + x % M) ≡ g * (x % M) + g * M * (x / M) = omega arith in
        ap (λ z. (g * z) % (g * M)) (sym split) ∙ ap (λ z. z % (g * M)) turned ∙ add-mul-mod_self_left (g * (x % M)) (g * M) (x / M)

-- ---- turning a number into its common divisor with N
pos_right : (g q n : ℕ) → g * q ≡ n → 0 < n → 0 < q
pos_right g zero n e some = absurd (omega arith)
pos_right g (suc q) n e some = omega arith

-- the quotients of u and N by their common divisor are coprime
quotients_coprime : (N u g c M : ℕ) → 0 < g → g * c ≡ u → g * M ≡ N → g ≡ gcd u N → gcd c M ≡ 1
quotients_coprime N u g c M some in_u in_N is =
    let parts = IsGcd-gcd c M in
    let first : g * gcd c M ∣ u = subst (λ x. g * gcd c M ∣ x) in_u (mul-dvd-mul_left (gcd c M) g parts.0) in
    let second : g * gcd c M ∣ N = subst (λ x. g * gcd c M ∣ x) in_N (mul-dvd-mul_left (gcd c M) g parts.1) in
    let both : g * gcd c M ∣ g * 1 = subst (λ x. g * gcd c M ∣ x) (sym is ∙ sym (mul-one g)) ((IsGcd-gcd u N).2 (g * gcd c M) first second) in
    eq-one_of_dvd-one (dvd_of_mul-dvd-mul_left (gcd c M) some both)

-- an inverse of c modulo M that is not 0
record Inverse (M c : ℕ) : Type 0 where
  number : ℕ
  positive : 0 < number
  coprime : gcd M number ≡ 1
  one : (c * number) % M ≡ 1 % M

inverse_of : (M c : ℕ) → 0 < M → gcd c M ≡ 1 → Inverse M c
inverse_of M c some coprime = from (IsUnit-from_gcd M c some coprime)
  where
    from : IsUnit M c → Inverse M c
    from h =
        let opened : c * (h.inverse + M) ≡ c * h.inverse + M * c = omega arith in
        let one : (c * (h.inverse + M)) % M ≡ 1 % M = ap (λ x. x % M) opened ∙ add-mul-mod_self_left (c * h.inverse) M c ∙ h.gives_one in
        let swapped : (h.inverse + M) * c ≡ c * (h.inverse + M) = omega arith in
        record {
          number = h.inverse + M;
          positive = omega arith;
          coprime = gcd_comm M (h.inverse + M) ∙ gcd_from_IsUnit M (h.inverse + M)
              (record { inverse = c; gives_one = ap (λ x. x % M) swapped ∙ one });
          one = one;
        }

-- a number that is an inverse of c modulo M turns g c into g modulo g M
turned : (N u g c M a k : ℕ) → g * c ≡ u → g * M ≡ N → (c * a) % M ≡ 1 % M → ((a + k * M) * u) % N ≡ g % N
turned N u g c M a k in_u in_N one =
    let opened : (a + k * M) * (g * c) ≡ g * (c * a) + g * M * (k * c) = omega arith in
    ap (λ x. ((a + k * M) * x) % N) (sym in_u) ∙ ap (λ n. ((a + k * M) * (g * c)) % n) (sym in_N) ∙ ap (λ x. x % (g * M)) opened
    ∙ add-mul-mod_self_left (g * (c * a)) (g * M) (k * c) ∙ scaled_mod g M (c * a) 1 one ∙ ap (λ x. x % (g * M)) (mul-one g) ∙ ap (λ n. g % n) in_N

-- a unit that turns u into its common divisor with N
pub record TurnsToDivisor (N u : ℕ) : Type 0 where
  pub factor : ℕ
  pub unit : IsUnit N factor
  pub turned : (factor * u) % N ≡ gcd u N % N

from_lift : (N u g c M a k : ℕ) → g * c ≡ u → g * M ≡ N → g ≡ gcd u N → (c * a) % M ≡ 1 % M → IsUnit N (a + k * M) → TurnsToDivisor N u
from_lift N u g c M a k in_u in_N is one unit = record {
  factor = a + k * M;
  unit = unit;
  turned = turned N u g c M a k in_u in_N one
      ∙ ap (λ x. x % N) is;
}

turns : (N u g c M : ℕ) → 0 < N → g * c ≡ u → g * M ≡ N → g ≡ gcd u N → TurnsToDivisor N u
turns N u g c M some in_u in_N is =
    let M_some : 0 < M = pos_right g M N in_N some in
    let swapped : M * g ≡ N = let e : M * g ≡ g * M = omega arith in e ∙ in_N in
    let inverse = inverse_of M c M_some (quotients_coprime N u g c M (pos_right M g N swapped some) in_u in_N is) in
    let l = lift N M inverse.number some inverse.positive inverse.coprime in
    from_lift N u g c M inverse.number l.turns in_u in_N is inverse.one l.unit

pub turns_to_divisor : (N u : ℕ) → 0 < N → TurnsToDivisor N u
turns_to_divisor N u some =
    let is = IsGcd-gcd u N in
    turns N u (gcd u N) (u / gcd u N) (N / gcd u N) some (mul-div_cancel' (gcd u N) is.0) (mul-div_cancel' (gcd u N) is.1) refl
