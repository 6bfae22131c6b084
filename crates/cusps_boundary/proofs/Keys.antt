-- Two points have one key exactly where one is the other times a power of U.
use Rattle.std.proofs.Common.{◌≡◌, ◌+◌, ◌*◌, ◌/◌, ◌%◌, ◌<◌, ◌↔◌, ℕ, zero, suc, refl, sym, ◌∙◌, ap, subst, arith}
use Rattle.std.specs.Int.{◌∣◌}
use Rattle.std.proofs.Math.Nat.{dvd_refl, dvd_trans, dvd_antisymm, dvd-mul_right, pos_of_dvd_of_pos, mul-div_cancel', mod-mod_of_dvd, mod-lt, zero-mod, mul-lt-mul_of_pos_left, add-mod-mod, add-mul-mod_self_left, div-add-mod, eq_of_mul-eq-mul_left, eq-one_of_dvd-one}
use Rattle.std.proofs.lemmas.Nat.Gcd.{dvd_of_mod-eq-zero, mod-eq-zero_of_dvd}
use Rattle.std.proofs.lemmas.Nat.{mul-mod_first, mul-mod_second, mod-mul-add}
use Rattle.p1_normal.specs.declared.point.Point.{Point}
use Rattle.p1_normal.specs.Units.{gcd, IsUnit}
use Rattle.p1_normal.specs.Points.{point, SamePoint, common_divisor}
use Rattle.p1_normal.proofs.Units.{IsGcd-gcd, IsMultiple-gcd, IsUnit-from_gcd, gcd_from_IsUnit, IsUnit-mul, IsUnit-inverse, IsUnit-mod, IsUnit-from_mod}
use Rattle.p1_normal.proofs.SamePoints.{SamePoint_sym, SamePoint_trans, across, common_divisor-same}
use Rattle.cusps_boundary.specs.Keys.{IsShifted, IsCuspKey}
use Rattle.cusps_boundary.proofs.Lifting.{gcd_comm, scaled_mod}

-- ---- congruences
-- g x and g y agree modulo g M only where x and y agree modulo M
unscaled_mod : (g M x y : ℕ) → 0 < g → 0 < M → (g * x) % (g * M) ≡ (g * y) % (g * M) → x % M ≡ y % M
unscaled_mod g M x y g_some M_some e = eq_of_mul-eq-mul_left g g_some (x % M) (y % M) (sym (opened x) ∙ e ∙ opened y)
  where
    opened : (x : ℕ) → (g * x) % (g * M) ≡ g * (x % M)
    opened x =
        let split : M * (x / M) + x % M ≡ x = div-add-mod x M in
        let turned : g * (M * (x / M) + x % M) ≡ (x / M) * (g * M) + g * (x % M) = omega arith in
        ap (λ z. (g * z) % (g * M)) (sym split) ∙ ap (λ z. z % (g * M)) turned
        ∙ mod-mul-add (x / M) (g * M) (g * (x % M)) (mul-lt-mul_of_pos_left (mod-lt x M_some) g_some)

-- numbers that agree modulo N agree modulo a divisor of N
coarser : (N d x y : ℕ) → d ∣ N → x % N ≡ y % N → x % d ≡ y % d
coarser N d x y h e = sym (mod-mod_of_dvd d x h) ∙ ap (λ r. r % d) e ∙ mod-mod_of_dvd d y h

-- factors that agree may be exchanged
times_same : (N x y v : ℕ) → x % N ≡ y % N → (x * v) % N ≡ (y * v) % N
times_same N x y v e = sym (mul-mod_first x v N) ∙ ap (λ r. (r * v) % N) e ∙ mul-mod_first y v N

times_same_left : (N t x y : ℕ) → x % N ≡ y % N → (t * x) % N ≡ (t * y) % N
times_same_left N t x y e = sym (mul-mod_second t x N) ∙ ap (λ r. (t * r) % N) e ∙ mul-mod_second t y N

plus_same : (N a x y : ℕ) → x % N ≡ y % N → (a + x) % N ≡ (a + y) % N
plus_same N a x y e = sym (add-mod-mod a x N) ∙ ap (λ r. (a + r) % N) e ∙ add-mod-mod a y N

-- what a sum and its first part differ by
dvd_from_same : (d a c : ℕ) → 0 < d → (a + c) % d ≡ a % d → d ∣ c
dvd_from_same zero a c some e = absurd (omega arith)
dvd_from_same (suc n) a c some e =
    let opened : c + suc n * a ≡ a * n + (a + c) = omega arith in
    let closed : a * n + a ≡ 0 + suc n * a = omega arith in
    dvd_of_mod-eq-zero (suc n) (sym (add-mul-mod_self_left c (suc n) a) ∙ ap (λ r. r % suc n) opened ∙ plus_same (suc n) (a * n) (a + c) a e
    ∙ ap (λ r. r % suc n) closed ∙ add-mul-mod_self_left 0 (suc n) a ∙ zero-mod (suc n))

-- multiples of d dropped
multiple_dropped : (d x i y : ℕ) → d ∣ y → (x + i * y) % d ≡ x % d
multiple_dropped d x i y h =
    let split : d * (y / d) ≡ y = mul-div_cancel' d h in
    let turned : x + i * (d * (y / d)) ≡ x + d * (i * (y / d)) = omega arith in
    ap (λ z. (x + i * z) % d) (sym split) ∙ ap (λ z. z % d) turned ∙ add-mul-mod_self_left x d (i * (y / d))

right_positive : (g M N : ℕ) → g * M ≡ N → 0 < N → 0 < M
right_positive g zero N e some = absurd (omega arith)
right_positive g (suc M) N e some = omega arith

-- ---- the first part
first-dvd : {N : ℕ} {p q : Point} → SamePoint N p q → gcd p.u N ∣ gcd q.u N
first-dvd {N} {p} {q} h =
    let is = IsGcd-gcd p.u N in
    (IsGcd-gcd q.u N).2 (gcd p.u N) (across N h.factor p.u q.u (gcd p.u N) h.first is.1 is.0) is.1

-- two names of one point have first parts with the same common divisor with N
first_same : {N : ℕ} {p q : Point} → SamePoint N p q → gcd p.u N ≡ gcd q.u N
first_same h = dvd_antisymm (first-dvd h) (first-dvd (SamePoint_sym h))

-- numbers that turn u into its common divisor g with N agree modulo N / g
factors_agree : (N g M u c s t : ℕ) → 0 < g → 0 < M → g * M ≡ N → g * c ≡ u → (s * u) % N ≡ g % N → (t * u) % N ≡ g % N → s % M ≡ t % M
factors_agree N g M u c s t g_some M_some eN eu es et =
    let swapped : s * (t * c) ≡ t * (s * c) = omega arith in
    let s_one : s * 1 ≡ s = omega arith in
    let t_one : t * 1 ≡ t = omega arith in
    ap (λ z. z % M) (sym s_one) ∙ times_same_left M s 1 (t * c) (sym (one t et)) ∙ ap (λ z. z % M) swapped ∙ times_same_left M t (s * c) 1 (one s es)
    ∙ ap (λ z. z % M) t_one
  where
    one : (x : ℕ) → (x * u) % N ≡ g % N → (x * c) % M ≡ 1 % M
    one x e =
        let opened : g * (x * c) ≡ x * (g * c) = omega arith in
        let whole : g * 1 ≡ g = omega arith in
        unscaled_mod g M (x * c) 1 g_some M_some (ap (λ z. z % (g * M)) opened ∙ ap (λ z. (x * z) % (g * M)) eu ∙ ap (λ n. (x * u) % n) eN ∙ e
        ∙ ap (λ n. g % n) (sym eN) ∙ ap (λ z. z % (g * M)) (sym whole))

-- so they make the same of v, modulo the common divisor of g and N / g
rests_agree : (N u v g s t : ℕ) → 0 < N → g ≡ gcd u N → (s * u) % N ≡ g % N → (t * u) % N ≡ g % N → (s * v) % gcd g (N / g) ≡ (t * v) % gcd g (N / g)
rests_agree N u v g s t some eg es et =
    let is = IsGcd-gcd u N in
    let in_u : g ∣ u = subst (λ d. d ∣ u) (sym eg) is.0 in
    let in_N : g ∣ N = subst (λ d. d ∣ N) (sym eg) is.1 in
    let split : g * (N / g) ≡ N = mul-div_cancel' g in_N in
    let agree : s % (N / g) ≡ t % (N / g) = factors_agree N g (N / g) u (u / g) s t (pos_of_dvd_of_pos in_N some)
    (right_positive g (N / g) N split some) split (mul-div_cancel' g in_u) es et in
    times_same (gcd g (N / g)) s t v (coarser (N / g) (gcd g (N / g)) s t (IsGcd-gcd g (N / g)).1 agree)

-- ---- a power of U keeps the key
shifted_rest : (N g h u v i s t w : ℕ) → h ∣ g → h ∣ N → (s * (v + i * u)) % N ≡ w % N → (t * s * u) % N ≡ g % N → (t * w) % h ≡ (t * s * v) % h
shifted_rest N g h u v i s t w in_g in_N e turned =
    let opened : t * (s * (v + i * u)) ≡ t * s * v + i * (t * s * u) = omega arith in
    let in_product : h ∣ t * s * u = dvd_of_mod-eq-zero h (coarser N h (t * s * u) g in_N turned ∙ mod-eq-zero_of_dvd h in_g) in
    coarser N h (t * w) (t * (s * (v + i * u))) in_N (times_same_left N t w (s * (v + i * u)) (sym e)) ∙ ap (λ z. z % h) opened
    ∙ multiple_dropped h (t * s * v) i (t * s * u) in_product

same_key : (a b : ℕ × ℕ) → a.0 ≡ b.0 → a.1 ≡ b.1 → a ≡ b
same_key a b e f = λ i. (e i, f i)

pub key_shifted : (N : ℕ) (p q : Point) (a b : ℕ × ℕ) → 0 < N → IsCuspKey N p a → IsCuspKey N q b → IsShifted N p q → a ≡ b
key_shifted N p q a b some key_p key_q h =
    let s : ℕ = h.same.factor in
    let t : ℕ = key_q.factor in
    let g : ℕ = a.0 in
    let one_divisor : a.0 ≡ b.0 = key_p.divisor ∙ first_same h.same ∙ sym key_q.divisor in
    let opened : t * s * p.u ≡ t * (s * p.u) = omega arith in
    let turned : (t * s * p.u) % N ≡ a.0 % N = ap (λ z. z % N) opened ∙ times_same_left N t (s * p.u) q.u h.same.first ∙ key_q.scaled
    ∙ ap (λ z. z % N) (sym one_divisor) in
    let in_N : g ∣ N = subst (λ d. d ∣ N) (sym key_p.divisor) (IsGcd-gcd p.u N).1 in
    let in_both = IsGcd-gcd g (N / g) in
    same_key a b one_divisor (key_p.rest
    ∙ rests_agree N p.u p.v a.0 key_p.factor (t * s) some key_p.divisor key_p.scaled turned
    ∙ sym (shifted_rest N g (gcd g (N / g)) p.u p.v h.times s t q.v in_both.0 (dvd_trans (gcd g (N / g)) in_both.0 in_N) h.same.second turned)
    ∙ ap (λ d. (t * q.v) % gcd d (N / d)) one_divisor ∙ sym key_q.rest)

-- ---- one key comes from one orbit
-- a unit modulo two numbers is one modulo their product
IsUnit-product : (a b s : ℕ) → 0 < s → 0 < a * b → IsUnit a s → IsUnit b s → IsUnit (a * b) s
IsUnit-product a b s some product_some in_a in_b =
    let first : IsUnit s a = IsUnit-from_gcd s a some (gcd_comm a s ∙ gcd_from_IsUnit a s in_a) in
    let second : IsUnit s b = IsUnit-from_gcd s b some (gcd_comm b s ∙ gcd_from_IsUnit b s in_b) in
    IsUnit-from_gcd (a * b) s product_some (gcd_comm s (a * b) ∙ gcd_from_IsUnit s (a * b) (IsUnit-mul s a b first second))

-- a number that is 1 modulo M and z modulo g, where z is 1 modulo their common divisor
record Joined (g M z : ℕ) : Type 0 where
  number : ℕ
  positive : 0 < number
  one : number % M ≡ 1 % M
  other : number % g ≡ z % g

-- where M y is h modulo n + 1, and h k is z + n, 1 + M y k is z
joined_other : (n h M y z k : ℕ) → (M * y) % suc n ≡ h % suc n → h * k ≡ z + n → (1 + M * y * k) % suc n ≡ z % suc n
joined_other n h M y z k same split =
    let up : 1 + (z + n) ≡ z + 1 * suc n = omega arith in
    plus_same (suc n) 1 (M * y * k) (h * k) (times_same (suc n) (M * y) h k same) ∙ ap (λ x. (1 + x) % suc n) split ∙ ap (λ x. x % suc n) up
    ∙ multiple_dropped (suc n) z 1 (suc n) (dvd_refl (suc n))

joined_by : (n h M y z k : ℕ) → (M * y) % suc n ≡ h % suc n → h * k ≡ z + n → Joined (suc n) M z
joined_by n h M y z k same split =
    let assoc : 1 + M * y * k ≡ 1 + M * (y * k) = omega arith in
    record {
      number = 1 + M * y * k;
      positive = omega arith;
      one = ap (λ x. x % M) assoc ∙ add-mul-mod_self_left 1 M (y * k);
      other = joined_other n h M y z k same split;
    }

joined : (g M z : ℕ) → 0 < g → z % gcd g M ≡ 1 % gcd g M → Joined g M z
joined zero M z some e = absurd (omega arith)
joined (suc n) M z some e =
    let is = IsGcd-gcd (suc n) M in
    let h_some : 0 < gcd (suc n) M = pos_of_dvd_of_pos is.0 (omega arith) in
    let up : 1 + (z + n) ≡ z + 1 * suc n = omega arith in
    let divides : gcd (suc n) M ∣ z + n = dvd_from_same (gcd (suc n) M) 1 (z + n) h_some (ap (λ x. x % gcd (suc n) M) up
    ∙ multiple_dropped (gcd (suc n) M) z 1 (suc n) is.0 ∙ e) in
    let bezout = IsMultiple-gcd n M in
    joined_by n (gcd (suc n) M) M bezout.factor z ((z + n) / gcd (suc n) M) (bezout.same
    ∙ ap (λ d. d % suc n) (gcd_comm M (suc n))) (mul-div_cancel' (gcd (suc n) M) divides)

-- a number that is 1 modulo M turns g into itself modulo g M
keeps_divisor : (N g M s : ℕ) → g * M ≡ N → s % M ≡ 1 % M → (s * g) % N ≡ g % N
keeps_divisor N g M s split one =
    let swapped : s * g ≡ g * s = omega arith in
    let whole : g * 1 ≡ g = omega arith in
    ap (λ r. r % N) swapped ∙ ap (λ d. (g * s) % d) (sym split) ∙ scaled_mod g M s 1 one ∙ ap (λ d. (g * 1) % d) split ∙ ap (λ r. r % N) whole

-- a number that is w over v modulo g takes v to w
takes_to : (g s v w x : ℕ) → s % g ≡ (w * x) % g → (v * x) % g ≡ 1 % g → (s * v) % g ≡ w % g
takes_to g s v w x other one =
    let around : w * x * v ≡ w * (v * x) = omega arith in
    let w_one : w * 1 ≡ w = omega arith in
    times_same g s (w * x) v other ∙ ap (λ r. r % g) around ∙ times_same_left g w (v * x) 1 one ∙ ap (λ r. r % g) w_one

-- numbers that agree modulo a divisor g of N differ modulo N by a multiple of g
record Reached (N g a w : ℕ) : Type 0 where
  times : ℕ
  same : (a + times * g) % N ≡ w % N

reached : (N g a w : ℕ) → 0 < N → g ∣ N → a % g ≡ w % g → Reached N g a w
reached zero g a w some in_N e = absurd (omega arith)
reached (suc n) g a w some in_N e =
    let up : a + (w + a * n) ≡ w + a * suc n = omega arith in
    let divides : g ∣ w + a * n = dvd_from_same g a (w + a * n) (pos_of_dvd_of_pos in_N some) (ap (λ r. r % g) up
    ∙ multiple_dropped g w a (suc n) in_N ∙ sym e) in
    by ((w + a * n) / g) (mul-div_cancel' g divides)
  where
    by : (i : ℕ) → g * i ≡ w + a * n → Reached (suc n) g a w
    by i split =
        let turned : i * g ≡ g * i = omega arith in
        let up : a + (w + a * n) ≡ w + a * suc n = omega arith in
        record {
          times = i;
          same = ap (λ r. (a + r) % suc n) (turned ∙ split) ∙ ap (λ r. r % suc n) up
              ∙ multiple_dropped (suc n) w a (suc n) (dvd_refl (suc n));
        }

-- a unit that keeps g and takes v to w but for a multiple of g
shifted_by : (N g s v w i : ℕ) → IsUnit N s → (s * g) % N ≡ g % N → (s * v + i * g) % N ≡ w % N → IsShifted N (point g v) (point g w)
shifted_by N g s v w i unit keeps takes =
    let opened : s * (v + i * g) ≡ s * v + i * (s * g) = omega arith in
    record {
      times = i;
      same = record {
        factor = s;
        unit = unit;
        first = keeps;
        second = ap (λ r. r % N) opened ∙ plus_same N (s * v) (i * (s * g)) (i * g) (times_same_left N i (s * g) g keeps) ∙ takes;
      };
    }

-- points with one first part, a divisor g of N, whose second parts agree modulo the common divisor of g and N / g
shifted_from_rests : (N g M v w : ℕ) → 0 < N → g * M ≡ N → IsUnit g v → IsUnit g w → v % gcd g M ≡ w % gcd g M → IsShifted N (point g v) (point g w)
shifted_from_rests N g M v w some split unit_v unit_w e =
    let is = IsGcd-gcd g M in
    let x : ℕ = unit_v.inverse in
    let swapped : M * g ≡ N = let f : M * g ≡ g * M = omega arith in f ∙ split in
    let g_some : 0 < g = right_positive M g N swapped some in
    let in_N : g ∣ N = subst (λ d. g ∣ d) split (dvd-mul_right g M) in
    let z_one : (w * x) % gcd g M ≡ 1 % gcd g M = times_same (gcd g M) w v x (sym e) ∙ coarser g (gcd g M) (v * x) 1 is.0 unit_v.gives_one in
    by x unit_v.gives_one (IsUnit-mul g w x unit_w (IsUnit-inverse g v unit_v)) g_some in_N (joined g M (w * x) g_some z_one)
  where
    by : (x : ℕ) → (v * x) % g ≡ 1 % g → IsUnit g (w * x) → 0 < g → g ∣ N → Joined g M (w * x) → IsShifted N (point g v) (point g w)
    by x one unit g_some in_N j =
        let s : ℕ = j.number in
        let s_one : s * 1 ≡ s = omega arith in
        let unit_g : IsUnit g s = IsUnit-from_mod g s (subst (IsUnit g) (sym j.other) (IsUnit-mod g (w * x) unit)) in
        let unit_M : IsUnit M s = record { inverse = 1; gives_one = ap (λ r. r % M) s_one ∙ j.one } in
        let unit_N : IsUnit N s = subst (λ d. IsUnit d s) split (IsUnit-product g M s j.positive (omega (arith, split)) unit_g unit_M) in
        let r = reached N g (s * v) w some in_N (takes_to g s v w x j.other one) in
        shifted_by N g s v w r.times unit_N (keeps_divisor N g M s split j.one) r.same

-- the second part of a point with a first part that divides N is a unit modulo it
unit_rest : (N g v : ℕ) → 0 < g → g ∣ N → common_divisor N (point g v) ≡ 1 → IsUnit g v
unit_rest N g v g_some in_N one =
    let is = IsGcd-gcd v g in
    let whole = IsGcd-gcd (gcd g v) N in
    let pair = IsGcd-gcd g v in
    let divides : gcd v g ∣ 1 = subst (λ d. gcd v g ∣ d) one (whole.2 (gcd v g) (pair.2 (gcd v g) is.1 is.0) (dvd_trans (gcd v g) is.1 in_N)) in
    IsUnit-from_gcd g v g_some (eq-one_of_dvd-one divides)

-- the point with its first part turned into the divisor
turned_point : (N : ℕ) (p : Point) (a : ℕ × ℕ) (key : IsCuspKey N p a) → SamePoint N p (point a.0 (key.factor * p.v))
turned_point N p a key = record { factor = key.factor; unit = key.unit; first = key.scaled; second = refl }

-- a power of U commutes with scaling
pub shifted_names : {N : ℕ} {p q : Point} (i : ℕ) → SamePoint N p q → SamePoint N (point p.u (p.v + i * p.u)) (point q.u (q.v + i * q.u))
shifted_names {N} {p} {q} i h =
    let opened : h.factor * (p.v + i * p.u) ≡ h.factor * p.v + i * (h.factor * p.u) = omega arith in
    let swapped : h.factor * p.v + i * q.u ≡ i * q.u + h.factor * p.v = omega arith in
    let back : i * q.u + q.v ≡ q.v + i * q.u = omega arith in
    record {
      factor = h.factor;
      unit = h.unit;
      first = h.first;
      second = ap (λ r. r % N) opened ∙ plus_same N (h.factor * p.v) (i * (h.factor * p.u)) (i * q.u)
          (times_same_left N i (h.factor * p.u) q.u h.first)
          ∙ ap (λ r. r % N) swapped ∙ plus_same N (i * q.u) (h.factor * p.v) q.v h.second ∙ ap (λ r. r % N) back;
    }

pub shifted_from_key : (N : ℕ) (p q : Point) (a : ℕ × ℕ) → 0 < N → common_divisor N p ≡ 1 → common_divisor N q ≡ 1 → IsCuspKey N p a →
    IsCuspKey N q a → IsShifted N p q
shifted_from_key N p q a some one_p one_q key_p key_q =
    let g : ℕ = a.0 in
    let in_N : a.0 ∣ N = subst (λ d. d ∣ N) (sym key_p.divisor) (IsGcd-gcd p.u N).1 in
    let g_some : 0 < a.0 = pos_of_dvd_of_pos in_N some in
    let v : ℕ = key_p.factor * p.v in
    let w : ℕ = key_q.factor * q.v in
    let by_p : SamePoint N p (point a.0 v) = turned_point N p a key_p in
    let by_q : SamePoint N q (point a.0 w) = turned_point N q a key_q in
    let between = shifted_from_rests N a.0 (N / a.0) v w some (mul-div_cancel' a.0 in_N)
    (unit_rest N a.0 v g_some in_N (sym (common_divisor-same by_p) ∙ one_p))
    (unit_rest N a.0 w g_some in_N (sym (common_divisor-same by_q) ∙ one_q)) (sym key_p.rest ∙ key_q.rest) in
    record { times = between.times; same = SamePoint_trans (shifted_names between.times by_p) (SamePoint_trans between.same (SamePoint_sym by_q)) }

-- two points have one key exactly where one is the other times a power of U
pub key_iff : (N : ℕ) (p q : Point) (a b : ℕ × ℕ) → 0 < N → common_divisor N p ≡ 1 → common_divisor N q ≡ 1 → IsCuspKey N p a → IsCuspKey N q b →
    (a ≡ b) ↔ IsShifted N p q
key_iff N p q a b some one_p one_q key_p key_q = (
  λ e. shifted_from_key N p q a some one_p one_q key_p (subst (IsCuspKey N q) (sym e) key_q),
  key_shifted N p q a b some key_p key_q,
)
