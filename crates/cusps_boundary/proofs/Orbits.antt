-- The powers of U, and the cusps as their orbits.
use Rattle.std.proofs.Common.{◌≡◌, ◌+◌, ◌-◌, ◌*◌, ◌/◌, ◌%◌, ◌<◌, ◌≤◌, ℕ, zero, suc, Bool, true, false, List, [], ◌∷◌, length, get_or, nat_eq, nat_le, ◌&&◌, refl, sym, ◌∙◌, ap, subst, arith, eq-eqb, eqb-true}
use Rattle.std.specs.Fn.{iterate}
use Rattle.std.specs.List.{Contains, list_all, position_or_len}
use Rattle.std.proofs.Math.Nat.{div-add-mod, mod-lt}
use Rattle.std.proofs.lemmas.Bool.{false≢true, leb-true, leb-false, le-leb, false_from_ne_true}
use Rattle.std.proofs.lemmas.Map.Views.{Contains-from_any}
use Rattle.std.proofs.lemmas.List.Folds.{list_any_at}
use Rattle.std.proofs.lemmas.List.Sums.{AllPass-from_list_all, list_all-from_AllPass}
use Rattle.std.proofs.lemmas.List.Elements.{All-from_get_or, All-get_or}
use Rattle.std.proofs.lemmas.List.FromFn.{get_or-map-range_with_len, length-map-range_with_len}
use Rattle.p1_normal.specs.Points.{symbols}
use Rattle.p1_normal.specs.Actions.{image_number, matrix_u}
use Rattle.p1_normal.proofs.LevelLaws.{u_round}
use Rattle.p1_normal.proofs.Moves.{image_number-lt, invertible_u}
use Rattle.p1_normal.proofs.Numbers.{level_positive}
use Rattle.cusps_boundary.specs.Cusps.{times_u, cusp, in_cusp, is_least, cusps, cusp_number}

-- ---- powers
iterate-plus : {A : Type 0} (h : A → A) (a b : ℕ) (x : A) → iterate h (a + b) x ≡ iterate h b (iterate h a x)
iterate-plus h zero b x = let e : 0 + b ≡ b = omega arith in ap (λ n. iterate h n x) e
iterate-plus h (suc a) b x = let e : suc a + b ≡ suc (a + b) = omega arith in ap (λ n. iterate h n x) e ∙ iterate-plus h a b (h x)

pub times_u-plus : (N a b k : ℕ) → times_u N (a + b) k ≡ times_u N b (times_u N a k)
times_u-plus N a b k = iterate-plus (λ j. image_number N j matrix_u) a b k

pub times_u-lt : (N i k : ℕ) → k < length (symbols N) → times_u N i k < length (symbols N)
times_u-lt N zero k within = within
times_u-lt N (suc i) k within = times_u-lt N i (image_number N k matrix_u) (image_number-lt N k matrix_u within (invertible_u N))

-- a multiple of N is no move
times_u-rounds : (N q k : ℕ) → k < length (symbols N) → times_u N (N * q) k ≡ k
times_u-rounds N zero k within = let e : N * 0 ≡ 0 = omega arith in ap (λ n. times_u N n k) e
times_u-rounds N (suc q) k within =
    let e : N * suc q ≡ N + N * q = omega arith in
    ap (λ n. times_u N n k) e ∙ times_u-plus N N (N * q) k ∙ ap (times_u N (N * q)) (u_round N k within) ∙ times_u-rounds N q k within

pub times_u-mod : (N i k : ℕ) → k < length (symbols N) → times_u N (i % N) k ≡ times_u N i k
times_u-mod N i k within = sym (
    ap (λ n. times_u N n k) (sym (div-add-mod i N)) ∙ times_u-plus N (N * (i / N)) (i % N) k
    ∙ ap (times_u N (i % N)) (times_u-rounds N (i / N) k within)
    )

-- ---- orbits
-- symbol j is symbol k times a power of U
pub record IsTurned (N k j : ℕ) : Type 0 where
  pub times : ℕ
  pub reached : times_u N times k ≡ j

pub turned_refl : (N k : ℕ) → IsTurned N k k
turned_refl N k = record { times = 0; reached = refl }

pub turned_trans : (N k j l : ℕ) → IsTurned N k j → IsTurned N j l → IsTurned N k l
turned_trans N k j l h g = record {
  times = h.times + g.times;
  reached = times_u-plus N h.times g.times k ∙ ap (times_u N g.times) h.reached
      ∙ g.reached;
}

pub turned_sym : (N k j : ℕ) → k < length (symbols N) → IsTurned N k j → IsTurned N j k
turned_sym N k j within h = record {
  times = N * h.times - h.times;
  reached = ap (times_u N (N * h.times - h.times)) (sym h.reached) ∙ sym (times_u-plus N h.times (N * h.times - h.times) k)
      ∙ ap (λ n. times_u N n k) (whole N h.times (level_positive N k within)) ∙ times_u-rounds N h.times k within;
}
  where
    whole : (n i : ℕ) → 0 < n → i + (n * i - i) ≡ n * i
    whole zero i some = absurd (omega arith)
    whole (suc n) i some = let e : suc n * i ≡ i + n * i = omega arith in omega arith

pub turned_once : (N k : ℕ) → IsTurned N k (image_number N k matrix_u)
turned_once N k = record { times = 1; reached = refl }

pub turned-lt : (N k j : ℕ) → k < length (symbols N) → IsTurned N k j → j < length (symbols N)
turned-lt N k j within h = subst (λ i. i < length (symbols N)) h.reached (times_u-lt N h.times k within)

-- ---- membership
cusp_at : (N k i d : ℕ) → i < N → get_or (cusp N k) i d ≡ times_u N i k
cusp_at N k i d below = get_or-map-range_with_len (λ i. times_u N i k) 0 N i i d below (omega arith)

length-cusp : (N k : ℕ) → length (cusp N k) ≡ N
length-cusp N k = length-map-range_with_len (λ i. times_u N i k) 0 N

pub in_cusp_from_turned : (N k j : ℕ) → k < length (symbols N) → IsTurned N k j → in_cusp N k j ≡ true
in_cusp_from_turned N k j within h =
    let some : 0 < N = level_positive N k within in
    let below : h.times % N < N = mod-lt h.times some in
    list_any_at (nat_eq j) (cusp N k) (h.times % N) 0 (omega (arith, length-cusp N k))
    (eq-eqb j (get_or (cusp N k) (h.times % N) 0) (sym (cusp_at N k (h.times % N) 0 below ∙ times_u-mod N h.times k within ∙ h.reached)))

pub turned_from_contains : (N k j : ℕ) → Contains (cusp N k) j → IsTurned N k j
turned_from_contains N k j (i, l, e) = record { times = i; reached = sym (cusp_at N k i j (omega (arith, length-cusp N k))) ∙ e }

pub contains_from_turned : (N k j : ℕ) → k < length (symbols N) → IsTurned N k j → Contains (cusp N k) j
contains_from_turned N k j within h =
    let below : h.times % N < N = mod-lt h.times (level_positive N k within) in
    (h.times % N, omega (arith, length-cusp N k), cusp_at N k (h.times % N) j below ∙ times_u-mod N h.times k within ∙ h.reached)

pub turned_from_in_cusp : (N k j : ℕ) → in_cusp N k j ≡ true → IsTurned N k j
turned_from_in_cusp N k j e = turned_from_contains N k j (Contains-from_any {eq = nat_eq} eqb-true j (cusp N k) e)

-- ---- symbols of one cusp
cusp_both : (N k j l : ℕ) → k < length (symbols N) → IsTurned N k j → (b : Bool) → in_cusp N k l ≡ b → in_cusp N k l ≡ in_cusp N j l
cusp_both N k j l within h true e =
    let back : IsTurned N j k = turned_sym N k j within h in
    e ∙ sym (in_cusp_from_turned N j l (turned-lt N k j within h) (turned_trans N j k l back (turned_from_in_cusp N k l e)))
cusp_both N k j l within h false e = e ∙ sym (false_from_ne_true (in_cusp N j l) (λ f.
    false≢true (sym e ∙ in_cusp_from_turned N k l within (turned_trans N k j l h (turned_from_in_cusp N j l f)))))

in_cusp_same : (N k j : ℕ) → k < length (symbols N) → IsTurned N k j → in_cusp N k ≡ in_cusp N j
in_cusp_same N k j within h = λ i l. cusp_both N k j l within h (in_cusp N k l) refl i

-- they have one number
pub cusp_number_same : (N k j : ℕ) → k < length (symbols N) → IsTurned N k j → cusp_number N k ≡ cusp_number N j
unfolding cusp_number
cusp_number_same N k j within h = ap (λ t. position_or_len t (cusps N)) (in_cusp_same N k j within h)

-- ---- the least symbol of a cusp
abbrev FailsIn : (ℕ → Bool) → List ℕ → Type 0
FailsIn t xs = (i : ℕ) × (i < length xs) × (t (get_or xs i 0) ≡ false)

-- a list that does not pass has a number that fails
failing : (t : ℕ → Bool) (xs : List ℕ) → list_all t xs ≡ false → FailsIn t xs
failing t [] e = absurd (false≢true (sym e))
failing t (x ∷ xs) e = first (t x) refl (failing t xs)
  where
    first : (b : Bool) → t x ≡ b → (list_all t xs ≡ false → FailsIn t xs) → FailsIn t (x ∷ xs)
    first false f rest = (0, omega arith, f)
    first true f rest = let (i, l, g) = rest (ap (λ b. b && list_all t xs) (sym f) ∙ e) in (suc i, omega arith, g)

pub least_is : (N k j : ℕ) → k < length (symbols N) → is_least N k ≡ true → IsTurned N k j → k ≤ j
least_is N k j within least h =
    let below : h.times % N < N = mod-lt h.times (level_positive N k within) in
    let test : nat_le k (get_or (cusp N k) (h.times % N) 0) ≡ true =
    All-get_or (λ x. nat_le k x ≡ true) (cusp N k) (h.times % N) 0 (omega (arith, length-cusp N k))
    (AllPass-from_list_all (nat_le k) (cusp N k) least) in
    subst (λ x. k ≤ x) (cusp_at N k (h.times % N) 0 below ∙ times_u-mod N h.times k within
    ∙ h.reached) (leb-true k (get_or (cusp N k) (h.times % N) 0) test)

pub least_from : (N k : ℕ) → ((j : ℕ) → IsTurned N k j → k ≤ j) → is_least N k ≡ true
least_from N k each = list_all-from_AllPass (nat_le k) (cusp N k) (All-from_get_or (λ x. nat_le k x ≡ true) (cusp N k) 0 (λ i l.
    le-leb k (get_or (cusp N k) i 0) (each (get_or (cusp N k) i 0)
    (record { times = i; reached = sym (cusp_at N k i 0 (omega (arith, length-cusp N k))) }))))

-- some symbol of each cusp is the least
pub record HasLeast (N k : ℕ) : Type 0 where
  pub least : ℕ
  pub turned : IsTurned N k least
  pub is : is_least N least ≡ true

least_within : (fuel N k : ℕ) → k < fuel → HasLeast N k
least_within zero N k l = absurd (omega arith)
least_within (suc fuel) N k l = split (is_least N k) refl (least_within fuel N)
  where
    split : (b : Bool) → is_least N k ≡ b → ((j : ℕ) → j < fuel → HasLeast N j) → HasLeast N k
    split true e lower = record { least = k; turned = turned_refl N k; is = e }
    split false e lower =
        let (i, inside, fails) = failing (nat_le k) (cusp N k) e in
        let j : ℕ = get_or (cusp N k) i 0 in
        let reached : get_or (cusp N k) i 0 ≡ times_u N i k = cusp_at N k i 0 (omega (arith, length-cusp N k)) in
        let less : get_or (cusp N k) i 0 < k = leb-false k (get_or (cusp N k) i 0) fails in
        let h = lower (get_or (cusp N k) i 0) (omega arith) in
        record { least = h.least; turned = turned_trans N k j h.least (record { times = i; reached = sym reached }) h.turned; is = h.is }

pub has_least : (N k : ℕ) → HasLeast N k
has_least N k = least_within (suc k) N k (omega arith)

-- two least symbols of one cusp are one
pub least_unique : (N k j : ℕ) → k < length (symbols N) → j < length (symbols N) → is_least N k ≡ true → is_least N j ≡ true → IsTurned N k j → k ≡ j
least_unique N k j within_k within_j e f h = omega (arith, least_is N k j within_k e h, least_is N j k within_j f (turned_sym N k j within_k h))
