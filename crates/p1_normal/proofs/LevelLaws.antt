-- The laws at a level N that is not 0.
use Rattle.std.proofs.Common.{◌≡◌, ◌*◌, ◌%◌, ◌<◌, ◌↔◌, ℕ, zero, suc, true, false, length, subst, arith}
use Rattle.std.specs.Prelude.{ℤ, unsigned_abs}
use Rattle.std.specs.Fn.{iterate}
use Rattle.std.proofs.Math.Nat.{dvd_trans}
use Rattle.std.proofs.lemmas.Bool.{true_from_ne_false, false_from_ne_true}
use Rattle.std.proofs.lemmas.Option.{slice_get_within}
use Rattle.p1_normal.specs.declared.point.Point.{Point}
use Rattle.p1_normal.specs.declared.matrix.Matrix.{Matrix}
use Rattle.p1_normal.specs.Units.{gcd, IsUnit}
use Rattle.p1_normal.specs.Points.{reduced, common_divisor, is_before, normal_form, symbols, IsBelow, IsNumber, SamePoint}
use Rattle.p1_normal.specs.Actions.{action, product, IsInvertible, image_number, matrix_s, matrix_t, matrix_u, matrix_star}
use Rattle.p1_normal.proofs.Units.{IsGcd-gcd, gcd_from_IsGcd, IsMultiple-gcd, IsUnit-from_gcd, gcd_from_IsUnit}
use Rattle.p1_normal.proofs.Residues.{dvd-residue}
use Rattle.p1_normal.proofs.SamePoints.{SamePoint_sym, SamePoint_trans}
use Rattle.p1_normal.proofs.Places.{place-before, place-not_before}
use Rattle.p1_normal.proofs.NormalForms.{SamePoint-normal_form, normal_form-le, normal_form-same}
use Rattle.p1_normal.proofs.Symbols.{symbol_is}
use Rattle.p1_normal.proofs.Numbers.{symbols_rise, level_positive}
use Rattle.p1_normal.proofs.Moves.{action-action, action-same, image_number-image_number, image_number-s-s, image_number-t-t-t, iterate-u, image_number-star-star, image_number-star-s, image_number-star-t-star}

pub bezout : (N s : ℕ) → 0 < N → (x : ℕ) × ((s * x) % N ≡ gcd s N % N)
bezout zero s some = absurd (omega arith)
bezout (suc n) s some = let m = IsMultiple-gcd n s in (m.factor, m.same)

pub IsUnit_iff : (N s : ℕ) → 0 < N → IsUnit N s ↔ (gcd s N ≡ 1)
IsUnit_iff N s some = (gcd_from_IsUnit N s, IsUnit-from_gcd N s some)

-- the common divisor of the residues is that of the integers
pub common_divisor-reduced : (N : ℕ) (u v : ℤ) → 0 < N → common_divisor N (reduced N u v) ≡ gcd (gcd (unsigned_abs u) (unsigned_abs v)) N
common_divisor-reduced zero u v some = absurd (omega arith)
common_divisor-reduced (suc n) u v some =
    let N : ℕ = suc n in
    let r : Point = reduced N u v in
    let g : ℕ = common_divisor N r in
    let outer = IsGcd-gcd (gcd r.u r.v) N in
    let inner = IsGcd-gcd r.u r.v in
    let parts = IsGcd-gcd (unsigned_abs u) (unsigned_abs v) in
    gcd_from_IsGcd (gcd (unsigned_abs u) (unsigned_abs v)) N g (
      parts.2 g ((dvd-residue n g u outer.1).0 (dvd_trans g outer.0 inner.0)) ((dvd-residue n g v outer.1).0 (dvd_trans g outer.0 inner.1)),
      outer.1,
      λ d in_both in_level. outer.2 d (inner.2 d ((dvd-residue n d u in_level).1 (dvd_trans d in_both parts.0))
          ((dvd-residue n d v in_level).1 (dvd_trans d in_both parts.1))) in_level,
    )

pub normal_form-least : (N : ℕ) (p q : Point) → 0 < N → SamePoint N p q → IsBelow N q → is_before q (normal_form N p) ≡ false
normal_form-least N p q some same below = false_from_ne_true (is_before q (normal_form N p)) (λ e.
    omega (arith, normal_form-le N p q some same below, place-before N q (normal_form N p) below.second e))

pub normal_form_iff : (N : ℕ) (p q : Point) → 0 < N → SamePoint N p q ↔ (normal_form N p ≡ normal_form N q)
normal_form_iff N p q some = (
  normal_form-same N p q some,
  λ e. SamePoint_trans (subst (SamePoint N p) e (SamePoint-normal_form N p)) (SamePoint_sym (SamePoint-normal_form N q)),
)

-- a level with a symbol is not 0
level_of : (N k : ℕ) (p : Point) → IsNumber N k p → 0 < N
level_of N k p e = level_positive N k (slice_get_within (symbols N) k p e)

pub symbols_before : (N j k : ℕ) (p q : Point) → IsNumber N j p → IsNumber N k q → j < k → is_before p q ≡ true
symbols_before N j k p q e f before = true_from_ne_false (is_before p q) (λ h.
    omega (arith, symbols_rise N j k p q e f before, place-not_before N p q (symbol_is N k q (level_of N k q f) f).below.second h))

pub symbol_coprime : (N k : ℕ) (p : Point) → IsNumber N k p → common_divisor N p ≡ 1
symbol_coprime N k p e = (symbol_is N k p (level_of N k p e) e).coprime

pub symbol_own : (N k : ℕ) (p : Point) → IsNumber N k p → normal_form N p ≡ p
symbol_own N k p e = (symbol_is N k p (level_of N k p e) e).own

pub action_same : (N : ℕ) (p q : Point) (m : Matrix) → 0 < N → SamePoint N p q → action N p m ≡ action N q m
action_same zero p q m some same = absurd (omega arith)
action_same (suc n) p q m some same = action-same n p q m same

pub action_product : (N : ℕ) (p : Point) (m k : Matrix) → 0 < N → action N (action N p m) k ≡ action N p (product m k)
action_product zero p m k some = absurd (omega arith)
action_product (suc n) p m k some = action-action n p m k

pub image_number_product : (N k : ℕ) (m w : Matrix) → k < length (symbols N) → IsInvertible N m
    → image_number N (image_number N k m) w ≡ image_number N k (product m w)
image_number_product zero k m w within unit = absurd (omega (arith, level_positive 0 k within))
image_number_product (suc n) k m w within unit = image_number-image_number n k m w within unit

pub s_twice : (N k : ℕ) → k < length (symbols N) → image_number N (image_number N k matrix_s) matrix_s ≡ k
s_twice zero k within = absurd (omega (arith, level_positive 0 k within))
s_twice (suc n) k within = image_number-s-s n k within

pub t_thrice : (N k : ℕ) → k < length (symbols N) → image_number N (image_number N (image_number N k matrix_t) matrix_t) matrix_t ≡ k
t_thrice zero k within = absurd (omega (arith, level_positive 0 k within))
t_thrice (suc n) k within = image_number-t-t-t n k within

pub u_round : (N k : ℕ) → k < length (symbols N) → iterate (λ j. image_number N j matrix_u) N k ≡ k
u_round zero k within = absurd (omega (arith, level_positive 0 k within))
u_round (suc n) k within = iterate-u n k within

pub star_twice : (N k : ℕ) → k < length (symbols N) → image_number N (image_number N k matrix_star) matrix_star ≡ k
star_twice zero k within = absurd (omega (arith, level_positive 0 k within))
star_twice (suc n) k within = image_number-star-star n k within

pub star_s : (N k : ℕ) → k < length (symbols N) → image_number N (image_number N k matrix_star) matrix_s
    ≡ image_number N (image_number N k matrix_s) matrix_star
star_s zero k within = absurd (omega (arith, level_positive 0 k within))
star_s (suc n) k within = image_number-star-s n k within

pub star_t : (N k : ℕ) → k < length (symbols N) →
    image_number N (image_number N (image_number N k matrix_star) matrix_t) matrix_star
    ≡ image_number N (image_number N (image_number N (image_number N k matrix_s) matrix_t) matrix_t) matrix_s
star_t zero k within = absurd (omega (arith, level_positive 0 k within))
star_t (suc n) k within = image_number-star-t-star n k within
