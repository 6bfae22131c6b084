-- The normal form is the least pair below N that names the point.
use Rattle.std.proofs.Common.{◌≡◌, ◌+◌, ◌*◌, ◌%◌, ◌<◌, ◌≤◌, ℕ, zero, suc, Bool, true, List, [], ◌∷◌, sym, ◌∙◌, ap, subst, inl, inr, arith}
use Rattle.std.specs.Prelude.{map, filter}
use Rattle.std.specs.List.{range_with_len}
use Rattle.std.proofs.Math.Nat.{mod-lt, mod-eq_of_lt, le_trans}
use Rattle.std.proofs.lemmas.Nat.{mul-mod_first}
use Rattle.std.proofs.lemmas.Bool.{cases_eq, cond_both, false≢true}
use Rattle.p1_normal.specs.declared.point.Point.{Point}
use Rattle.p1_normal.specs.Units.{IsUnit, is_unit}
use Rattle.p1_normal.specs.Points.{pair_multiple, SamePoint, earlier, least, normal_form, IsBelow}
use Rattle.p1_normal.specs.Tables.{place}
use Rattle.p1_normal.proofs.Units.{IsUnit-one, IsUnit-mod}
use Rattle.p1_normal.proofs.UnitTests.{IsUnit-from_test, test_from_IsUnit}
use Rattle.p1_normal.proofs.SamePoints.{SamePoint_sym, SamePoint_trans, SamePoint-pair_multiple}
use Rattle.p1_normal.proofs.Places.{same_point, place_inj, place-earlier_left, place-earlier_right, earlier_is}

-- what holds of q and of each f s that passes holds of the least
least_is : (P : Point → Type 0) (f : ℕ → Point) (t : ℕ → Bool) → ((s : ℕ) → t s ≡ true → P (f s)) → (xs : List ℕ) (q : Point) → P q
    → P (least q (map f (filter t xs)))
least_is P f t each [] q h = h
least_is P f t each (x ∷ xs) q h = cond_both (t x) (x ∷ filter t xs) (filter t xs) (λ ys. P (least q (map f ys)))
    (λ e. least_is P f t each xs (earlier q (f x)) (earlier_is P q (f x) h (each x e)))
    (λ e. least_is P f t each xs q h)

least-le_first : (N : ℕ) (f : ℕ → Point) (t : ℕ → Bool) → ((s : ℕ) → (f s).v < N) → (xs : List ℕ) (q : Point) → q.v < N
    → place N (least q (map f (filter t xs))) ≤ place N q
least-le_first N f t each [] q h = omega arith
least-le_first N f t each (x ∷ xs) q h = cond_both (t x) (x ∷ filter t xs) (filter t xs) (λ ys. place N (least q (map f ys)) ≤ place N q)
    (λ e. le_trans (least-le_first N f t each xs (earlier q (f x)) (earlier_is (λ p. p.v < N) q (f x) h (each x)))
    (place-earlier_left N q (f x) h (each x)))
    (λ e. least-le_first N f t each xs q h)

least-le : (N : ℕ) (f : ℕ → Point) (t : ℕ → Bool) → ((s : ℕ) → (f s).v < N) → (a n s : ℕ) (q : Point) → q.v < N → a ≤ s → s < a + n → t s ≡ true
    → place N (least q (map f (filter t (range_with_len a n)))) ≤ place N (f s)
least-le N f t each a zero s q h low high e = absurd (omega arith)
least-le N f t each a (suc n) s q h low high e =
    let rest : List ℕ = filter t (range_with_len (a + 1) n) in
    let after : (f a).v < N = each a in
    let kept : (earlier q (f a)).v < N = earlier_is (λ p. p.v < N) q (f a) h after in
    cond_both (t a) (a ∷ rest) rest (λ ys. place N (least q (map f ys)) ≤ place N (f s))
    (λ passes. elim (cases_eq a s) [
      | inl same ↦ subst (λ k. place N (least (earlier q (f a)) (map f rest)) ≤ place N (f k)) same
          (le_trans (least-le_first N f t each (range_with_len (a + 1) n) (earlier q (f a)) kept) (place-earlier_right N q (f a) h after))
      | inr other ↦ least-le N f t each (a + 1) n s (earlier q (f a)) kept (omega arith) (omega arith) e
    ])
    (λ fails. elim (cases_eq a s) [
      | inl same ↦ absurd (false≢true (sym fails ∙ ap t same ∙ e))
      | inr other ↦ least-le N f t each (a + 1) n s q h (omega arith) (omega arith) e
    ])

-- what holds of each multiple by a unit holds of the normal form
pub normal_form_is : (N : ℕ) (p : Point) (P : Point → Type 0) → ((s : ℕ) → IsUnit N s → P (pair_multiple N s p)) → P (normal_form N p)
unfolding normal_form
normal_form_is N p P each = least_is P (λ s. pair_multiple N s p) (is_unit N) (λ s e. each s (IsUnit-from_test N s e)) (range_with_len 0 N)
    (pair_multiple N 1 p) (each 1 (IsUnit-one N))

pub SamePoint-normal_form : (N : ℕ) (p : Point) → SamePoint N p (normal_form N p)
SamePoint-normal_form N p = normal_form_is N p (SamePoint N p) (λ s h. SamePoint-pair_multiple N s p h)

pub IsBelow-pair_multiple : (N s : ℕ) (p : Point) → 0 < N → IsBelow N (pair_multiple N s p)
IsBelow-pair_multiple N s p some = record { first = mod-lt (s * p.u) some; second = mod-lt (s * p.v) some }

pub IsBelow-normal_form : (N : ℕ) (p : Point) → 0 < N → IsBelow N (normal_form N p)
IsBelow-normal_form N p some = normal_form_is N p (IsBelow N) (λ s h. IsBelow-pair_multiple N s p some)

-- a pair below N that names the point p is a multiple of p by a unit below N
pub scaled_is : (N : ℕ) (p q : Point) (h : SamePoint N p q) → IsBelow N q → pair_multiple N (h.factor % N) p ≡ q
scaled_is N p q h below = same_point (pair_multiple N (h.factor % N) p) q
    (mul-mod_first h.factor p.u N ∙ h.first ∙ mod-eq_of_lt below.first)
    (mul-mod_first h.factor p.v N ∙ h.second ∙ mod-eq_of_lt below.second)

-- the normal form is not after any pair below N that names the point
pub normal_form-le : (N : ℕ) (p q : Point) → 0 < N → SamePoint N p q → IsBelow N q → place N (normal_form N p) ≤ place N q
unfolding normal_form
normal_form-le N p q some h below =
    let small : h.factor % N < N = mod-lt h.factor some in
    let first : place N (normal_form N p) ≤ place N (pair_multiple N (h.factor % N) p) =
    least-le N (λ s. pair_multiple N s p) (is_unit N) (λ s. mod-lt (s * p.v) some) 0 N (h.factor % N) (pair_multiple N 1 p) (mod-lt (1 * p.v) some)
    (omega arith) (omega arith) (test_from_IsUnit N (h.factor % N) some (IsUnit-mod N h.factor h.unit)) in
    subst (λ r. place N (normal_form N p) ≤ place N r) (scaled_is N p q h below) first

-- two names of one point have one normal form
pub normal_form-same : (N : ℕ) (p q : Point) → 0 < N → SamePoint N p q → normal_form N p ≡ normal_form N q
normal_form-same N p q some h =
    let below_p = IsBelow-normal_form N p some in
    let below_q = IsBelow-normal_form N q some in
    let forth = normal_form-le N p (normal_form N q) some (SamePoint_trans h (SamePoint-normal_form N q)) below_q in
    let back = normal_form-le N q (normal_form N p) some (SamePoint_trans (SamePoint_sym h) (SamePoint-normal_form N p)) below_p in
    place_inj N (normal_form N p) (normal_form N q) below_p.second below_q.second (omega arith)
