-- Values of polynomials in linear operators: that of a sum is the sum, and that of a product is one value after the other.
use Rattle.std.proofs.Common.{◌≡◌, ◌+◌, ◌*◌, ◌%◌, ◌<◌, ℕ, zero, suc, Bool, true, false, List, [], ◌∷◌, ◌++◌, if◌then◌else◌, map, All, nat_eq, refl, sym, ◌∙◌, ap, arith, eqb-true}
use Rattle.std.specs.Prelude.{ℤ, pos, neg_ℤ, ◌+ℤ◌, ◌*ℤ◌}
use Rattle.std.proofs.Math.Nat.{mod-mod}
use Rattle.std.proofs.lemmas.Bool.{and_parts}
use Rattle.std.proofs.lemmas.Int.{ints}
use Rattle.std.proofs.lemmas.List.Elements.{All-nil, All-cons, All-head, All-tail, All-append, All-map, All-weaker}
use Rattle.linear_algebra.specs.Residue.{Residue, residue, ◌⊕◌, ◌⊗◌}
use Rattle.linear_algebra.specs.Integers.{residue_of}
use Rattle.linear_algebra.specs.Vector.{Vector, ◌⊞◌, ◌⊡◌, zeros}
use Rattle.linear_algebra.proofs.ResidueLaws
use Rattle.linear_algebra.proofs.Vectors.{plus_comm, plus_assoc, plus_left_comm, plus-zeros, plus-scale, scale-plus, scale-scale, zero-scale, scale-zeros, one-scale}
use Rattle.p1_normal.proofs.Residues
use Rattle.merel_theorem.specs.Polynomials.{Term, term, Polynomial, same_numbers, add_term, plus, term_times, times, constant, variable, power_polynomial, integer_residue, product_value, polynomial_value, HasPrimes}

-- ---- integers modulo p
folded : (p a : ℕ) → residue p (a % p) ≡ residue p a
folded p a = ResidueLaws.same_from_mod p (a % p) a (mod-mod a p)

pub integer-add : (p : ℕ) → 0 < p → (x y : ℤ) → integer_residue p (x +ℤ y) ≡ integer_residue p x ⊕ integer_residue p y
integer-add zero some x y = absurd (omega (arith, some))
integer-add (suc n) some x y = ap (residue (suc n)) (Residues.residue-add n x y) ∙ folded (suc n) (residue_of (suc n) x + residue_of (suc n) y)
    ∙ sym (ResidueLaws.residue-add (suc n) (residue_of (suc n) x) (residue_of (suc n) y))

pub integer-mul : (p : ℕ) → 0 < p → (x y : ℤ) → integer_residue p (x *ℤ y) ≡ integer_residue p x ⊗ integer_residue p y
integer-mul zero some x y = absurd (omega (arith, some))
integer-mul (suc n) some x y = ap (residue (suc n)) (Residues.residue-mul n x y) ∙ folded (suc n) (residue_of (suc n) x * residue_of (suc n) y)
    ∙ sym (ResidueLaws.residue-mul (suc n) (residue_of (suc n) x) (residue_of (suc n) y))

pub integer-natural : (p a : ℕ) → integer_residue p (pos a) ≡ residue p a
integer-natural p a = ap (residue p) (Residues.residue-pos p a) ∙ folded p a

-- a and -a cancel
pub integer-opposite : (p : ℕ) → 0 < p → (a : ℕ) → residue p a ⊕ integer_residue p (neg_ℤ (pos a)) ≡ residue p 0
integer-opposite p some a =
    let none : pos a +ℤ neg_ℤ (pos a) ≡ pos 0 = omega (arith, ints) in
    ap (λ r. r ⊕ integer_residue p (neg_ℤ (pos a))) (sym (integer-natural p a)) ∙ sym (integer-add p some (pos a) (neg_ℤ (pos a)))
    ∙ ap (integer_residue p) none ∙ integer-natural p 0

-- ---- lists that pass the test are equal
same_from_test : (rs qs : List ℕ) → same_numbers rs qs ≡ true → rs ≡ qs
same_from_test [] [] e = refl
same_from_test [] (q ∷ qs) e = absurd cc
same_from_test (r ∷ rs) [] e = absurd cc
same_from_test (r ∷ rs) (q ∷ qs) e =
    let (first, rest) = and_parts (nat_eq r q) (same_numbers rs qs) e in
    let head : r ≡ q = eqb-true r q first in
    let tail : rs ≡ qs = same_from_test rs qs rest in
    ap (λ i. i ∷ rs) head ∙ ap (λ is. q ∷ is) tail

-- ---- linear operators
pub record IsLinear {p : ℕ} (f : Vector p → Vector p) : Type 0 where
  pub plus : (x y : Vector p) → f (x ⊞ y) ≡ f x ⊞ f y
  pub scale : (a : Residue p) (x : Vector p) → f (a ⊡ x) ≡ a ⊡ f x

module _ {p : ℕ} (positive : 0 < p) (t : ℕ → Vector p → Vector p) (linear : (q : ℕ) → IsLinear (t q)) where
  monomial-plus : (qs : List ℕ) (x y : Vector p) → product_value t qs (x ⊞ y) ≡ product_value t qs x ⊞ product_value t qs y
  monomial-plus [] x y = refl
  monomial-plus (q ∷ qs) x y = ap (t q) (monomial-plus qs x y) ∙ (linear q).plus (product_value t qs x) (product_value t qs y)

  monomial-scale : (qs : List ℕ) (a : Residue p) (x : Vector p) → product_value t qs (a ⊡ x) ≡ a ⊡ product_value t qs x
  monomial-scale [] a x = refl
  monomial-scale (q ∷ qs) a x = ap (t q) (monomial-scale qs a x) ∙ (linear q).scale a (product_value t qs x)

  monomial-zeros : (qs : List ℕ) → product_value t qs zeros ≡ zeros
  monomial-zeros qs = ap (product_value t qs) (sym (zero-scale zeros)) ∙ monomial-scale qs (residue p 0) zeros ∙ zero-scale (product_value t qs zeros)

  monomial-append : (rs qs : List ℕ) (x : Vector p) → product_value t (rs ++ qs) x ≡ product_value t rs (product_value t qs x)
  monomial-append [] qs x = refl
  monomial-append (r ∷ rs) qs x = ap (t r) (monomial-append rs qs x)

  abbrev term_value : Term → Vector p → Vector p
  term_value s x = integer_residue p s.coefficient ⊡ product_value t s.primes x

  -- ---- sums
  value-add_term : (s : Term) (f : Polynomial) (x : Vector p) → polynomial_value t (add_term s f) x ≡ term_value s x ⊞ polynomial_value t f x
  value-add_term s [] x = refl
  value-add_term s (u ∷ f) x = by (same_numbers s.primes u.primes) refl (value-add_term s f x)
    where
      joined : (a b : Residue p) (v w : Vector p) → (a ⊕ b) ⊡ v ⊞ w ≡ b ⊡ v ⊞ (a ⊡ v ⊞ w)
      joined a b v w = ap (λ y. y ⊞ w) (plus-scale a b v ∙ plus_comm (a ⊡ v) (b ⊡ v)) ∙ plus_assoc (b ⊡ v) (a ⊡ v) w

      by : (b : Bool) → same_numbers s.primes u.primes ≡ b → polynomial_value t (add_term s f) x ≡ term_value s x ⊞ polynomial_value t f x
          → polynomial_value t (if b then term (u.coefficient +ℤ s.coefficient) u.primes ∷ f else u ∷ add_term s f) x
          ≡ term_value s x ⊞ polynomial_value t (u ∷ f) x
      by true e rest =
          ap (λ a. a ⊡ product_value t u.primes x ⊞ polynomial_value t f x) (integer-add p positive u.coefficient s.coefficient)
          ∙ joined (integer_residue p u.coefficient) (integer_residue p s.coefficient) (product_value t u.primes x) (polynomial_value t f x)
          ∙ ap (λ qs. integer_residue p s.coefficient ⊡ product_value t qs x ⊞ polynomial_value t (u ∷ f) x)
          (sym (same_from_test s.primes u.primes e))
      by false e rest = ap (λ v. term_value u x ⊞ v) rest ∙ plus_left_comm (term_value u x) (term_value s x) (polynomial_value t f x)

  pub value-plus : (f g : Polynomial) (x : Vector p) → polynomial_value t (plus f g) x ≡ polynomial_value t f x ⊞ polynomial_value t g x
  value-plus f [] x = sym (plus-zeros (polynomial_value t f x))
  value-plus f (s ∷ g) x = value-plus (add_term s f) g x
      ∙ ap (λ v. v ⊞ polynomial_value t g x) (value-add_term s f x ∙ plus_comm (term_value s x) (polynomial_value t f x))
      ∙ plus_assoc (polynomial_value t f x) (term_value s x) (polynomial_value t g x)

  -- ---- products
  value-term_times : (s : Term) (g : Polynomial) (x : Vector p)
      → polynomial_value t (map (term_times s) g) x ≡ integer_residue p s.coefficient ⊡ product_value t s.primes (polynomial_value t g x)
  value-term_times s [] x =
      sym (ap (λ v. integer_residue p s.coefficient ⊡ v) (monomial-zeros s.primes) ∙ scale-zeros (integer_residue p s.coefficient))
  value-term_times s (u ∷ g) x =
      let a : Residue p = integer_residue p s.coefficient in
      let b : Residue p = integer_residue p u.coefficient in
      let y : Vector p = product_value t u.primes x in
      let z : Vector p = polynomial_value t g x in
      ap (λ v. term_value (term_times s u) x ⊞ v) (value-term_times s g x)
      ∙ ap (λ v. v ⊞ a ⊡ product_value t s.primes z)
      (ap (λ c. c ⊡ product_value t (s.primes ++ u.primes) x) (integer-mul p positive s.coefficient u.coefficient)
      ∙ ap (λ v. (a ⊗ b) ⊡ v) (monomial-append s.primes u.primes x) ∙ scale-scale a b (product_value t s.primes y)
      ∙ ap (λ v. a ⊡ v) (sym (monomial-scale s.primes b y)))
      ∙ sym (scale-plus a (product_value t s.primes (b ⊡ y)) (product_value t s.primes z))
      ∙ ap (λ v. a ⊡ v) (sym (monomial-plus s.primes (b ⊡ y) z))

  pub value-times : (f g : Polynomial) (x : Vector p) → polynomial_value t (times f g) x ≡ polynomial_value t f (polynomial_value t g x)
  value-times [] g x = refl
  value-times (s ∷ f) g x = value-plus (map (term_times s) g) (times f g) x
      ∙ ap (λ v. v ⊞ polynomial_value t (times f g) x) (value-term_times s g x)
      ∙ ap (λ v. integer_residue p s.coefficient ⊡ product_value t s.primes (polynomial_value t g x) ⊞ v) (value-times f g x)

  -- ---- constants, variables and powers
  pub value-constant : (c : ℤ) (x : Vector p) → polynomial_value t (constant c) x ≡ integer_residue p c ⊡ x
  value-constant c x = plus-zeros (integer_residue p c ⊡ x)

  pub value-one : (x : Vector p) → polynomial_value t (constant (pos 1)) x ≡ x
  value-one x = value-constant (pos 1) x ∙ ap (λ a. a ⊡ x) (integer-natural p 1) ∙ one-scale x

  pub value-variable : (q : ℕ) (x : Vector p) → polynomial_value t (variable q) x ≡ t q x
  value-variable q x = plus-zeros (integer_residue p (pos 1) ⊡ t q x) ∙ ap (λ a. a ⊡ t q x) (integer-natural p 1) ∙ one-scale (t q x)

  pub value-power : (q r : ℕ) (x : Vector p) → polynomial_value t (power_polynomial q (suc (suc r))) x
      ≡ t q (polynomial_value t (power_polynomial q (suc r)) x) ⊞ integer_residue p (neg_ℤ (pos q)) ⊡ polynomial_value t (power_polynomial q r) x
  value-power q r x =
      let f : Polynomial = power_polynomial q (suc r) in
      let g : Polynomial = power_polynomial q r in
      let c : ℤ = neg_ℤ (pos q) in
      value-plus (times (variable q) f) (times (constant c) g) x
      ∙ ap (λ v. v ⊞ polynomial_value t (times (constant c) g) x) (value-times (variable q) f x ∙ value-variable q (polynomial_value t f x))
      ∙ ap (λ v. t q (polynomial_value t f x) ⊞ v) (value-times (constant c) g x ∙ value-constant c (polynomial_value t g x))

-- ---- the primes of sums and products
module _ (P : ℕ → Type 0) where
  abbrev Inside : Term → Type 0
  Inside s = All P s.primes

  add_term-primes : (s : Term) (f : Polynomial) → All P s.primes → HasPrimes P f → HasPrimes P (add_term s f)
  add_term-primes s [] h k = All-cons Inside s [] h k
  add_term-primes s (u ∷ f) h k = by (same_numbers s.primes u.primes) (add_term-primes s f h (All-tail Inside u f k))
    where
      by : (b : Bool) → HasPrimes P (add_term s f) → HasPrimes P (if b then term (u.coefficient +ℤ s.coefficient) u.primes ∷ f else u ∷ add_term s f)
      by true rest = All-cons Inside (term (u.coefficient +ℤ s.coefficient) u.primes) f (All-head Inside u f k) (All-tail Inside u f k)
      by false rest = All-cons Inside u (add_term s f) (All-head Inside u f k) rest

  plus-primes : (f g : Polynomial) → HasPrimes P f → HasPrimes P g → HasPrimes P (plus f g)
  plus-primes f [] h k = h
  plus-primes f (s ∷ g) h k = plus-primes (add_term s f) g (add_term-primes s f (All-head Inside s g k) h) (All-tail Inside s g k)

  pub times-primes : (f g : Polynomial) → HasPrimes P f → HasPrimes P g → HasPrimes P (times f g)
  times-primes [] g h k = All-nil Inside
  times-primes (s ∷ f) g h k = plus-primes (map (term_times s) g) (times f g)
      (All-map Inside (term_times s) g
      (All-weaker Inside (λ (u : Term). Inside (term_times s u)) (λ u m. All-append P s.primes u.primes (All-head Inside s f h) m) g k))
      (times-primes f g (All-tail Inside s f h) k)

  pub constant-primes : (c : ℤ) → HasPrimes P (constant c)
  constant-primes c = All-cons Inside (term c []) [] (All-nil P) (All-nil Inside)

  variable-primes : (q : ℕ) → P q → HasPrimes P (variable q)
  variable-primes q h = All-cons Inside (term (pos 1) (q ∷ [])) [] (All-cons P q [] h (All-nil P)) (All-nil Inside)

  pub power-primes : (q r : ℕ) → P q → HasPrimes P (power_polynomial q r)
  power-primes q zero h = constant-primes (pos 1)
  power-primes q (suc zero) h = variable-primes q h
  power-primes q (suc (suc r)) h =
      plus-primes (times (variable q) (power_polynomial q (suc r))) (times (constant (neg_ℤ (pos q))) (power_polynomial q r))
      (times-primes (variable q) (power_polynomial q (suc r)) (variable-primes q h) (power-primes q (suc r) h))
      (times-primes (constant (neg_ℤ (pos q))) (power_polynomial q r) (constant-primes (neg_ℤ (pos q))) (power-primes q r h))

pub primes_weaker : (P Q : ℕ → Type 0) → ((q : ℕ) → P q → Q q) → (f : Polynomial) → HasPrimes P f → HasPrimes Q f
primes_weaker P Q wider f h = All-weaker (λ (s : Term). All P s.primes) (λ s. All Q s.primes) (λ s k. All-weaker P Q wider s.primes k) f h

-- ---- a relation that sums, multiples and the operators keep is kept by values
module _ {p : ℕ} (t u : ℕ → Vector p → Vector p) (R : Vector p → Vector p → Type 0) (Q : ℕ → Type 0) (none : R zeros zeros)
    (plus_kept : (x y v w : Vector p) → R x v → R y w → R (x ⊞ y) (v ⊞ w)) (scale_kept : (a : Residue p) (x v : Vector p) → R x v → R (a ⊡ x) (a ⊡ v))
    (operator_kept : (q : ℕ) → Q q → (x v : Vector p) → R x v → R (t q x) (u q v)) where
  monomial_kept : (qs : List ℕ) → All Q qs → (x v : Vector p) → R x v → R (product_value t qs x) (product_value u qs v)
  monomial_kept [] h x v r = r
  monomial_kept (q ∷ qs) h x v r =
      operator_kept q (All-head Q q qs h) (product_value t qs x) (product_value u qs v) (monomial_kept qs (All-tail Q q qs h) x v r)

  pub value_kept : (f : Polynomial) → HasPrimes Q f → (x v : Vector p) → R x v → R (polynomial_value t f x) (polynomial_value u f v)
  value_kept [] h x v r = none
  value_kept (s ∷ f) h x v r =
      let a : Residue p = integer_residue p s.coefficient in
      plus_kept (a ⊡ product_value t s.primes x) (polynomial_value t f x) (a ⊡ product_value u s.primes v) (polynomial_value u f v)
      (scale_kept a (product_value t s.primes x) (product_value u s.primes v)
      (monomial_kept s.primes (All-head (λ (s : Term). All Q s.primes) s f h) x v r))
      (value_kept f (All-tail (λ (s : Term). All Q s.primes) s f h) x v r)
