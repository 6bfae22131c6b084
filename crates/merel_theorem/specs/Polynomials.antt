-- Polynomials with integer coefficients in variables T_q, one for each prime q, and those by which the Hecke operator T_n of weight 2 is made
-- from the T_q (Diamond and Shurman, A First Course in Modular Forms, 5.3; Stein, Modular Forms: A Computational Approach, chapter 3).
--   Term                  an integer times a product of T_q: its coefficient, and the primes q, each as often as T_q is a factor
--   term c qs             the term with this coefficient and these primes
--   Polynomial            a sum of terms
--   same_numbers ps qs    the test that two lists of numbers are equal
--   add_term t f          f + t, where t and a term of f with the same primes become one
--   plus f g, times f g   f + g and f g
--   term_times s t        the product of two terms: the primes of s, then those of t
--   constant c            the integer c
--   variable q            T_q
--   power_polynomial q r  T_(q^r): 1 for r = 0, T_q for r = 1, then T_q T_(q^(r-1)) - q T_(q^(r-2))
--   product_polynomial powers
--                         the product of T_(q^e) over the pairs (q, e)
--   hecke_polynomial n    T_n: the product of T_(q^e) over the powers q^e of primes whose product is n
--   integer_residue p c   the integer c modulo p
--   product_value t qs x  the operators t q for the q of the list applied to x one after the other, that of the last q first
--   polynomial_value t f x
--                         f(x) with the operator t q in the place of T_q: the sum of each coefficient modulo p times the value of its product
--   HasPrimes P f         each prime of each term satisfies P
use Rattle.std.specs.Prelude.{ℕ, ℤ, pos, neg_ℤ, ◌+ℤ◌, ◌*ℤ◌, List, [], ◌∷◌, ◌++◌, map, Bool, true, false, nat_eq, ◌&&◌, if◌then◌else◌, All}
use Rattle.std.proofs.Common.{zero, suc}
use Rattle.linear_algebra.specs.Residue.{Residue, residue}
use Rattle.linear_algebra.specs.Integers.{residue_of}
use Rattle.linear_algebra.specs.Vector.{Vector, ◌⊞◌, ◌⊡◌, zeros}
use Rattle.merel_theorem.specs.PrimePowers.{prime_powers}

pub record Term : Type 0 where
  pub coefficient : ℤ
  pub primes : List ℕ

abbrev pub term : ℤ → List ℕ → Term
term c qs = record { coefficient = c; primes = qs }

abbrev pub Polynomial : Type 0
Polynomial = List Term

abbrev pub same_numbers : List ℕ → List ℕ → Bool
same_numbers [] [] = true
same_numbers [] (q ∷ qs) = false
same_numbers (r ∷ rs) [] = false
same_numbers (r ∷ rs) (q ∷ qs) = nat_eq r q && same_numbers rs qs

abbrev pub add_term : Term → Polynomial → Polynomial
add_term t [] = t ∷ []
add_term t (s ∷ f) = if same_numbers t.primes s.primes then term (s.coefficient +ℤ t.coefficient) s.primes ∷ f else s ∷ add_term t f

abbrev pub plus : Polynomial → Polynomial → Polynomial
plus f [] = f
plus f (t ∷ g) = plus (add_term t f) g

abbrev pub term_times : Term → Term → Term
term_times s t = term (s.coefficient *ℤ t.coefficient) (s.primes ++ t.primes)

abbrev pub times : Polynomial → Polynomial → Polynomial
times [] g = []
times (s ∷ f) g = plus (map (term_times s) g) (times f g)

abbrev pub constant : ℤ → Polynomial
constant c = term c [] ∷ []

abbrev pub variable : ℕ → Polynomial
variable q = term (pos 1) (q ∷ []) ∷ []

abbrev pub power_polynomial : ℕ → ℕ → Polynomial
power_polynomial q zero = constant (pos 1)
power_polynomial q (suc zero) = variable q
power_polynomial q (suc (suc r)) = plus (times (variable q) (power_polynomial q (suc r))) (times (constant (neg_ℤ (pos q))) (power_polynomial q r))

abbrev pub product_polynomial : List (ℕ × ℕ) → Polynomial
product_polynomial [] = constant (pos 1)
product_polynomial (t ∷ powers) = times (power_polynomial t.0 t.1) (product_polynomial powers)

unfoldable pub hecke_polynomial : ℕ → Polynomial
hecke_polynomial n = product_polynomial (prime_powers n)

abbrev pub integer_residue : (p : ℕ) → ℤ → Residue p
integer_residue p c = residue p (residue_of p c)

abbrev pub product_value : {p : ℕ} → (ℕ → Vector p → Vector p) → List ℕ → Vector p → Vector p
product_value t [] x = x
product_value t (q ∷ qs) x = t q (product_value t qs x)

abbrev pub polynomial_value : {p : ℕ} → (ℕ → Vector p → Vector p) → Polynomial → Vector p → Vector p
polynomial_value t [] x = zeros
polynomial_value {p} t (s ∷ f) x = (integer_residue p s.coefficient ⊡ product_value t s.primes x) ⊞ polynomial_value t f x

abbrev pub HasPrimes : (ℕ → Type 0) → Polynomial → Type 0
HasPrimes P f = All (λ (t : Term). All P t.primes) f
