-- Operators: a matrix is the list of its columns, and column j is the image of the unit vector at j (Axler, Linear Algebra Done Right, ch. 3 and 5).
--   apply a v            A v, the combination of the columns by v
--   power n a v          A applied n times to v
--   polynomial_at f a v  f(A) v, where f is the list of its coefficients from the constant up
--   Commute a b          A and B applied one after the other give one vector in both orders
--   IsStable a rows      A sends each vector of the span of the rows into it
--   InImage n a rows v   v is A applied n times to a vector of the span of the rows
--   InKernel n a rows v  v is in the span of the rows, and A applied n times sends it to 0
use Rattle.std.specs.Prelude.{◌≡◌, ℕ, List, [], ◌∷◌}
use Rattle.std.proofs.Common.{zero, suc}
use Rattle.linear_algebra.specs.Residue.{Residue}
use Rattle.linear_algebra.specs.Vector.{Vector, ◌⊞◌, ◌⊡◌, zeros, combination}
use Rattle.linear_algebra.specs.Span.{InSpan}

abbrev pub apply : {p : ℕ} → List (Vector p) → Vector p → Vector p
apply columns v = combination v columns

abbrev pub power : {p : ℕ} → ℕ → List (Vector p) → Vector p → Vector p
power zero a v = v
power (suc n) a v = apply a (power n a v)

abbrev pub polynomial_at : {p : ℕ} → List (Residue p) → List (Vector p) → Vector p → Vector p
polynomial_at [] a v = zeros
polynomial_at (f ∷ fs) a v = (f ⊡ v) ⊞ polynomial_at fs a (apply a v)

pub record Commute {p : ℕ} (a b : List (Vector p)) : Type 0 where
  pub same : (v : Vector p) → apply a (apply b v) ≡ apply b (apply a v)

pub record IsStable {p : ℕ} (a rows : List (Vector p)) : Type 0 where
  pub stays : (v : Vector p) → InSpan rows v → InSpan rows (apply a v)

pub record InImage {p : ℕ} (n : ℕ) (a rows : List (Vector p)) (v : Vector p) : Type 0 where
  pub source : Vector p
  pub inside : InSpan rows source
  pub is_value : v ≡ power n a source

pub record InKernel {p : ℕ} (n : ℕ) (a rows : List (Vector p)) (v : Vector p) : Type 0 where
  pub inside : InSpan rows v
  pub is_zero : power n a v ≡ zeros
