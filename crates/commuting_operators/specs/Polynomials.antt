-- The matrices of Hecke operators as polynomials in those of prime index (Diamond and Shurman, A First Course in Modular Forms, 5.3; Stein,
-- Modular Forms: A Computational Approach, chapter 3). A ground g is a level N and a characteristic p; d is the dimension of its space.
--   ArePrimeMatrices g n matrices   matrices q is the matrix of T_q, for each prime q that divides n
--   matrix_value g matrices f v     the value at v of the polynomial f, with the matrix q in the place of T_q
--   MatricesArePolynomials          where n is coprime to N, the matrix of T_n times a vector v of length d is the value at v of the polynomial of n
--   ColumnsArePolynomials           and its column j is the value at the unit vector j
use Rattle.std.specs.Prelude.{◌≡◌, ◌<◌, ℕ, List}
use Rattle.linear_algebra.specs.Prime.{IsPrime}
use Rattle.linear_algebra.specs.Vector.{Vector, EndsBefore}
use Rattle.linear_algebra.specs.Span.{row}
use Rattle.linear_algebra.specs.Dense.{dense_rows}
use Rattle.linear_algebra.specs.Coordinates.{unit}
use Rattle.p1_normal.specs.Units.{gcd}
use Rattle.quotient_coords.specs.Quotient.{Ground, dimension}
use Rattle.stable_subspaces.specs.Operator.{apply}
use Rattle.op_polynomials.specs.declared.name.OpName.TheVariants as ops
use Rattle.split_state.specs.Versions.{IsOperatorMatrix}
use Rattle.merel_theorem.specs.PrimePowers.{IsPrimeDivisor}
use Rattle.merel_theorem.specs.Polynomials.{Polynomial, hecke_polynomial, polynomial_value}

abbrev pub ArePrimeMatrices : Ground → ℕ → (ℕ → List (List ℕ)) → Type 0
ArePrimeMatrices g n matrices = (q : ℕ) → IsPrimeDivisor n q → IsOperatorMatrix g (ops.T q) (matrices q)

abbrev pub matrix_value : (g : Ground) → (ℕ → List (List ℕ)) → Polynomial → Vector g.characteristic → Vector g.characteristic
matrix_value g matrices f v = polynomial_value (λ q. apply (dense_rows g.characteristic (matrices q))) f v

abbrev pub MatricesArePolynomials : Type 0
MatricesArePolynomials = (g : Ground) (n : ℕ) (matrices : ℕ → List (List ℕ)) (columns : List (List ℕ)) (v : Vector g.characteristic)
    → IsPrime g.characteristic → 0 < n → gcd n g.level ≡ 1 → ArePrimeMatrices g n matrices → IsOperatorMatrix g (ops.T n) columns
    → EndsBefore (dimension g.level g.characteristic) v
    → apply (dense_rows g.characteristic columns) v ≡ matrix_value g matrices (hecke_polynomial n) v

abbrev pub ColumnsArePolynomials : Type 0
ColumnsArePolynomials = (g : Ground) (n : ℕ) (matrices : ℕ → List (List ℕ)) (columns : List (List ℕ)) (j : ℕ)
    → IsPrime g.characteristic → 0 < n → gcd n g.level ≡ 1 → ArePrimeMatrices g n matrices → IsOperatorMatrix g (ops.T n) columns
    → j < dimension g.level g.characteristic
    → row (dense_rows g.characteristic columns) j ≡ matrix_value g matrices (hecke_polynomial n) (unit j)
