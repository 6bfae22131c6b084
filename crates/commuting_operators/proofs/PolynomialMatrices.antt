-- The polynomial of n in the matrices of the T_q gives the coordinates of its value in Merel's sums, which is the sum of determinant n.
use Rattle.std.proofs.Common.{◌≡◌, ◌<◌, ℕ, List, length, map, sym, ◌∙◌, subst, arith}
use Rattle.std.proofs.lemmas.List.{length-map}
use Rattle.linear_algebra.specs.Prime.{IsPrime}
use Rattle.linear_algebra.specs.Residue.{Residue}
use Rattle.linear_algebra.specs.Vector.{Vector, ◌⊞◌, ◌⊡◌, zeros, combination, EndsBefore}
use Rattle.linear_algebra.specs.Span.{row}
use Rattle.linear_algebra.specs.Dense.{dense, dense_rows}
use Rattle.linear_algebra.specs.Coordinates.{IsCoordinates, at_places, unit}
use Rattle.linear_algebra.proofs.Vectors.{combination-plus, combination-scale, combination-zeros}
use Rattle.linear_algebra.proofs.Congruence.{Congruent_refl, Congruent_sym, Congruent_trans, Congruent-plus, Congruent-scale}
use Rattle.linear_algebra.proofs.Coordinates.{coordinates_once, unit_elsewhere}
use Rattle.linear_algebra.proofs.Elimination.{combination-unit}
use Rattle.linear_algebra.proofs.Support.{EndsBefore-zeros, EndsBefore-plus, EndsBefore-scale}
use Rattle.p1_normal.specs.Units.{gcd}
use Rattle.p1_normal.specs.Points.{symbols}
use Rattle.manin_relations.specs.Relations.{relations, Congruent}
use Rattle.manin_relations.proofs.RelationLaws.{EndsBefore-relations}
use Rattle.quotient_coords.specs.Quotient.{Ground, dimension, free_symbols}
use Rattle.quotient_coords.specs.Maps.{IsMatrixOf}
use Rattle.quotient_coords.proofs.Maps.{matrix_of_image}
use Rattle.quotient_coords.proofs.Spaces.{free_symbols_below}
use Rattle.quotient_coords.proofs.Sums.{EndsBefore-at_places}
use Rattle.stable_subspaces.specs.Operator.{apply}
use Rattle.heilbronn_sets.specs.Merel.{merel_matrices}
use Rattle.hecke_columns.specs.Hecke.{merel_sum}
use Rattle.hecke_ops.proofs.Sums.{hecke_sum-combination}
use Rattle.op_polynomials.specs.declared.name.OpName.TheVariants as ops
use Rattle.split_state.specs.Versions.{IsOperatorMatrix}
use Rattle.merel_theorem.specs.PrimePowers.{IsPrimeDivisor}
use Rattle.merel_theorem.specs.Polynomials.{hecke_polynomial, polynomial_value}
use Rattle.merel_theorem.proofs.Respects.{merel_congruent}
use Rattle.merel_theorem.proofs.Values.{value_kept}
use Rattle.merel_theorem.proofs.PolynomialPrimes.{prime_divisors}
use Rattle.merel_theorem.proofs.PolynomialLaws.{divisor_coprime, merel_polynomial}
use Rattle.commuting_operators.specs.Polynomials.{ArePrimeMatrices, matrix_value}

module _ {p : ℕ} (positive : 0 < p) (N : ℕ) where
  abbrev Has : Vector p → Vector p → Type 0
  Has x v = IsCoordinates (length (symbols N)) (relations N) x v

  abbrev free : List ℕ
  free = free_symbols N p

  -- the coordinates of 0, sums, multiples and Hecke sums
  has_zeros : Has zeros zeros
  has_zeros = record {
    ends = EndsBefore-zeros (dimension N p);
    congruent = subst (Congruent N zeros) (sym (combination-zeros (map (unit {p = p}) free))) (Congruent_refl positive (relations N) zeros);
  }

  has_plus : (x y v w : Vector p) → Has x v → Has y w → Has (x ⊞ y) (v ⊞ w)
  has_plus x y v w h k = record {
    ends = EndsBefore-plus (dimension N p) v w h.ends k.ends;
    congruent = subst (Congruent N (x ⊞ y)) (sym (combination-plus v w (map (unit {p = p}) free)))
        (Congruent-plus positive (relations N) x (at_places free v) y (at_places free w) h.congruent k.congruent);
  }

  has_scale : (a : Residue p) (x v : Vector p) → Has x v → Has (a ⊡ x) (a ⊡ v)
  has_scale a x v h = record {
    ends = EndsBefore-scale (dimension N p) a v h.ends;
    congruent = subst (Congruent N (a ⊡ x)) (sym (combination-scale a v (map (unit {p = p}) free)))
        (Congruent-scale positive (relations N) a x (at_places free v) h.congruent);
  }

  has_sum : (n : ℕ) (columns : List (List ℕ)) → 0 < n → gcd n N ≡ 1 → IsMatrixOf N (λ k. merel_sum {p = p} N n (unit k)) columns
      → (x v : Vector p) → Has x v → Has (merel_sum N n x) (combination v (dense_rows p columns))
  has_sum n columns some coprime matrix x v h = matrix_of_image N positive (merel_sum N n) (hecke_sum-combination N (merel_matrices n)) columns matrix
      (λ y z same. merel_congruent p N n y z positive some coprime same) x v h

  -- those of the combination of free symbols by v are v
  has_free : (v : Vector p) → EndsBefore (dimension N p) v → Has (at_places free v) v
  has_free v ends = record { ends = ends; congruent = Congruent_refl positive (relations N) (at_places free v) }

  module _ (n : ℕ) (matrices : ℕ → List (List ℕ)) (columns : List (List ℕ)) (some : 0 < n) (coprime : gcd n N ≡ 1)
      (primes : (q : ℕ) → IsPrimeDivisor n q → IsMatrixOf N (λ k. merel_sum {p = p} N q (unit k)) (matrices q))
      (matrix : IsMatrixOf N (λ k. merel_sum {p = p} N n (unit k)) columns) (v : Vector p) (ends : EndsBefore (dimension N p) v) where
    abbrev x : Vector p
    x = at_places free v

    abbrev by_matrices : Vector p
    by_matrices = polynomial_value (λ q. apply (dense_rows p (matrices q))) (hecke_polynomial n) v

    value_has : Has (polynomial_value (merel_sum N) (hecke_polynomial n) x) by_matrices
    value_has = value_kept (merel_sum N) (λ q. apply (dense_rows p (matrices q))) Has (IsPrimeDivisor n) has_zeros has_plus has_scale
        (λ q is. has_sum q (matrices q) (omega (arith, is.0.above_one)) (divisor_coprime N n q is.1 coprime) (primes q is))
        (hecke_polynomial n) (prime_divisors n some) x v (has_free v ends)

    same_values : apply (dense_rows p columns) v ≡ by_matrices
    same_values = coordinates_once positive (length (symbols N)) (relations N) (EndsBefore-relations p N) (merel_sum N n x)
        (apply (dense_rows p columns) v) by_matrices (has_sum n columns some coprime matrix x v (has_free v ends))
        (record {
          ends = value_has.ends;
          congruent = Congruent_trans positive (relations N) (merel_sum N n x)
              (polynomial_value (merel_sum N) (hecke_polynomial n) x) (at_places free by_matrices)
              (Congruent_sym positive (relations N) (polynomial_value (merel_sum N) (hecke_polynomial n) x) (merel_sum N n x)
              (merel_polynomial p N n x positive some coprime (EndsBefore-at_places (length (symbols N)) free v (free_symbols_below N p))))
              value_has.congruent;
        })

pub matrix_polynomial : (g : Ground) (n : ℕ) (matrices : ℕ → List (List ℕ)) (columns : List (List ℕ)) (v : Vector g.characteristic)
    → IsPrime g.characteristic → 0 < n → gcd n g.level ≡ 1 → ArePrimeMatrices g n matrices → IsOperatorMatrix g (ops.T n) columns
    → EndsBefore (dimension g.level g.characteristic) v
    → apply (dense_rows g.characteristic columns) v ≡ matrix_value g matrices (hecke_polynomial n) v
matrix_polynomial g n matrices columns v prime some coprime primes matrix ends =
    same_values (omega (arith, prime.above_one)) g.level n matrices columns some coprime primes matrix v ends

pub column_polynomial : (g : Ground) (n : ℕ) (matrices : ℕ → List (List ℕ)) (columns : List (List ℕ)) (j : ℕ)
    → IsPrime g.characteristic → 0 < n → gcd n g.level ≡ 1 → ArePrimeMatrices g n matrices → IsOperatorMatrix g (ops.T n) columns
    → j < dimension g.level g.characteristic
    → row (dense_rows g.characteristic columns) j ≡ matrix_value g matrices (hecke_polynomial n) (unit j)
column_polynomial g n matrices columns j prime some coprime primes matrix within =
    let p : ℕ = g.characteristic in
    sym (combination-unit (dense_rows p columns) j (omega (arith, within, length-map columns (dense p), matrix.count)))
    ∙ matrix_polynomial g n matrices columns (unit j) prime some coprime primes matrix (λ i l. unit_elsewhere j i (λ e. omega (arith, e, l, within)))
