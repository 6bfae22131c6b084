-- Ways between the rational numbers, and the words of the proofs here (Merel, Universal Fourier
-- expansions of modular forms, 1994). N is a level, p a characteristic, and y the number of a symbol
-- (u:v) of level N; y m is the number of that symbol times the matrix m.
--   end x / z      a rational number, or infinity where z = 0; a pair and its multiples name one end
--   way            from an end to infinity: the sum of the symbols, moved by y, that subtraction
--                  passes as it brings the end to infinity. It is the path from the end to infinity,
--                  moved as y is
--   Ways p N y     a way for each end: none from infinity, one for all multiples of a pair, and such
--                  that each matrix m = [[a, b], [c, d]] of determinant 1 joins the ways of its
--                  columns: the symbol y m and the way from a / c are together congruent to the way
--                  from b / d. So y m is the path from b / d to a / c, moved as y is
--   lattice        of a matrix m of determinant n: the integer combinations of its columns, of index
--                  n in all integer vectors. A matrix is over another where it is that matrix times
--                  one of determinant 1, that is where both have one lattice
--   start          the one matrix [[a, 0], [c, d]] with 0 <= c < d that a lattice has
--   chain          the matrices of Merel's set that have one lattice, from 0 to infinity: the first
--                  is the start
--   arc            of a lattice: the sum of a symbol over the chain of the lattice
use Rattle.std.specs.Prelude.{◌≡◌, ◌≢◌, ℕ, ℤ, pos, ◌*ℤ◌}
use Rattle.linear_algebra.specs.Vector.{Vector, ◌⊞◌, zeros}
use Rattle.linear_algebra.specs.Coordinates.{unit}
use Rattle.p1_normal.specs.declared.matrix.Matrix.{Matrix}
use Rattle.p1_normal.specs.Actions.{determinant, image_number}
use Rattle.manin_relations.specs.Relations.{Congruent}

pub record Ways (p N y : ℕ) : Type 0 where
  pub way : ℤ → ℤ → Vector p
  pub infinity : (x : ℤ) → way x (pos 0) ≡ zeros
  pub scaled : (t x z : ℤ) → t ≢ pos 0 → way (t *ℤ x) (t *ℤ z) ≡ way x z
  pub joins : (m : Matrix) → determinant m ≡ pos 1
      → Congruent N (unit (image_number N y m) ⊞ way m.a m.c) (way m.b m.d)
