-- The lattice that the columns of an integer matrix of positive determinant n span.
--   IsMultiple n z       the integer z is a multiple of n
--   InLattice n m x y    the vector (x, y) is an integer combination of the columns (a, c), (b, d)
--                        of m, of determinant n: n divides d x - b y and a y - c x
--   SameLattice n m k    m and k, of determinant n, have the same lattice
use Rattle.std.specs.Prelude.{◌≡◌, ◌↔◌, ℕ, ℤ, pos, ◌-ℤ◌, ◌*ℤ◌}
use Rattle.p1_normal.specs.declared.matrix.Matrix.{Matrix}

pub record IsMultiple (n : ℕ) (z : ℤ) : Type 0 where
  pub quotient : ℤ
  pub product : quotient *ℤ pos n ≡ z

pub record InLattice (n : ℕ) (m : Matrix) (x y : ℤ) : Type 0 where
  pub first : IsMultiple n ((m.d *ℤ x) -ℤ (m.b *ℤ y))
  pub second : IsMultiple n ((m.a *ℤ y) -ℤ (m.c *ℤ x))

abbrev pub SameLattice : ℕ → Matrix → Matrix → Type 0
SameLattice n m k = (x y : ℤ) → InLattice n m x y ↔ InLattice n k x y
