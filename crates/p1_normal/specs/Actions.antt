-- Integer matrices act on points from the right (Stein, Modular Forms: A Computational Approach, chapter 3).
-- A `Matrix` m is [[m.a, m.b], [m.c, m.d]].
--   matrix a b c d       the matrix [[a, b], [c, d]]
--   determinant m        a d - b c
--   product m k          the matrix product
--   IsSmall m            the entries have magnitude at most MAX_ENTRY
--   image N p m          the pair (u, v) times m, modulo N: (a u + c v, b u + d v)
--   action N p m         its normal form: the symbol (u:v) times m, for a determinant coprime to N
--   IsInvertible N m     the determinant is coprime to N
--   image_number N k m          the number of symbol k times m, for a matrix that is invertible modulo N
--   matrix_s             S: (u:v) becomes (v:-u)
--   matrix_t             T: (u:v) becomes (v:-u-v)
--   matrix_u             U: (u:v) becomes (u:u+v)
--   matrix_star          the star involution: (u:v) becomes (-u:v)
use Rattle.std.specs.Prelude.{◌≡◌, ◌≤◌, ℕ, ℤ, pos, negsuc, unsigned_abs, ◌+ℤ◌, ◌-ℤ◌, ◌*ℤ◌}
use Rattle.p1_normal.specs.declared.matrix.Matrix.{Matrix}
use Rattle.p1_normal.specs.declared.matrix.TheConstants.{MAX_ENTRY}
use Rattle.p1_normal.specs.declared.point.Point.{Point}
use Rattle.p1_normal.specs.Units.{gcd}
use Rattle.linear_algebra.specs.Integers.{residue_of}
use Rattle.p1_normal.specs.Points.{reduced, normal_form, symbol_at, number}

-- the matrix of two rows
abbrev pub matrix : ℤ → ℤ → ℤ → ℤ → Matrix
matrix a b c d = record { a = a; b = b; c = c; d = d }

abbrev pub determinant : Matrix → ℤ
determinant m = (m.a *ℤ m.d) -ℤ (m.b *ℤ m.c)

-- the product of two matrices
abbrev pub product : Matrix → Matrix → Matrix
product m k = record { a = m.a *ℤ k.a +ℤ m.b *ℤ k.c; b = m.a *ℤ k.b +ℤ m.b *ℤ k.d; c = m.c *ℤ k.a +ℤ m.d *ℤ k.c; d = m.c *ℤ k.b +ℤ m.d *ℤ k.d }

-- the entries have magnitude at most MAX_ENTRY
pub record IsSmall (m : Matrix) : Type 0 where
  pub a : unsigned_abs m.a ≤ MAX_ENTRY
  pub b : unsigned_abs m.b ≤ MAX_ENTRY
  pub c : unsigned_abs m.c ≤ MAX_ENTRY
  pub d : unsigned_abs m.d ≤ MAX_ENTRY

-- the pair times the matrix, modulo N
unfoldable pub image : ℕ → Point → Matrix → Point
image N p m = reduced N (pos p.u *ℤ m.a +ℤ pos p.v *ℤ m.c) (pos p.u *ℤ m.b +ℤ pos p.v *ℤ m.d)

-- the symbol times the matrix
abbrev pub action : ℕ → Point → Matrix → Point
action N p m = normal_form N (image N p m)

-- the determinant is coprime to N
abbrev pub IsInvertible : ℕ → Matrix → Type 0
IsInvertible N m = gcd (residue_of N (determinant m)) N ≡ 1

-- the number of symbol k times the matrix
unfoldable pub image_number : ℕ → ℕ → Matrix → ℕ
image_number N k m = number N (action N (symbol_at N k) m)

abbrev pub matrix_s : Matrix
matrix_s = matrix (pos 0) (negsuc 0) (pos 1) (pos 0)

abbrev pub matrix_t : Matrix
matrix_t = matrix (pos 0) (negsuc 0) (pos 1) (negsuc 0)

abbrev pub matrix_u : Matrix
matrix_u = matrix (pos 1) (pos 1) (pos 0) (pos 1)

abbrev pub matrix_star : Matrix
matrix_star = matrix (negsuc 0) (pos 0) (pos 0) (pos 1)
