-- Steps of a chain, and what they do to symbols.
--   StepsOn m k        k is [[q a - b, a], [q c - d, c]] with the least q at which d <= q c: m
--                      times turn q
--   StepsBack m k      k is [[b, q b - a], [d, q d - c]] with the least q at which a <= q b
--   turn q             [[q, 1], [-1, 0]], of determinant 1
--   shear z            [[1, z], [0, 1]]: the z-th power of U
use Rattle.std.specs.Prelude.{◌≡◌, ℕ, ℤ, pos, negsuc, ◌+ℤ◌, ◌-ℤ◌, ◌*ℤ◌, ◌<ℤ◌, ◌≤ℤ◌}
use Rattle.p1_normal.specs.declared.matrix.Matrix.{Matrix}
use Rattle.p1_normal.specs.Actions.{matrix, product}

abbrev pub turn : ℤ → Matrix
turn q = matrix q (pos 1) (negsuc 0) (pos 0)

abbrev pub shear : ℤ → Matrix
shear z = matrix (pos 1) z (pos 0) (pos 1)

pub record StepsOn (m k : Matrix) : Type 0 where
  pub quotient : ℕ
  pub covers : m.d ≤ℤ (pos quotient *ℤ m.c)
  pub least : (pos quotient *ℤ m.c) <ℤ (m.d +ℤ m.c)
  pub is : k ≡ matrix ((pos quotient *ℤ m.a) -ℤ m.b) m.a ((pos quotient *ℤ m.c) -ℤ m.d) m.c
  pub turned : k ≡ product m (turn (pos quotient))

pub record StepsBack (m k : Matrix) : Type 0 where
  pub quotient : ℕ
  pub covers : m.a ≤ℤ (pos quotient *ℤ m.b)
  pub least : (pos quotient *ℤ m.b) <ℤ (m.a +ℤ m.b)
  pub is : k ≡ matrix m.b ((pos quotient *ℤ m.b) -ℤ m.a) m.d ((pos quotient *ℤ m.d) -ℤ m.c)
