-- The matrices that begin chains.
--   IsStart n m      m is [[a, 0], [c, d]] with a d = n and 0 <= c < d: the Hermite form of a
--                    lattice
--   lower_matrices a d
--                    the matrices [[a, 0], [c, d]] with c from 0 to d - 1
--   divisor_sum n    the sum of the divisors of n
use Rattle.std.specs.Prelude.{◌≡◌, ℕ, ◌%◌, List, pos, ◌*ℤ◌, ◌<ℤ◌, ◌≤ℤ◌, map, filter, nat_eq}
use Rattle.std.specs.List.{range_with_len, sum_by}
use Rattle.p1_normal.specs.declared.matrix.Matrix.{Matrix}
use Rattle.p1_normal.specs.Actions.{matrix}

pub record IsStart (n : ℕ) (m : Matrix) : Type 0 where
  pub upper : m.b ≡ pos 0
  pub diagonal : m.a *ℤ m.d ≡ pos n
  pub lower : pos 0 ≤ℤ m.c
  pub below : m.c <ℤ m.d

abbrev pub lower_matrices : ℕ → ℕ → List Matrix
lower_matrices a d = map (λ c. matrix (pos a) (pos 0) (pos c) (pos d)) (range_with_len 0 d)

abbrev pub divisor_sum : ℕ → ℕ
divisor_sum n = sum_by (λ d. d) (filter (λ d. nat_eq (n % d) 0) (range_with_len 1 n))
