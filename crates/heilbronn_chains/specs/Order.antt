-- The order of matrices with natural entries below a bound B.
--   rank B m     the number with the digits a, b, c, d to the base B: it orders them as lists of
--                entries
use Rattle.std.specs.Prelude.{ℕ, ◌+◌, ◌*◌, unsigned_abs}
use Rattle.p1_normal.specs.declared.matrix.Matrix.{Matrix}

abbrev pub rank : ℕ → Matrix → ℕ
rank B m = ((unsigned_abs m.a * B + unsigned_abs m.b) * B + unsigned_abs m.c) * B + unsigned_abs m.d
