-- The order of integer matrices.
--   IsBefore m k   m comes before k in the lexicographic order of the entries a, b, c, d: at the first entry in which they differ it
--                  has the less
use Rattle.std.specs.Prelude.{◌≡◌, ◌⊎◌, ◌<ℤ◌}
use Rattle.p1_normal.specs.declared.matrix.Matrix.{Matrix}

abbrev pub IsBefore : Matrix → Matrix → Type 0
IsBefore m k =
    (m.a <ℤ k.a)
    ⊎ ((m.a ≡ k.a) × ((m.b <ℤ k.b) ⊎ ((m.b ≡ k.b) × ((m.c <ℤ k.c) ⊎ ((m.c ≡ k.c) × (m.d <ℤ k.d))))))
