-- Residues of integers.
--   residue_of p x   the number below p that differs from the integer x by a multiple of p, for a p of 1 or more
use Rattle.std.specs.Prelude.{ℕ, ℤ, pos, unsigned_abs}
use Rattle.std.specs.Int.{int_rem_euclid}

-- the number below p that differs from the integer x by a multiple of p
abbrev pub residue_of : ℕ → ℤ → ℕ
residue_of p x = unsigned_abs (int_rem_euclid x (pos p))
