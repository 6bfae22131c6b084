-- Multiplication by a fixed residue with no division (Shoup; Harvey, Faster arithmetic for number-theoretic transforms, 2014).
--   word p        2^16 where p is at most 2^16, else 2^32: twice as many bits hold the product of two numbers below it
--   ratio_of p c  c times the word by p, rounded down
use Rattle.std.specs.Prelude.{ℕ, ◌*◌, ◌/◌, nat_le, if◌then◌else◌}
use Rattle.field_table.specs.declared.multiple.TheConstants.{SHORT_WORD, LONG_WORD}

abbrev pub word : ℕ → ℕ
word p = if nat_le p SHORT_WORD then SHORT_WORD else LONG_WORD

abbrev pub ratio_of : ℕ → ℕ → ℕ
ratio_of p c = (c * word p) / p
