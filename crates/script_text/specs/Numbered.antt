-- Lines with their numbers.
--   NumberedLine   a line of a text without its end, and its number in the text, from 1
--   IsShort bytes  there are so few bytes that the number of each token, and one past it, fits 32 bits
use Rattle.std.specs.Prelude.{ℕ, ◌<◌, ◌-◌, ◌^◌, List, length}

pub record NumberedLine : Type 0 where
  pub line : ℕ
  pub text : List ℕ

abbrev pub IsShort : List ℕ → Type 0
IsShort bytes = length bytes < 2 ^ 32 - 1
