-- Tables of the turns of a level: the turn q is the matrix [[q, 1], [-1, 0]], by which the step of a chain with the least quotient q
-- acts on symbols.
--   turned N i          the number of symbol j times turn q, for i = q m + j, where m counts the symbols
--   turned_list N size  these numbers for the first places
--   TurnTable           what a table says of itself: its level, and up to which q it goes
use Rattle.std.specs.Prelude.{ℕ, ◌%◌, ◌/◌, List, length, map, pos}
use Rattle.std.specs.List.{range_with_len}
use Rattle.p1_normal.specs.Points.{symbols}
use Rattle.p1_normal.specs.Actions.{image_number}
use Rattle.heilbronn_chains.specs.Turns.{turn}

abbrev pub turned : ℕ → ℕ → ℕ
turned N i = image_number N (i % length (symbols N)) (turn (pos (i / length (symbols N))))

abbrev pub turned_list : ℕ → ℕ → List ℕ
turned_list N size = map (turned N) (range_with_len 0 size)

pub record TurnTable : Type 0 where
  pub level : ℕ
  pub limit : ℕ
