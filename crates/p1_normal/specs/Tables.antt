-- The tables by which a level finds the number of a symbol in constant time.
--   place N p                 the place u N + v of a pair below N among all such pairs
--   IsHead N u                u is the least of its multiples by units, modulo N
--   IsTurn N u turn           turn.factor is a unit that turns u into a head, turn.head
--   AreTurns N turns          turns[u] is a turn of u, for each u below N
--   HasRows N numbers         the list reaches to the end of the row of each head
--   IsNumbering N numbers     numbers[place N p] is 0 where p names no point, else 1 + the number of its symbol, for p with a head
--   Marks N p x old new       x was written at the names of p, and at each of them that begins with a head
--   IsFound N p k             p names a point, and k is the number of its symbol
--   IsLevel N points turns numbers   what a level keeps
use Rattle.std.specs.Prelude.{◌≡◌, ◌≢◌, ◌<◌, ◌≤◌, ℕ, ◌+◌, ◌*◌, ◌%◌, ◌⊎◌, List, length, slice_index, slice_get, Some}
use Rattle.std.proofs.Common.{suc}
use Rattle.p1_normal.specs.declared.point.Point.{Point}
use Rattle.p1_normal.specs.declared.level.TheConstants.{MAX_LEVEL}
use Rattle.p1_normal.specs.declared.tables.Turn.{Turn}
use Rattle.p1_normal.specs.Units.{IsUnit}
use Rattle.p1_normal.specs.Points.{IsBelow, IsNumber, SamePoint, common_divisor, normal_form, number, symbols}

-- the place of a pair in the list of all pairs below N
abbrev pub place : ℕ → Point → ℕ
place N p = p.u * N + p.v

-- u is the least of its multiples by units
pub record IsHead (N u : ℕ) : Type 0 where
  pub least : (s : ℕ) → IsUnit N s → u ≤ (s * u) % N

-- the unit that turns u into the head of its multiples
pub record IsTurn (N u : ℕ) (turn : Turn) : Type 0 where
  pub unit : IsUnit N turn.factor
  pub small : turn.factor < N
  pub turned : (turn.factor * u) % N ≡ turn.head
  pub head : IsHead N turn.head

-- the list has the row of each head
abbrev pub HasRows : ℕ → List ℕ → Type 0
HasRows N numbers = (u : ℕ) → u < N → IsHead N u → u * N + N ≤ length numbers

-- in the rows of heads, at the place of each pair stands 0 where it names no point, and otherwise the number after its symbol's
pub record IsNumbering (N : ℕ) (numbers : List ℕ) : Type 0 where
  pub rows : HasRows N numbers
  pub none : (p : Point) → IsBelow N p → IsHead N p.u → slice_index numbers (place N p) ≡ 0 → common_divisor N p ≢ 1
  pub some : (p : Point) (k : ℕ) → IsBelow N p → IsHead N p.u → slice_index numbers (place N p) ≡ suc k → (common_divisor N p ≡ 1) × IsNumber N k (normal_form N p)

-- the number is written at each name of p whose first part is a head, and nowhere else
pub record Marks (N : ℕ) (p : Point) (number : ℕ) (old new : List ℕ) : Type 0 where
  pub size : length new ≡ length old
  pub named : (q : Point) → IsBelow N q → IsHead N q.u → SamePoint N p q → slice_index new (place N q) ≡ number
  pub others : (q : Point) → IsBelow N q → (slice_index new (place N q) ≡ slice_index old (place N q)) ⊎ ((slice_index new (place N q) ≡ number) × SamePoint N p q)

-- the turns of the numbers below N
pub record AreTurns (N : ℕ) (turns : List Turn) : Type 0 where
  pub size : length turns ≡ N
  pub each : (u : ℕ) (turn : Turn) → slice_get turns u ≡ Some turn → IsTurn N u turn

-- k is what the tables are to find for p
pub record IsFound (N : ℕ) (p : Point) (k : ℕ) : Type 0 where
  pub point : common_divisor N p ≡ 1
  pub number : k ≡ number N (normal_form N p)
  pub below : k < length (symbols N)

-- what a level keeps: its symbols in order, and the tables that find their numbers
pub record IsLevel (N : ℕ) (points : List Point) (turns : List Turn) (numbers : List ℕ) : Type 0 where
  pub positive : 0 < N
  pub limited : N ≤ MAX_LEVEL
  pub all : points ≡ symbols N
  pub turning : AreTurns N turns
  pub numbering : IsNumbering N numbers
