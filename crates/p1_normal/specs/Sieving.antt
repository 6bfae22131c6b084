-- How far the sieve that lists and numbers the symbols has come.
--   at N x                      the pair at place x among all pairs below N
--   ListedAt N points k p       the pair listed at k names the point p
--   IsListed N c q              q is a symbol at a place below c
--   Sieved N c points numbers   the pairs at places below c are done
use Rattle.std.specs.Prelude.{◌≡◌, ◌≢◌, ◌<◌, ◌≤◌, ℕ, ◌/◌, ◌%◌, true, List, length, map, filter, slice_index, slice_get, Some}
use Rattle.std.specs.List.{range_with_len}
use Rattle.std.proofs.Common.{suc}
use Rattle.p1_normal.specs.declared.point.Point.{Point}
use Rattle.p1_normal.specs.Points.{point, SamePoint, common_divisor, is_symbol, IsBelow}
use Rattle.p1_normal.specs.Tables.{IsHead, HasRows, place}

-- the pair at a place
abbrev pub at : ℕ → ℕ → Point
at N x = point (x / N) (x % N)

-- p is listed at k
pub record ListedAt (N : ℕ) (points : List Point) (k : ℕ) (p : Point) : Type 0 where
  pub symbol : Point
  pub stands : slice_get points k ≡ Some symbol
  pub names : SamePoint N symbol p

-- what a listed pair is
pub record IsListed (N c : ℕ) (q : Point) : Type 0 where
  pub below : IsBelow N q
  pub passed : place N q < c
  pub symbol : is_symbol N q ≡ true

-- the pairs at places below c are done
pub record Sieved (N c : ℕ) (points : List Point) (numbers : List ℕ) : Type 0 where
  pub listed : points ≡ filter (is_symbol N) (map (at N) (range_with_len 0 c))
  pub few : length points ≤ c
  pub rows : HasRows N numbers
  pub members : (k : ℕ) (q : Point) → slice_get points k ≡ Some q → IsListed N c q
  pub entries : (p : Point) (k : ℕ) → IsBelow N p → slice_index numbers (place N p) ≡ suc k → ListedAt N points k p
  pub closed : (p : Point) (k : ℕ) → IsBelow N p → IsHead N p.u → ListedAt N points k p → slice_index numbers (place N p) ≢ 0
  pub covered : (p : Point) → IsBelow N p → IsHead N p.u → place N p < c → common_divisor N p ≡ 1 → slice_index numbers (place N p) ≢ 0
