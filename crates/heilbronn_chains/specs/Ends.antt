-- Functions on ends, the rational numbers and infinity.
--   IsEnd x y            x and y are not both 0: they name the end x / y, infinity where y = 0.
--                        (x, y) and (z, w) name one end where x w = z y
--   Entry                an end x / y, infinity where y = 0, and an integer value there
--   value_at g x y       the value at x / y of the function that a table g gives: that of the first
--                        entry of this end, else 0
--   change g m           the value at a / c less the value at b / d
--   total xs             the sum of a list of integers
use Rattle.std.specs.Prelude.{◌≢◌, ◌⊎◌, ℤ, pos, ◌+ℤ◌, ◌-ℤ◌, ◌*ℤ◌, List, [], ◌∷◌, if◌then◌else◌}
use Rattle.std.specs.Ordering.{int_eq}
use Rattle.p1_normal.specs.declared.matrix.Matrix.{Matrix}

abbrev pub IsEnd : ℤ → ℤ → Type 0
IsEnd x y = (x ≢ pos 0) ⊎ (y ≢ pos 0)

pub record Entry : Type 0 where
  pub x : ℤ
  pub y : ℤ
  pub value : ℤ

abbrev pub value_at : List Entry → ℤ → ℤ → ℤ
value_at [] x y = pos 0
value_at (e ∷ g) x y = if int_eq (e.x *ℤ y) (x *ℤ e.y) then e.value else value_at g x y

abbrev pub change : List Entry → Matrix → ℤ
change g m = value_at g m.a m.c -ℤ value_at g m.b m.d

abbrev pub total : List ℤ → ℤ
total [] = pos 0
total (x ∷ xs) = x +ℤ total xs
