-- What a walk over the cusps writes, and the tables that it leaves. N is a level with m symbols.
--   cusp_numbers N          the number of the cusp of each symbol, in order
--   opposite_numbers N      the number of the cusp of each symbol times S, in order
--   Marks N k c old new     new has the number c at each symbol of the cusp of symbol k, and
--                           elsewhere what old has
--   AreCusps N least numbers opposites
--                           the least symbols of the cusps, and these two tables
use Rattle.std.specs.Prelude.{◌≡◌, ◌≤◌, ◌*◌, ℕ, List, length, map, slice_index, true, false}
use Rattle.std.specs.List.{range_with_len}
use Rattle.p1_normal.specs.declared.level.TheConstants.{MAX_LEVEL}
use Rattle.p1_normal.specs.Points.{symbols}
use Rattle.p1_normal.specs.Actions.{image_number, matrix_s}
use Rattle.cusps_boundary.specs.Cusps.{in_cusp, cusps, cusp_number}

-- the number of the cusp of each symbol
abbrev pub cusp_numbers : ℕ → List ℕ
cusp_numbers N = map (cusp_number N) (range_with_len 0 (length (symbols N)))

-- the number of the cusp of each symbol times S
abbrev pub opposite_numbers : ℕ → List ℕ
opposite_numbers N =
    map (λ k. cusp_number N (image_number N k matrix_s)) (range_with_len 0 (length (symbols N)))

-- c was written at the symbols of the cusp of symbol k, and nowhere else
pub record Marks (N k c : ℕ) (old new : List ℕ) : Type 0 where
  pub size : length new ≡ length old
  pub marked : (j : ℕ) → in_cusp N k j ≡ true → slice_index new j ≡ c
  pub others : (j : ℕ) → in_cusp N k j ≡ false → slice_index new j ≡ slice_index old j

-- the tables of the cusps of N
pub record AreCusps (N : ℕ) (least numbers opposites : List ℕ) : Type 0 where
  pub listed : least ≡ cusps N
  pub numbered : numbers ≡ cusp_numbers N
  pub opposed : opposites ≡ opposite_numbers N
  pub limited : length (symbols N) ≤ MAX_LEVEL * MAX_LEVEL
