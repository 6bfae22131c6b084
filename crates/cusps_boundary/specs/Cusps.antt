-- The cusps of Gamma0(N): the orbits of the symbols under U = [[1, 1], [0, 1]], listed by their
-- least symbols (Stein, Modular Forms: A Computational Approach, chapters 3 and 8). N is a level with
-- m symbols, which stand by their numbers.
--   times_u N i k      symbol k times U, i times
--   cusp N k           the cusp of symbol k: the symbols k times U^i, for i from 0 below N
--   in_cusp N k j      the test that symbol j is in the cusp of symbol k
--   is_least N k       the test that symbol k is the least of its cusp
--   cusps N            the least symbols of the cusps, rising
--   least_symbol N c   the least symbol of cusp number c
--   cusp_number N k    the number of the cusp of symbol k in this list, from 0
use Rattle.std.specs.Prelude.{ℕ, Bool, List, length, map, filter, nat_eq, nat_le, slice_index}
use Rattle.std.specs.Fn.{iterate}
use Rattle.std.specs.List.{list_all, list_any, position_or_len, range_with_len}
use Rattle.p1_normal.specs.Points.{symbols}
use Rattle.p1_normal.specs.Actions.{image_number, matrix_u}

-- symbol k times U, i times
abbrev pub times_u : ℕ → ℕ → ℕ → ℕ
times_u N i k = iterate (λ j. image_number N j matrix_u) i k

-- the cusp of symbol k
abbrev pub cusp : ℕ → ℕ → List ℕ
cusp N k = map (λ i. times_u N i k) (range_with_len 0 N)

-- the test that symbol j is in it
abbrev pub in_cusp : ℕ → ℕ → ℕ → Bool
in_cusp N k j = list_any (nat_eq j) (cusp N k)

-- the test that symbol k is the least of its cusp
abbrev pub is_least : ℕ → ℕ → Bool
is_least N k = list_all (nat_le k) (cusp N k)

-- the least symbols of the cusps
unfoldable pub cusps : ℕ → List ℕ
cusps N = filter (is_least N) (range_with_len 0 (length (symbols N)))

-- the least symbol of cusp number c
abbrev pub least_symbol : ℕ → ℕ → ℕ
least_symbol N c = slice_index (cusps N) c

-- the number of the cusp of symbol k
unfoldable pub cusp_number : ℕ → ℕ → ℕ
cusp_number N k = position_or_len (in_cusp N k) (cusps N)
