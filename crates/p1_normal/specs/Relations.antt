-- The two-term and three-term relations between symbols (Stein, Modular Forms: A Computational Approach, chapter 3; Manin 1972).
--   s_pair N k             the numbers of x and x S, where x is symbol k
--   t_triple N k           the numbers of x, x T and x T T, where x is symbol k
--   relation_symbols N k   the numbers of the symbols in relation k, with repeats: an S pair for k below the
--                          number m of symbols, and the T triple of k - m from m on, for k below 2 m
use Rattle.std.specs.Prelude.{ℕ, ◌-◌, List, [], ◌∷◌, length, nat_lt, if◌then◌else◌}
use Rattle.p1_normal.specs.Points.{symbols}
use Rattle.p1_normal.specs.Actions.{image_number, matrix_s, matrix_t}

-- the symbols of x + x S
abbrev pub s_pair : ℕ → ℕ → List ℕ
s_pair N k = k ∷ image_number N k matrix_s ∷ []

-- the symbols of x + x T + x T T
abbrev pub t_triple : ℕ → ℕ → List ℕ
t_triple N k = k ∷ image_number N k matrix_t ∷ image_number N (image_number N k matrix_t) matrix_t ∷ []

-- the symbols of relation k
abbrev pub relation_symbols : ℕ → ℕ → List ℕ
relation_symbols N k = if nat_lt k (length (symbols N)) then s_pair N k else t_triple N (k - length (symbols N))
