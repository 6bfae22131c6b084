-- Merel's sets of matrices (Merel, Universal Fourier expansions of modular forms, 1994).
--   quadruples n       the matrices [[a, b], [c, d]] with entries from 0 to n, in lexicographic order of a, b, c, d
--   is_merel n m       a > b, d > c and a d - b c = n
--   merel_matrices n   Merel's set of determinant n: the quadruples that pass this test, in their order
--   IsMerel n m        m is an integer matrix with a > b >= 0, d > c >= 0 and a d - b c = n
--   starts n           those of them with b = 0: each begins a chain, and each chain begins so
-- For proofs, Merel's set piece by piece:
--   with_three n a b c, with_row n a b, with_corner n a
--                      its matrices of the first entries a, b, c, of the first row (a, b), and of the first entry a
use Rattle.std.specs.Prelude.{◌≡◌, ℕ, ◌+◌, pos, ◌<ℤ◌, ◌≤ℤ◌, Bool, List, map, filter, ◌&&◌, int_lt}
use Rattle.std.specs.Ordering.{int_eq}
use Rattle.std.specs.List.{range_with_len, flat_map}
use Rattle.p1_normal.specs.declared.matrix.Matrix.{Matrix}
use Rattle.p1_normal.specs.Actions.{matrix, determinant}

-- the entries
abbrev pub entries : ℕ → List ℕ
entries n = range_with_len 0 (n + 1)

unfoldable pub quadruples : ℕ → List Matrix
quadruples n = flat_map (λ a. flat_map (λ b. flat_map (λ c. map (λ d. matrix (pos a) (pos b) (pos c) (pos d)) (entries n)) (entries n)) (entries n)) (entries n)

abbrev pub is_merel : ℕ → Matrix → Bool
is_merel n m = int_lt m.b m.a && int_lt m.c m.d && int_eq (determinant m) (pos n)

unfoldable pub merel_matrices : ℕ → List Matrix
merel_matrices n = filter (is_merel n) (quadruples n)

abbrev pub with_three : ℕ → ℕ → ℕ → ℕ → List Matrix
with_three n a b c = filter (is_merel n) (map (λ d. matrix (pos a) (pos b) (pos c) (pos d)) (entries n))

unfoldable pub with_row : ℕ → ℕ → ℕ → List Matrix
with_row n a b = flat_map (with_three n a b) (entries n)

unfoldable pub with_corner : ℕ → ℕ → List Matrix
with_corner n a = flat_map (with_row n a) (entries n)

pub record IsMerel (n : ℕ) (m : Matrix) : Type 0 where
  pub left : m.b <ℤ m.a
  pub right : m.c <ℤ m.d
  pub upper : pos 0 ≤ℤ m.b
  pub lower : pos 0 ≤ℤ m.c
  pub determinant_is : determinant m ≡ pos n

abbrev pub starts : ℕ → List Matrix
starts n = filter (λ m. int_eq m.b (pos 0)) (merel_matrices n)
