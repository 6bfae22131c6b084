-- Divisors and units modulo N (Stein, Modular Forms: A Computational Approach, chapter 3).
--   divides d a      the test that d divides a
--   greatest t n     the greatest number below n that passes the test t, and 0 where none does
--   gcd a b          the greatest common divisor, and 0 for 0 and 0
--   IsUnit N s       s has an inverse modulo N
--   is_unit N s      the test of this, by all residues
--   units N          the units below N, rising
--   fixing N u       the units s below N with s u = u modulo N, for u below N, rising
use Rattle.std.specs.Prelude.{◌≡◌, ℕ, ◌+◌, ◌*◌, ◌%◌, max, Bool, List, filter, nat_eq, ◌&&◌, if◌then◌else◌}
use Rattle.std.specs.List.{list_any, range_with_len}
use Rattle.std.proofs.Common.{zero, suc}

-- the test that d divides a
abbrev pub divides : ℕ → ℕ → Bool
divides d a = nat_eq (a % d) 0

-- the greatest number below n that passes the test, and 0 where none does
abbrev pub greatest : (ℕ → Bool) → ℕ → ℕ
greatest t zero = 0
greatest t (suc n) = if t n then n else greatest t n

-- the greatest common divisor, and 0 for 0 and 0
unfoldable pub gcd : ℕ → ℕ → ℕ
gcd a b = greatest (λ d. divides d a && divides d b) (max a b + 1)

-- s is a unit modulo N: it has an inverse
pub record IsUnit (N s : ℕ) : Type 0 where
  pub inverse : ℕ
  pub gives_one : (s * inverse) % N ≡ 1 % N

-- the test of this
abbrev pub is_unit : ℕ → ℕ → Bool
is_unit N s = list_any (λ t. nat_eq ((s * t) % N) (1 % N)) (range_with_len 0 N)

-- the units below N
abbrev pub units : ℕ → List ℕ
units N = filter (is_unit N) (range_with_len 0 N)

-- the units below N that keep u
abbrev pub fixing : ℕ → ℕ → List ℕ
fixing N u = filter (λ s. nat_eq ((s * u) % N) u) (units N)
