-- The keys of cusps: what two symbols have in common exactly where they lie in one orbit under
-- U = [[1, 1], [0, 1]] (Cremona, Algorithms for Modular Elliptic Curves, 2.2; Stein, Modular Forms:
-- A Computational Approach, chapter 8).
--   IsShifted N p q      q names the point (u : v + i u) for some i, where p is (u, v): the point of
--                        p times a power of U
--   IsCuspKey N p key    key is the pair (g, r): g is the greatest common divisor of u and N, so N
--                        where u is 0, and r is s v modulo the greatest common divisor of g and N/g,
--                        for a unit s modulo N with s u = g modulo N
use Rattle.std.specs.Prelude.{◌≡◌, ℕ, ◌+◌, ◌*◌, ◌/◌, ◌%◌}
use Rattle.p1_normal.specs.declared.point.Point.{Point}
use Rattle.p1_normal.specs.Units.{gcd, IsUnit}
use Rattle.p1_normal.specs.Points.{point, SamePoint}

-- q names the point of p times a power of U
pub record IsShifted (N : ℕ) (p q : Point) : Type 0 where
  pub times : ℕ
  pub same : SamePoint N (point p.u (p.v + times * p.u)) q

-- what scaling by a unit makes of p: its first part, and its second modulo gcd(g, N/g)
pub record IsCuspKey (N : ℕ) (p : Point) (key : ℕ × ℕ) : Type 0 where
  pub divisor : key.0 ≡ gcd p.u N
  pub factor : ℕ
  pub unit : IsUnit N factor
  pub scaled : (factor * p.u) % N ≡ key.0 % N
  pub rest : key.1 ≡ (factor * p.v) % gcd key.0 (N / key.0)
