-- Points (u:v) of the projective line modulo N (Stein, Modular Forms: A Computational Approach, chapter 3).
-- A point is a `Point` p, seen as its pair of numbers p.u, p.v.
--   point u v            the pair (u, v)
--   IsBelow N p          both parts are below N
--   pair_multiple N s p  s times the pair, modulo N
--   SamePoint N p q      q is p times a unit modulo N: both pairs name one point
--   common_divisor N p   the greatest common divisor of u, v and N: p names a point where it is 1
--   is_before p q        lexicographic order
--   least p qs           the least of p and the pairs qs
--   names N p            the pairs below N that name the point p
--   normal_form N p      the least of them
--   is_symbol N p        p names a point and is its own normal form
--   pairs N              all pairs below N in lexicographic order
--   symbols N            the symbols: those of `pairs N` that are their own normal form
--   IsNumber N k p       symbol number k is p, counted from 0
--   symbol_at N k        symbol number k, for k below the number of symbols
--   number N p           the number of p, for a symbol p
--   reduced N u v        the pair of the residues of two integers
use Rattle.std.specs.Prelude.{◌≡◌, ◌<◌, ℕ, ◌*◌, ◌%◌, Bool, List, [], ◌∷◌, filter, map, nat_eq, nat_lt, ◌&&◌, ◌||◌, if◌then◌else◌, ℤ, slice_get, unwrap_or, Some}
use Rattle.std.specs.List.{range_with_len, flat_map, position_or_len}
use Rattle.linear_algebra.specs.Integers.{residue_of}
use Rattle.p1_normal.specs.declared.point.Point.{Point}
use Rattle.p1_normal.specs.Units.{gcd, IsUnit, units}

abbrev pub point : ℕ → ℕ → Point
point u v = record { u = u; v = v }

-- both parts are below N
pub record IsBelow (N : ℕ) (p : Point) : Type 0 where
  pub first : p.u < N
  pub second : p.v < N

-- s times the pair, modulo N
abbrev pub pair_multiple : ℕ → ℕ → Point → Point
pair_multiple N s p = point ((s * p.u) % N) ((s * p.v) % N)

-- two pairs name one point where the second is the first times a unit
pub record SamePoint (N : ℕ) (p q : Point) : Type 0 where
  pub factor : ℕ
  pub unit : IsUnit N factor
  pub first : (factor * p.u) % N ≡ q.u % N
  pub second : (factor * p.v) % N ≡ q.v % N

-- the greatest common divisor of u, v and N
abbrev pub common_divisor : ℕ → Point → ℕ
common_divisor N p = gcd (gcd p.u p.v) N

-- lexicographic order
abbrev pub is_before : Point → Point → Bool
is_before p q = nat_lt p.u q.u || (nat_eq p.u q.u && nat_lt p.v q.v)

-- the earlier of two pairs
abbrev pub earlier : Point → Point → Point
earlier p q = if is_before q p then q else p

-- the least of p and the pairs of the list
abbrev pub least : Point → List Point → Point
least p [] = p
least p (q ∷ qs) = least (earlier p q) qs

-- the pairs below N that name the point p
abbrev pub names : ℕ → Point → List Point
names N p = map (λ s. pair_multiple N s p) (units N)

-- the least pair below N that names the point p
unfoldable pub normal_form : ℕ → Point → Point
normal_form N p = least (pair_multiple N 1 p) (names N p)

-- the test that two pairs are one
abbrev pub is_same : Point → Point → Bool
is_same p q = nat_eq p.u q.u && nat_eq p.v q.v

-- p names a point and is its own normal form
unfoldable pub is_symbol : ℕ → Point → Bool
is_symbol N p = nat_eq (common_divisor N p) 1 && is_same (normal_form N p) p

-- all pairs below N in lexicographic order
abbrev pub pairs : ℕ → List Point
pairs N = flat_map (λ u. map (λ v. point u v) (range_with_len 0 N)) (range_with_len 0 N)

-- the symbols in lexicographic order
unfoldable pub symbols : ℕ → List Point
symbols N = filter (is_symbol N) (pairs N)

-- symbol number k is p
abbrev pub IsNumber : ℕ → ℕ → Point → Type 0
IsNumber N k p = slice_get (symbols N) k ≡ Some p

-- symbol number k
abbrev pub symbol_at : ℕ → ℕ → Point
symbol_at N k = unwrap_or (slice_get (symbols N) k) (point 0 0)

-- the number of the symbol p
unfoldable pub number : ℕ → Point → ℕ
number N p = position_or_len (is_same p) (symbols N)

-- the pair of the residues of two integers
abbrev pub reduced : ℕ → ℤ → ℤ → Point
reduced N u v = point (residue_of N u) (residue_of N v)
