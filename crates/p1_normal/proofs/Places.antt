-- The place u N + v of a pair below N in the list of all pairs.
use Rattle.std.proofs.Common.{◌≡◌, ◌+◌, ◌*◌, ◌<◌, ◌≤◌, ◌++◌, ℕ, zero, suc, true, false, List, [], ◌∷◌, refl, sym, ◌∙◌, ap, inl, inr, arith, ltb-true, ltb-false, eqb-true, nat_lt, nat_eq, ◌&&◌}
use Rattle.std.specs.Prelude.{map}
use Rattle.std.specs.List.{range_with_len, flat_map}
use Rattle.std.proofs.Math.Nat.{mod-lt, mul-le-mul_right, div-lt_iff_lt-mul, div-add-mod', zero-mul}
use Rattle.std.proofs.lemmas.Nat.{same_from_place, div-mul-add, mod-mul-add, mul-add-lt}
use Rattle.std.proofs.lemmas.Bool.{or_cases, or_parts, and_parts, and_cases, eqb-false, cond_both}
use Rattle.p1_normal.specs.declared.point.Point.{Point}
use Rattle.p1_normal.specs.Points.{point, is_before, earlier, pairs, IsBelow}
use Rattle.p1_normal.specs.Tables.{place}
use Rattle.p1_normal.specs.Sieving.{at}

pub same_point : (p q : Point) → p.u ≡ q.u → p.v ≡ q.v → p ≡ q
same_point p q e f = λ i. record { u = e i; v = f i }

pub place-at : (N x : ℕ) → place N (at N x) ≡ x
place-at N x = div-add-mod' x N

pub at-place : (N : ℕ) (p : Point) → p.v < N → at N (place N p) ≡ p
at-place N p h = same_point (at N (place N p)) p (div-mul-add p.u N p.v h) (mod-mul-add p.u N p.v h)

pub IsBelow-at : (N x : ℕ) → 0 < N → x < N * N → IsBelow N (at N x)
IsBelow-at N x some h = record { first = (div-lt_iff_lt-mul some).1 h; second = mod-lt x some }

pub place-lt : (N : ℕ) (p : Point) → IsBelow N p → place N p < N * N
place-lt N p h = mul-add-lt p.u N p.v N h.first h.second

pub place_inj : (N : ℕ) (p q : Point) → p.v < N → q.v < N → place N p ≡ place N q → p ≡ q
place_inj N p q g h e = let (a, b) = same_from_place p.u p.v q.u q.v N g h e in same_point p q a b

row_le : (a b N : ℕ) → a < b → a * N + N ≤ b * N
row_le a b N h = let e : (a + 1) * N ≤ b * N = mul-le-mul_right N (omega arith) in omega arith

pub place-before : (N : ℕ) (p q : Point) → p.v < N → is_before p q ≡ true → place N p < place N q
place-before N p q h e = elim (or_cases (nat_lt p.u q.u) (nat_eq p.u q.u && nat_lt p.v q.v) e) [
  | inl l ↦ omega (arith, row_le p.u q.u N (ltb-true p.u q.u l))
  | inr w ↦ let (same, l) = and_parts (nat_eq p.u q.u) (nat_lt p.v q.v) w in omega
      (arith, ap (λ n. n * N) (eqb-true p.u q.u same), ltb-true p.v q.v l)
]

pub place-not_before : (N : ℕ) (p q : Point) → q.v < N → is_before p q ≡ false → place N q ≤ place N p
place-not_before N p q h e =
    let (l, w) = or_parts (nat_lt p.u q.u) (nat_eq p.u q.u && nat_lt p.v q.v) e in
    let le : q.u ≤ p.u = ltb-false p.u q.u l in
    elim (and_cases (nat_eq p.u q.u) (nat_lt p.v q.v) w) [
      | inl more ↦ let other : p.u ≡ q.u → ⊥ = eqb-false p.u q.u more in omega (arith, row_le q.u p.u N (omega arith))
      | inr z ↦ omega (arith, mul-le-mul_right N le, ltb-false p.v q.v z)
    ]

pub place-earlier_left : (N : ℕ) (p q : Point) → p.v < N → q.v < N → place N (earlier p q) ≤ place N p
place-earlier_left N p q g h = cond_both (is_before q p) q p (λ r. place N r ≤ place N p) (λ e. omega (arith, place-before N q p h e))
    (λ e. omega arith)

pub place-earlier_right : (N : ℕ) (p q : Point) → p.v < N → q.v < N → place N (earlier p q) ≤ place N q
place-earlier_right N p q g h = cond_both (is_before q p) q p (λ r. place N r ≤ place N q) (λ e. omega arith) (λ e. place-not_before N q p g e)

pub earlier_is : (P : Point → Type 0) (p q : Point) → P p → P q → P (earlier p q)
earlier_is P p q g h = cond_both (is_before q p) q p P (λ e. h) (λ e. g)

-- ---- all pairs in order are the pairs at the places in order
range-append : (a m n : ℕ) → range_with_len a (m + n) ≡ range_with_len a m ++ range_with_len (a + m) n
range-append a zero n = let e : 0 + n ≡ n = omega arith in let f : a + 0 ≡ a = omega arith in rw (e, f) refl
range-append a (suc m) n =
    let e : suc m + n ≡ suc (m + n) = omega arith in
    let f : a + suc m ≡ a + 1 + m = omega arith in
    rw (e, f) (ap (λ xs. a ∷ xs) (range-append (a + 1) m n))

map-append : (f : ℕ → Point) (xs ys : List ℕ) → map f (xs ++ ys) ≡ map f xs ++ map f ys
map-append f [] ys = refl
map-append f (x ∷ xs) ys = ap (λ zs. f x ∷ zs) (map-append f xs ys)

row_of_pairs : (N u b n : ℕ) → b + n ≤ N → map (λ v. point u v) (range_with_len b n) ≡ map (at N) (range_with_len (u * N + b) n)
row_of_pairs N u b zero h = refl
row_of_pairs N u b (suc n) h =
    let e : u * N + b + 1 ≡ u * N + (b + 1) = omega arith in
    let here : point u b ≡ at N (u * N + b) = sym (at-place N (point u b) (omega arith)) in
    rw e (ap (λ p. p ∷ map (λ v. point u v) (range_with_len (b + 1) n)) here
    ∙ ap (λ ps. at N (u * N + b) ∷ ps) (row_of_pairs N u (b + 1) n (omega arith)))

rows_of_pairs : (N a k : ℕ) → flat_map (λ u. map (λ v. point u v) (range_with_len 0 N)) (range_with_len a k)
    ≡ map (at N) (range_with_len (a * N) (k * N))
rows_of_pairs N a zero = let e : 0 * N ≡ 0 = zero-mul N in rw e refl
rows_of_pairs N a (suc k) =
    let e : suc k * N ≡ N + k * N = omega arith in
    let f : a * N + 0 ≡ a * N = omega arith in
    let g : a * N + N ≡ (a + 1) * N = omega arith in
    rw e (ap (λ ps. ps ++ flat_map (λ u. map (λ v. point u v) (range_with_len 0 N)) (range_with_len (a + 1) k))
    (row_of_pairs N a 0 N (omega arith) ∙ ap (λ n. map (at N) (range_with_len n N)) f)
    ∙ ap (λ ps. map (at N) (range_with_len (a * N) N) ++ ps) (rows_of_pairs N (a + 1) k ∙ ap (λ n. map (at N) (range_with_len n (k * N))) (sym g))
    ∙ sym (map-append (at N) (range_with_len (a * N) N) (range_with_len (a * N + N) (k * N)))
    ∙ ap (map (at N)) (sym (range-append (a * N) N (k * N))))

pub pairs_are : (N : ℕ) → pairs N ≡ map (at N) (range_with_len 0 (N * N))
pairs_are N = let e : 0 * N ≡ 0 = zero-mul N in rows_of_pairs N 0 N ∙ ap (λ a. map (at N) (range_with_len a (N * N))) e
