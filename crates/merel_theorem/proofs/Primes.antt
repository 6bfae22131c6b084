-- In how many lattices of prime index q a lattice of index q n lies: in all q + 1 of them where q divides its matrix, and else in one alone
-- (`prime_count`).
use Rattle.std.proofs.Common.{◌≡◌, ◌≢◌, ◌⊎◌, ◌+◌, ◌-◌, ◌*◌, ◌%◌, ◌<◌, ◌≤◌, ℕ, zero, suc, Bool, true, cond, nat_eq, List, [], ◌∷◌, length, All, refl, sym, ◌∙◌, ap, subst, inl, inr, arith, eq-eqb, eqb-true}
use Rattle.std.specs.Prelude.{ℤ, pos, ◌+ℤ◌, ◌-ℤ◌, ◌*ℤ◌, filter}
use Rattle.std.specs.List.{range_with_len, sum_by}
use Rattle.std.proofs.Math.Nat.{mul-mod_left, mod-eq_of_lt, mod_self}
use Rattle.std.proofs.lemmas.Int.{ints}
use Rattle.std.proofs.lemmas.Bool.{cases_lt, cond_both, false≢true}
use Rattle.std.proofs.lemmas.List.Elements.{All-head, All-tail, All-weaker}
use Rattle.std.proofs.lemmas.List.Kept.{AllPairs-filter}
use Rattle.std.proofs.lemmas.List.Sums.{sum_by-cons}
use Rattle.linear_algebra.specs.Prime.{IsPrime}
use Rattle.linear_algebra.proofs.Primes.{has_inverse}
use Rattle.p1_normal.specs.declared.matrix.Matrix.{Matrix}
use Rattle.p1_normal.specs.Units.{gcd}
use Rattle.p1_normal.specs.Actions.{matrix, product}
use Rattle.p1_normal.proofs.Units.{gcd_from_IsUnit}
use Rattle.heilbronn_sets.specs.Merel.{starts}
use Rattle.heilbronn_chains.specs.Lattice.{IsMultiple}
use Rattle.heilbronn_chains.specs.Starts.{IsStart, divisor_sum}
use Rattle.heilbronn_chains.proofs.Integers.{is_gap, pos_gap, gaps, gap_same}
use Rattle.heilbronn_chains.proofs.ColumnSteps.{multiple_add, multiple_times}
use Rattle.heilbronn_chains.proofs.Hermite.{start_entries, cancelled}
use Rattle.heilbronn_chains.proofs.ChainLists.{All-starts, Contains-starts}
use Rattle.heilbronn_chains.proofs.Divisors.{length-starts}
use Rattle.merel_theorem.proofs.Terms.{same_matrix}
use Rattle.merel_theorem.proofs.Bases.{start_determinant}
use Rattle.merel_theorem.proofs.Lands.{starts_apart}
use Rattle.merel_theorem.proofs.Factors.{Divides, divides, divides_from_test, test_from_divides}
use Rattle.merel_theorem.proofs.Counts.{filtered_start}
use Rattle.merel_theorem.proofs.Only.{multiple_without, above}
use Rattle.merel_theorem.proofs.Scaled.{scalar, scalar_determinant, all_divide}
use Rattle.merel_theorem.proofs.Members.{contains_filter, filtered_passes, one_member}
use Rattle.merel_theorem.proofs.Classes.{difference}
use Rattle.merel_theorem.proofs.Moved.{positive_times}

-- ---- there are q + 1 starts of determinant q
abbrev divides_number : ℕ → ℕ → Bool
divides_number q d = nat_eq (q % d) 0

-- of the numbers from d > 1 to q only q divides q
upper_divisors : (q : ℕ) → IsPrime q → (k d : ℕ) → 1 < d → d + k ≡ q → sum_by (λ d. d) (filter (divides_number q) (range_with_len d (suc k))) ≡ q
upper_divisors q prime zero d more e =
    let same : d ≡ q = omega (arith, e) in
    cond_both (divides_number q d) (d ∷ []) [] (λ ds. sum_by (λ d. d) ds ≡ q)
    (λ passes. sum_by-cons (λ d. d) d [] ∙ omega (arith, same))
    (λ fails. absurd (false≢true (sym fails ∙ eq-eqb (q % d) 0 (ap (λ x. q % x) same ∙ mod_self q))))
upper_divisors q prime (suc k) d more e =
    cond_both (divides_number q d) (d ∷ filter (divides_number q) (range_with_len (d + 1) (suc k)))
    (filter (divides_number q) (range_with_len (d + 1) (suc k)))
    (λ ds. sum_by (λ d. d) ds ≡ q)
    (λ passes. elim (prime.only_trivial d (eqb-true (q % d) 0 passes)) [
      | inl one ↦ absurd (omega (arith, one, more))
      | inr all ↦ absurd (omega (arith, all, e))
    ])
    (λ fails. upper_divisors q prime k (d + 1) (omega (arith, more)) (omega (arith, e)))

divisors_from : (q k : ℕ) → IsPrime q → 2 + k ≡ q → sum_by (λ d. d) (filter (divides_number q) (range_with_len 1 (suc (suc k)))) ≡ 1 + q
divisors_from q k prime e =
    cond_both (divides_number q 1) (1 ∷ filter (divides_number q) (range_with_len 2 (suc k))) (filter (divides_number q) (range_with_len 2 (suc k)))
    (λ ds. sum_by (λ d. d) ds ≡ 1 + q)
    (λ passes. sum_by-cons (λ d. d) 1 (filter (divides_number q) (range_with_len 2 (suc k))) ∙ ap (λ s. 1 + s)
    (upper_divisors q prime k 2 (omega arith) e))
    (λ fails. absurd (false≢true (sym fails ∙ eq-eqb (q % 1) 0 (by_one q))))
  where
    by_one : (q : ℕ) → q % 1 ≡ 0
    by_one q = let e : q * 1 ≡ q = omega arith in ap (λ x. x % 1) (sym e) ∙ mul-mod_left q 1

prime_divisors : (q : ℕ) → IsPrime q → divisor_sum q ≡ 1 + q
prime_divisors zero prime = absurd (omega (arith, prime.above_one))
prime_divisors (suc zero) prime = absurd (omega (arith, prime.above_one))
prime_divisors (suc (suc k)) prime = divisors_from (suc (suc k)) k prime (omega arith)

pub length-prime_starts : (q : ℕ) → IsPrime q → length (starts q) ≡ 1 + q
length-prime_starts q prime = length-starts q (omega (arith, prime.above_one)) ∙ prime_divisors q prime

-- ---- they are [[q, 0], [0, 1]] and [[1, 0], [c, q]] for c below q
record Low (q : ℕ) (h : Matrix) : Type 0 where
  c : ℕ
  below : c < q
  is : h ≡ matrix (pos 1) (pos 0) (pos c) (pos q)

prime_start : (q : ℕ) (h : Matrix) → IsPrime q → IsStart q h → (h ≡ matrix (pos q) (pos 0) (pos 0) (pos 1)) ⊎ Low q h
prime_start q h prime is =
    let some : 0 < q = omega (arith, prime.above_one) in
    let e = start_entries q h some is in
    elim (prime.only_trivial e.d (ap (λ x. x % e.d) (sym e.diagonal) ∙ mul-mod_left e.a e.d)) [
      | inl one ↦
          let left : e.a ≡ q = omega (arith, ap (λ x. e.a * x) one, e.diagonal) in
          let corner : e.c ≡ 0 = omega (arith, one, e.below) in
          inl (e.is ∙ same_matrix (ap pos left) refl (ap pos corner) (ap pos one))
      | inr all ↦
          let left : e.a ≡ 1 = cancelled q e.a 1 some (omega (arith, ap (λ x. e.a * x) all, e.diagonal)) in
          inr (record { c = e.c; below = omega (arith, all, e.below); is = e.is ∙ same_matrix (ap pos left) refl refl (ap pos all) })
    ]

-- ---- the columns of what they divide
low_entry : (c q x z : ℤ) → z *ℤ q ≡ (c *ℤ x +ℤ q *ℤ z) -ℤ c *ℤ (pos 1 *ℤ x +ℤ pos 0 *ℤ z)
low_entry c q x z = rw (is_gap c, is_gap q, is_gap x, is_gap z, pos_gap 1, pos_gap 0) (simp gaps (gap_same _ _ _ _ (omega arith)))

upper_entry : (q x z : ℤ) → x *ℤ q ≡ q *ℤ x +ℤ pos 0 *ℤ z
upper_entry q x z = rw (is_gap q, is_gap x, is_gap z, pos_gap 0) (simp gaps (gap_same _ _ _ _ (omega arith)))

lower_entry : (q x z : ℤ) → x *ℤ q ≡ pos 0 *ℤ z +ℤ q *ℤ x
lower_entry q x z = rw (is_gap q, is_gap x, is_gap z, pos_gap 0) (simp gaps (gap_same _ _ _ _ (omega arith)))

low_first : (q c : ℕ) (h t : Matrix) → h ≡ matrix (pos 1) (pos 0) (pos c) (pos q) → Divides h t → IsMultiple q (t.c -ℤ pos c *ℤ t.a)
low_first q c h t e d =
    let w : Matrix = d.cofactor in
    record {
      quotient = w.c;
      product = low_entry (pos c) (pos q) w.a w.c ∙ sym (ap (λ m. m.c -ℤ pos c *ℤ m.a) (d.is ∙ ap (λ k. product k w) e));
    }

low_second : (q c : ℕ) (h t : Matrix) → h ≡ matrix (pos 1) (pos 0) (pos c) (pos q) → Divides h t → IsMultiple q (t.d -ℤ pos c *ℤ t.b)
low_second q c h t e d =
    let w : Matrix = d.cofactor in
    record {
      quotient = w.d;
      product = low_entry (pos c) (pos q) w.b w.d ∙ sym (ap (λ m. m.d -ℤ pos c *ℤ m.b) (d.is ∙ ap (λ k. product k w) e));
    }

high_first : (q : ℕ) (h t : Matrix) → h ≡ matrix (pos q) (pos 0) (pos 0) (pos 1) → Divides h t → IsMultiple q t.a
high_first q h t e d =
    let w : Matrix = d.cofactor in
    record { quotient = w.a; product = upper_entry (pos q) w.a w.c ∙ sym (ap (λ m. m.a) (d.is ∙ ap (λ k. product k w) e)) }

high_second : (q : ℕ) (h t : Matrix) → h ≡ matrix (pos q) (pos 0) (pos 0) (pos 1) → Divides h t → IsMultiple q t.b
high_second q h t e d =
    let w : Matrix = d.cofactor in
    record { quotient = w.b; product = upper_entry (pos q) w.b w.d ∙ sym (ap (λ m. m.b) (d.is ∙ ap (λ k. product k w) e)) }

-- ---- a column in two of these lattices is q times a column
record Both (q : ℕ) (x z : ℤ) : Type 0 where
  first : IsMultiple q x
  second : IsMultiple q z

from_first : (q c : ℕ) (x z : ℤ) → IsMultiple q x → IsMultiple q (z -ℤ pos c *ℤ x) → Both q x z
from_first q c x z g f = record {
  first = g;
  second = subst (IsMultiple q) (back z (pos c *ℤ x)) (multiple_add q (z -ℤ pos c *ℤ x) (pos c *ℤ x) f (multiple_times q (pos c) x g));
}
  where
    back : (z y : ℤ) → (z -ℤ y) +ℤ y ≡ z
    back z y = omega (arith, ints)

coprime_below : (q k : ℕ) → IsPrime q → 0 < k → k < q → gcd k q ≡ 1
coprime_below q k prime some l =
    let (m, e) = has_inverse prime k (λ z. omega (arith, z, some, mod-eq_of_lt l)) in
    gcd_from_IsUnit q k (record { inverse = m; gives_one = e ∙ sym (mod-eq_of_lt prime.above_one) })

from_two : (q c e : ℕ) (x z : ℤ) → IsPrime q → c < e → e < q → IsMultiple q (z -ℤ pos c *ℤ x) → IsMultiple q (z -ℤ pos e *ℤ x) → Both q x z
from_two q c e x z prime l m f g =
    let k : ℕ = e - c in
    let sum : pos c +ℤ pos k ≡ pos e = omega (arith, ints, l) in
    let difference : IsMultiple q (pos k *ℤ x) = record {
      quotient = f.quotient -ℤ g.quotient;
      product = spread f.quotient g.quotient (pos q) ∙ ap (λ w. w -ℤ (g.quotient *ℤ pos q)) f.product ∙ ap (λ w. (z -ℤ pos c *ℤ x) -ℤ w) g.product
          ∙ ap (λ n. (z -ℤ pos c *ℤ x) -ℤ (z -ℤ n *ℤ x)) (sym sum) ∙ law z (pos c) (pos k) x;
    } in
    from_first q c x z (multiple_without q k x (omega (arith, prime.above_one))
    (coprime_below q k prime (omega (arith, l)) (omega (arith, m))) difference) f
  where
    spread : (u v q : ℤ) → (u -ℤ v) *ℤ q ≡ (u *ℤ q) -ℤ (v *ℤ q)
    spread u v q = rw (is_gap u, is_gap v, is_gap q) (simp gaps (gap_same _ _ _ _ (omega arith)))

    law : (z c k x : ℤ) → (z -ℤ c *ℤ x) -ℤ (z -ℤ (c +ℤ k) *ℤ x) ≡ k *ℤ x
    law z c k x = rw (is_gap z, is_gap c, is_gap k, is_gap x) (simp gaps (gap_same _ _ _ _ (omega arith)))

whole_from : (q : ℕ) (t : Matrix) → Both q t.a t.c → Both q t.b t.d → Divides (scalar q) t
whole_from q t f g = record {
  cofactor = matrix f.first.quotient g.first.quotient f.second.quotient g.second.quotient;
  is = same_matrix (upper t.a f.first f.second.quotient) (upper t.b g.first g.second.quotient) (lower t.c f.second f.first.quotient)
      (lower t.d g.second g.first.quotient);
}
  where
    upper : (x : ℤ) (h : IsMultiple q x) (z : ℤ) → x ≡ pos q *ℤ h.quotient +ℤ pos 0 *ℤ z
    upper x h z = sym h.product ∙ upper_entry (pos q) h.quotient z

    lower : (x : ℤ) (h : IsMultiple q x) (z : ℤ) → x ≡ pos 0 *ℤ z +ℤ pos q *ℤ h.quotient
    lower x h z = sym h.product ∙ lower_entry (pos q) h.quotient z

-- two starts of determinant q that divide t are one, or q divides t
low_and_low : (q : ℕ) (h k t : Matrix) → IsPrime q → (l : Low q h) (m : Low q k) → l.c < m.c → Divides h t → Divides k t → Divides (scalar q) t
low_and_low q h k t prime l m less d e = whole_from q t
    (from_two q l.c m.c t.a t.c prime less m.below (low_first q l.c h t l.is d) (low_first q m.c k t m.is e))
    (from_two q l.c m.c t.b t.d prime less m.below (low_second q l.c h t l.is d) (low_second q m.c k t m.is e))

high_and_low : (q : ℕ) (h k t : Matrix) → h ≡ matrix (pos q) (pos 0) (pos 0) (pos 1) → Low q k → Divides h t → Divides k t → Divides (scalar q) t
high_and_low q h k t f m d e = whole_from q t (from_first q m.c t.a t.c (high_first q h t f d) (low_first q m.c k t m.is e))
    (from_first q m.c t.b t.d (high_second q h t f d) (low_second q m.c k t m.is e))

two_divide : (q : ℕ) (h k t : Matrix) → IsPrime q → IsStart q h → IsStart q k → Divides h t → Divides k t → (h ≡ k) ⊎ Divides (scalar q) t
two_divide q h k t prime h_is k_is d e = elim (prime_start q h prime h_is) [
  | inl f ↦ elim (prime_start q k prime k_is) [
    | inl g ↦ inl (f ∙ sym g)
    | inr m ↦ inr (high_and_low q h k t f m d e)
  ]
  | inr l ↦ elim (prime_start q k prime k_is) [
    | inl g ↦ inr (high_and_low q k h t g l e d)
    | inr m ↦ elim (cases_lt l.c m.c) [
      | inl less ↦ inr (low_and_low q h k t prime l m less d e)
      | inr other ↦ elim (cases_lt m.c l.c) [
        | inl less ↦ inr (low_and_low q k h t prime m l less e d)
        | inr most ↦ inl (l.is ∙ same_matrix refl refl (ap pos (equal l.c m.c other most)) refl ∙ sym m.is)
      ]
    ]
  ]
]
  where
    equal : (x y : ℕ) → y ≤ x → x ≤ y → x ≡ y
    equal x y l m = omega (arith, l, m)

-- ---- how many divide a start of determinant q n
filter_all : {X : Type 0} (p : X → Bool) (xs : List X) → All (λ x. p x ≡ true) xs → filter p xs ≡ xs
filter_all p [] all = refl
filter_all p (x ∷ xs) all = cond_both (p x) (x ∷ filter p xs) (filter p xs) (λ ys. ys ≡ x ∷ xs)
    (λ passes. ap (λ ys. x ∷ ys) (filter_all p xs (All-tail (λ x. p x ≡ true) x xs all)))
    (λ fails. absurd (false≢true (sym fails ∙ All-head (λ x. p x ≡ true) x xs all)))

pub prime_count : (q n : ℕ) (t : Matrix) → IsPrime q → 0 < n → IsStart (q * n) t
    → length (filter (λ h. divides q h t) (starts q)) ≡ 1 + cond (divides (q * q) (scalar q) t) q 0
prime_count q n t prime other is =
    let some : 0 < q = omega (arith, prime.above_one) in
    let test : Matrix → Bool = λ h. divides q h t in
    cond_both (divides (q * q) (scalar q) t) q 0 (λ c. length (filter test (starts q)) ≡ 1 + c)
    (λ passes.
    let whole = divides_from_test (q * q) (scalar q) t (positive_times q q some some) (scalar_determinant q) passes in
    ap length (filter_all test (starts q) (All-weaker (IsStart q) (λ h. test h ≡ true)
    (λ h h_is.
    let det = start_determinant q h some h_is in
    test_from_divides q h t det (all_divide q h t det whole)) (starts q) (All-starts q)))
    ∙ length-prime_starts q prime)
    (λ fails.
    let a = above q n t some other is in
    one_member (filter test (starts q)) a.start (AllPairs-filter (λ x y. x ≢ y) test (starts q) (starts_apart q))
    (contains_filter test (starts q) a.start ((Contains-starts q a.start some).1 a.is)
    (test_from_divides q a.start t (start_determinant q a.start some a.is) a.divides))
    (λ y inside.
    let y_is = filtered_start q test y inside in
    elim (two_divide q y a.start t prime y_is a.is
    (divides_from_test q y t some (start_determinant q y some y_is) (filtered_passes test (starts q) y inside)) a.divides) [
      | inl same ↦ same
      | inr whole ↦ absurd (false≢true (sym fails ∙ test_from_divides (q * q) (scalar q) t (scalar_determinant q) whole))
    ]))
