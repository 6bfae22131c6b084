-- The number of starts is the sum of the divisors.
use Rattle.std.proofs.Common.{◌≡◌, ◌≢◌, ◌+◌, ◌*◌, ◌/◌, ◌%◌, ◌<◌, ℕ, zero, suc, Bool, true, false, cond, List, [], ◌∷◌, length, refl, sym, ◌∙◌, ap, subst, inl, inr, arith, eqb-true, eq-eqb}
use Rattle.std.specs.Prelude.{filter, nat_eq}
use Rattle.std.specs.List.{range_with_len, flat_map, sum_by}
use Rattle.std.proofs.Math.Nat.{div-add-mod, mul-mod_right}
use Rattle.std.proofs.lemmas.Bool.{cases_eq, cond_both, false_from_ne_true}
use Rattle.std.proofs.lemmas.List.{length-append}
use Rattle.std.proofs.lemmas.List.Sums.{sum_by-cons}
use Rattle.std.proofs.lemmas.List.FromFn.{length-map-range_with_len}
use Rattle.p1_normal.specs.Actions.{matrix}
use Rattle.heilbronn_sets.specs.Merel.{with_row, starts}
use Rattle.heilbronn_sets.proofs.Pieces.{flat_map-range_more}
use Rattle.heilbronn_sets.proofs.Rows.{row_empty}
use Rattle.heilbronn_chains.specs.Starts.{divisor_sum}
use Rattle.heilbronn_chains.proofs.Hermite.{cancelled}
use Rattle.heilbronn_chains.proofs.StartLists.{starts_rows, row_starts, row_none}

-- ---- sums over the numbers below a bound
pub sum_below : (ℕ → ℕ) → ℕ → ℕ
sum_below f zero = 0
sum_below f (suc n) = sum_below f n + f n

below_none : (f : ℕ → ℕ) (n : ℕ) → ((j : ℕ) → j < n → f j ≡ 0) → sum_below f n ≡ 0
unfolding sum_below
below_none f zero h = refl
below_none f (suc n) h = omega (arith, below_none f n (λ j l. h j (omega (arith, l))), h n (omega arith))

below_one : (f : ℕ → ℕ) (q n : ℕ) → q < n → ((j : ℕ) → j ≢ q → f j ≡ 0) → sum_below f n ≡ f q
unfolding sum_below
below_one f q zero l h = absurd (omega (arith, l))
below_one f q (suc n) l h = elim (cases_eq n q) [
  | inl same ↦ let none = below_none f n (λ j m. h j (omega (arith, m, same))) in omega (arith, none, ap f same)
  | inr other ↦ omega (arith, below_one f q n (omega arith) h, h n other)
]

below_same : (f g : ℕ → ℕ) (n : ℕ) → ((j : ℕ) → f j ≡ g j) → sum_below f n ≡ sum_below g n
below_same f g n h = ap (λ k. sum_below k n) (λ i j. h j i)

below_add : (f g : ℕ → ℕ) (n : ℕ) → sum_below (λ j. f j + g j) n ≡ sum_below f n + sum_below g n
unfolding sum_below
below_add f g zero = refl
below_add f g (suc n) = omega (arith, below_add f g n)

-- double sums may be exchanged
below_exchange : (f : ℕ → ℕ → ℕ) (m n : ℕ) → sum_below (λ a. sum_below (f a) n) m ≡ sum_below (λ d. sum_below (λ a. f a d) m) n
unfolding sum_below
below_exchange f zero n = sym (below_none (λ d. 0) n (λ j l. refl))
below_exchange f (suc m) n = ap (λ k. k + sum_below (f m) n) (below_exchange f m n) ∙ sym (below_add (λ d. sum_below (λ a. f a d) m) (f m) n)

-- ---- the divisors
-- d where a d = n
pub partner : ℕ → ℕ → ℕ → ℕ
partner n a d = cond (nat_eq (a * d) n) d 0

partner_same : (n a d : ℕ) → a * d ≡ n → partner n a d ≡ d
unfolding partner
partner_same n a d e = ap (λ t. cond t d 0) (eq-eqb (a * d) n e)

partner_other : (n a d : ℕ) → (a * d ≡ n → ⊥) → partner n a d ≡ 0
unfolding partner
partner_other n a d h = ap (λ t. cond t d 0) (false_from_ne_true (nat_eq (a * d) n) (λ e. h (eqb-true (a * d) n e)))

-- a product leaves nothing
product_rest : (n a d : ℕ) → a * d ≡ n → n % a ≡ 0
product_rest n a d e = subst (λ m. m % a ≡ 0) e (mul-mod_right a d)

-- the row of a start
row_length : (n a : ℕ) → 0 < n → length (with_row n a 0) ≡ sum_below (partner n a) (n + 1)
row_length n zero some = ap length (row_empty n 0 0 (omega arith))
    ∙ sym (below_none (partner n 0) (n + 1) (λ j l. partner_other n 0 j (λ e. omega (arith, e, some))))
row_length n (suc a) some = elim (cases_eq (n % suc a) 0) [
  | inl none ↦
      let e : suc a * (n / suc a) ≡ n = omega (arith, div-add-mod n (suc a), none) in
      let d = n / suc a in
      ap length (row_starts n (suc a) d (omega arith) some e) ∙ length-map-range_with_len (λ c. matrix _ _ _ _) 0 d
      ∙ sym (partner_same n (suc a) d e) ∙ sym (below_one (partner n (suc a)) d (n + 1) (within a d e)
      (λ j other. partner_other n (suc a) j (λ f. other (cancelled (suc a) j d (omega arith) (f ∙ sym e)))))
  | inr more ↦ ap length (row_none n (suc a) (omega arith) more)
      ∙ sym (below_none (partner n (suc a)) (n + 1) (λ j l. partner_other n (suc a) j (λ f. more (product_rest n (suc a) j f))))
]
  where
    within : (a d : ℕ) → suc a * d ≡ n → d < n + 1
    within a d e = omega (arith, e)

-- a divisor d, or 0
divisor : ℕ → ℕ → ℕ
divisor n d = cond (nat_eq (n % d) 0) d 0

divisor_same : (n d : ℕ) → n % d ≡ 0 → divisor n d ≡ d
unfolding divisor
divisor_same n d e = ap (λ t. cond t d 0) (eq-eqb (n % d) 0 e)

divisor_other : (n d : ℕ) → n % d ≢ 0 → divisor n d ≡ 0
unfolding divisor
divisor_other n d h = ap (λ t. cond t d 0) (false_from_ne_true (nat_eq (n % d) 0) (λ e. h (eqb-true (n % d) 0 e)))

either_same : (t : Bool) (k : ℕ) → cond t k k ≡ k
either_same true k = refl
either_same false k = refl

column : (n d : ℕ) → 0 < n → sum_below (λ a. partner n a d) (n + 1) ≡ divisor n d
unfolding divisor partner
column n zero some = below_none (λ a. partner n a 0) (n + 1) (λ a l. either_same (nat_eq (a * 0) n) 0) ∙ sym (either_same (nat_eq (n % 0) 0) 0)
column n (suc d) some = elim (cases_eq (n % suc d) 0) [
  | inl none ↦
      let e : (n / suc d) * suc d ≡ n = omega (arith, div-add-mod n (suc d), none) in
      let a = n / suc d in
      below_one (λ a. partner n a (suc d)) a (n + 1) (within a d e)
      (λ j other. partner_other n j (suc d) (λ f. other (cancelled (suc d) j a (omega arith) (omega (arith, f, e)))))
      ∙ partner_same n a (suc d) e ∙ sym (divisor_same n (suc d) none)
  | inr more ↦ below_none (λ a. partner n a (suc d)) (n + 1) (λ j l.
      partner_other n j (suc d) (λ f. more (product_rest n (suc d) j (omega (arith, f))))) ∙ sym (divisor_other n (suc d) more)
]
  where
    within : (a d : ℕ) → a * suc d ≡ n → a < n + 1
    within a d e = omega (arith, e)

-- the sum over those that pass is the sum of what passes
filtered_sum : (n : ℕ) (ds : List ℕ) → sum_by (λ d. d) (filter (λ d. nat_eq (n % d) 0) ds) ≡ sum_by (divisor n) ds
unfolding divisor
filtered_sum n [] = refl
filtered_sum n (d ∷ ds) = cond_both (nat_eq (n % d) 0) (d ∷ filter (λ d. nat_eq (n % d) 0) ds) (filter (λ d. nat_eq (n % d) 0) ds)
    (λ xs. sum_by (λ d. d) xs ≡ sum_by (divisor n) (d ∷ ds))
    (λ e. sum_by-cons (λ d. d) d (filter (λ d. nat_eq (n % d) 0) ds) ∙ ap (λ k. d + k) (filtered_sum n ds)
    ∙ ap (λ k. k + sum_by (divisor n) ds) (sym (divisor_same n d (eqb-true (n % d) 0 e))) ∙ sym (sum_by-cons (divisor n) d ds))
    (λ e. filtered_sum n ds ∙ nothing (sum_by (divisor n) ds) ∙ ap (λ k. k + sum_by (divisor n) ds) (sym (by_test d e))
    ∙ sym (sum_by-cons (divisor n) d ds))
  where
    nothing : (k : ℕ) → k ≡ 0 + k
    nothing k = omega arith

    by_test : (d : ℕ) → nat_eq (n % d) 0 ≡ false → divisor n d ≡ 0
    by_test d e = ap (λ t. cond t d 0) e

range_sum : (f : ℕ → ℕ) (a k : ℕ) → sum_below f a + sum_by f (range_with_len a k) ≡ sum_below f (a + k)
unfolding sum_below
range_sum f a zero = let e : a + 0 ≡ a = omega arith in rw e (omega arith)
range_sum f a (suc k) =
    let e : a + suc k ≡ suc a + k = omega arith in
    let i : a + 1 ≡ suc a = omega arith in
    ap (λ x. sum_below f a + x) (sum_by-cons f a (range_with_len (a + 1) k)) ∙ omega arith
    ∙ ap (λ b. sum_below f a + f a + sum_by f (range_with_len b k)) i ∙ range_sum f (suc a) k ∙ ap (sum_below f) (sym e)

pieces_length : {A : Type 0} (f : ℕ → List A) (n : ℕ) → length (flat_map f (range_with_len 0 n)) ≡ sum_below (λ a. length (f a)) n
unfolding sum_below
pieces_length f zero = refl
pieces_length f (suc n) =
    let i : suc n ≡ n + 1 = omega arith in
    ap (λ m. length (flat_map f (range_with_len 0 m))) i ∙ ap length (flat_map-range_more f n) ∙ length-append (flat_map f (range_with_len 0 n)) (f n)
    ∙ ap (λ k. k + length (f n)) (pieces_length f n)

-- there are as many starts as the divisors of n add up to
pub length-starts : (n : ℕ) → 0 < n → length (starts n) ≡ divisor_sum n
unfolding sum_below divisor
length-starts n some =
    ap length (starts_rows n) ∙ pieces_length (λ a. with_row n a 0) (n + 1)
    ∙ below_same (λ a. length (with_row n a 0)) (λ a. sum_below (partner n a) (n + 1)) (n + 1) (λ a. row_length n a some)
    ∙ below_exchange (partner n) (n + 1) (n + 1) ∙ below_same (λ d. sum_below (λ a. partner n a d) (n + 1)) (divisor n) (n + 1) (λ d. column n d some)
    ∙ last ∙ sym (filtered_sum n (range_with_len 1 n))
  where
    last : sum_below (divisor n) (n + 1) ≡ sum_by (divisor n) (range_with_len 1 n)
    last = let e : n + 1 ≡ 1 + n = omega arith in
        ap (sum_below (divisor n)) e ∙ sym (range_sum (divisor n) 1 n)
        ∙ ap (λ k. 0 + k + sum_by (divisor n) (range_with_len 1 n)) (either_same (nat_eq (n % 0) 0) 0) ∙ omega arith
