-- A combination of relations at a symbol is the sum of the coefficients of the relations that the symbol touches.
use Rattle.std.proofs.Common.{◌≡◌, ◌+◌, ◌*◌, ◌%◌, ◌<◌, ◌≤◌, ℕ, zero, suc, cond, List, [], ◌∷◌, ◌++◌, length, map, nat_eq, nat_lt, refl, sym, ◌∙◌, ap, inl, inr, arith}
use Rattle.std.specs.Prelude.{count_by}
use Rattle.std.specs.List.{range_with_len}
use Rattle.std.proofs.lemmas.Bool.{cases_order, cond-true, cond-false, lt-ltb, le-ltb}
use Rattle.std.proofs.lemmas.List.FromFn.{map-range_with_len_more, length-map-range_with_len}
use Rattle.linear_algebra.specs.Residue.{Residue, residue, ◌⊕◌, ◌⊗◌}
use Rattle.linear_algebra.specs.Vector.{Vector, combination}
use Rattle.linear_algebra.proofs.ResidueLaws.{same_residue, values, add-zero, zero-add, add_middle, mul-add, mul-one, mul-zero, residue-add}
use Rattle.linear_algebra.proofs.Rows.{combination_last}
use Rattle.p1_normal.specs.Points.{symbols}
use Rattle.p1_normal.specs.Actions.{image_number, matrix_s, matrix_t}
use Rattle.manin_relations.specs.Relations.{relation, relations}
use Rattle.manin_relations.proofs.Occurrences.{one_where, one_where_equal, one_where_apart, count_by-cons, touching, occurrences_touching, s-lt, t-lt, t-t-lt}

-- the coefficient of row t, where it is among the first n rows
abbrev hit : {p : ℕ} → Vector p → ℕ → ℕ → Residue p
hit {p} c n t = cond (nat_lt t n) (c t) (residue p 0)

abbrev hits : {p : ℕ} → Vector p → ℕ → List ℕ → Residue p
hits {p} c n [] = residue p 0
hits c n (t ∷ ts) = hit c n t ⊕ hits c n ts

hit-in : {p : ℕ} (c : Vector p) (n t : ℕ) → t < n → hit c n t ≡ c t
hit-in {p} c n t l = cond-true (nat_lt t n) (c t) (residue p 0) (lt-ltb t n l)

hit-out : {p : ℕ} (c : Vector p) (n t : ℕ) → n ≤ t → hit c n t ≡ residue p 0
hit-out {p} c n t l = cond-false (nat_lt t n) (c t) (residue p 0) (le-ltb t n l)

-- one more row
hit-more : {p : ℕ} (c : Vector p) (n t : ℕ) → hit c (n + 1) t ≡ hit c n t ⊕ (c n ⊗ residue p (one_where n t))
hit-more {p} c n t = elim (cases_order t n) [
  | inl same ↦
      hit-in c (n + 1) t (omega arith) ∙ ap c same
      ∙ sym (ap (λ r. r ⊕ (c n ⊗ residue p (one_where n t))) (hit-out c n t (omega arith)) ∙ zero-add (c n ⊗ residue p (one_where n t))
      ∙ ap (λ k. c n ⊗ residue p k) (one_where_equal n t (sym same)) ∙ mul-one (c n))
  | inr apart ↦ elim apart [
    | inl before ↦
        hit-in c (n + 1) t (omega arith)
        ∙ sym (ap (λ r. r ⊕ (c n ⊗ residue p (one_where n t))) (hit-in c n t before)
        ∙ ap (λ k. c t ⊕ (c n ⊗ residue p k)) (one_where_apart n t (λ e. omega arith)) ∙ ap (λ r. c t ⊕ r) (mul-zero (c n)) ∙ add-zero (c t))
    | inr after ↦
        hit-out c (n + 1) t (omega arith)
        ∙ sym (ap (λ r. r ⊕ (c n ⊗ residue p (one_where n t))) (hit-out c n t (omega arith))
        ∙ ap (λ k. residue p 0 ⊕ (c n ⊗ residue p k)) (one_where_apart n t (λ e. omega arith)) ∙ ap (λ r. residue p 0 ⊕ r) (mul-zero (c n))
        ∙ add-zero (residue p 0))
  ]
]

hits-more : {p : ℕ} (c : Vector p) (n : ℕ) (ts : List ℕ) → hits c (n + 1) ts ≡ hits c n ts ⊕ (c n ⊗ residue p (count_by (nat_eq n) ts))
hits-more {p} c n [] = sym (ap (λ r. residue p 0 ⊕ r) (mul-zero (c n)) ∙ add-zero (residue p 0))
hits-more {p} c n (t ∷ ts) =
    ap (λ r. r ⊕ hits c (n + 1) ts) (hit-more c n t)
    ∙ ap (λ r. (hit c n t ⊕ (c n ⊗ residue p (one_where n t))) ⊕ r) (hits-more c n ts)
    ∙ add_middle (hit c n t) (c n ⊗ residue p (one_where n t)) (hits c n ts) (c n ⊗ residue p (count_by (nat_eq n) ts))
    ∙ ap (λ r. (hit c n t ⊕ hits c n ts) ⊕ r) (sym (mul-add (c n) (residue p (one_where n t)) (residue p (count_by (nat_eq n) ts)))
    ∙ ap (λ r. c n ⊗ r) (residue-add p (one_where n t) (count_by (nat_eq n) ts) ∙ ap (residue p) (sym (count_by-cons n t ts))))

hits-none : {p : ℕ} (c : Vector p) (ts : List ℕ) → hits c 0 ts ≡ residue p 0
hits-none c [] = refl
hits-none {p} c (t ∷ ts) = ap (λ r. r ⊕ hits c 0 ts) (hit-out c 0 t (omega arith)) ∙ ap (λ r. residue p 0 ⊕ r) (hits-none c ts)
    ∙ add-zero (residue p 0)

-- the first n relations
combination_hits : (p N s n : ℕ) (c : Vector p) → s < length (symbols N) → n ≤ 2 * length (symbols N)
    → combination c (map (relation {p = p} N) (range_with_len 0 n)) s ≡ hits c n (touching N s)
unfolding relation
combination_hits p N s zero c s_below l = sym (hits-none c (touching N s))
combination_hits p N s (suc n) c s_below l =
    let one_more : n + 1 ≡ suc n = omega arith in
    let rows : List (Vector p) = map (relation {p = p} N) (range_with_len 0 n) in
    let split : map (relation {p = p} N) (range_with_len 0 (n + 1)) ≡ rows ++ relation {p = p} N n ∷ [] =
    map-range_with_len_more (relation {p = p} N) 0 n n (omega arith) in
    ap (λ k. combination c (map (relation {p = p} N) (range_with_len 0 k)) s) (sym one_more)
    ∙ ap (λ rs. combination c rs s) split
    ∙ ap (λ v. v s) (combination_last c rows (relation {p = p} N n))
    ∙ ap (λ r. r ⊕ (c (length rows) ⊗ relation {p = p} N n s)) (combination_hits p N s n c s_below (omega arith))
    ∙ ap (λ k. hits c n (touching N s) ⊕ (c k ⊗ relation {p = p} N n s)) (length-map-range_with_len (relation {p = p} N) 0 n)
    ∙ ap (λ k. hits c n (touching N s) ⊕ (c n ⊗ residue p k)) (occurrences_touching N s n s_below (omega arith))
    ∙ sym (hits-more c n (touching N s))
    ∙ ap (λ k. hits c k (touching N s)) one_more

-- all relations
pub combination_relations : (p N s : ℕ) (c : Vector p) → s < length (symbols N) → combination c (relations N) s
    ≡ c s ⊕ (c (image_number N s matrix_s) ⊕ (c (length (symbols N) + s)
    ⊕ (c (length (symbols N) + image_number N s matrix_t) ⊕ (c (length (symbols N) + image_number N (image_number N s matrix_t) matrix_t)
    ⊕ residue p 0))))
combination_relations p N s c l =
    let m : ℕ = length (symbols N) in
    let by_s : ℕ = image_number N s matrix_s in
    let by_t : ℕ = image_number N s matrix_t in
    let by_t_t : ℕ = image_number N by_t matrix_t in
    let s_within : by_s < m = s-lt N s l in
    let t_within : by_t < m = t-lt N s l in
    let t_t_within : by_t_t < m = t-t-lt N s l in
    combination_hits p N s (2 * m) c l (omega arith)
    ∙ rw (
      hit-in c (2 * m) s (omega arith),
      hit-in c (2 * m) by_s (omega arith),
      hit-in c (2 * m) (m + s) (omega arith),
      hit-in c (2 * m) (m + by_t)
          (omega arith),
      hit-in c (2 * m) (m + by_t_t) (omega arith),
    ) refl

-- what the code adds up
pub sum_value : (p N s q m w t u a b d e f : ℕ) (x : Vector p) → s < length (symbols N) → q ≡ p → m ≡ length (symbols N)
    → w ≡ image_number N s matrix_s → t ≡ image_number N s matrix_t → u ≡ image_number N t matrix_t
    → residue p a ≡ x s → residue p b ≡ x w → residue p d ≡ x (m + s) → residue p e ≡ x (m + t) → residue p f ≡ x (m + u)
    → residue p ((a + b + (d + e + f)) % q) ≡ combination x (relations N) s
sum_value p N s q m w t u a b d e f x l level count by_s by_t by_t_t at_s at_w at_ms at_mt at_mu =
    let M : ℕ = length (symbols N) in
    let second : residue p b ≡ x (image_number N s matrix_s) = at_w ∙ ap x by_s in
    let third : residue p d ≡ x (M + s) = at_ms ∙ ap (λ i. x (i + s)) count in
    let fourth : residue p e ≡ x (M + image_number N s matrix_t) = at_mt ∙ ap (λ i. x (i + t)) count ∙ ap (λ i. x (M + i)) by_t in
    let fifth : residue p f ≡ x (M + image_number N (image_number N s matrix_t) matrix_t) = at_mu ∙ ap (λ i. x (i + u)) count
    ∙ ap (λ i. x (M + i)) (by_t_t ∙ ap (λ i. image_number N i matrix_t) by_t) in
    ap (λ i. residue p ((a + b + (d + e + f)) % i)) level
    ∙ spread a b d e f
    ∙ rw (at_s, second, third, fourth, fifth) (sym (combination_relations p N s x l))
  where
    spread : (a b d e f : ℕ) → residue p ((a + b + (d + e + f)) % p) ≡ residue p
        a ⊕ (residue p b ⊕ (residue p d ⊕ (residue p e ⊕ (residue p f ⊕ residue p 0))))
    spread a b d e f = same_residue (residue p ((a + b + (d + e + f)) % p))
        (residue p a ⊕ (residue p b ⊕ (residue p d ⊕ (residue p e ⊕ (residue p f ⊕ residue p 0))))) (simp values (ap (λ n. n % p) (omega arith)))
