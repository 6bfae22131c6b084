-- How often a symbol occurs in a relation.
use Rattle.std.proofs.Common.{◌≡◌, ◌+◌, ◌-◌, ◌*◌, ◌<◌, ◌≤◌, ℕ, cond, List, [], ◌∷◌, length, All, nat_eq, nat_lt, sym, ◌∙◌, ap, subst, inl, inr, arith, eq-eqb}
use Rattle.std.specs.Prelude.{count_by}
use Rattle.std.proofs.lemmas.Bool.{cases_eq, cases_lt, cond-true, cond-false, ne_eqb, lt-ltb, le-ltb}
use Rattle.std.proofs.lemmas.List.Sums.{sum_by-cons}
use Rattle.std.proofs.lemmas.List.Elements.{All-nil, All-cons}
use Rattle.p1_normal.specs.Points.{symbols}
use Rattle.p1_normal.specs.Actions.{image_number, matrix_s, matrix_t}
use Rattle.p1_normal.specs.Relations.{s_pair, t_triple, relation_symbols}
use Rattle.p1_normal.proofs.Moves.{image_number-lt, invertible_s, invertible_t}
use Rattle.p1_normal.proofs.LevelLaws.{s_twice, t_thrice}

-- 1 where two numbers are equal, and 0 elsewhere
abbrev pub one_where : ℕ → ℕ → ℕ
one_where a b = cond (nat_eq a b) 1 0

pub one_where_equal : (a b : ℕ) → a ≡ b → one_where a b ≡ 1
one_where_equal a b e = cond-true (nat_eq a b) 1 0 (eq-eqb a b e)

pub one_where_apart : (a b : ℕ) → (a ≡ b → ⊥) → one_where a b ≡ 0
one_where_apart a b n = cond-false (nat_eq a b) 1 0 (ne_eqb a b n)

one_where_same : (a b c d : ℕ) → (a ≡ b → c ≡ d) → (c ≡ d → a ≡ b) → one_where a b ≡ one_where c d
one_where_same a b c d forth back = elim (cases_eq a b) [
  | inl e ↦ one_where_equal a b e ∙ sym (one_where_equal c d (forth e))
  | inr n ↦ one_where_apart a b n ∙ sym (one_where_apart c d (λ e. n (back e)))
]

pub count_by-cons : (j x : ℕ) (xs : List ℕ) → count_by (nat_eq j) (x ∷ xs) ≡ one_where j x + count_by (nat_eq j) xs
count_by-cons j x xs = sum_by-cons (one_where j) x xs

-- the symbols of an S pair and of a T triple
pub symbols_of_pair : (N k : ℕ) → k < length (symbols N) → relation_symbols N k ≡ s_pair N k
symbols_of_pair N k l = cond-true (nat_lt k (length (symbols N))) (s_pair N k) (t_triple N (k - length (symbols N))) (lt-ltb k (length (symbols N)) l)

pub symbols_of_triple : (N k : ℕ) → length (symbols N) ≤ k → relation_symbols N k ≡ t_triple N (k - length (symbols N))
symbols_of_triple N k l = cond-false (nat_lt k (length (symbols N))) (s_pair N k) (t_triple N (k - length (symbols N)))
    (le-ltb k (length (symbols N)) l)

-- S and T keep the numbers of symbols
pub s-lt : (N k : ℕ) → k < length (symbols N) → image_number N k matrix_s < length (symbols N)
s-lt N k l = image_number-lt N k matrix_s l (invertible_s N)

pub t-lt : (N k : ℕ) → k < length (symbols N) → image_number N k matrix_t < length (symbols N)
t-lt N k l = image_number-lt N k matrix_t l (invertible_t N)

pub t-t-lt : (N k : ℕ) → k < length (symbols N) → image_number N (image_number N k matrix_t) matrix_t < length (symbols N)
t-t-lt N k l = t-lt N (image_number N k matrix_t) (t-lt N k l)

-- all symbols of a relation are numbered
pub relation_symbols-lt : (N k : ℕ) → k < 2 * length (symbols N) → All (λ j. j < length (symbols N)) (relation_symbols N k)
relation_symbols-lt N k l = elim (cases_lt k (length (symbols N))) [
  | inl below ↦ subst (All (λ j. j < length (symbols N))) (sym (symbols_of_pair N k below)) (two k (image_number N k matrix_s) below (s-lt N k below))
  | inr above ↦
      let j : ℕ = k - length (symbols N) in
      let within : j < length (symbols N) = omega arith in
      subst (All (λ j. j < length (symbols N))) (sym (symbols_of_triple N k above))
      (All-cons (λ j. j < length (symbols N)) j (image_number N j matrix_t ∷ image_number N (image_number N j matrix_t) matrix_t ∷ []) within
      (two (image_number N j matrix_t) (image_number N (image_number N j matrix_t) matrix_t) (t-lt N j within) (t-t-lt N j within)))
]
  where
    two : (a b : ℕ) → a < length (symbols N) → b < length (symbols N) → All (λ j. j < length (symbols N)) (a ∷ b ∷ [])
    two a b f g = All-cons (λ j. j < length (symbols N)) a (b ∷ []) f (All-cons (λ j. j < length (symbols N)) b [] g
        (All-nil (λ j. j < length (symbols N))))

-- the relations in which symbol s occurs, with repeats: those that begin with s and s S, and with s, s T and s T T
abbrev pub touching : ℕ → ℕ → List ℕ
touching N s = s ∷ image_number N s matrix_s ∷ (length (symbols N) + s) ∷ (length (symbols N) + image_number N s matrix_t)
    ∷ (length (symbols N) + image_number N (image_number N s matrix_t) matrix_t) ∷ []

-- s occurs in relation k as often as k stands among the relations that s touches
pub occurrences_touching : (N s k : ℕ) → s < length (symbols N) → k < 2 * length (symbols N)
    → count_by (nat_eq s) (relation_symbols N k) ≡ count_by (nat_eq k) (touching N s)
occurrences_touching N s k s_below k_below = elim (cases_lt k (length (symbols N))) [
  | inl below ↦ ap (count_by (nat_eq s)) (symbols_of_pair N k below) ∙ pair k below
  | inr above ↦
      let j : ℕ = k - length (symbols N) in
      let whole : length (symbols N) + j ≡ k = omega arith in
      ap (count_by (nat_eq s)) (symbols_of_triple N k above) ∙ triple j (omega arith) ∙ ap (λ i. count_by (nat_eq i) (touching N s)) whole
]
  where
    m : ℕ
    m = length (symbols N)

    pair : (k : ℕ) → k < length (symbols N) → count_by (nat_eq s) (s_pair N k) ≡ count_by (nat_eq k) (touching N s)
    pair k below =
        let first = one_where_same s k k s sym sym in
        let second = one_where_same s (image_number N k matrix_s) k (image_number N s matrix_s)
        (λ e. sym (s_twice N k below) ∙ ap (λ i. image_number N i matrix_s) (sym e))
        (λ e. sym (s_twice N s s_below) ∙ ap (λ i. image_number N i matrix_s) (sym e)) in
        let third = one_where_apart k (length (symbols N) + s) (λ e. omega arith) in
        let fourth = one_where_apart k (length (symbols N) + image_number N s matrix_t) (λ e. omega arith) in
        let fifth = one_where_apart k (length (symbols N) + image_number N (image_number N s matrix_t) matrix_t) (λ e. omega arith) in
        omega (arith, first, second, third, fourth, fifth)

    triple : (j : ℕ) → j < length (symbols N) → count_by (nat_eq s) (t_triple N j) ≡ count_by (nat_eq (length (symbols N) + j)) (touching N s)
    triple j below =
        let S : ℕ = image_number N s matrix_s in
        let bound : S < length (symbols N) = s-lt N s s_below in
        let first = one_where_apart (length (symbols N) + j) s (λ e. omega arith) in
        let second = one_where_apart (length (symbols N) + j) S (λ e. omega arith) in
        let third = one_where_same s j (length (symbols N) + j) (length (symbols N) + s) (λ e. omega arith) (λ e. omega arith) in
        let fourth = one_where_same s (image_number N (image_number N j matrix_t) matrix_t) (length (symbols N) + j)
        (length (symbols N) + image_number N s matrix_t)
        (λ e. ap (λ i. length (symbols N) + i) (sym (t_thrice N j below) ∙ ap (λ i. image_number N i matrix_t) (sym e)))
        (λ e. let same : j ≡ image_number N s matrix_t = omega arith in sym (t_thrice N s s_below)
        ∙ ap (λ i. image_number N (image_number N i matrix_t) matrix_t) (sym same)) in
        let fifth = one_where_same s (image_number N j matrix_t) (length (symbols N) + j)
        (length (symbols N) + image_number N (image_number N s matrix_t) matrix_t)
        (λ e. ap (λ i. length (symbols N) + i) (sym (t_thrice N j below) ∙ ap (λ i. image_number N (image_number N i matrix_t) matrix_t) (sym e)))
        (λ e. let same : j ≡ image_number N (image_number N s matrix_t) matrix_t = omega arith in sym (t_thrice N s s_below)
        ∙ ap (λ i. image_number N i matrix_t) (sym same)) in
        omega (arith, first, second, third, fourth, fifth)
