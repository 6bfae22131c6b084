-- Merel's sum of a symbol that a matrix e s moved, with s of determinant 1, is the difference of two sums of ways over all lattices of index n
-- below that of e: from the second column of e s, less from the first (`merel_moved`).
use Rattle.std.proofs.Common.{◌≡◌, ◌≢◌, ◌*◌, ◌<◌, ℕ, zero, suc, List, [], ◌∷◌, length, All, sym, ◌∙◌, ap, subst, arith}
use Rattle.std.specs.Prelude.{ℤ, pos, ◌*ℤ◌, map}
use Rattle.std.specs.List.{flat_map}
use Rattle.std.proofs.lemmas.Int.{ints}
use Rattle.std.proofs.lemmas.List.Elements.{All-head, All-tail}
use Rattle.linear_algebra.specs.Vector.{Vector, ◌⊞◌}
use Rattle.linear_algebra.proofs.Vectors.{zeros-plus, plus_middle}
use Rattle.p1_normal.specs.declared.matrix.Matrix.{Matrix}
use Rattle.p1_normal.specs.Units.{gcd}
use Rattle.p1_normal.specs.Points.{symbols}
use Rattle.p1_normal.specs.Actions.{product, determinant, image_number, IsInvertible}
use Rattle.p1_normal.proofs.Numbers.{level_positive}
use Rattle.p1_normal.proofs.Units.{IsUnit-from_gcd, gcd_from_IsUnit, IsUnit-mul}
use Rattle.heilbronn_sets.specs.Merel.{merel_matrices, starts}
use Rattle.heilbronn_chains.specs.Starts.{IsStart}
use Rattle.heilbronn_chains.specs.Chains.{IsChain, member}
use Rattle.heilbronn_chains.proofs.ChainLists.{All-starts, chains_permutation}
use Rattle.hecke_columns.specs.Hecke.{symbol_sum}
use Rattle.hecke_columns.proofs.Coprime.{IsInvertible-from_determinant}
use Rattle.hecke_columns.proofs.Permuted.{symbol_sum-append, symbol_sum-permutation}
use Rattle.merel_theorem.proofs.Bases.{Over, Over-left, product_assoc, determinant-product, start_determinant}
use Rattle.merel_theorem.proofs.Chains.{from_end, chain_sum, sum-none}
use Rattle.merel_theorem.proofs.Lands.{Lands, none, more, lands_by_one, lands_permutation, chains_from}
use Rattle.merel_theorem.proofs.Classes.{Same, same_by, same_from, same_plus}
use Rattle.merel_theorem.proofs.Totals.{total, total-more, total-none, total-permutation}

-- products of numbers that are coprime to N
pub coprime_product : (N q n : ℕ) → 0 < N → gcd q N ≡ 1 → gcd n N ≡ 1 → gcd (q * n) N ≡ 1
coprime_product N q n some e f = gcd_from_IsUnit N (q * n) (IsUnit-mul N q n (IsUnit-from_gcd N q some e) (IsUnit-from_gcd N n some f))

-- a determinant q that is positive and coprime to N
pub record HasIndex (N q : ℕ) (e : Matrix) : Type 0 where
  pub determinant_is : determinant e ≡ pos q
  pub positive : 0 < q
  pub coprime : gcd q N ≡ 1

pub index_invertible : (N q : ℕ) (e : Matrix) → HasIndex N q e → IsInvertible N e
index_invertible N q e h = IsInvertible-from_determinant N q e h.coprime h.determinant_is

pub index_nonzero : (N q : ℕ) (e : Matrix) → HasIndex N q e → determinant e ≢ pos 0
index_nonzero N q e h z = nonzero q h.positive (sym h.determinant_is ∙ z)
  where
    nonzero : (q : ℕ) → 0 < q → pos q ≡ pos 0 → ⊥
    nonzero q l z = omega (arith, ints, l, z)

pub positive_times : (q n : ℕ) → 0 < q → 0 < n → 0 < q * n
positive_times zero n l m = absurd (omega (arith, l))
positive_times (suc q) zero l m = absurd (omega (arith, m))
positive_times (suc q) (suc n) l m = omega arith

pub product_index : (N q n : ℕ) (e h : Matrix) → 0 < N → HasIndex N q e → HasIndex N n h → HasIndex N (q * n) (product e h)
product_index N q n e h some g k = record {
  determinant_is = determinant-product e h ∙ ap (λ z. z *ℤ determinant h) g.determinant_is ∙ ap (λ z. pos q *ℤ z) k.determinant_is;
  positive = positive_times q n g.positive k.positive;
  coprime = coprime_product N q n some g.coprime k.coprime;
}

pub start_index : (N n : ℕ) (h : Matrix) → 0 < n → gcd n N ≡ 1 → IsStart n h → HasIndex N n h
start_index N n h some e is = record { determinant_is = start_determinant n h some is; positive = some; coprime = e }

pub one_index : (N q : ℕ) (e s : Matrix) → HasIndex N q e → determinant s ≡ pos 1 → HasIndex N q (product e s)
one_index N q e s g one = record {
  determinant_is = determinant-product e s ∙ ap (λ z. determinant e *ℤ z) one ∙ times_one (determinant e) ∙ g.determinant_is;
  positive = g.positive;
  coprime = g.coprime;
}
  where
    times_one : (x : ℤ) → x *ℤ pos 1 ≡ x
    times_one x = omega (arith, ints)

-- the ways from one end over the lattices e t
abbrev pub ends_of : {p : ℕ} → ℕ → ℕ → Matrix → List Matrix → ℤ → ℤ → Vector p
ends_of N k e ts x z = total (λ t. from_end N k (product e t) x z) ts

parts_sum : (p N k n q : ℕ) (e s : Matrix) (css : List (List Matrix)) (ts : List Matrix) → 0 < p → 0 < n → k < length (symbols N) → gcd n N ≡ 1
    → HasIndex N q e
    → determinant s ≡ pos 1 → All (IsChain n) css → Lands n (product s) (map (λ ms. member ms 0) css) ts
    → Same {p = p} N (symbol_sum N (flat_map (λ ms. ms) css) (image_number N k (product e s)) ⊞ ends_of N k e ts (product e s).a (product e s).c)
    (ends_of N k e ts (product e s).b (product e s).d)
parts_sum p N k n q e s [] [] positive some within coprime index one all none =
    same_from positive (ap (λ v. v ⊞ total (λ t. from_end {p = p} N k (product e t) (product e s).a (product e s).c) [])
    (sum-none p N (image_number N k (product e s)))
    ∙ zeros-plus (total (λ t. from_end {p = p} N k (product e t) (product e s).a (product e s).c) [])
    ∙ total-none (λ t. from_end {p = p} N k (product e t) (product e s).a (product e s).c)
    ∙ sym (total-none (λ t. from_end {p = p} N k (product e t) (product e s).b (product e s).d)))
parts_sum p N k n q e s [] (t ∷ ts) positive some within coprime index one all x = elim x [ ]
parts_sum p N k n q e s (ms ∷ css) [] positive some within coprime index one all x = elim x [ ]
parts_sum p N k n q e s (ms ∷ css) (t ∷ ts) positive some within coprime index one all (more is over rest) =
    let j : ℕ = image_number N k (product e s) in
    let infinity : Matrix → Vector p = λ t. from_end N k (product e t) (product e s).a (product e s).c in
    let zero_end : Matrix → Vector p = λ t. from_end N k (product e t) (product e s).b (product e s).d in
    let level : 0 < N = level_positive N k within in
    let target = product_index N q n e t level index (start_index N n t some coprime is) in
    let here = chain_sum p N k n (product e t) (product e s) ms positive some within (index_invertible N (q * n) (product e t) target)
    (index_nonzero N (q * n) (product e t) target) (index_invertible N q (product e s) (one_index N q e s index one))
    (All-head (IsChain n) ms css all)
    (subst (Over (product e t)) (sym (product_assoc e s (member ms 0))) (Over-left e over)) in
    let others = parts_sum p N k n q e s css ts positive some within coprime index one (All-tail (IsChain n) ms css all) rest in
    same_by (ap (λ v. v ⊞ total infinity (t ∷ ts)) (symbol_sum-append p N ms (flat_map (λ ms. ms) css) j)
    ∙ ap (λ v. (symbol_sum N ms j ⊞ symbol_sum N (flat_map (λ ms. ms) css) j) ⊞ v) (total-more infinity t ts)
    ∙ plus_middle (symbol_sum N ms j) (symbol_sum N (flat_map (λ ms. ms) css) j) (infinity t) (total infinity ts))
    (total-more zero_end t ts)
    (same_plus positive here others)

-- the same over all starts
abbrev pub ends : {p : ℕ} → ℕ → ℕ → ℕ → Matrix → ℤ → ℤ → Vector p
ends N k n e x z = ends_of N k e (starts n) x z

pub merel_moved : (p N k n q : ℕ) (e s : Matrix) → 0 < p → 0 < n → k < length (symbols N) → gcd n N ≡ 1 → HasIndex N q e → determinant s ≡ pos 1
    → Same {p = p} N (symbol_sum N (merel_matrices n) (image_number N k (product e s)) ⊞ ends N k n e (product e s).a (product e s).c)
    (ends N k n e (product e s).b (product e s).d)
merel_moved p N k n q e s positive some within coprime index one =
    let j : ℕ = image_number N k (product e s) in
    let c = chains_from n (starts n) some (All-starts n) in
    let (ts, h) = lands_by_one n s some one in
    let order = lands_permutation n s ts some one h in
    let h' : Lands n (product s) (map (λ ms. member ms 0) c.chains) ts = subst (λ hs. Lands n (product s) hs ts) (sym c.begins) h in
    same_by (ap (λ v. v ⊞ ends {p = p} N k n e (product e s).a (product e s).c)
    (sym (symbol_sum-permutation p N (flat_map (λ ms. ms) c.chains) (merel_matrices n) j
    (chains_permutation n c.chains some (record { chains = c.are; begins = c.begins }))))
    ∙ ap (λ v. symbol_sum {p = p} N (flat_map (λ ms. ms) c.chains) j ⊞ v)
    (sym (total-permutation (λ t. from_end {p = p} N k (product e t) (product e s).a (product e s).c) ts (starts n) order)))
    (sym (total-permutation (λ t. from_end {p = p} N k (product e t) (product e s).b (product e s).d) ts (starts n) order))
    (parts_sum p N k n q e s c.chains ts positive some within coprime index one c.are h')
