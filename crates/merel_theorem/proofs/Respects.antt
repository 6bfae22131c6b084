-- Merel's theorem: around a relation the ends come back to where they began, so the differences of Merel's sums add up to 0.
use Rattle.std.proofs.Common.{◌≡◌, ◌+◌, ◌-◌, ◌*◌, ◌<◌, ℕ, List, length, refl, sym, ◌∙◌, ap, subst, inl, inr, arith}
use Rattle.std.specs.Prelude.{ℤ, pos, negsuc, ◌*ℤ◌}
use Rattle.std.proofs.lemmas.Int.{ints}
use Rattle.std.proofs.lemmas.Bool.{cases_lt}
use Rattle.linear_algebra.specs.Vector.{Vector, ◌⊞◌, zeros}
use Rattle.linear_algebra.specs.Coordinates.{unit}
use Rattle.linear_algebra.proofs.Vectors.{zeros-plus, plus_comm, plus_assoc, plus_middle}
use Rattle.p1_normal.specs.declared.matrix.Matrix.{Matrix}
use Rattle.p1_normal.specs.Units.{gcd}
use Rattle.p1_normal.specs.Points.{symbols}
use Rattle.p1_normal.specs.Actions.{product, image_number, matrix_s, matrix_t}
use Rattle.p1_normal.proofs.Units.{gcd_from_IsUnit, IsUnit-one}
use Rattle.manin_relations.specs.Relations.{relation, Congruent}
use Rattle.manin_relations.proofs.RelationLaws.{relation_pair, relation_triple}
use Rattle.heilbronn_sets.specs.Merel.{merel_matrices, starts}
use Rattle.hecke_columns.specs.Hecke.{symbol_sum, hecke_sum, merel_sum}
use Rattle.hecke_columns.proofs.Sums.{hecke_sum-plus, hecke_sum-unit}
use Rattle.merel_theorem.proofs.Terms.{identity, by_s, s-lt, moved-lt, moved, by_identity}
use Rattle.merel_theorem.proofs.Chains.{from_end, from_end-scaled}
use Rattle.merel_theorem.proofs.Moved.{HasIndex, ends, merel_moved}
use Rattle.hecke_ops.proofs.Sums.{Congruent-hecke_sum}
use Rattle.merel_theorem.proofs.Classes.{Same, same_by, same_cancel, same_plus}
use Rattle.merel_theorem.proofs.Totals.{total-same}

-- opposite pairs name one end
pub ends-opposite : {p : ℕ} (N k n : ℕ) (e : Matrix) (x z : ℤ) → ends {p = p} N k n e (negsuc 0 *ℤ x) (negsuc 0 *ℤ z) ≡ ends N k n e x z
ends-opposite {p} N k n e x z = total-same (λ t. from_end {p = p} N k (product e t) (negsuc 0 *ℤ x) (negsuc 0 *ℤ z))
    (λ t. from_end N k (product e t) x z) (starts n)
    (λ t. from_end-scaled N k (product e t) (negsuc 0) x z (λ e. apart e))
  where
    apart : negsuc 0 ≡ pos 0 → ⊥
    apart e = omega (arith, ints, e)

pub identity_index : (N : ℕ) → HasIndex N 1 identity
identity_index N = record { determinant_is = refl; positive = omega arith; coprime = gcd_from_IsUnit N 1 (IsUnit-one N) }

-- the sums of x and x S cancel
pub merel_pair : (p N n k : ℕ) → 0 < p → 0 < n → gcd n N ≡ 1 → k < length (symbols N)
    → Same {p = p} N (symbol_sum N (merel_matrices n) k ⊞ symbol_sum N (merel_matrices n) (by_s N k)) zeros
merel_pair p N n k positive some coprime within =
    let L : List Matrix = merel_matrices n in
    let infinity : Vector p = ends N k n identity (pos 1) (pos 0) in
    let origin : Vector p = ends N k n identity (pos 0) (pos 1) in
    let first : Same {p = p} N (symbol_sum N L k ⊞ infinity) origin = subst (λ j. Same {p = p} N (symbol_sum N L j ⊞ infinity) origin)
    (by_identity N k within)
    (merel_moved p N k n 1 identity identity positive some within coprime (identity_index N) refl) in
    let second : Same {p = p} N (symbol_sum N L (by_s N k) ⊞ origin) infinity = subst (Same {p = p} N (symbol_sum N L (by_s N k) ⊞ origin))
    (ends-opposite N k n identity (pos 1) (pos 0))
    (merel_moved p N k n 1 identity matrix_s positive some within coprime (identity_index N) refl) in
    same_cancel positive (infinity ⊞ origin) (same_by (plus_middle (symbol_sum N L k) (symbol_sum N L (by_s N k)) infinity origin)
    (zeros-plus (infinity ⊞ origin) ∙ plus_comm infinity origin) (same_plus positive first second))

-- those of x, x T and x T T cancel
pub merel_triple : (p N n k : ℕ) → 0 < p → 0 < n → gcd n N ≡ 1 → k < length (symbols N)
    → Same {p = p} N (symbol_sum N (merel_matrices n) k ⊞ symbol_sum N (merel_matrices n) (image_number N k matrix_t)
    ⊞ symbol_sum N (merel_matrices n) (image_number N (image_number N k matrix_t) matrix_t)) zeros
merel_triple p N n k positive some coprime within =
    let L : List Matrix = merel_matrices n in
    let infinity : Vector p = ends N k n identity (pos 1) (pos 0) in
    let origin : Vector p = ends N k n identity (pos 0) (pos 1) in
    let middle : Vector p = ends N k n identity (negsuc 0) (negsuc 0) in
    let t : ℕ = image_number N k matrix_t in
    let tt : ℕ = image_number N t matrix_t in
    let first : Same {p = p} N (symbol_sum N L k ⊞ infinity) origin = subst (λ j. Same {p = p} N (symbol_sum N L j ⊞ infinity) origin)
    (by_identity N k within)
    (merel_moved p N k n 1 identity identity positive some within coprime (identity_index N) refl) in
    let second : Same {p = p} N (symbol_sum N L t ⊞ origin) middle = merel_moved p N k n 1 identity matrix_t positive some within coprime
    (identity_index N) refl in
    let third : Same {p = p} N (symbol_sum N L tt ⊞ middle) infinity = subst (λ j. Same {p = p} N (symbol_sum N L j ⊞ middle) infinity)
    (sym (moved N k matrix_t matrix_t within refl))
    (merel_moved p N k n 1 identity (product matrix_t matrix_t) positive some within coprime (identity_index N) refl) in
    same_cancel positive ((infinity ⊞ origin) ⊞ middle)
    (same_by (plus_middle (symbol_sum N L k ⊞ symbol_sum N L t) (symbol_sum N L tt) (infinity ⊞ origin) middle
    ∙ ap (λ v. v ⊞ (symbol_sum N L tt ⊞ middle)) (plus_middle (symbol_sum N L k) (symbol_sum N L t) infinity origin))
    (zeros-plus ((infinity ⊞ origin) ⊞ middle) ∙ plus_assoc infinity origin middle ∙ plus_comm infinity (origin ⊞ middle))
    (same_plus positive (same_plus positive first second) third))

-- ---- each relation
sum_pair : (p N n k : ℕ) → k < length (symbols N) → merel_sum {p = p} N n (relation N k)
    ≡ symbol_sum N (merel_matrices n) k ⊞ symbol_sum N (merel_matrices n) (by_s N k)
sum_pair p N n k within =
    let L : List Matrix = merel_matrices n in
    ap (hecke_sum N L) (relation_pair p N k within) ∙ hecke_sum-plus N L (unit k) (unit (by_s N k))
    ∙ ap (λ v. v ⊞ hecke_sum {p = p} N L (unit (by_s N k))) (hecke_sum-unit N L k within)
    ∙ ap (λ v. symbol_sum {p = p} N L k ⊞ v) (hecke_sum-unit N L (by_s N k) (s-lt N k within))

sum_triple : (p N n k : ℕ) → k < length (symbols N) → merel_sum {p = p} N n (relation N (length (symbols N) + k))
    ≡ symbol_sum N (merel_matrices n) k ⊞ symbol_sum N (merel_matrices n) (image_number N k matrix_t)
    ⊞ symbol_sum N (merel_matrices n) (image_number N (image_number N k matrix_t) matrix_t)
sum_triple p N n k within =
    let L : List Matrix = merel_matrices n in
    let t : ℕ = image_number N k matrix_t in
    let tt : ℕ = image_number N t matrix_t in
    let t_within : t < length (symbols N) = moved-lt N k matrix_t within refl in
    ap (hecke_sum N L) (relation_triple p N k within) ∙ hecke_sum-plus N L (unit k ⊞ unit t) (unit tt)
    ∙ ap (λ v. v ⊞ hecke_sum {p = p} N L (unit tt)) (hecke_sum-plus N L (unit k) (unit t)
    ∙ ap (λ v. v ⊞ hecke_sum {p = p} N L (unit t)) (hecke_sum-unit N L k within)
    ∙ ap (λ v. symbol_sum {p = p} N L k ⊞ v) (hecke_sum-unit N L t t_within))
    ∙ ap (λ v. (symbol_sum {p = p} N L k ⊞ symbol_sum N L t) ⊞ v) (hecke_sum-unit N L tt (moved-lt N t matrix_t t_within refl))

pub merel_relation : (p N n k : ℕ) → 0 < p → 0 < n → gcd n N ≡ 1 → k < 2 * length (symbols N) → Congruent {p = p} N
    (merel_sum N n (relation N k)) zeros
merel_relation p N n k positive some coprime l = elim (cases_lt k (length (symbols N))) [
  | inl within ↦ subst (λ v. Congruent {p = p} N v zeros) (sym (sum_pair p N n k within))
      (merel_pair p N n k positive some coprime within).congruent
  | inr beyond ↦
      let j : ℕ = k - length (symbols N) in
      let e : length (symbols N) + j ≡ k = omega (arith, beyond) in
      let within : j < length (symbols N) = omega (arith, l, beyond) in
      subst (λ i. Congruent {p = p} N (merel_sum N n (relation N i)) zeros) e
      (subst (λ v. Congruent {p = p} N v zeros) (sym (sum_triple p N n j within)) (merel_triple p N n j positive some coprime within).congruent)
]

-- and so congruent combinations have congruent sums
pub merel_congruent : (p N n : ℕ) (x y : Vector p) → 0 < p → 0 < n → gcd n N ≡ 1 → Congruent N x y
    → Congruent N (merel_sum N n x) (merel_sum N n y)
merel_congruent p N n x y positive some coprime h =
    Congruent-hecke_sum positive (record { each = λ k l. merel_relation p N n k positive some coprime l }) x y h
