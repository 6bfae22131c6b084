-- For coprime m and n each lattice of index m n lies in one lattice of index m, so Merel's sums multiply: T_m T_n = T_mn. Merel's set of
-- determinant 1 is the identity alone.
use Rattle.std.proofs.Common.{◌≡◌, ◌≢◌, ◌*◌, ◌<◌, ◌≤◌, ℕ, List, [], ◌∷◌, length, refl, sym, ◌∙◌, ap, inl, inr, arith}
use Rattle.std.specs.Prelude.{map, filter}
use Rattle.std.specs.List.{range_with_len}
use Rattle.linear_algebra.specs.Vector.{Vector, EndsBefore}
use Rattle.linear_algebra.specs.Span.{row}
use Rattle.linear_algebra.specs.Coordinates.{unit}
use Rattle.linear_algebra.proofs.Coordinates.{unit_at, unit_elsewhere}
use Rattle.linear_algebra.proofs.Rows.{combination_at, combination_none}
use Rattle.std.proofs.lemmas.Bool.{cases_lt}
use Rattle.linear_algebra.proofs.Vectors.{plus-zeros}
use Rattle.p1_normal.specs.Units.{gcd}
use Rattle.p1_normal.specs.Points.{symbols}
use Rattle.p1_normal.proofs.Numbers.{level_positive}
use Rattle.manin_relations.specs.Relations.{Congruent}
use Rattle.heilbronn_sets.specs.Merel.{quadruples, merel_matrices, starts}
use Rattle.heilbronn_chains.specs.Starts.{IsStart}
use Rattle.heilbronn_chains.proofs.ChainLists.{All-starts}
use Rattle.hecke_columns.specs.Hecke.{symbol_sum, merel_sum}
use Rattle.hecke_columns.proofs.Permuted.{symbol_sum-one}
use Rattle.merel_theorem.proofs.Terms.{identity, by_identity}
use Rattle.merel_theorem.proofs.Moved.{coprime_product, positive_times}
use Rattle.merel_theorem.proofs.Factors.{divides}
use Rattle.merel_theorem.proofs.Products.{product_sum}
use Rattle.merel_theorem.proofs.Only.{coprime_turned, one_divides}
use Rattle.merel_theorem.proofs.Classes.{Same, same_from, same_sym, same_trans}
use Rattle.merel_theorem.proofs.Combinations.{after_by, from_symbols, image_at, length-images, merel_by}
use Rattle.merel_theorem.proofs.Arcs.{arc, single_sum}
use Rattle.merel_theorem.proofs.Totals.{repeated, total_equal}

-- ---- coprime determinants
repeated_once : {p : ℕ} (v : Vector p) → repeated 1 v ≡ v
unfolding repeated
repeated_once v = plus-zeros v

pub multiplied_symbols : (p N m n k : ℕ) → 0 < p → 0 < m → 0 < n → gcd m N ≡ 1 → gcd n N ≡ 1 → gcd m n ≡ 1 → k < length (symbols N)
    → Same {p = p} N (merel_sum N n (merel_sum N m (unit k))) (merel_sum N (m * n) (unit k))
multiplied_symbols p N m n k positive some other coprime_m coprime_n coprime within =
    same_trans positive (product_sum p N m n k positive some other coprime_m coprime_n within)
    (same_trans positive (same_from positive
    (total_equal (IsStart (m * n)) (λ t. repeated (length (filter (λ h. divides m h t) (starts m))) (arc N k t)) (arc N k)
    (starts (m * n)) (All-starts (m * n))
    (λ t is. ap (λ c. repeated c (arc {p = p} N k t)) (one_divides m n t some other (coprime_turned m n coprime) is) ∙ repeated_once (arc N k t))))
    (same_sym positive (single_sum p N (m * n) k positive (positive_times m n some other)
    (coprime_product N m n (level_positive N k within) coprime_m coprime_n) within)))

-- so of each combination
pub multiplied : (p N m n : ℕ) (x : Vector p) → 0 < p → 0 < m → 0 < n → gcd m N ≡ 1 → gcd n N ≡ 1 → gcd m n ≡ 1
    → Congruent N (merel_sum N n (merel_sum N m x)) (merel_sum N (m * n) x)
multiplied p N m n x positive some other coprime_m coprime_n coprime =
    from_symbols p N (λ v. merel_sum N n (merel_sum N m v)) (merel_sum N (m * n)) positive
    (after_by N (merel_sum N n) (merel_sum N m) (merel_by N n) (merel_by N m)) (merel_by N (m * n))
    (λ k within. multiplied_symbols p N m n k positive some other coprime_m coprime_n coprime within) x

-- ---- determinant 1: Merel's set is the identity
one_matrix : merel_matrices 1 ≡ identity ∷ []
unfolding merel_matrices quadruples
one_matrix = refl

one_symbol : (p N k : ℕ) → k < length (symbols N) → symbol_sum {p = p} N (merel_matrices 1) k ≡ unit k
one_symbol p N k within = ap (λ L. symbol_sum {p = p} N L k) one_matrix ∙ symbol_sum-one p N identity k ∙ ap unit (by_identity N k within)

one_at : {p : ℕ} (N : ℕ) (x : Vector p) → EndsBefore (length (symbols N)) x → (k : ℕ) → merel_sum N 1 x k ≡ x k
one_at {p} N x ends k = elim (cases_lt k (length (symbols N))) [
  | inl within ↦ combination_at x images k k (omega (arith, within, length-images N image))
      (ap (λ v. v k) (at k within) ∙ unit_at k)
      (λ i l other. ap (λ v. v k) (at i (omega (arith, l, length-images N image))) ∙ unit_elsewhere i k other)
  | inr beyond ↦ combination_none x images k
      (λ i l.
      let low : i < length (symbols N) = omega (arith, l, length-images N image) in
      ap (λ v. v k) (at i low) ∙ unit_elsewhere i k (apart i low beyond))
      ∙ sym (ends k (omega (arith, beyond)))
]
  where
    image : ℕ → Vector p
    image = symbol_sum N (merel_matrices 1)

    images : List (Vector p)
    images = map image (range_with_len 0 (length (symbols N)))

    at : (i : ℕ) → i < length (symbols N) → row images i ≡ unit i
    at i l = image_at N image i l ∙ one_symbol p N i l

    apart : (i : ℕ) → i < length (symbols N) → length (symbols N) ≤ k → i ≢ k
    apart i l m e = omega (arith, l, m, e)

pub one_is : {p : ℕ} (N : ℕ) (x : Vector p) → EndsBefore (length (symbols N)) x → merel_sum N 1 x ≡ x
one_is N x ends = λ i k. one_at N x ends k i

pub one_congruent : (p N : ℕ) (x : Vector p) → 0 < p → EndsBefore (length (symbols N)) x → Congruent N (merel_sum N 1 x) x
one_congruent p N x positive ends = (same_from {p = p} {N = N} positive (one_is N x ends)).congruent
