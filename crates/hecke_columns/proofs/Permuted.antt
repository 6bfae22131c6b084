-- Sums over lists of matrices: one list behind the other, and in another order.
use Rattle.std.proofs.Common.{◌≡◌, ◌<◌, ◌+◌, ◌%◌, ℕ, cond, List, [], ◌∷◌, ◌++◌, length, get_or, set, nat_eq, sym, ◌∙◌, ap, subst}
use Rattle.std.specs.Prelude.{map, count_by}
use Rattle.std.specs.List.Sorted.{IsPermutation}
use Rattle.std.proofs.lemmas.List.{map-append}
use Rattle.std.proofs.lemmas.List.Sorted.{IsPermutation-map, sum_by-IsPermutation}
use Rattle.linear_algebra.specs.Residue.{residue}
use Rattle.linear_algebra.specs.Vector.{◌⊞◌}
use Rattle.linear_algebra.specs.Dense.{dense}
use Rattle.linear_algebra.specs.Sparse.{sparse, single}
use Rattle.linear_algebra.proofs.Vectors.{one-scale, plus_assoc}
use Rattle.linear_algebra.proofs.SparseLaws.{sparse-append, sparse-one}
use Rattle.field_table.proofs.Lists.{dense_set}
use Rattle.p1_normal.specs.declared.matrix.Matrix.{Matrix}
use Rattle.p1_normal.specs.Actions.{image_number}
use Rattle.p1_normal.specs.Points.{symbols}
use Rattle.quotient_coords.specs.Quotient.{AreCoordinates, Ground}
use Rattle.hecke_columns.specs.Hecke.{IsColumn, images, symbol_sum}
use Rattle.hecke_columns.proofs.Hits.{hits, sparse-hits}
use Rattle.hecke_columns.proofs.Sums.{hecke_sum-unit}

-- the hits of two lists, one behind the other
pub hits-append : (N : ℕ) (L K : List Matrix) (k : ℕ) → hits N (L ++ K) k ≡ hits N L k ++ hits N K k
hits-append N L K k = ap (map (λ j. (j, 1))) (map-append (image_number N k) L K) ∙ map-append (λ j. (j, 1)) (images N L k) (images N K k)

-- the sum over two lists, one behind the other, is the sum of both sums
pub symbol_sum-append : (p N : ℕ) (L K : List Matrix) (k : ℕ) → symbol_sum {p = p} N (L ++ K) k ≡ symbol_sum N L k ⊞ symbol_sum N K k
symbol_sum-append p N L K k =
    sym (sparse-hits p N (L ++ K) k) ∙ ap (sparse p) (hits-append N L K k) ∙ sparse-append p (hits N L k) (hits N K k)
    ∙ ap (λ v. v ⊞ sparse p (hits N K k)) (sparse-hits p N L k) ∙ ap (λ v. symbol_sum N L k ⊞ v) (sparse-hits p N K k)

-- that over one matrix is the image
pub symbol_sum-one : (p N : ℕ) (m : Matrix) (k : ℕ) → symbol_sum {p = p} N (m ∷ []) k ≡ single p (image_number N k m) 1
symbol_sum-one p N m k = sym (sparse-hits p N (m ∷ []) k) ∙ sparse-one p (image_number N k m, 1)

-- that over a list in another order is the same
pub symbol_sum-permutation : (p N : ℕ) (L K : List Matrix) (k : ℕ) → IsPermutation L K → symbol_sum {p = p} N L k ≡ symbol_sum N K k
unfolding symbol_sum
symbol_sum-permutation p N L K k h = λ i j. residue p (sym (same j) i)
  where
    same : (j : ℕ) → count_by (nat_eq j) (images N K k) ≡ count_by (nat_eq j) (images N L k)
    same j = sum_by-IsPermutation (λ x. cond (nat_eq j x) 1 0) (images N L k) (images N K k) (IsPermutation-map (image_number N k) L K h)

-- so the columns are
pub IsColumn-permutation : (g : Ground) (L K : List Matrix) (k : ℕ) (values : List ℕ) → k < length (symbols g.level) → IsPermutation L K
    → IsColumn g L k values → IsColumn g K k values
IsColumn-permutation g L K k values within h column =
    let p = g.characteristic in
    let N = g.level in
    subst (λ v. AreCoordinates N v values) (hecke_sum-unit {p = p} N L k within ∙ symbol_sum-permutation p N L K k h
    ∙ sym (hecke_sum-unit {p = p} N K k within)) column

-- a count of 1 more at the image by one matrix more
pub sum_more : (p N : ℕ) (L : List Matrix) (m : Matrix) (k : ℕ) (start counts : List ℕ) (hit v : ℕ) → hit ≡ image_number N k m → hit < length counts
    → v ≡ (get_or counts hit 0 + 1) % p
    → dense p counts ≡ dense p start ⊞ symbol_sum N L k → dense p (set counts hit v) ≡ dense p start ⊞ symbol_sum N (L ++ m ∷ []) k
sum_more p N L m k start counts hit v is within e h =
    dense_set p 1 hit 1 v counts within e
    ∙ ap (λ w. dense p counts ⊞ w) (one-scale (single p hit 1) ∙ ap (λ j. single p j 1) is ∙ sym (symbol_sum-one p N m k))
    ∙ ap (λ w. w ⊞ symbol_sum N (m ∷ []) k) h
    ∙ plus_assoc (dense p start) (symbol_sum N L k) (symbol_sum N (m ∷ []) k)
    ∙ ap (λ w. dense p start ⊞ w) (sym (symbol_sum-append p N L (m ∷ []) k))
