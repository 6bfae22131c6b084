-- Products, sums and multiples of the identity, applied to a vector.
use Rattle.std.proofs.Common.{◌≡◌, ◌≢◌, ◌⊎◌, ◌<◌, ◌≤◌, ℕ, suc, List, [], ◌∷◌, length, get_or, map, nat_eq, cond, true, false, sym, ◌∙◌, ap, inl, inr, arith}
use Rattle.std.specs.List.{range_with_len}
use Rattle.std.proofs.Math.ListN.{length-map}
use Rattle.std.proofs.lemmas.Bool.{cases_lt}
use Rattle.std.proofs.lemmas.Bool.Decides.{eqb_tells}
use Rattle.std.proofs.lemmas.List.{get_or_past}
use Rattle.std.proofs.lemmas.List.FromFn.{length-range_with_len}
use Rattle.linear_algebra.specs.Residue.{Residue, residue, ◌⊗◌}
use Rattle.linear_algebra.specs.Vector.{Vector, ◌⊞◌, ◌⊡◌, zeros, tail, combination, EndsBefore}
use Rattle.linear_algebra.specs.Span.{row}
use Rattle.linear_algebra.specs.Dense.{dense, dense_rows}
use Rattle.linear_algebra.specs.Coordinates.{unit}
use Rattle.linear_algebra.proofs.ResidueLaws.{mul_comm, one-mul, zero-mul}
use Rattle.linear_algebra.proofs.Vectors.{plus-zeros, plus_middle, scale-plus, scale-scale, scale-zeros, combination-combinations}
use Rattle.linear_algebra.proofs.Rows.{combination_same, same_rows, row-map}
use Rattle.linear_algebra.proofs.DenseLaws.{dense_at, row-dense_rows}
use Rattle.linear_algebra.proofs.BoundPlaces.{in_range, range_rising}
use Rattle.linear_algebra.proofs.Coordinates.{at_places_all, unit_at, unit_elsewhere}
use Rattle.stable_subspaces.specs.Operator.{apply}
use Rattle.dense_mat.specs.Matrix.{scalar, scalar_column}
use Rattle.dense_mat.proofs.Scalars.{entry_at, length-scalar_column, length-scalar, scalar_at}
use Rattle.dense_mat.proofs.Steps.{length-dense_rows}

-- a product applies one after the other
pub apply-product : {p : ℕ} (a b m : List (Vector p)) (v : Vector p) → m ≡ map (apply a) b → apply m v ≡ apply a (apply b v)
apply-product a b m v product = ap (combination v) product ∙ combination-combinations v b a

-- a combination of sums of rows
pub combination-sums : {p : ℕ} (c : Residue p) (v : Vector p) (xs ys zs : List (Vector p)) → length xs ≡ length zs → length ys ≡ length zs
    → ((j : ℕ) → j < length zs → row zs j ≡ row xs j ⊞ (c ⊡ row ys j))
    → combination v zs ≡ combination v xs ⊞ (c ⊡ combination v ys)
combination-sums c v [] [] [] l u each = sym (ap (λ w. zeros ⊞ w) (scale-zeros c) ∙ plus-zeros zeros)
combination-sums c v [] [] (z ∷ zs) l u each = absurd (omega arith)
combination-sums c v [] (y ∷ ys) [] l u each = absurd (omega arith)
combination-sums c v [] (y ∷ ys) (z ∷ zs) l u each = absurd (omega arith)
combination-sums c v (x ∷ xs) [] [] l u each = absurd (omega arith)
combination-sums c v (x ∷ xs) [] (z ∷ zs) l u each = absurd (omega arith)
combination-sums c v (x ∷ xs) (y ∷ ys) [] l u each = absurd (omega arith)
combination-sums {p} c v (x ∷ xs) (y ∷ ys) (z ∷ zs) l u each =
    ap (λ w. (v 0 ⊡ z) ⊞ w) (combination-sums c (tail v) xs ys zs (omega arith) (omega arith) (λ j w. each (suc j) (omega arith)))
    ∙ ap (λ w. w ⊞ (combination (tail v) xs ⊞ (c ⊡ combination (tail v) ys)))
    (ap (λ w. v 0 ⊡ w) (each 0 (omega arith)) ∙ scale-plus (v 0) x (c ⊡ y)
    ∙ ap (λ w. (v 0 ⊡ x) ⊞ w) (sym (scale-scale (v 0) c y) ∙ ap (λ a. a ⊡ y) (mul_comm (v 0) c) ∙ scale-scale c (v 0) y))
    ∙ plus_middle (v 0 ⊡ x) (c ⊡ (v 0 ⊡ y)) (combination (tail v) xs) (c ⊡ combination (tail v) ys)
    ∙ ap (λ w. ((v 0 ⊡ x) ⊞ combination (tail v) xs) ⊞ w) (sym (scale-plus c (v 0 ⊡ y) (combination (tail v) ys)))

-- a combination of multiples of rows
combination-multiples : {A : Type 0} {p : ℕ} (c : Residue p) (v : Vector p) (f : A → Vector p) (xs : List A)
    → combination v (map (λ x. c ⊡ f x) xs) ≡ c ⊡ combination v (map f xs)
combination-multiples c v f [] = sym (scale-zeros c)
combination-multiples c v f (x ∷ xs) =
    ap (λ w. (v 0 ⊡ (c ⊡ f x)) ⊞ w) (combination-multiples c (tail v) f xs)
    ∙ ap (λ w. w ⊞ (c ⊡ combination (tail v) (map f xs))) (sym (scale-scale (v 0) c (f x)) ∙ ap (λ a. a ⊡ f x) (mul_comm (v 0) c)
    ∙ scale-scale c (v 0) (f x))
    ∙ sym (scale-plus c (v 0 ⊡ f x) (combination (tail v) (map f xs)))

-- column j of c times the identity is c times the unit vector at j
pub scalar_column_vector : (p n c j : ℕ) → j < n → dense p (scalar_column n c j) ≡ residue p c ⊡ unit j
scalar_column_vector p n c j l = λ i k. at k (cases_lt k n) i
  where
    inside : (k : ℕ) → k < n → ((nat_eq k j ≡ true) × (k ≡ j)) ⊎ ((nat_eq k j ≡ false) × (k ≢ j))
        → residue p (cond (nat_eq k j) c 0) ≡ residue p c ⊗ unit j k
    inside k u (inl (t, same)) = ap (λ b. residue p (cond b c 0)) t ∙ sym
        (ap (λ m. residue p c ⊗ unit j m) same ∙ ap (λ a. residue p c ⊗ a) (unit_at j) ∙ mul_comm (residue p c) (residue p 1) ∙ one-mul (residue p c))
    inside k u (inr (t, apart)) = ap (λ b. residue p (cond b c 0)) t ∙ sym
        (ap (λ a. residue p c ⊗ a) (unit_elsewhere j k (λ e. apart (sym e))) ∙ mul_comm (residue p c) (residue p 0) ∙ zero-mul (residue p c))

    at : (k : ℕ) → (k < n) ⊎ (n ≤ k) → dense p (scalar_column n c j) k ≡ residue p c ⊗ unit j k
    at k (inl u) = dense_at p (scalar_column n c j) k ∙ ap (residue p) (entry_at n c j k u) ∙ inside k u (eqb_tells k j)
    at k (inr u) = dense_at p (scalar_column n c j) k ∙ ap (residue p)
        (get_or_past (scalar_column n c j) k 0 (omega (arith, length-scalar_column n c j)))
        ∙ sym (ap (λ a. residue p c ⊗ a) (unit_elsewhere j k (λ e. let w : j ≡ k = e in omega arith)) ∙ mul_comm (residue p c) (residue p 0)
        ∙ zero-mul (residue p c))

-- a vector of n places is the combination of the unit vectors by itself
pub units_combine : {p : ℕ} (n : ℕ) (v : Vector p) → EndsBefore n v → combination v (map unit (range_with_len 0 n)) ≡ v
units_combine {p} n v ends =
    combination_same v (λ j. v (get_or (range_with_len 0 n) j 0)) (map unit (range_with_len 0 n))
    (λ j l. ap v (sym (in_range n j (omega (arith, l, length-map (range_with_len 0 n) (unit {p = p}), length-range_with_len 0 n)))))
    ∙ at_places_all (range_with_len 0 n) v (range_rising n) (λ k away. at k away (cases_lt k n))
  where
    at : (k : ℕ) → ((j : ℕ) → j < length (range_with_len 0 n) → get_or (range_with_len 0 n) j 0 ≢ k) → (k < n) ⊎ (n ≤ k) → v k ≡ residue p 0
    at k away (inl l) = absurd (away k (omega (arith, length-range_with_len 0 n)) (in_range n k l))
    at k away (inr l) = ends k l

-- c times the identity multiplies by c
pub apply-scalar : (p n c : ℕ) (v : Vector p) → EndsBefore n v → apply (dense_rows p (scalar n c)) v ≡ residue p c ⊡ v
apply-scalar p n c v ends = ap (combination v) rows ∙ combination-multiples (residue p c) v unit (range_with_len 0 n)
    ∙ ap (λ w. residue p c ⊡ w) (units_combine n v ends)
  where
    rows : dense_rows p (scalar n c) ≡ map (λ j. residue p c ⊡ unit j) (range_with_len 0 n)
    rows =
        let count : length (map (λ j. residue p c ⊡ unit j) (range_with_len 0 n)) ≡ n = length-map (range_with_len 0 n) (λ j. residue p c ⊡ unit j)
        ∙ length-range_with_len 0 n in
        same_rows (dense_rows p (scalar n c)) (map (λ j. residue p c ⊡ unit j) (range_with_len 0 n))
        (length-dense_rows p (scalar n c) ∙ length-scalar n c ∙ sym count)
        (λ j u. let l : j < n = omega (arith, u, length-dense_rows p (scalar n c), length-scalar n c) in
        row-dense_rows p (scalar n c) j (omega (arith, length-scalar n c)) ∙ ap (dense p) (scalar_at n c j l) ∙ scalar_column_vector p n c j l
        ∙ sym (row-map (λ i. residue p c ⊡ unit i) (range_with_len 0 n) j 0 (omega (arith, length-range_with_len 0 n))
        ∙ ap (λ m. residue p c ⊡ unit m) (in_range n j l)))

-- a sum of matrices adds the images
pub apply-sum : (p c : ℕ) (xs ys zs : List (List ℕ)) (v : Vector p) → length xs ≡ length zs → length ys ≡ length zs
    → ((j : ℕ) → j < length xs → dense p (get_or zs j []) ≡ dense p (get_or xs j []) ⊞ (residue p c ⊡ dense p (get_or ys j [])))
    → apply (dense_rows p zs) v ≡ apply (dense_rows p xs) v ⊞ (residue p c ⊡ apply (dense_rows p ys) v)
apply-sum p c xs ys zs v l u each = combination-sums (residue p c) v (dense_rows p xs) (dense_rows p ys) (dense_rows p zs)
    (omega (arith, length-dense_rows p xs, length-dense_rows p zs)) (omega (arith, length-dense_rows p ys, length-dense_rows p zs))
    (λ j w. let i : j < length zs = omega (arith, length-dense_rows p zs) in
    row-dense_rows p zs j i ∙ each j (omega arith) ∙ sym (ap (λ x. x ⊞ (residue p c ⊡ row (dense_rows p ys) j)) (row-dense_rows p xs j (omega arith))
    ∙ ap (λ y. dense p (get_or xs j []) ⊞ (residue p c ⊡ y)) (row-dense_rows p ys j (omega arith))))
