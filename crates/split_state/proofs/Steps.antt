-- One step keeps the facts of a splitting.
use Rattle.std.proofs.Common.{◌≡◌, ◌<◌, ℕ, zero, suc, List, [], ◌∷◌, ◌++◌, length, map, refl, sym, ◌∙◌, ap, subst, arith}
use Rattle.std.specs.List.{range_with_len}
use Rattle.std.proofs.Math.ListN.{length-map}
use Rattle.std.proofs.lemmas.List.FromFn.{length-range_with_len}
use Rattle.linear_algebra.specs.Prime.{IsPrime}
use Rattle.linear_algebra.specs.Residue.{Residue}
use Rattle.linear_algebra.specs.Coordinates.{unit}
use Rattle.linear_algebra.specs.Dense.{dense_rows}
use Rattle.linear_algebra.specs.Span.{Each, none, more, row, InSpan}
use Rattle.linear_algebra.specs.Vector.{Vector, ◌⊞◌, ◌⊡◌, zeros, tail, combination, EndsBefore}
use Rattle.linear_algebra.proofs.Elimination.{combination-unit}
use Rattle.linear_algebra.proofs.Rows.{row-map, same_rows}
use Rattle.linear_algebra.proofs.BoundPlaces.{in_range}
use Rattle.linear_algebra.proofs.Spans.{Each-append, Each-weaker, InSpan-zeros}
use Rattle.linear_algebra.proofs.Support.{EndsBefore-combination}
use Rattle.stable_subspaces.specs.Operator.{apply, polynomial_at, Commute}
use Rattle.stable_subspaces.specs.Fitting.{generalised_kernel, eventual_image}
use Rattle.stable_subspaces.specs.Splitting.{IsDirectSum, Refined, done as no_pairs, next as pair}
use Rattle.stable_subspaces.proofs.Fitting.{fitting_pair_sum}
use Rattle.stable_subspaces.proofs.Polynomials.{polynomial_at-plus, polynomial_at-scale, polynomial_at-zeros, polynomial_at-commutes, generalised_kernel_stays, eventual_image_stays}
use Rattle.stable_subspaces.proofs.Powers.{power-zeros}
use Rattle.stable_subspaces.proofs.Refining.{refined_direct}
use Rattle.dense_mat.specs.Subspace.{Subspace, IsBasisOf}
use Rattle.dense_mat.proofs.Composites.{apply-product, units_combine}
use Rattle.dense_mat.proofs.Steps.{rows_end}
use Rattle.split_state.specs.Decomposition.{vectors, Keeps, IsNonzero}
use Rattle.split_state.specs.Step.{value_matrix, IsPartOf, part, nothing, SplitBy, done, next}
use Rattle.split_state.specs.Refinement.{LiesIn, here, later}
use Rattle.split_state.proofs.Dropping.{Dropped, no_parts, keeps, drops, dropped_direct}

-- a row of images
pub row-image : {p : ℕ} (f : Vector p → Vector p) (xs : List (Vector p)) (j : ℕ) → j < length xs → row (map f xs) j ≡ f (row xs j)
row-image f [] j l = absurd (omega arith)
row-image f (x ∷ xs) zero l = refl
row-image f (x ∷ xs) (suc j) l = row-image f xs j (omega arith)

-- a polynomial in A at a combination
value-combination : {A : Type 0} {p : ℕ} (f : List (Residue p)) (a : List (Vector p)) (c : Vector p) (g : A → Vector p) (xs : List A)
    → combination c (map (λ x. polynomial_at f a (g x)) xs) ≡ polynomial_at f a (combination c (map g xs))
value-combination f a c g [] = sym (polynomial_at-zeros f a)
value-combination f a c g (x ∷ xs) =
    ap (λ w. (c 0 ⊡ polynomial_at f a (g x)) ⊞ w) (value-combination f a (tail c) g xs)
    ∙ ap (λ w. w ⊞ polynomial_at f a (combination (tail c) (map g xs))) (sym (polynomial_at-scale f a (c 0) (g x)))
    ∙ sym (polynomial_at-plus f a (c 0 ⊡ g x) (combination (tail c) (map g xs)))

-- the matrix of f(A) sends v to f(A) v
pub apply-value : {p : ℕ} (f : List (Residue p)) (a : List (Vector p)) (d : ℕ) (v : Vector p) → EndsBefore d v
    → apply (value_matrix f a d) v ≡ polynomial_at f a v
apply-value f a d v ends = value-combination f a v unit (range_with_len 0 d) ∙ ap (polynomial_at f a) (units_combine d v ends)

-- it has d columns
pub length-value : {p : ℕ} (f : List (Residue p)) (a : List (Vector p)) (d : ℕ) → length (value_matrix f a d) ≡ d
length-value f a d = length-map (range_with_len 0 d) (λ j. polynomial_at f a (unit j)) ∙ length-range_with_len 0 d

-- the values at the unit vectors
pub row-value : {p : ℕ} (f : List (Residue p)) (a : List (Vector p)) (d j : ℕ) → j < d → row (value_matrix f a d) j ≡ polynomial_at f a (unit j)
row-value f a d j l = row-map (λ i. polynomial_at f a (unit i)) (range_with_len 0 d) j 0 (omega (arith, length-range_with_len 0 d))
    ∙ ap (λ m. polynomial_at f a (unit m)) (in_range d j l)

-- what commutes with A commutes with f(A)
pub value-commutes : {p : ℕ} (f : List (Residue p)) (a b : List (Vector p)) (d : ℕ) → length b ≡ d → Each (EndsBefore d) b → Commute a b
    → Commute (value_matrix f a d) b
value-commutes {p} f a b d sized ends h = record {
  same = λ v. sym (apply-product (value_matrix f a d) b (map (apply (value_matrix f a d)) b) v refl)
      ∙ ap (λ m. apply m v) images ∙ apply-product b (value_matrix f a d) (map (apply b) (value_matrix f a d)) v refl;
}
  where
    count : length (map (apply (value_matrix f a d)) b) ≡ d
    count = length-map b (apply (value_matrix f a d)) ∙ sized

    count' : length (map (apply b) (value_matrix f a d)) ≡ d
    count' = length-map (value_matrix f a d) (apply b) ∙ length-value f a d

    at : (j : ℕ) → j < d → row (map (apply (value_matrix f a d)) b) j ≡ row (map (apply b) (value_matrix f a d)) j
    at j l =
        let column : row b j ≡ apply b (unit j) = sym (combination-unit b j (omega (arith, sized))) in
        row-image (apply (value_matrix f a d)) b j (omega (arith, sized)) ∙ ap (apply (value_matrix f a d)) column
        ∙ apply-value f a d (apply b (unit j)) (EndsBefore-combination d (unit j) b ends)
        ∙ polynomial_at-commutes f a b h (unit j) ∙ ap (apply b) (sym (row-value f a d j l))
        ∙ sym (row-image (apply b) (value_matrix f a d) j (omega (arith, length-value f a d)))

    images : map (apply (value_matrix f a d)) b ≡ map (apply b) (value_matrix f a d)
    images = same_rows (map (apply (value_matrix f a d)) b) (map (apply b) (value_matrix f a d)) (count ∙ sym count')
        (λ j l. at j (omega (arith, count)))

-- the rows of a part, none where it is left out
abbrev rows_of : {p d : ℕ} {P : Vector p → Type 0} {ks : List Subspace} → IsPartOf p d P ks → List (Vector p)
rows_of {p = p} (part {b = b} h n) = dense_rows p b.rows
rows_of (nothing z) = []

-- span the set
rows_all : {p d : ℕ} {P : Vector p → Type 0} {ks : List Subspace} → (h : IsPartOf p d P ks) → (v : Vector p) → P v → InSpan (rows_of h) v
rows_all (part h n) v u = h.all v u
rows_all (nothing z) v u = subst (InSpan []) (sym (z v u)) (InSpan-zeros [])

-- and nothing else, where 0 is in the set
rows_only : {p d : ℕ} {P : Vector p → Type 0} {ks : List Subspace} → P zeros → (h : IsPartOf p d P ks) → (v : Vector p) → InSpan (rows_of h) v → P v
rows_only o (part h n) v u = h.only v u
rows_only {P = P} o (nothing z) v u = subst P (sym u.is_combination) o

-- only those with 0 alone are left out
drop_part : {p d : ℕ} {P : Vector p → Type 0} {ks : List Subspace} {full : List (List (Vector p))} (news : List Subspace) → (h : IsPartOf p d P ks)
    → Dropped full (vectors p news) → Dropped (rows_of h ∷ full) (vectors p (ks ++ news))
drop_part news (part h n) r = keeps r
drop_part news (nothing z) r = drops (λ v u. u.is_combination) r

-- what keeps the set keeps the part
pub part_keeps : {p d : ℕ} {P : Vector p → Type 0} {ks : List Subspace} → IsPartOf p d P ks → (a : List (Vector p))
    → ((v : Vector p) → P v → P (apply a v)) → Keeps p ks a
part_keeps (part h n) a stays = more (record { stays = λ v u. h.all _ (stays v (h.only v u)) }) none
part_keeps (nothing z) a stays = none

-- the part is nonzero
pub part_nonzero : {p d : ℕ} {P : Vector p → Type 0} {ks : List Subspace} → IsPartOf p d P ks → Each (IsNonzero p) ks
part_nonzero (part h n) = more n none
part_nonzero (nothing z) = none

-- and stored by the basis of its span
pub part_basis : {p d : ℕ} {P : Vector p → Type 0} {ks : List Subspace} → IsPartOf p d P ks
    → Each (λ (b : Subspace). IsBasisOf p d (InSpan (dense_rows p b.rows)) b) ks
part_basis (part h n) = more (record {
  characteristic = h.characteristic;
  width = h.width;
  rows_of = h.rows_of;
  reduced = h.reduced;
  all =
      λ v u. u;
  only = λ v u. u;
}) none
part_basis (nothing z) = none

-- and lies in each part whose span has the set
part_lies : {p d : ℕ} {P : Vector p → Type 0} {ks : List Subspace} → IsPartOf p d P ks → (c : Subspace) (parts : List Subspace)
    → ((v : Vector p) → P v → InSpan (dense_rows p c.rows) v) → Each (λ b. LiesIn p b (c ∷ parts)) ks
part_lies (part h n) c parts inside = more (here (λ v u. inside v (h.only v u))) none
part_lies (nothing z) c parts inside = none

-- 0 is in the generalised kernel
zero_kernel : {p : ℕ} (a rows : List (Vector p)) → generalised_kernel a rows zeros
zero_kernel a rows = (0, record { inside = InSpan-zeros rows; is_zero = refl })

-- and in the eventual image
zero_image : {p : ℕ} (a rows : List (Vector p)) → eventual_image a rows zeros
zero_image a rows = λ n. record { source = zeros; inside = InSpan-zeros rows; is_value = sym (power-zeros n a) }

-- the new parts with those that are left out
pub record Completed (p : ℕ) (parts news : List Subspace) : Type 0 where
  pub full : List (List (Vector p))
  pub refined : Refined (vectors p parts) full
  pub dropped : Dropped full (vectors p news)

module _ {p : ℕ} (prime : IsPrime p) (d : ℕ) (a : List (Vector p)) (columns : Each (EndsBefore d) a) where
  -- the parts and those that are left out refine the old ones
  pub completed : {parts news : List Subspace} → SplitBy p d a parts news
      → Each (λ (b : Subspace). IsBasisOf p d (InSpan (dense_rows p b.rows)) b) parts → Keeps p parts a → Completed p parts news
  completed done none none = record { full = []; refined = no_pairs; dropped = no_parts }
  completed (next {b = b} {image = image} {news = news} k i s) (more h hs) (more g gs) =
      let rest = completed s hs gs in
      record {
        full = rows_of k ∷ rows_of i ∷ rest.full;
        refined = pair (fitting_pair_sum prime d a (dense_rows p b.rows) columns (rows_end p d b.rows h.rows_of) g (rows_of k) (rows_of i) (record {
          kernel_all = rows_all k;
          kernel_only = rows_only (zero_kernel a (dense_rows p b.rows)) k;
          image_all = rows_all i;
          image_only = rows_only (zero_image a (dense_rows p b.rows)) i;
        })) rest.refined;
        dropped = drop_part (image ++ news) k (drop_part news i rest.dropped);
      }

  -- so their sum is direct
  pub split_direct : {parts news : List Subspace} → SplitBy p d a parts news
      → Each (λ (b : Subspace). IsBasisOf p d (InSpan (dense_rows p b.rows)) b) parts → Keeps p parts a → IsDirectSum d (vectors p parts)
      → IsDirectSum d (vectors p news)
  split_direct {parts = parts} {news = news} s bases kept direct = let c = completed s bases kept in dropped_direct d c.full (vectors p news)
      c.dropped (refined_direct d (vectors p parts) c.full c.refined direct)

-- what commutes with the matrix and keeps the old parts keeps the new ones
pub split_keeps : {p d : ℕ} {a : List (Vector p)} {parts news : List Subspace} → SplitBy p d a parts news → (o : List (Vector p)) → Commute a o
    → Keeps p parts o → Keeps p news o
split_keeps done o h none = none
split_keeps {p = p} {a = a} (next {b = b} {parts = parts} {kernel = kernel} {image = image} {news = news} k i s) o h (more g gs) =
    Each-append kernel (image ++ news) (part_keeps k o (generalised_kernel_stays a o (dense_rows p b.rows) h g))
    (Each-append image news (part_keeps i o (eventual_image_stays a o (dense_rows p b.rows) h g)) (split_keeps s o h gs))

-- the new parts are nonzero
pub split_nonzero : {p d : ℕ} {a : List (Vector p)} {parts news : List Subspace} → SplitBy p d a parts news → Each (IsNonzero p) news
split_nonzero done = none
split_nonzero (next {kernel = kernel} {image = image} {news = news} k i s) =
    Each-append kernel (image ++ news) (part_nonzero k) (Each-append image news (part_nonzero i) (split_nonzero s))

-- and stored by their bases
pub split_bases : {p d : ℕ} {a : List (Vector p)} {parts news : List Subspace} → SplitBy p d a parts news
    → Each (λ (b : Subspace). IsBasisOf p d (InSpan (dense_rows p b.rows)) b) news
split_bases done = none
split_bases (next {kernel = kernel} {image = image} {news = news} k i s) =
    Each-append kernel (image ++ news) (part_basis k) (Each-append image news (part_basis i) (split_bases s))

-- and lie in the old ones
pub split_lies : {p d : ℕ} {a : List (Vector p)} {parts news : List Subspace} → SplitBy p d a parts news → Each (λ b. LiesIn p b parts) news
split_lies done = none
split_lies {p = p} {a = a} (next {b = b} {parts = parts} {kernel = kernel} {image = image} {news = news} k i s) =
    Each-append kernel (image ++ news) (part_lies k b parts (λ v u. u.1.inside))
    (Each-append image news (part_lies i b parts (λ v u. let t = u 0 in subst (InSpan (dense_rows p b.rows)) (sym t.is_value) t.inside))
    (Each-weaker news (λ c l. later l) (split_lies s)))
