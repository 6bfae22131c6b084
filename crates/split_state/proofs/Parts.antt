-- Parts put one after another at the end of a list.
use Rattle.std.proofs.Common.{◌≡◌, ◌<◌, ◌+◌, ℕ, List, [], ◌∷◌, ◌++◌, length, get_or, take, map, refl, sym, ◌∙◌, ap, subst, arith, append-nil, lt-ltb, nat_lt, if◌then◌else◌}
use Rattle.std.proofs.lemmas.List.{append_assoc}
use Rattle.linear_algebra.specs.Prime.{IsPrime}
use Rattle.linear_algebra.specs.Residue.{Residue, residue}
use Rattle.linear_algebra.specs.Coordinates.{unit}
use Rattle.linear_algebra.specs.Dense.{dense_rows}
use Rattle.linear_algebra.specs.Span.{row, InSpan}
use Rattle.linear_algebra.specs.Vector.{Vector, EndsBefore}
use Rattle.linear_algebra.proofs.Coordinates.{unit_elsewhere}
use Rattle.linear_algebra.proofs.Elimination.{combination-unit}
use Rattle.linear_algebra.proofs.Rows.{same_rows}
use Rattle.linear_algebra.proofs.Spans.{InSpan-row}
use Rattle.linear_algebra.proofs.SparseLaws.{some_residue}
use Rattle.stable_subspaces.specs.Fitting.{generalised_kernel, eventual_image}
use Rattle.stable_subspaces.specs.Operator.{apply, polynomial_at}
use Rattle.dense_mat.specs.Subspace.{Subspace, IsBasisOf}
use Rattle.split_state.specs.Step.{value_matrix, IsPartOf, part, nothing, nonzero_of, SplitBy, done, next}
use Rattle.split_state.proofs.Steps.{length-value, row-value}
use Rattle.op_polynomials.specs.declared.name.OpName.{OpName}
use Rattle.linear_algebra.specs.Span.{Each}
use Rattle.dense_mat.proofs.Steps.{length-dense_rows}
use Rattle.split_state.specs.Decomposition.{Decomposition, decomposition, Centralises, IsSized, IsSplitting, Keeps, MatchesListed}
use Rattle.split_state.specs.Difference.{AgreeAll}
use Rattle.split_state.specs.Step.{IsStep, Listing}
use Rattle.split_state.proofs.Differences.{agree_centralises}
use Rattle.split_state.proofs.Keeping.{value_keeps, step_at}

-- a basis with a row has a vector other than 0, and one without has none
pub nonzero_part : (p d : ℕ) → IsPrime p → (P : Vector p → Type 0) (b : Subspace) → IsBasisOf p d P b → IsPartOf p d P (nonzero_of b)
nonzero_part p d prime P b h = at b.rows refl
  where
    at : (rows : List (List ℕ)) → b.rows ≡ rows → IsPartOf p d P (nonzero_of b)
    at [] e = subst (λ (n : ℕ). IsPartOf p d P (if nat_lt 0 n then b ∷ [] else [])) (sym (ap length e))
        (nothing (λ v u. (rw e at h.all v u).is_combination))
    at (r ∷ rows) e = subst (λ t. IsPartOf p d P (if t then b ∷ [] else []))
        (sym (lt-ltb 0 (length b.rows) (let w : length b.rows ≡ length (r ∷ rows) = ap length e in omega (arith, w)))) (part h (record {
          vector = row (dense_rows p b.rows) 0;
          inside = InSpan-row (dense_rows p b.rows) 0 some;
          nonzero = λ z. some_residue p 1 (omega arith) prime.above_one (sym (h.reduced.first 0 some).0 ∙ ap (λ w. w (h.reduced.lead 0)) z);
        }))
      where
        some : 0 < length (dense_rows p b.rows)
        some = subst (λ x. 0 < length (dense_rows p x)) (sym e) (let w : 0 < length (dense_rows p (r ∷ rows)) = omega arith in w)

-- lists joined in another order
joined : {A : Type 0} (k i n k' i' : List A) → k ++ (i ++ ((n ++ k') ++ i')) ≡ ((k ++ (i ++ n)) ++ k') ++ i'
joined k i n k' i' =
    ap (λ x. k ++ x) (sym (append_assoc i (n ++ k') i') ∙ ap (λ x. x ++ i') (sym (append_assoc i n k')))
    ∙ sym (append_assoc k ((i ++ n) ++ k') i') ∙ ap (λ x. x ++ i') (sym (append_assoc k (i ++ n) k'))

-- one part more
split_snoc : {p d : ℕ} {a : List (Vector p)} {parts news kernel image : List Subspace} (b : Subspace) → SplitBy p d a parts news
    → IsPartOf p d (generalised_kernel a (dense_rows p b.rows)) kernel → IsPartOf p d (eventual_image a (dense_rows p b.rows)) image
    → SplitBy p d a (parts ++ (b ∷ [])) ((news ++ kernel) ++ image)
split_snoc {p = p} {d = d} {a = a} {kernel = kernel} {image = image} b done k i =
    subst (SplitBy p d a (b ∷ [])) (sym (append_assoc kernel image []) ∙ append-nil (kernel ++ image)) (next k i done)
split_snoc {p = p} {d = d} {a = a} {kernel = kernel} {image = image} b (next {b = c} {parts = parts} {kernel = k'} {image = i'} {news = news} k₁ i₁ s)
    k i =
    subst (SplitBy p d a (c ∷ (parts ++ (b ∷ [])))) (joined k' i' news kernel image) (next k₁ i₁ (split_snoc b s k i))

-- one part more of a list, by its number
pub split_more : (p d : ℕ) → IsPrime p → (a : List (Vector p)) (parts news : List Subspace) (n : ℕ) (b k i : Subspace) → n < length parts
    → take (n + 1) parts ≡ take n parts ++ (b ∷ []) → SplitBy p d a (take n parts) news
    → IsBasisOf p d (generalised_kernel a (dense_rows p b.rows)) k → IsBasisOf p d (eventual_image a (dense_rows p b.rows)) i
    → SplitBy p d a (take (n + 1) parts) ((news ++ nonzero_of k) ++ nonzero_of i)
split_more p d prime a parts news n b k i l e s hk hi = subst (λ x. SplitBy p d a x ((news ++ nonzero_of k) ++ nonzero_of i)) (sym e)
    (split_snoc b s (nonzero_part p d prime (generalised_kernel a (dense_rows p b.rows)) k hk)
    (nonzero_part p d prime (eventual_image a (dense_rows p b.rows)) i hi))

-- a matrix that sends each vector to the value of the polynomial is that of the values at the unit vectors
pub is_value : (p d : ℕ) (f : List (Residue p)) (a m : List (Vector p)) → length m ≡ d
    → ((v : Vector p) → EndsBefore d v → apply m v ≡ polynomial_at f a v) → m ≡ value_matrix f a d
is_value p d f a m sized value = same_rows m (value_matrix f a d) (sized ∙ sym (length-value f a d)) (λ j l.
    let u : j < d = omega (arith, sized) in
    sym (combination-unit m j l) ∙ value (unit j) (λ k w. unit_elsewhere j k (λ e. let same : j ≡ k = e in omega arith)) ∙ sym (row-value f a d j u))

-- bases of a width that is given in another way
pub bases_of : (p d n : ℕ) (parts : List Subspace) → n ≡ d → Each (λ (b : Subspace). IsBasisOf p d (InSpan (dense_rows p b.rows)) b) parts
    → Each (λ (b : Subspace). IsBasisOf p n (InSpan (dense_rows p b.rows)) b) parts
bases_of p d n parts e h = subst (λ m. Each (λ (b : Subspace). IsBasisOf p m (InSpan (dense_rows p b.rows)) b) parts) (sym e) h

module _ (s : Decomposition) (h : IsSplitting s) (m : List (List ℕ)) (sized : IsSized s.characteristic s.dim m)
    (agree : (k : ℕ) → k < length s.matrices → AgreeAll s.characteristic m (get_or s.matrices k [])) (f : List ℕ) (value : List (List ℕ))
    (as_many : length value ≡ length m)
    (values : (v : Vector s.characteristic) → EndsBefore (length m) v → apply (dense_rows s.characteristic value) v
    ≡ polynomial_at (map (residue s.characteristic) f) (dense_rows s.characteristic m) v) where
  central : Centralises s.characteristic s.matrices (dense_rows s.characteristic m)
  central = agree_centralises s.characteristic s.dim m sized s.matrices h.sized agree

  value_is : dense_rows s.characteristic value ≡ value_matrix (map (residue s.characteristic) f) (dense_rows s.characteristic m) s.dim
  value_is = is_value s.characteristic s.dim (map (residue s.characteristic) f) (dense_rows s.characteristic m) (dense_rows s.characteristic value)
      (length-dense_rows s.characteristic value ∙ as_many ∙ sized.size) (λ v l. values v (subst (λ n. EndsBefore n v) (sym sized.size) l))

  -- the value keeps the old parts
  pub keeps_value : Keeps s.characteristic s.parts (dense_rows s.characteristic value)
  keeps_value = subst (Keeps s.characteristic s.parts) (sym value_is) (value_keeps s h m sized central f)

  -- and the parts that it makes are those of a step
  pub stepped : (news : List Subspace) → SplitBy s.characteristic (length value) (dense_rows s.characteristic value) s.parts news
      → (op : OpName) (names : List OpName) (matrices : List (List (List ℕ))) → MatchesListed s op m → Listing s.names s.matrices op m names matrices
      → IsSplitting (decomposition s.characteristic s.dim news names matrices)
      × IsStep s op m f (decomposition s.characteristic s.dim news names matrices)
  stepped news split op names matrices matches listing =
      let at : SplitBy s.characteristic s.dim (value_matrix (map (residue s.characteristic) f) (dense_rows s.characteristic m) s.dim) s.parts news =
      subst (λ a. SplitBy s.characteristic s.dim a s.parts news) value_is
      (subst (λ n. SplitBy s.characteristic n (dense_rows s.characteristic value) s.parts news) (as_many ∙ sized.size) split) in (
        step_at s h m sized central f news at op names matrices matches listing,
        record
            { characteristic = refl; dim = refl; parts = at; operators = listing },
      )
