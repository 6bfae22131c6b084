-- A step by an operator that commutes with the listed ones keeps all facts of a splitting.
use Rattle.std.proofs.Math.ListN.{get_or-append}
use Rattle.std.proofs.lemmas.Bool.{cases_lt}
use Rattle.std.proofs.lemmas.List.{get_or_push}
use Rattle.std.proofs.Common.{◌≡◌, ◌⊎◌, ◌+◌, ◌<◌, ◌≤◌, inl, inr, ℕ, zero, suc, List, [], ◌∷◌, ◌++◌, length, length-append, get_or, map, sym, ◌∙◌, subst, arith}
use Rattle.op_polynomials.specs.declared.name.OpName.{OpName}
use Rattle.field_table.proofs.TableFacts.{listed_prime}
use Rattle.linear_algebra.specs.Prime.{IsPrime}
use Rattle.linear_algebra.specs.Residue.{Residue, residue}
use Rattle.linear_algebra.specs.Dense.{dense_rows}
use Rattle.linear_algebra.specs.Span.{Each, none, more, InSpan}
use Rattle.linear_algebra.specs.Vector.{Vector, ◌⊡◌, EndsBefore}
use Rattle.linear_algebra.proofs.Spans.{Each-append, Each-rows}
use Rattle.linear_algebra.proofs.Support.{EndsBefore-combination, EndsBefore-zeros, EndsBefore-plus, EndsBefore-scale, EndsBefore-InSpan}
use Rattle.stable_subspaces.specs.Operator.{apply, polynomial_at, Commute}
use Rattle.stable_subspaces.proofs.Polynomials.{polynomial_at_stays, Commute_refl, Commute_sym}
use Rattle.dense_mat.specs.Subspace.{Subspace}
use Rattle.dense_mat.proofs.Steps.{rows_end, length-dense_rows}
use Rattle.split_state.specs.Decomposition.{Decomposition, vectors, Keeps, Centralises, MatchesListed, IsSized, IsSplitting, decomposition}
use Rattle.split_state.specs.Step.{value_matrix, SplitBy, Listing, known, new, IsStep}
use Rattle.split_state.proofs.Steps.{apply-value, length-value, row-value, value-commutes, split_direct, split_keeps, split_nonzero, split_bases, split_lies}
use Rattle.split_state.specs.Refinement.{Refines}
use Rattle.stable_subspaces.specs.Splitting.{IsDirectSum}
use Rattle.linear_algebra.specs.Coordinates.{unit}
use Rattle.linear_algebra.proofs.Coordinates.{unit_elsewhere}

-- what holds of each holds of the one at a place
pub Each-get_or : {A : Type 0} {P : A → Type 0} (xs : List A) (k : ℕ) (d : A) → k < length xs → Each P xs → P (get_or xs k d)
Each-get_or [] k d l h = absurd (omega arith)
Each-get_or (x ∷ xs) zero d l (more h e) = h
Each-get_or (x ∷ xs) (suc k) d l (more h e) = Each-get_or xs k d (omega arith) e

-- two facts of each
pub Each-both : {A : Type 0} {P Q R : A → Type 0} (xs : List A) → ((x : A) → P x → Q x → R x) → Each P xs → Each Q xs → Each R xs
Each-both [] f none none = none
Each-both (x ∷ xs) f (more h e) (more g k) = more (f x h g) (Each-both xs f e k)

-- what holds of each of a joined list holds of each of the first
Each-first : {A : Type 0} {P : A → Type 0} (xs ys : List A) → Each P (xs ++ ys) → Each P xs
Each-first [] ys h = none
Each-first (x ∷ xs) ys (more h e) = more h (Each-first xs ys e)

-- and of the last one
last_holds : {A : Type 0} {P : A → Type 0} (xs : List A) (y : A) → Each P (xs ++ (y ∷ [])) → P y
last_holds [] y (more h none) = h
last_holds (x ∷ xs) y (more h e) = last_holds xs y e

-- a value of a polynomial keeps the length
EndsBefore-polynomial : {p : ℕ} (d : ℕ) (f : List (Residue p)) (a : List (Vector p)) (v : Vector p) → Each (EndsBefore d) a → EndsBefore d v
    → EndsBefore d (polynomial_at f a v)
EndsBefore-polynomial d [] a v columns h = EndsBefore-zeros d
EndsBefore-polynomial d (c ∷ f) a v columns h = EndsBefore-plus d (c ⊡ v) (polynomial_at f a (apply a v)) (EndsBefore-scale d c v h)
    (EndsBefore-polynomial d f a (apply a v) columns (EndsBefore-combination d v a columns))

-- the matrix of f(A) has columns of length d
pub value_ends : {p : ℕ} (f : List (Residue p)) (a : List (Vector p)) (d : ℕ) → Each (EndsBefore d) a → Each (EndsBefore d) (value_matrix f a d)
value_ends {p} f a d columns = Each-rows (EndsBefore d) (value_matrix f a d) (λ j l.
    let w : j < d = omega (arith, length-value f a d) in
    subst (EndsBefore d) (sym (row-value f a d j w)) (EndsBefore-polynomial d f a (unit j) columns
    (λ k u. unit_elsewhere j k (λ e. let same : j ≡ k = e in omega arith))))

module _ (s : Decomposition) (h : IsSplitting s) (m : List (List ℕ)) (sized : IsSized s.characteristic s.dim m)
    (central : Centralises s.characteristic s.matrices (dense_rows s.characteristic m)) (f : List ℕ) where
  prime : IsPrime s.characteristic
  prime = listed_prime s.characteristic h.listed

  abbrev a : List (Vector s.characteristic)
  a = dense_rows s.characteristic m

  abbrev value : List (Vector s.characteristic)
  value = value_matrix (map (residue s.characteristic) f) a s.dim

  -- a matrix of size d has d columns of length d
  count_of : (o : List (List ℕ)) → IsSized s.characteristic s.dim o → length (dense_rows s.characteristic o) ≡ s.dim
  count_of o k = length-dense_rows s.characteristic o ∙ k.size

  ends_of : (o : List (List ℕ)) → IsSized s.characteristic s.dim o → Each (EndsBefore s.dim) (dense_rows s.characteristic o)
  ends_of o k = subst (λ n. Each (EndsBefore n) (dense_rows s.characteristic o)) k.size (rows_end s.characteristic (length o) o k.matrix)

  -- A keeps the old parts, as it commutes with the listed matrices
  keeps_old : Keeps s.characteristic s.parts a
  keeps_old = h.kept a (count_of m sized) (ends_of m sized) central

  -- and so does f(A)
  pub value_keeps : Keeps s.characteristic s.parts value
  value_keeps = Each-both s.parts (λ b basis stable. record {
    stays = λ v u.
        subst (InSpan (dense_rows s.characteristic b.rows)) (sym (apply-value (map (residue s.characteristic) f) a s.dim v
        (EndsBefore-InSpan s.dim (dense_rows s.characteristic b.rows) v (rows_end s.characteristic s.dim b.rows basis.rows_of) u)))
        (polynomial_at_stays (map (residue s.characteristic) f) a (dense_rows s.characteristic b.rows) v stable u);
  }) h.bases keeps_old

  module _ (news : List Subspace) (split : SplitBy s.characteristic s.dim value s.parts news) where
    -- what commutes with A and keeps the old parts keeps the new ones
    keeps_new : (o : List (Vector s.characteristic)) → length o ≡ s.dim → Each (EndsBefore s.dim) o → Commute a o → Keeps s.characteristic s.parts o
        → Keeps s.characteristic news o
    keeps_new o count ends c k = split_keeps split o (value-commutes (map (residue s.characteristic) f) a o s.dim count ends c) k

    -- the new parts are a direct sum
    direct : IsDirectSum s.dim (vectors s.characteristic news)
    direct = split_direct prime s.dim value (value_ends (map (residue s.characteristic) f) a s.dim (ends_of m sized)) split h.bases value_keeps
        h.direct

    -- the listed matrices keep them
    stable : Each (λ o. Keeps s.characteristic news (dense_rows s.characteristic o)) s.matrices
    stable =
        let both : Each (λ o. IsSized s.characteristic s.dim o × Keeps s.characteristic s.parts (dense_rows s.characteristic o)) s.matrices =
        Each-both s.matrices (λ o x y. (x, y)) h.sized h.stable in
        Each-both s.matrices (λ o c (size, kept). keeps_new (dense_rows s.characteristic o) (count_of o size) (ends_of o size) c kept) central both

    -- a matrix that commutes with all of these and A keeps them
    kept_new : (o : List (Vector s.characteristic)) → length o ≡ s.dim → Each (EndsBefore s.dim) o → Centralises s.characteristic s.matrices o
        → Commute o a → Keeps s.characteristic news o
    kept_new o count ends c k = keeps_new o count ends (Commute_sym o a k) (h.kept o count ends c)

    -- so they are the parts of a splitting
    pub step_at : (op : OpName) (names : List OpName) (matrices : List (List (List ℕ))) → MatchesListed s op m
        → Listing s.names s.matrices op m names matrices → IsSplitting (decomposition s.characteristic s.dim news names matrices)
    step_at op names matrices matches (known (k, l, e)) = record {
      listed = h.listed;
      bases = split_bases split;
      sized = h.sized;
      many = h.many;
      direct = direct;
      nonzero = split_nonzero split;
      stable = stable;
      commute = h.commute;
      kept = λ o count ends c. kept_new o count ends c (subst (λ x. Commute o (dense_rows s.characteristic x)) (matches k l e)
          (Each-get_or s.matrices k [] (omega (arith, h.many)) c));
    }
    step_at op names matrices matches (new absent) = record {
      listed = h.listed;
      bases = split_bases split;
      sized = Each-append s.matrices (m ∷ []) h.sized (more sized none);
      many = length-append s.matrices (m ∷ []) ∙ (let e : length s.matrices + 1 ≡ length s.names + 1 = omega (arith, h.many) in e)
          ∙ sym (length-append s.names (op ∷ []));
      direct = direct;
      nonzero = split_nonzero split;
      stable = Each-append s.matrices (m ∷ []) stable (more (keeps_new a (count_of m sized) (ends_of m sized) (Commute_refl a) keeps_old) none);
      commute = Each-append s.matrices (m ∷ [])
          (Each-both s.matrices (λ o c k. Each-append s.matrices (m ∷ []) k (more (Commute_sym a (dense_rows s.characteristic o) c) none)) central
          h.commute)
          (more (Each-append s.matrices (m ∷ []) central (more (Commute_refl a) none)) none);
      kept = λ o count ends c. kept_new o count ends (Each-first s.matrices (m ∷ []) c) (last_holds s.matrices m c);
    }

-- a step makes a splitting of a splitting
pub step_keeps : (s r : Decomposition) (op : OpName) (m : List (List ℕ)) (f : List ℕ) → IsSplitting s → IsSized s.characteristic s.dim m
    → Centralises s.characteristic s.matrices (dense_rows s.characteristic m) → MatchesListed s op m → IsStep s op m f r → IsSplitting r
step_keeps s r op m f h sized central matches step = subst IsSplitting same
    (step_at s h m sized central f r.parts step.parts op r.names r.matrices matches step.operators)
  where
    same : decomposition s.characteristic s.dim r.parts r.names r.matrices ≡ r
    same = λ i. decomposition (sym step.characteristic i) (sym step.dim i) r.parts r.names r.matrices

-- and it refines the old one
pub step_refines : (s r : Decomposition) (op : OpName) (m : List (List ℕ)) (f : List ℕ) → IsStep s op m f r → Refines r s
step_refines s r op m f step = split_lies step.parts

-- and lists the matrix that it is made with
pub step_matches : (s r : Decomposition) (op : OpName) (m : List (List ℕ)) (f : List ℕ) → IsSplitting s → MatchesListed s op m → IsStep s op m f r
    → MatchesListed r op m
step_matches s r op m f h matches step = at step.operators
  where
    at : {names : List OpName} {matrices : List (List (List ℕ))} → Listing s.names s.matrices op m names matrices
        → (k : ℕ) → k < length names → get_or names k op ≡ op → get_or matrices k [] ≡ m
    at (known there) k l e = matches k l e
    at (new absent) k l e = last k (omega (arith, l, length-append s.names (op ∷ []))) e (cases_lt k (length s.names))
      where
        last : (k : ℕ) → k < length s.names + 1 → get_or (s.names ++ (op ∷ [])) k op ≡ op → (k < length s.names) ⊎ (length s.names ≤ k)
            → get_or (s.matrices ++ (m ∷ [])) k [] ≡ m
        last k l e (inl u) = absurd (absent (k, u, sym (get_or-append s.names (op ∷ []) op k u) ∙ e))
        last k l e (inr u) = get_or_push s.matrices m [] k (omega (arith, h.many))
