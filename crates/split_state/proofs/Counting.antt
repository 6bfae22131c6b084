-- A splitting has no more parts than the length of its vectors.
use Rattle.std.proofs.Common.{◌≡◌, ◌≢◌, ◌⊎◌, ◌<◌, ◌≤◌, ℕ, zero, suc, List, [], ◌∷◌, length, refl, sym, ◌∙◌, ap, inl, inr, arith}
use Rattle.field_table.proofs.TableFacts.{listed_prime}
use Rattle.linear_algebra.specs.Dense.{dense_rows}
use Rattle.linear_algebra.specs.Prime.{IsPrime}
use Rattle.linear_algebra.specs.Residue.{Residue, residue, ◌⊗◌}
use Rattle.linear_algebra.specs.Span.{Each, none, more, InSpan, Dependent}
use Rattle.linear_algebra.specs.Vector.{Vector, ◌⊞◌, ◌⊡◌, zeros, tail, combination, EndsBefore}
use Rattle.linear_algebra.proofs.ResidueLaws
use Rattle.linear_algebra.proofs.Exchange.{more_than_places}
use Rattle.linear_algebra.proofs.Spans.{InSpan-scale}
use Rattle.linear_algebra.proofs.Support.{EndsBefore-InSpan}
use Rattle.linear_algebra.proofs.Vectors.{zero-scale, scale-zeros, one-scale, scale-scale, combination-zeros}
use Rattle.stable_subspaces.specs.Splitting.{Choice, none as no_choice, more as chosen, vector_sum, IsDirectSum}
use Rattle.dense_mat.specs.Subspace.{Subspace, IsBasisOf}
use Rattle.dense_mat.proofs.Steps.{rows_end}
use Rattle.split_state.specs.Decomposition.{Decomposition, IsSplitting, IsNonzero, vectors}
use Rattle.split_state.proofs.Dropping.{heads}

-- the nonzero vectors of the parts
abbrev picks : {p : ℕ} {parts : List Subspace} → Each (IsNonzero p) parts → List (Vector p)
picks none = []
picks (more h hs) = h.vector ∷ picks hs

length-picks : {p : ℕ} {parts : List Subspace} → (hs : Each (IsNonzero p) parts) → length (picks hs) ≡ length parts
length-picks none = refl
length-picks (more h hs) = ap suc (length-picks hs)

-- have the length of the vectors
picks_end : (p d : ℕ) {parts : List Subspace} → Each (λ (b : Subspace). IsBasisOf p d (InSpan (dense_rows p b.rows)) b) parts
    → (hs : Each (IsNonzero p) parts) → Each (EndsBefore d) (picks hs)
picks_end p d none none = none
picks_end p d (more {x = b} g gs) (more h hs) =
    more (EndsBefore-InSpan d (dense_rows p b.rows) h.vector (rows_end p d b.rows g.rows_of) h.inside) (picks_end p d gs hs)

-- the terms of a combination
abbrev terms : {p : ℕ} → Vector p → List (Vector p) → List (Vector p)
terms c [] = []
terms c (v ∷ vs) = (c 0 ⊡ v) ∷ terms (tail c) vs

-- add up to it
terms_sum : {p : ℕ} (c : Vector p) (vs : List (Vector p)) → vector_sum (terms c vs) ≡ combination c vs
terms_sum c [] = refl
terms_sum c (v ∷ vs) = ap (λ w. (c 0 ⊡ v) ⊞ w) (terms_sum (tail c) vs)

-- and are a choice from the parts
terms_chosen : {p : ℕ} {parts : List Subspace} → (hs : Each (IsNonzero p) parts) → (c : Vector p) → Choice (vectors p parts) (terms c (picks hs))
terms_chosen none c = no_choice
terms_chosen {p = p} (more {x = b} h hs) c = chosen (InSpan-scale (c 0) (dense_rows p b.rows) h.vector h.inside) (terms_chosen hs (tail c))

-- only 0 takes a vector other than 0 to 0
only_zero_scale : {p : ℕ} → IsPrime p → (a : Residue p) (v : Vector p) → v ≢ zeros → a ⊡ v ≡ zeros → a ≡ residue p 0
only_zero_scale {p} prime a v nonzero e = by_inverse (ResidueLaws.zero_or_inverse prime a)
  where
    by_inverse : (a ≡ residue p 0) ⊎ ((b : Residue p) × (a ⊗ b ≡ residue p 1)) → a ≡ residue p 0
    by_inverse (inl z) = z
    by_inverse (inr (b, i)) = absurd (nonzero (sym (one-scale v) ∙ ap (λ x. x ⊡ v) (sym i ∙ ResidueLaws.mul_comm a b)
        ∙ scale-scale b a v ∙ ap (λ w. b ⊡ w) e ∙ scale-zeros b))

-- terms that are those of the coefficients 0 have the coefficients 0
terms_zero : {p : ℕ} → IsPrime p → {parts : List Subspace} → (hs : Each (IsNonzero p) parts) → (c : Vector p)
    → terms c (picks hs) ≡ terms zeros (picks hs) → (j : ℕ) → j < length (picks hs) → c j ≡ residue p 0
terms_zero prime none c e j l = absurd (omega arith)
terms_zero {p} prime (more h hs) c e zero l = only_zero_scale prime (c 0) h.vector h.nonzero
    ((heads (c 0 ⊡ h.vector) (residue p 0 ⊡ h.vector) (terms (tail c) (picks hs)) (terms zeros (picks hs)) e).0 ∙ zero-scale h.vector)
terms_zero {p} prime (more h hs) c e (suc j) l = terms_zero prime hs (tail c)
    (heads (c 0 ⊡ h.vector) (residue p 0 ⊡ h.vector) (terms (tail c) (picks hs)) (terms zeros (picks hs)) e).1 j (omega arith)

-- so the picked vectors of a direct sum are not dependent
not_dependent : {p d : ℕ} → IsPrime p → (parts : List Subspace) → IsDirectSum d (vectors p parts) → (hs : Each (IsNonzero p) parts)
    → Dependent (picks hs) → ⊥
not_dependent prime parts direct hs (c, j, l, nonzero, e) = nonzero (terms_zero prime hs c
    (direct.one_choice (terms c (picks hs)) (terms zeros (picks hs)) (terms_chosen hs c) (terms_chosen hs zeros)
    (terms_sum c (picks hs) ∙ e ∙ sym (combination-zeros (picks hs)) ∙ sym (terms_sum zeros (picks hs)))) j l)

-- a splitting has at most as many parts as its vectors have places
pub parts_are_few : (s : Decomposition) → IsSplitting s → length s.parts ≤ s.dim
parts_are_few s h =
    let prime : IsPrime s.characteristic = listed_prime s.characteristic h.listed in
    let no : s.dim < length (picks h.nonzero) → ⊥ = λ l. not_dependent prime s.parts h.direct h.nonzero
    (more_than_places prime s.dim (picks h.nonzero) (picks_end s.characteristic s.dim h.bases h.nonzero) l) in
    omega (arith, length-picks h.nonzero)
