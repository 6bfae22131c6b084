-- The whole space as the one part, and no operator.
use Rattle.std.proofs.Common.{◌≡◌, ℕ, List, [], ◌∷◌, refl, sym, ◌∙◌, ap, subst}
use Rattle.field_table.specs.Table.{IsListed}
use Rattle.linear_algebra.specs.Dense.{dense_rows}
use Rattle.linear_algebra.specs.Span.{none, InSpan}
use Rattle.linear_algebra.specs.Vector.{Vector, EndsBefore, zeros}
use Rattle.linear_algebra.proofs.Support.{EndsBefore-combination}
use Rattle.linear_algebra.proofs.Vectors.{plus-zeros}
use Rattle.stable_subspaces.specs.Splitting.{Choice, none as no_choice, more as chosen, vector_sum, IsDirectSum}
use Rattle.dense_mat.specs.Subspace.{Subspace}
use Rattle.split_state.specs.Decomposition.{Decomposition, IsSplitting, decomposition, vectors}
use Rattle.split_state.specs.Step.{IsPartOf, IsWhole, part, nothing}
use Rattle.op_polynomials.specs.declared.name.OpName.{OpName}
use Rattle.split_state.proofs.Steps.{part_nonzero, part_basis, part_keeps}

-- one part is a direct sum of itself
one_part : (p d : ℕ) (rows : List (Vector p)) → ((v : Vector p) → EndsBefore d v → InSpan rows v) → IsDirectSum d (rows ∷ [])
one_part p d rows all = record {
  some_choice = λ v l. (v ∷ [], chosen (all v l) no_choice, sym (plus-zeros v));
  one_choice = λ vs ws c k e. once c k e;
}
  where
    once : {vs ws : List (Vector p)} → Choice (rows ∷ []) vs → Choice (rows ∷ []) ws → vector_sum vs ≡ vector_sum ws → vs ≡ ws
    once (chosen {v = v} h no_choice) (chosen {v = w} g no_choice) e = ap (λ x. x ∷ []) (sym (plus-zeros v) ∙ e ∙ plus-zeros w)

-- no part is a direct sum where each vector is 0
no_part : (p d : ℕ) → ((v : Vector p) → EndsBefore d v → v ≡ zeros) → IsDirectSum {p = p} d []
no_part p d all = record { some_choice = λ v l. ([], no_choice, all v l); one_choice = λ vs ws c k e. once c k }
  where
    once : {vs ws : List (Vector p)} → Choice [] vs → Choice [] ws → vs ≡ ws
    once no_choice no_choice = refl

direct : (p d : ℕ) (parts : List Subspace) → IsPartOf p d (EndsBefore d) parts → IsDirectSum d (vectors p parts)
direct p d _ (part {b = b} h n) = one_part p d (dense_rows p b.rows) h.all
direct p d _ (nothing z) = no_part p d z

-- the whole space is a splitting
pub whole_splits : (p d : ℕ) → IsListed p → (parts : List Subspace) → IsPartOf p d (EndsBefore d) parts → IsSplitting (decomposition p d parts [] [])
whole_splits p d listed parts h = record {
  listed = listed;
  bases = part_basis h;
  sized = none;
  many = refl;
  direct = direct p d parts h;
  nonzero = part_nonzero h;
  stable = none;
  commute = none;
  kept = λ a count ends c. part_keeps h a (λ v u. EndsBefore-combination d v a ends);
}

-- and is told by its fields
pub is_whole : (p d : ℕ) (parts news : List Subspace) (names : List OpName) (matrices : List (List (List ℕ))) (s : Decomposition)
    → IsPartOf p d (EndsBefore d) parts → news ≡ parts → names ≡ [] → matrices ≡ [] → s ≡ decomposition p d news names matrices → IsWhole p d s
is_whole p d parts news names matrices s h same no_names no_matrices e = record {
  characteristic = ap (λ (x : Decomposition). x.characteristic) e;
  dim = ap (λ (x : Decomposition). x.dim) e;
  parts = subst (IsPartOf p d (EndsBefore d)) (sym (ap (λ (x : Decomposition). x.parts) e ∙ same)) h;
  names = ap (λ (x : Decomposition). x.names) e ∙ no_names;
  matrices = ap (λ (x : Decomposition). x.matrices) e ∙ no_matrices;
}
