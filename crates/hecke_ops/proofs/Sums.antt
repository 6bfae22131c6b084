-- Sums of combinations, and congruence, where the sums of the relations are congruent to 0.
use Rattle.std.proofs.Common.{◌≡◌, ◌*◌, ◌<◌, ℕ, List, length, map, sym, ◌∙◌, ap, subst, arith}
use Rattle.linear_algebra.specs.Vector.{Vector, combination, minus}
use Rattle.linear_algebra.specs.Span.{InSpan}
use Rattle.linear_algebra.proofs.Differences.{combination-minus}
use Rattle.linear_algebra.proofs.Vectors.{combination-combinations}
use Rattle.linear_algebra.proofs.Spans.{Each-map, Each-rows, InSpan-combination}
use Rattle.linear_algebra.proofs.Congruence.{InSpan_from_Congruent}
use Rattle.p1_normal.specs.declared.matrix.Matrix.{Matrix}
use Rattle.p1_normal.specs.Points.{symbols}
use Rattle.manin_relations.specs.Relations.{relation, relations, Congruent}
use Rattle.manin_relations.proofs.RelationLaws.{length-relations, row-relations}
use Rattle.hecke_columns.specs.Hecke.{hecke_sum}
use Rattle.hecke_columns.proofs.Sums.{symbol_sums}
use Rattle.hecke_ops.specs.Operators.{KeepsRelations}

-- the sum of a combination is the combination of the sums
pub hecke_sum-combination : {p : ℕ} (N : ℕ) (L : List Matrix) (c : Vector p) (rows : List (Vector p))
    → hecke_sum N L (combination c rows) ≡ combination c (map (hecke_sum N L) rows)
hecke_sum-combination N L c rows = sym (combination-combinations c rows (symbol_sums N L))

-- where the sums of the relations are congruent to 0, so are those of their combinations
InSpan-hecke_sum : {N p : ℕ} {L : List Matrix} → 0 < p → KeepsRelations N p L → (x : Vector p) → InSpan (relations N) x
    → InSpan (relations N) (hecke_sum N L x)
InSpan-hecke_sum {N} {p} {L} positive h x inside =
    subst (InSpan (relations N)) (sym (ap (hecke_sum N L) inside.is_combination ∙ hecke_sum-combination N L inside.coefficients (relations N)))
    (InSpan-combination (relations N) (map (hecke_sum N L) (relations N)) inside.coefficients (Each-map (hecke_sum N L) (relations N)
    (Each-rows (λ v. InSpan (relations N) (hecke_sum N L v)) (relations N) (λ k l.
    let within : k < 2 * length (symbols N) = omega (arith, length-relations p N) in
    subst (λ v. InSpan (relations N) (hecke_sum N L v)) (sym (row-relations p N k within))
    (InSpan_from_Congruent positive (relations N) (hecke_sum N L (relation N k)) (h.each k within))))))

-- and congruent combinations have congruent sums
pub Congruent-hecke_sum : {N p : ℕ} {L : List Matrix} → 0 < p → KeepsRelations N p L → (x y : Vector p) → Congruent N x y
    → Congruent N (hecke_sum N L x) (hecke_sum N L y)
Congruent-hecke_sum {N} {p} {L} positive h x y same =
    subst (InSpan (relations N)) (combination-minus positive x y (symbol_sums N L)) (InSpan-hecke_sum positive h (minus x y) same)
