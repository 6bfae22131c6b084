-- The first relation that fails is one, is kept, and is none where sums keep congruence.
use Rattle.std.proofs.Common.{◌≡◌, ◌⊎◌, ◌*◌, ◌<◌, ◌≤◌, inl, inr, ℕ, List, [], length, take, map, replicate, sym, ◌∙◌, ap, subst, arith}
use Rattle.std.proofs.lemmas.Bool.{cases_lt}
use Rattle.std.proofs.lemmas.List.{length-take-le}
use Rattle.linear_algebra.specs.Prime.{IsPrime}
use Rattle.linear_algebra.specs.Vector.{Vector, zeros}
use Rattle.linear_algebra.specs.Span.{row, InSpan}
use Rattle.linear_algebra.specs.Dense.{dense}
use Rattle.linear_algebra.specs.Coordinates.{IsCoordinates, IsKept}
use Rattle.linear_algebra.proofs.Coordinates.{coordinates-Congruent, coordinates-zeros, Congruent-coordinates}
use Rattle.linear_algebra.proofs.Congruence.{Congruent-zeros, InSpan_from_Congruent}
use Rattle.linear_algebra.proofs.Rows.{row-take}
use Rattle.linear_algebra.proofs.Spans.{Each-map, Each-rows, InSpan-combination}
use Rattle.p1_normal.specs.declared.matrix.Matrix.{Matrix}
use Rattle.p1_normal.specs.Points.{symbols}
use Rattle.manin_relations.specs.Relations.{relations, Congruent}
use Rattle.manin_relations.proofs.RelationLaws.{length-relations, row-relations, EndsBefore-relations}
use Rattle.quotient_coords.specs.Quotient.{AreCoordinates, dimension, ground_of}
use Rattle.quotient_coords.proofs.Unique.{coordinates_same}
use Rattle.hecke_columns.specs.Hecke.{hecke_sum}
use Rattle.linear_algebra.proofs.DenseLaws.{dense-replicate}
use Rattle.hecke_columns.proofs.Columns.{columns_start}
use Rattle.hecke_columns.proofs.Sums.{hecke_sum-zeros}
use Rattle.hecke_ops.specs.Operators.{IsFirstFailing, KeepsRelations, SendsToZero, relation_sum}
use Rattle.hecke_ops.proofs.Sums.{hecke_sum-combination}

-- a combination is congruent to 0 exactly where its coordinates are 0
pub zero_coordinates : (N p : ℕ) → 0 < p → (x : Vector p) → Congruent N x zeros → AreCoordinates N x (replicate (dimension N p) 0)
zero_coordinates N p positive x h =
    let none = columns_start (ground_of N p) [] positive in
    record {
      count = none.count;
      residues = none.residues;
      coordinates = coordinates-Congruent positive (length (symbols N)) (relations N) (EndsBefore-relations p N) x zeros
          (dense p (replicate (dimension N p) 0)) h
          (subst (λ v. IsCoordinates (length (symbols N)) (relations N) v (dense p (replicate (dimension N p) 0))) (hecke_sum-zeros N [])
          none.coordinates);
    }

pub Congruent-zero_coordinates : (N p : ℕ) → 0 < p → (x : Vector p) → AreCoordinates N x (replicate (dimension N p) 0) → Congruent N x zeros
Congruent-zero_coordinates N p positive x h =
    Congruent-coordinates positive (length (symbols N)) (relations N) (EndsBefore-relations p N) x zeros
    (dense p (replicate (dimension N p) 0)) h.coordinates
    (subst (IsCoordinates (length (symbols N)) (relations N) zeros) (sym (dense-replicate p (dimension N p)))
    (coordinates-zeros positive (length (symbols N)) (relations N) (EndsBefore-relations p N)))

-- a relation that fails has a sum that is not congruent to 0
pub failing_not_zero : {N p : ℕ} {L : List Matrix} {k : ℕ} {values : List ℕ} → IsPrime p → IsFirstFailing N p L k values → SendsToZero N p L k → ⊥
failing_not_zero {N} {p} {L} {k} {values} prime h z =
    let positive : 0 < p = omega (arith, prime.above_one) in
    h.nonzero (coordinates_same prime N (relation_sum N L k) values (replicate (dimension N p) 0) h.coordinates
    (zero_coordinates N p positive (relation_sum N L k) z))

-- no relation fails where sums keep congruence
pub failing_or_keeps : {N p : ℕ} {L : List Matrix} {k : ℕ} {values : List ℕ} → IsPrime p → IsFirstFailing N p L k values → KeepsRelations N p L → ⊥
failing_or_keeps prime h keeps = failing_not_zero prime h (keeps.each _ h.within)

-- the first that fails is one
pub failing_once : {N p : ℕ} {L : List Matrix} {j k : ℕ} {values others : List ℕ} → IsPrime p → IsFirstFailing N p L j values
    → IsFirstFailing N p L k others → j ≡ k
failing_once {N} {p} {L} {j} {k} prime h g = by_order (cases_lt j k) (cases_lt k j)
  where
    by_order : (j < k) ⊎ (k ≤ j) → (k < j) ⊎ (j ≤ k) → j ≡ k
    by_order (inl l) other = absurd (failing_not_zero prime h (g.before j l))
    by_order (inr l) (inl u) = absurd (failing_not_zero prime g (h.before k u))
    by_order (inr l) (inr u) = omega arith

-- and so are its coordinates
pub failing_values : {N p : ℕ} {L : List Matrix} {k : ℕ} {values others : List ℕ} → IsPrime p → IsFirstFailing N p L k values
    → IsFirstFailing N p L k others → values ≡ others
failing_values {N} {p} {L} {k} {values} {others} prime h g = coordinates_same prime N (relation_sum N L k) values others h.coordinates g.coordinates

-- where the sums of the relations before one are congruent to 0, and it is a combination of these, so is its sum
pub spanned_sends_to_zero : (N p : ℕ) (L : List Matrix) (k : ℕ) → 0 < p → k < 2 * length (symbols N) → ((i : ℕ) → i < k → SendsToZero N p L i)
    → InSpan (take k (relations {p = p} N)) (row (relations {p = p} N) k) → SendsToZero N p L k
spanned_sends_to_zero N p L k positive l before spanned =
    Congruent-zeros positive (relations N) (relation_sum N L k)
    (subst (InSpan (relations N)) (sym (ap (hecke_sum N L) (sym (row-relations p N k l) ∙ spanned.is_combination)
    ∙ hecke_sum-combination N L spanned.coefficients (take k (relations N))))
    (InSpan-combination (relations N) (map (hecke_sum N L) (take k (relations N))) spanned.coefficients
    (Each-map (hecke_sum N L) (take k (relations N))
    (Each-rows (λ v. InSpan (relations N) (hecke_sum N L v)) (take k (relations N)) each))))
  where
    each : (j : ℕ) → j < length (take k (relations {p = p} N)) → InSpan (relations {p = p} N) (hecke_sum N L (row (take k (relations {p = p} N)) j))
    each j u =
        let here : j < k = omega (arith, length-take-le k (relations {p = p} N) (omega (arith, length-relations p N))) in
        subst (λ v. InSpan (relations N) (hecke_sum N L v)) (sym (row-take k (relations {p = p} N) j here ∙ row-relations p N j (omega arith)))
        (InSpan_from_Congruent positive (relations N) (relation_sum N L j) (before j here))

-- so the first relation that fails is kept
pub failing_is_kept : {N p : ℕ} {L : List Matrix} {k : ℕ} {values : List ℕ} → IsPrime p → IsFirstFailing N p L k values
    → IsKept (relations {p = p} N) k
failing_is_kept {N} {p} {L} {k} prime h = record {
  within = omega (arith, h.within, length-relations p N);
  apart = λ spanned. failing_not_zero prime h (spanned_sends_to_zero N p L k (omega (arith, prime.above_one)) h.within h.before spanned);
}
