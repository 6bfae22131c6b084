-- The list of all relations, and what is congruent to 0 by one of them.
use Rattle.std.proofs.Common.{◌≡◌, ◌+◌, ◌-◌, ◌*◌, ◌<◌, ℕ, [], ◌∷◌, length, refl, sym, ◌∙◌, ap, subst, arith}
use Rattle.std.specs.List.{range_with_len}
use Rattle.std.proofs.lemmas.List.FromFn.{length-map-range_with_len, length-range_with_len, get_or-range_with_len}
use Rattle.linear_algebra.specs.Vector.{◌⊞◌, zeros, EndsBefore}
use Rattle.linear_algebra.specs.Span.{Each, row, InSpan}
use Rattle.linear_algebra.specs.Coordinates.{unit}
use Rattle.linear_algebra.specs.Sparse.{single, sparse}
use Rattle.linear_algebra.proofs.Vectors.{plus_assoc}
use Rattle.linear_algebra.proofs.Rows.{row-map}
use Rattle.linear_algebra.proofs.Spans.{Each-rows, InSpan-row}
use Rattle.linear_algebra.proofs.Congruence.{Congruent-zeros}
use Rattle.linear_algebra.proofs.SparseLaws.{sparse-cons, sparse-one}
use Rattle.p1_normal.specs.Points.{symbols}
use Rattle.p1_normal.specs.Actions.{image_number, matrix_s, matrix_t}
use Rattle.p1_normal.specs.Relations.{t_triple}
use Rattle.manin_relations.specs.Relations.{relation, relations, Congruent}
use Rattle.manin_relations.proofs.Occurrences.{symbols_of_pair, symbols_of_triple}
use Rattle.manin_relations.proofs.RelationVectors.{ones, relation_ones, EndsBefore-relation}

pub length-relations : (p N : ℕ) → length (relations {p = p} N) ≡ 2 * length (symbols N)
length-relations p N = length-map-range_with_len (relation {p = p} N) 0 (2 * length (symbols N))

pub row-relations : (p N k : ℕ) → k < 2 * length (symbols N) → row (relations {p = p} N) k ≡ relation N k
row-relations p N k l =
    row-map (relation {p = p} N) (range_with_len 0 (2 * length (symbols N))) k 0 (omega (arith, length-range_with_len 0 (2 * length (symbols N))))
    ∙ ap (relation {p = p} N) (get_or-range_with_len 0 (2 * length (symbols N)) k 0 l ∙ omega arith)

pub EndsBefore-relations : (p N : ℕ) → Each (EndsBefore (length (symbols N))) (relations {p = p} N)
EndsBefore-relations p N = Each-rows (EndsBefore (length (symbols N))) (relations {p = p} N) (λ j l.
    let within : j < 2 * length (symbols N) = omega (arith, length-relations p N) in
    subst (EndsBefore (length (symbols N))) (sym (row-relations p N j within)) (EndsBefore-relation p N j within))

-- each relation is congruent to 0
pub Congruent-relation : (p N k : ℕ) → 0 < p → k < 2 * length (symbols N) → Congruent {p = p} N (relation N k) zeros
Congruent-relation p N k positive l = Congruent-zeros positive (relations {p = p} N) (relation N k)
    (subst (InSpan (relations {p = p} N)) (row-relations p N k l) (InSpan-row (relations {p = p} N) k (omega (arith, length-relations p N))))

sum_of_two : (p a b : ℕ) → sparse p (ones 1 (a ∷ b ∷ [])) ≡ unit a ⊞ unit b
sum_of_two p a b = sparse-cons p (a, 1) ((b, 1) ∷ []) ∙ ap (λ v. single p a 1 ⊞ v) (sparse-one p (b, 1))

sum_of_three : (p a b d : ℕ) → sparse p (ones 1 (a ∷ b ∷ d ∷ [])) ≡ unit a ⊞ unit b ⊞ unit d
sum_of_three p a b d = sparse-cons p (a, 1) ((b, 1) ∷ (d, 1) ∷ []) ∙ ap (λ v. single p a 1 ⊞ v) (sum_of_two p b d)
    ∙ sym (plus_assoc (single p a 1) (single p b 1) (single p d 1))

-- relation k is the sum of symbol k and its image by S
pub relation_pair : (p N k : ℕ) → k < length (symbols N) → relation {p = p} N k ≡ unit k ⊞ unit (image_number N k matrix_s)
relation_pair p N k l = sym (relation_ones p 1 N k refl) ∙ ap (λ ks. sparse p (ones 1 ks)) (symbols_of_pair N k l)
    ∙ sum_of_two p k (image_number N k matrix_s)

-- relation m + k is the sum of symbol k and its images by T and T twice
pub relation_triple : (p N k : ℕ) → k < length (symbols N) → relation {p = p} N (length (symbols N) + k) ≡ unit k ⊞ unit (image_number N k matrix_t)
    ⊞ unit (image_number N (image_number N k matrix_t) matrix_t)
relation_triple p N k l =
    let j : ℕ = length (symbols N) + k in
    let back : j - length (symbols N) ≡ k = omega arith in
    sym (relation_ones p 1 N j refl) ∙ ap (λ ks. sparse p (ones 1 ks)) (symbols_of_triple N j (omega arith) ∙ ap (t_triple N) back)
    ∙ sum_of_three p k (image_number N k matrix_t) (image_number N (image_number N k matrix_t) matrix_t)

-- the two-term relation of symbol k
pub Congruent-pair : (p N k : ℕ) → 0 < p → k < length (symbols N) → Congruent {p = p} N (unit k ⊞ unit (image_number N k matrix_s)) zeros
Congruent-pair p N k positive l = subst (λ v. Congruent {p = p} N v zeros) (relation_pair p N k l) (Congruent-relation p N k positive (omega arith))

-- the three-term relation of symbol k
pub Congruent-triple : (p N k : ℕ) → 0 < p → k < length (symbols N) → Congruent {p = p} N
    (unit k ⊞ unit (image_number N k matrix_t) ⊞ unit (image_number N (image_number N k matrix_t) matrix_t)) zeros
Congruent-triple p N k positive l = subst (λ v. Congruent {p = p} N v zeros) (relation_triple p N k l)
    (Congruent-relation p N (length (symbols N) + k) positive (omega arith))
