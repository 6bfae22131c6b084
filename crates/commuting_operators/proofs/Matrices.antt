-- Operators that are prime to the level: they keep congruence, and their matrices commute.
use Rattle.std.proofs.Common.{◌≡◌, ◌<◌, ℕ, List, [], length, get_or, map, sym, ◌∙◌, ap, arith}
use Rattle.std.proofs.lemmas.List.{get_or-map, length-map}
use Rattle.linear_algebra.specs.Prime.{IsPrime}
use Rattle.linear_algebra.specs.Vector.{Vector, combination}
use Rattle.linear_algebra.specs.Span.{row}
use Rattle.linear_algebra.specs.Dense.{dense, dense_rows}
use Rattle.linear_algebra.specs.Coordinates.{IsCoordinates, at_places, unit}
use Rattle.linear_algebra.proofs.Vectors.{combination-combinations}
use Rattle.linear_algebra.proofs.Congruence.{Congruent_trans}
use Rattle.linear_algebra.proofs.Coordinates.{coordinates_once}
use Rattle.linear_algebra.proofs.Rows.{row-map, same_rows}
use Rattle.p1_normal.specs.Units.{gcd}
use Rattle.p1_normal.specs.Points.{symbols}
use Rattle.manin_relations.specs.Relations.{relations, Congruent}
use Rattle.manin_relations.proofs.RelationLaws.{EndsBefore-relations}
use Rattle.quotient_coords.specs.Quotient.{Ground, dimension, free_symbols}
use Rattle.quotient_coords.specs.Maps.{IsMatrixOf}
use Rattle.quotient_coords.proofs.Maps.{matrix_of_image, matrix_of_same}
use Rattle.stable_subspaces.specs.Operator.{Commute}
use Rattle.heilbronn_sets.specs.Merel.{merel_matrices}
use Rattle.hecke_columns.specs.Hecke.{merel_sum}
use Rattle.hecke_ops.specs.Operators.{IsFirstFailing, KeepsRelations}
use Rattle.hecke_ops.proofs.Sums.{hecke_sum-combination}
use Rattle.hecke_ops.proofs.FirstFailing.{failing_or_keeps}
use Rattle.star_map.specs.Star.{star}
use Rattle.star_map.specs.Star.{IsStarMatrix}
use Rattle.star_map.proofs.Stars.{star_symbols, star-congruent, star-unit}
use Rattle.p1_normal.specs.Actions.{image_number, matrix_star}
use Rattle.op_polynomials.specs.declared.name.OpName.{OpName}
use Rattle.op_polynomials.specs.declared.name.OpName.TheVariants as ops
use Rattle.split_state.specs.Versions.{HaveCommutingMatrices}
use Rattle.session_core.specs.Operators.{KeepsCongruence}
use Rattle.merel_theorem.proofs.Respects.{merel_relation, merel_congruent}
use Rattle.merel_theorem.proofs.Products.{commute}
use Rattle.merel_theorem.proofs.Mirrors.{star_commutes}
use Rattle.linear_algebra.proofs.Congruence.{Congruent_refl, Congruent_sym}
use Rattle.commuting_operators.specs.Operators.{IsPrimeTo}

-- ---- Merel's sets keep the relations
pub merel_keeps : (N p n : ℕ) → 0 < p → 0 < n → gcd n N ≡ 1 → KeepsRelations N p (merel_matrices n)
merel_keeps N p n positive some coprime = record { each = λ k l. merel_relation p N n k positive some coprime l }

pub merel_none : (N p n k : ℕ) (values : List ℕ) → IsPrime p → 0 < n → gcd n N ≡ 1 → IsFirstFailing N p (merel_matrices n) k values → ⊥
merel_none N p n k values prime some coprime h = failing_or_keeps prime h (merel_keeps N p n (omega (arith, prime.above_one)) some coprime)

pub operator_keeps : (g : Ground) (op : OpName) → 0 < g.characteristic → IsPrimeTo g.level op → KeepsCongruence g op
operator_keeps g (ops.T n) positive h = merel_keeps g.level g.characteristic n positive h.0 h.1
operator_keeps g ops.Star positive h = tt

-- ---- a linear map that keeps congruence
pub record IsMap {p : ℕ} (N : ℕ) (f : Vector p → Vector p) : Type 0 where
  pub linear : (c : Vector p) (rows : List (Vector p)) → f (combination c rows) ≡ combination c (map f rows)
  pub keeps : (x y : Vector p) → Congruent N x y → Congruent N (f x) (f y)

module _ {p : ℕ} (prime : IsPrime p) (N : ℕ) (f g : Vector p → Vector p) (hf : IsMap N f) (hg : IsMap N g)
    (same : (x : Vector p) → Congruent N (f (g x)) (g (f x))) (a b : List (List ℕ)) (ha : IsMatrixOf N (λ k. f (unit k)) a)
    (hb : IsMatrixOf N (λ k. g (unit k)) b) where
  positive : 0 < p
  positive = omega (arith, prime.above_one)

  -- column j of both products
  column_same : (j : ℕ) → j < dimension N p → combination (dense p (get_or b j [])) (dense_rows p a) ≡ combination (dense p (get_or a j []))
      (dense_rows p b)
  column_same j l =
      let u : Vector p = unit (get_or (free_symbols N p) j 0) in
      let here = matrix_of_image N positive f hf.linear a ha hf.keeps (g u) (dense p (get_or b j [])) (hb.each j l).coordinates in
      let there = matrix_of_image N positive g hg.linear b hb hg.keeps (f u) (dense p (get_or a j [])) (ha.each j l).coordinates in
      let again : IsCoordinates (length (symbols N)) (relations N) (f (g u)) (combination (dense p (get_or a j [])) (dense_rows p b)) = record {
        ends = there.ends;
        congruent = Congruent_trans positive (relations N) (f (g u)) (g (f u))
            (at_places (free_symbols N p) (combination (dense p (get_or a j [])) (dense_rows p b)))
            (same u) there.congruent;
      } in
      coordinates_once positive (length (symbols N)) (relations N) (EndsBefore-relations p N) (f (g u))
      (combination (dense p (get_or b j [])) (dense_rows p a))
      (combination (dense p (get_or a j [])) (dense_rows p b)) here again

  length-products : (c d : List (List ℕ)) → length (map (λ v. combination v (dense_rows p c)) (dense_rows p d)) ≡ length d
  length-products c d = length-map (dense_rows p d) (λ v. combination v (dense_rows p c)) ∙ length-map d (dense p)

  row_of_product : (c d : List (List ℕ)) (j : ℕ) → j < length d → row (map (λ v. combination v (dense_rows p c)) (dense_rows p d)) j
      ≡ combination (dense p (get_or d j [])) (dense_rows p c)
  row_of_product c d j l = row-map (λ v. combination v (dense_rows p c)) (dense_rows p d) j (dense p []) (omega (arith, length-map d (dense p)))
      ∙ ap (λ v. combination v (dense_rows p c)) (get_or-map (dense p) d j [] (dense p []) l)

  products_same : map (λ v. combination v (dense_rows p a)) (dense_rows p b) ≡ map (λ v. combination v (dense_rows p b)) (dense_rows p a)
  products_same = same_rows (map (λ v. combination v (dense_rows p a)) (dense_rows p b))
      (map (λ v. combination v (dense_rows p b)) (dense_rows p a))
      (length-products a b ∙ hb.count ∙ sym (length-products b a ∙ ha.count))
      (λ j l.
      let first : j < length b = omega (arith, l, length-products a b) in
      let second : j < length a = omega (arith, first, ha.count, hb.count) in
      row_of_product a b j first ∙ column_same j (omega (arith, first, hb.count)) ∙ sym (row_of_product b a j second))

  pub matrices_commute : Commute (dense_rows p a) (dense_rows p b)
  matrices_commute = record {
    same = λ v.
        sym (combination-combinations v (dense_rows p b) (dense_rows p a)) ∙ ap (combination v) products_same
        ∙ combination-combinations v (dense_rows p a) (dense_rows p b);
  }

merel_map : (N p n : ℕ) → 0 < p → 0 < n → gcd n N ≡ 1 → IsMap {p = p} N (merel_sum N n)
merel_map N p n positive some coprime = record {
  linear = hecke_sum-combination N (merel_matrices n);
  keeps = λ x y h. merel_congruent p N n x y positive some coprime h;
}

star-combination : {p : ℕ} (N : ℕ) (c : Vector p) (rows : List (Vector p)) → star N (combination c rows) ≡ combination c (map (star N) rows)
star-combination N c rows = sym (combination-combinations c rows (star_symbols N))

stars_of_units : (N p : ℕ) (columns : List (List ℕ)) → IsStarMatrix N p columns → IsMatrixOf N (λ k. star {p = p} N (unit k)) columns
stars_of_units N p columns h = matrix_of_same N (λ k. unit {p = p} (image_number N k matrix_star)) (λ k. star {p = p} N (unit k)) columns
    (λ k l. sym (star-unit N k l)) h

star_is_map : (N p : ℕ) → 0 < p → IsMap {p = p} N (star N)
star_is_map N p positive = record { linear = star-combination N; keeps = λ x y h. star-congruent p N x y positive h }

pub operator_matrices : (g : Ground) (op other : OpName) → IsPrime g.characteristic → IsPrimeTo g.level op → IsPrimeTo g.level other
    → HaveCommutingMatrices g op other
operator_matrices g (ops.T m) (ops.T n) prime h k a b ha hb =
    let N : ℕ = g.level in
    let p : ℕ = g.characteristic in
    let positive : 0 < p = omega (arith, prime.above_one) in
    matrices_commute prime N (merel_sum N m) (merel_sum N n) (merel_map N p m positive h.0 h.1) (merel_map N p n positive k.0 k.1)
    (λ x. commute p N n m x positive k.0 h.0 k.1 h.1) a b ha hb
operator_matrices g (ops.T m) ops.Star prime h k a b ha hb =
    let N : ℕ = g.level in
    let p : ℕ = g.characteristic in
    let positive : 0 < p = omega (arith, prime.above_one) in
    matrices_commute prime N (merel_sum N m) (star N) (merel_map N p m positive h.0 h.1) (star_is_map N p positive)
    (λ x. Congruent_sym positive (relations {p = p} N) (star N (merel_sum N m x)) (merel_sum N m (star N x))
    (star_commutes p N m x positive h.0 h.1)) a b ha
    (stars_of_units N p b hb)
operator_matrices g ops.Star (ops.T n) prime h k a b ha hb =
    let N : ℕ = g.level in
    let p : ℕ = g.characteristic in
    let positive : 0 < p = omega (arith, prime.above_one) in
    matrices_commute prime N (star N) (merel_sum N n) (star_is_map N p positive) (merel_map N p n positive k.0 k.1)
    (λ x. star_commutes p N n x positive k.0 k.1) a b (stars_of_units N p a ha) hb
operator_matrices g ops.Star ops.Star prime h k a b ha hb =
    let N : ℕ = g.level in
    let p : ℕ = g.characteristic in
    let positive : 0 < p = omega (arith, prime.above_one) in
    matrices_commute prime N (star N) (star N) (star_is_map N p positive) (star_is_map N p positive)
    (λ x. Congruent_refl positive (relations {p = p} N) (star N (star N x))) a b (stars_of_units N p a ha) (stars_of_units N p b hb)
