-- Star is linear, and takes relations to combinations of relations.
use Rattle.std.proofs.Common.{◌≡◌, ◌+◌, ◌-◌, ◌*◌, ◌%◌, ◌<◌, ◌≤◌, ◌⊎◌, ℕ, List, [], ◌∷◌, length, get_or, map, refl, sym, ◌∙◌, ap, subst, inl, inr, arith}
use Rattle.std.specs.Prelude.{ℤ}
use Rattle.std.specs.List.{range_with_len}
use Rattle.std.proofs.Math.Nat.{mod-mod}
use Rattle.std.proofs.lemmas.Bool.{cases_lt}
use Rattle.std.proofs.lemmas.List.{length-map}
use Rattle.std.proofs.lemmas.List.Elements.{All-head, All-tail}
use Rattle.std.proofs.lemmas.List.FromFn.{get_or-map-range_with_len, get_or-range_with_len, length-map-range_with_len, length-range_with_len}
use Rattle.linear_algebra.specs.Residue.{Residue, residue, ◌⊕◌}
use Rattle.linear_algebra.specs.Vector.{Vector, ◌⊞◌, ◌⊡◌, combination, zeros, minus, EndsBefore}
use Rattle.linear_algebra.specs.Span.{InSpan, row}
use Rattle.linear_algebra.specs.Coordinates.{at_places, unit}
use Rattle.linear_algebra.specs.Sparse.{IsCombo, single, sparse}
use Rattle.linear_algebra.proofs.ResidueLaws.{same_from_mod, same_residue, values}
use Rattle.linear_algebra.proofs.Vectors.{combination-plus, combination-scale, combination-combinations, combination-zeros}
use Rattle.linear_algebra.proofs.Differences.{combination-minus, plus_and_minus}
use Rattle.linear_algebra.proofs.BoundPlaces.{range_rising}
use Rattle.linear_algebra.proofs.Coordinates.{at_places_at, at_places_elsewhere}
use Rattle.linear_algebra.proofs.Elimination.{combination-unit}
use Rattle.linear_algebra.proofs.Congruence.{InSpan-minus}
use Rattle.linear_algebra.proofs.Rows.{combination_none, row-map, same_rows}
use Rattle.linear_algebra.proofs.Spans.{Each-map, Each-rows, InSpan-combination, InSpan-plus, InSpan-row}
use Rattle.linear_algebra.proofs.SparseLaws.{scale-unit, single_elsewhere, sparse_nil, sparse-cons}
use Rattle.field_table.proofs.Places.{HasPlacesBelow-from_vector}
use Rattle.field_table.specs.Residues.{HasResidues}
use Rattle.field_table.specs.Terms.{HasPlacesBelow, residue_terms}
use Rattle.p1_normal.specs.Points.{symbols}
use Rattle.p1_normal.specs.Actions.{image_number, matrix_s, matrix_t, matrix_star}
use Rattle.p1_normal.proofs.LevelLaws.{s_twice, t_thrice, star_twice, star_s, star_t}
use Rattle.p1_normal.proofs.Moves.{image_number-lt, invertible_s, invertible_t, invertible_star}
use Rattle.p1_normal.proofs.Numbers.{level_positive}
use Rattle.manin_relations.specs.Relations.{relation, relations, Congruent}
use Rattle.manin_relations.proofs.RelationLaws.{length-relations, row-relations, relation_pair, relation_triple}
use Rattle.star_map.specs.Star.{star, star_terms}

-- the symbols (-u:v), in order
abbrev pub star_symbols : {p : ℕ} → ℕ → List (Vector p)
star_symbols N = map (λ k. unit (image_number N k matrix_star)) (range_with_len 0 (length (symbols N)))

pub star-plus : {p : ℕ} (N : ℕ) (x y : Vector p) → star N (x ⊞ y) ≡ star N x ⊞ star N y
star-plus N x y = combination-plus x y (star_symbols N)

pub star-scale : {p : ℕ} (N : ℕ) (a : Residue p) (x : Vector p) → star N (a ⊡ x) ≡ a ⊡ star N x
star-scale N a x = combination-scale a x (star_symbols N)

pub star-unit : {p : ℕ} (N k : ℕ) → k < length (symbols N) → star {p = p} N (unit k) ≡ unit (image_number N k matrix_star)
star-unit {p} N k l =
    let f : ℕ → Vector p = λ k. unit (image_number N k matrix_star) in
    combination-unit (star_symbols N) k (omega (arith, length-map-range_with_len f 0 (length (symbols N))))
    ∙ row-map f (range_with_len 0 (length (symbols N))) k 0 (omega (arith, length-range_with_len 0 (length (symbols N))))
    ∙ ap f (get_or-range_with_len 0 (length (symbols N)) k 0 l ∙ omega arith)

pub star-zeros : (p N : ℕ) → star {p = p} N zeros ≡ zeros
star-zeros p N = combination-zeros (star_symbols N)

-- star of one term is a term
star-single : (p N k a : ℕ) → k < length (symbols N) → star N (single p k a) ≡ single p (image_number N k matrix_star) a
star-single p N k a within =
    ap (star N) (sym (scale-unit p k a)) ∙ star-scale N (residue p a) (unit k) ∙ ap (λ v. residue p a ⊡ v) (star-unit N k within)
    ∙ scale-unit p (image_number N k matrix_star) a

-- a combination of length m has a star of length m
pub EndsBefore-star : {p : ℕ} (N : ℕ) (x : Vector p) → EndsBefore (length (symbols N)) (star N x)
EndsBefore-star {p} N x k above = combination_none x (star_symbols N) k (λ j l.
    let f : ℕ → Vector p = λ k. unit (image_number N k matrix_star) in
    let within : j < length (symbols N) = omega (arith, length-map-range_with_len f 0 (length (symbols N))) in
    let below : image_number N j matrix_star < length (symbols N) =
    image_number-lt N j matrix_star within (invertible_star N (level_positive N j within)) in
    let is : row (star_symbols {p = p} N) j ≡ unit (image_number N j matrix_star) =
    row-map f (range_with_len 0 (length (symbols N))) j 0 (omega (arith, length-range_with_len 0 (length (symbols N))))
    ∙ ap f (get_or-range_with_len 0 (length (symbols N)) j 0 within ∙ omega arith) in
    ap (λ v. v k) is ∙ single_elsewhere p (image_number N j matrix_star) 1 k (λ e. omega arith))

-- the terms that the code makes add up to star
pub sparse-star : (p N : ℕ) (terms : List (ℕ × ℕ)) → HasPlacesBelow (length (symbols N)) terms →
    sparse p (residue_terms p (star_terms N terms)) ≡ star N (sparse p terms)
sparse-star p N [] places = sparse_nil p ∙ sym (ap (star N) (sparse_nil p) ∙ star-zeros p N)
sparse-star p N (t ∷ ts) places =
    let below : t.0 < length (symbols N) = All-head (λ t. t.0 < length (symbols N)) t ts places in
    sparse-cons p (image_number N t.0 matrix_star, t.1 % p) (residue_terms p (star_terms N ts))
    ∙ ap (λ v. v ⊞ sparse p (residue_terms p (star_terms N ts))) (same_single (image_number N t.0 matrix_star) t.1
    ∙ sym (star-single p N t.0 t.1 below))
    ∙ ap (λ v. star N (single p t.0 t.1) ⊞ v) (sparse-star p N ts (All-tail (λ t. t.0 < length (symbols N)) t ts places))
    ∙ sym (ap (star N) (sparse-cons p t ts) ∙ star-plus N (single p t.0 t.1) (sparse p ts))
  where
    same_single : (k a : ℕ) → single p k (a % p) ≡ single p k a
    same_single k a = sym (scale-unit p k (a % p)) ∙ ap (λ r. r ⊡ unit k) (same_from_mod p (a % p) a (mod-mod a p)) ∙ scale-unit p k a

pub star_value : (p N : ℕ) (image lent combo : List (ℕ × ℕ)) (sent : List (ℕ × ℤ)) → sparse p image ≡ sparse p (residue_terms p sent) →
    sent ≡ star_terms N lent → lent ≡ combo → HasPlacesBelow (length (symbols N)) combo → sparse p image ≡ star N (sparse p combo)
star_value p N image lent combo sent vector made same places = vector ∙ ap (λ ts. sparse p (residue_terms p ts)) (made ∙ ap (star_terms N) same)
    ∙ sparse-star p N combo places

pub star_places : (p N : ℕ) (image combo : List (ℕ × ℕ)) → sparse p image ≡ star N (sparse p combo) → IsCombo image → HasResidues p image →
    HasPlacesBelow (length (symbols N)) image
star_places p N image combo vector rising residues = HasPlacesBelow-from_vector p (length (symbols N)) image rising residues
    (subst (EndsBefore (length (symbols N))) (sym vector) (EndsBefore-star N (sparse p combo)))

-- ---- moves by star
by_star : (N k : ℕ) → k < length (symbols N) → image_number N k matrix_star < length (symbols N)
by_star N k within = image_number-lt N k matrix_star within (invertible_star N (level_positive N k within))

by_s : (N k : ℕ) → k < length (symbols N) → image_number N k matrix_s < length (symbols N)
by_s N k within = image_number-lt N k matrix_s within (invertible_s N)

by_t : (N k : ℕ) → k < length (symbols N) → image_number N k matrix_t < length (symbols N)
by_t N k within = image_number-lt N k matrix_t within (invertible_t N)

-- where x star is y S, x T star is y T T S
star_of_t : (N k y : ℕ) → k < length (symbols N) → y < length (symbols N) → image_number N k matrix_star ≡ image_number N y matrix_s →
    image_number N (image_number N k matrix_t) matrix_star ≡ image_number N (image_number N (image_number N y matrix_t) matrix_t) matrix_s
star_of_t N k y within y_within e =
    ap (λ j. image_number N (image_number N j matrix_t) matrix_star) (sym (star_twice N k within))
    ∙ star_t N (image_number N k matrix_star) (by_star N k within)
    ∙ ap (λ j. image_number N (image_number N (image_number N j matrix_t) matrix_t) matrix_s) (ap (λ j. image_number N j matrix_s) e
    ∙ s_twice N y y_within)

-- ---- relations
in_span : (p N k : ℕ) → k < 2 * length (symbols N) → InSpan {p = p} (relations N) (relation N k)
in_span p N k l = subst (InSpan (relations N)) (row-relations p N k l) (InSpan-row (relations {p = p} N) k (omega (arith, length-relations p N)))

pair_in_span : (p N k : ℕ) → k < length (symbols N) → InSpan {p = p} (relations N) (unit k ⊞ unit (image_number N k matrix_s))
pair_in_span p N k within = subst (InSpan (relations N)) (relation_pair p N k within) (in_span p N k (omega arith))

triple_in_span : (p N k : ℕ) → k < length (symbols N) → InSpan {p = p} (relations N)
    (unit k ⊞ unit (image_number N k matrix_t) ⊞ unit (image_number N (image_number N k matrix_t) matrix_t))
triple_in_span p N k within = subst (InSpan (relations N)) (relation_triple p N k within) (in_span p N (length (symbols N) + k) (omega arith))

-- star of x + x S is the relation of x star
star-pair : (p N k : ℕ) → k < length (symbols N) → InSpan {p = p} (relations N) (star N (relation N k))
star-pair p N k within = subst (InSpan (relations N)) (sym same) (pair_in_span p N (image_number N k matrix_star) (by_star N k within))
  where
    same : star {p = p} N (relation N k) ≡ unit (image_number N k matrix_star) ⊞ unit (image_number N (image_number N k matrix_star) matrix_s)
    same = ap (star N) (relation_pair p N k within)
        ∙ star-plus N (unit k) (unit (image_number N k matrix_s))
        ∙ ap (λ v. v ⊞ star N (unit (image_number N k matrix_s))) (star-unit N k within)
        ∙ ap (λ v. unit (image_number N k matrix_star) ⊞ v) (star-unit N (image_number N k matrix_s) (by_s N k within)
        ∙ ap unit (sym (star_s N k within)))

-- three sums of two, as their first and their second terms
three_pairs : {p : ℕ} (a b c d e f : Vector p) → (a ⊞ d) ⊞ (c ⊞ e) ⊞ (b ⊞ f) ≡ (d ⊞ e ⊞ f) ⊞ (a ⊞ b ⊞ c)
three_pairs a b c d e f = λ i k. plain (a k) (b k) (c k) (d k) (e k) (f k) i
  where
    plain : {p : ℕ} (a b c d e f : Residue p) → (a ⊕ d) ⊕ (c ⊕ e) ⊕ (b ⊕ f) ≡ (d ⊕ e ⊕ f) ⊕ (a ⊕ b ⊕ c)
    plain {p} a b c d e f = same_residue ((a ⊕ d) ⊕ (c ⊕ e) ⊕ (b ⊕ f)) ((d ⊕ e ⊕ f) ⊕ (a ⊕ b ⊕ c)) (simp values (ap (λ n. n % p) (omega arith)))

-- star of x + x T + x T T is y S + y T T S + y T S for y = x star S: three pairs less a triple
star-triple : (p N k : ℕ) → 0 < p → k < length (symbols N) → InSpan {p = p} (relations N) (star N (relation N (length (symbols N) + k)))
star-triple p N k positive within =
    let y : ℕ = image_number N (image_number N k matrix_star) matrix_s in
    let t : ℕ = image_number N y matrix_t in
    let w : ℕ = image_number N t matrix_t in
    let y_within : y < length (symbols N) = by_s N (image_number N k matrix_star) (by_star N k within) in
    let t_within : t < length (symbols N) = by_t N y y_within in
    let w_within : w < length (symbols N) = by_t N t t_within in
    let pairs = InSpan-plus (relations N) (unit y ⊞ unit (image_number N y matrix_s) ⊞ (unit w ⊞ unit (image_number N w matrix_s)))
    (unit t ⊞ unit (image_number N t matrix_s))
    (InSpan-plus (relations N) (unit y ⊞ unit (image_number N y matrix_s)) (unit w ⊞ unit (image_number N w matrix_s)) (pair_in_span p N y y_within)
    (pair_in_span p N w w_within))
    (pair_in_span p N t t_within) in
    subst (InSpan (relations N))
    (ap (λ v. minus v (unit y ⊞ unit t ⊞ unit w)) (three_pairs (unit y) (unit t) (unit w) (unit (image_number N y matrix_s))
    (unit (image_number N w matrix_s)) (unit (image_number N t matrix_s)))
    ∙ plus_and_minus positive (unit (image_number N y matrix_s) ⊞ unit (image_number N w matrix_s) ⊞ unit (image_number N t matrix_s))
    (unit y ⊞ unit t ⊞ unit w)
    ∙ sym (same y t w y_within t_within w_within refl refl refl))
    (InSpan-minus positive (relations N) _ (unit y ⊞ unit t ⊞ unit w) pairs (triple_in_span p N y y_within))
  where
    same : (y t w : ℕ) → y < length (symbols N) → t < length (symbols N) → w < length (symbols N) →
        y ≡ image_number N (image_number N k matrix_star) matrix_s → t ≡ image_number N y matrix_t → w ≡ image_number N t matrix_t
        → star {p = p} N (relation N (length (symbols N) + k)) ≡ unit (image_number N y matrix_s) ⊞ unit (image_number N w matrix_s)
        ⊞ unit (image_number N t matrix_s)
    same y t w y_within t_within w_within is_y is_t is_w =
        let m : ℕ = image_number N k matrix_t in
        let n : ℕ = image_number N (image_number N k matrix_t) matrix_t in
        let m_within : image_number N k matrix_t < length (symbols N) = by_t N k within in
        let n_within : image_number N (image_number N k matrix_t) matrix_t < length (symbols N) = by_t N m m_within in
        let first : image_number N k matrix_star ≡ image_number N y matrix_s = sym (s_twice N (image_number N k matrix_star) (by_star N k within))
        ∙ ap (λ j. image_number N j matrix_s) (sym is_y) in
        let second : image_number N (image_number N k matrix_t) matrix_star ≡ image_number N w matrix_s = star_of_t N k y within y_within first
        ∙ ap (λ j. image_number N j matrix_s) (ap (λ j. image_number N j matrix_t) (sym is_t) ∙ sym is_w) in
        let third : image_number N (image_number N (image_number N k matrix_t) matrix_t) matrix_star ≡ image_number N t matrix_s =
        star_of_t N m w m_within w_within second
        ∙ ap (λ j. image_number N j matrix_s) (ap (λ j. image_number N (image_number N j matrix_t) matrix_t) is_w ∙ t_thrice N t t_within) in
        ap (star N) (relation_triple p N k within)
        ∙ star-plus N (unit k ⊞ unit m) (unit n)
        ∙ ap (λ v. v ⊞ star N (unit n)) (star-plus N (unit k) (unit m))
        ∙ ap (λ v. v ⊞ star N (unit m) ⊞ star N (unit n)) (star-unit N k within ∙ ap unit first)
        ∙ ap (λ v. unit (image_number N y matrix_s) ⊞ v ⊞ star N (unit n)) (star-unit N m m_within ∙ ap unit second)
        ∙ ap (λ v. unit (image_number N y matrix_s) ⊞ unit (image_number N w matrix_s) ⊞ v) (star-unit N n n_within ∙ ap unit third)

-- star of every relation is a combination of relations
pub star-relation : (p N k : ℕ) → 0 < p → k < 2 * length (symbols N) → InSpan {p = p} (relations N) (star N (relation N k))
star-relation p N k positive l = elim (cases_lt k (length (symbols N))) [
  | inl pair ↦ star-pair p N k pair
  | inr triple ↦
      let j : ℕ = k - length (symbols N) in
      let e : length (symbols N) + j ≡ k = omega arith in
      subst (λ i. InSpan {p = p} (relations N) (star N (relation N i))) e (star-triple p N j positive (omega arith))
]

-- and so is star of each combination of relations
pub star-span : (p N : ℕ) (x : Vector p) → 0 < p → InSpan (relations N) x → InSpan (relations N) (star N x)
star-span p N x positive h = subst (InSpan (relations N))
    (combination-combinations h.coefficients (relations N) (star_symbols N) ∙ ap (star N) (sym h.is_combination))
    (InSpan-combination (relations N) (map (star N) (relations N)) h.coefficients
    (Each-map (star N) (relations N) (Each-rows (λ r. InSpan (relations N) (star N r)) (relations N) (λ j l.
    let within : j < 2 * length (symbols N) = omega (arith, length-relations p N) in
    subst (λ r. InSpan (relations N) (star N r)) (sym (row-relations p N j within)) (star-relation p N j positive within)))))

-- congruent combinations have congruent stars
pub star-congruent : (p N : ℕ) (x y : Vector p) → 0 < p → Congruent N x y → Congruent N (star N x) (star N y)
star-congruent p N x y positive h = subst (InSpan (relations N)) (combination-minus positive x y (star_symbols N))
    (star-span p N (minus x y) positive h)

-- ---- star twice
-- star of (-u:v) is (u:v)
star-star_symbols : (p N : ℕ) → map (star {p = p} N) (star_symbols N) ≡ map unit (range_with_len 0 (length (symbols N)))
star-star_symbols p N = same_rows (map (star N) (star_symbols N)) (map unit (range_with_len 0 (length (symbols N)))) counts (λ j l.
    let within : j < length (symbols N) = omega (arith, counts, length-units) in
    let inside : j < length (star_symbols {p = p} N) = omega (arith, length-map-range_with_len f 0 (length (symbols N))) in
    row-map (star N) (star_symbols N) j zeros inside
    ∙ ap (star N) (get_or-map-range_with_len f 0 (length (symbols N)) j j zeros within (omega arith))
    ∙ star-unit N (image_number N j matrix_star) (by_star N j within)
    ∙ ap unit (star_twice N j within)
    ∙ sym (row-map unit (range_with_len 0 (length (symbols N))) j 0 (omega (arith, length-range_with_len 0 (length (symbols N))))
    ∙ ap unit (get_or-range_with_len 0 (length (symbols N)) j 0 within ∙ omega arith)))
  where
    f : ℕ → Vector p
    f k = unit (image_number N k matrix_star)

    length-units : length (map (unit {p = p}) (range_with_len 0 (length (symbols N)))) ≡ length (symbols N)
    length-units = length-map-range_with_len unit 0 (length (symbols N))

    counts : length (map (star {p = p} N) (star_symbols N)) ≡ length (map (unit {p = p}) (range_with_len 0 (length (symbols N))))
    counts = length-map (star_symbols N) (star N) ∙ length-map-range_with_len f 0 (length (symbols N)) ∙ sym length-units

-- the combination of all symbols by a vector of length m is the vector
all_symbols : (p m : ℕ) (x : Vector p) → EndsBefore m x → at_places (range_with_len 0 m) x ≡ x
all_symbols p m x ends = λ i k. at k (cases_lt k m) i
  where
    at : (k : ℕ) → (k < m) ⊎ (m ≤ k) → at_places (range_with_len 0 m) x k ≡ x k
    at k (inl below) =
        let e : get_or (range_with_len 0 m) k 0 ≡ k = get_or-range_with_len 0 m k 0 below ∙ omega arith in
        ap (at_places (range_with_len 0 m) x) (sym e) ∙ at_places_at (range_with_len 0 m) x (range_rising m) k
        (omega (arith, length-range_with_len 0 m))
    at k (inr above) = at_places_elsewhere (range_with_len 0 m) x k (λ j l e.
        let inside : j < m = omega (arith, length-range_with_len 0 m) in
        let f : get_or (range_with_len 0 m) j 0 ≡ 0 + j = get_or-range_with_len 0 m j 0 inside in
        omega arith) ∙ sym (ends k above)

-- star is an involution
pub star-star : (p N : ℕ) (x : Vector p) → EndsBefore (length (symbols N)) x → star N (star N x) ≡ x
star-star p N x ends =
    sym (combination-combinations x (star_symbols N) (star_symbols N)) ∙ ap (combination x) (star-star_symbols p N)
    ∙ all_symbols p (length (symbols N)) x ends
