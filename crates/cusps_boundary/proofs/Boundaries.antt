-- The boundary map is linear, and 0 on every relation.
use Rattle.std.proofs.Common.{◌≡◌, ◌+◌, ◌-◌, ◌*◌, ◌<◌, ℕ, List, [], ◌∷◌, length, map, sym, ◌∙◌, ap, subst, inl, inr, arith}
use Rattle.std.specs.List.{range_with_len}
use Rattle.std.proofs.lemmas.Bool.{cases_lt}
use Rattle.std.proofs.lemmas.List.FromFn.{length-map-range_with_len, length-range_with_len, get_or-range_with_len}
use Rattle.linear_algebra.specs.Residue.{Residue}
use Rattle.linear_algebra.specs.Vector.{Vector, ◌⊞◌, ◌⊡◌, zeros, tail, combination, minus}
use Rattle.linear_algebra.specs.Span.{InSpan, Each}
use Rattle.linear_algebra.specs.Span.Each.{more}
use Rattle.linear_algebra.specs.Coordinates.{unit}
use Rattle.linear_algebra.proofs.Vectors.{combination-plus, combination-scale, combination-zeros, plus-zeros, scale-zeros}
use Rattle.linear_algebra.proofs.Differences.{combination-minus, minus_chain, minus_none, minus_self}
use Rattle.linear_algebra.proofs.Elimination.{combination-unit}
use Rattle.linear_algebra.proofs.Rows.{row-map}
use Rattle.linear_algebra.proofs.Spans.{Each-rows}
use Rattle.p1_normal.specs.Points.{symbols}
use Rattle.p1_normal.specs.Actions.{image_number, matrix_s, matrix_t, matrix_u}
use Rattle.p1_normal.proofs.LevelLaws.{image_number_product, s_twice, t_thrice}
use Rattle.p1_normal.proofs.Moves.{image_number-lt, invertible_s, invertible_t}
use Rattle.manin_relations.specs.Relations.{relation, relations, Congruent}
use Rattle.manin_relations.proofs.RelationLaws.{length-relations, row-relations, relation_pair, relation_triple}
use Rattle.cusps_boundary.specs.Cusps.{cusp_number}
use Rattle.cusps_boundary.specs.Boundary.{boundary_of, boundary}
use Rattle.cusps_boundary.proofs.Orbits.{IsTurned, turned_once, cusp_number_same}

-- the boundaries of the symbols, in order
abbrev symbol_boundaries : {p : ℕ} → ℕ → List (Vector p)
symbol_boundaries N = map (boundary_of N) (range_with_len 0 (length (symbols N)))

pub boundary-plus : {p : ℕ} (N : ℕ) (x y : Vector p) → boundary N (x ⊞ y) ≡ boundary N x ⊞ boundary N y
boundary-plus N x y = combination-plus x y (symbol_boundaries N)

pub boundary-scale : {p : ℕ} (N : ℕ) (a : Residue p) (x : Vector p) → boundary N (a ⊡ x) ≡ a ⊡ boundary N x
boundary-scale N a x = combination-scale a x (symbol_boundaries N)

pub boundary-unit : {p : ℕ} (N k : ℕ) → k < length (symbols N) → boundary {p = p} N (unit k) ≡ boundary_of N k
boundary-unit {p} N k l =
    combination-unit (symbol_boundaries N) k (omega (arith, length-map-range_with_len (boundary_of {p = p} N) 0 (length (symbols N))))
    ∙ row-map (boundary_of N) (range_with_len 0 (length (symbols N))) k 0 (omega (arith, length-range_with_len 0 (length (symbols N))))
    ∙ ap (boundary_of N) (get_or-range_with_len 0 (length (symbols N)) k 0 l ∙ omega arith)

-- ---- relations
-- x T times U is x S: both end in one cusp
cusp_number-s-t : (N k : ℕ) → k < length (symbols N) → cusp_number N (image_number N k matrix_t) ≡ cusp_number N (image_number N k matrix_s)
cusp_number-s-t N k within = cusp_number_same N (image_number N k matrix_t) (image_number N k matrix_s)
    (image_number-lt N k matrix_t within (invertible_t N))
    (subst (IsTurned N (image_number N k matrix_t)) (image_number_product N k matrix_t matrix_u within (invertible_t N))
    (turned_once N (image_number N k matrix_t)))

boundary-pair : (p N k : ℕ) → 0 < p → k < length (symbols N) → boundary {p = p} N (relation N k) ≡ zeros
boundary-pair p N k positive within =
    let s : ℕ = image_number N k matrix_s in
    let c : ℕ → Vector p = λ j. unit (cusp_number N j) in
    ap (boundary N) (relation_pair p N k within)
    ∙ boundary-plus N (unit k) (unit s)
    ∙ ap (λ v. v ⊞ boundary N (unit s)) (boundary-unit N k within)
    ∙ ap (λ v. boundary_of N k ⊞ v) (boundary-unit N s (image_number-lt N k matrix_s within (invertible_s N)))
    ∙ minus_chain positive (c k) (c s) (c (image_number N s matrix_s))
    ∙ ap (λ j. minus (c k) (c j)) (s_twice N k within)
    ∙ minus_self positive (c k)

-- the boundary of x, by its cusp and that of x T
boundary_of-t : {p : ℕ} (N k : ℕ) → k < length (symbols N) →
    boundary_of {p = p} N k ≡ minus (unit (cusp_number N k)) (unit (cusp_number N (image_number N k matrix_t)))
boundary_of-t N k within = ap (λ c. minus (unit (cusp_number N k)) (unit c)) (sym (cusp_number-s-t N k within))

boundary-triple : (p N k : ℕ) → 0 < p → k < length (symbols N) → boundary {p = p} N (relation N (length (symbols N) + k)) ≡ zeros
boundary-triple p N k positive within =
    let t : ℕ = image_number N k matrix_t in
    let w : ℕ = image_number N t matrix_t in
    let t_within : t < length (symbols N) = image_number-lt N k matrix_t within (invertible_t N) in
    let w_within : w < length (symbols N) = image_number-lt N t matrix_t t_within (invertible_t N) in
    let c : ℕ → Vector p = λ j. unit (cusp_number N j) in
    ap (boundary N) (relation_triple p N k within)
    ∙ boundary-plus N (unit k ⊞ unit t) (unit w)
    ∙ ap (λ v. v ⊞ boundary N (unit w)) (boundary-plus N (unit k) (unit t))
    ∙ ap (λ v. v ⊞ boundary N (unit t) ⊞ boundary N (unit w)) (boundary-unit N k within ∙ boundary_of-t N k within)
    ∙ ap (λ v. minus (c k) (c t) ⊞ v ⊞ boundary N (unit w)) (boundary-unit N t t_within ∙ boundary_of-t N t t_within)
    ∙ ap (λ v. minus (c k) (c t) ⊞ minus (c t) (c w) ⊞ v) (boundary-unit N w w_within ∙ boundary_of-t N w w_within)
    ∙ ap (λ v. v ⊞ minus (c w) (c (image_number N w matrix_t))) (minus_chain positive (c k) (c t) (c w))
    ∙ minus_chain positive (c k) (c w) (c (image_number N w matrix_t))
    ∙ ap (λ j. minus (c k) (c j)) (t_thrice N k within)
    ∙ minus_self positive (c k)

-- the boundary of every relation is 0
pub boundary-relation : (p N k : ℕ) → 0 < p → k < 2 * length (symbols N) → boundary {p = p} N (relation N k) ≡ zeros
boundary-relation p N k positive l = elim (cases_lt k (length (symbols N))) [
  | inl pair ↦ boundary-pair p N k positive pair
  | inr triple ↦
      let j : ℕ = k - length (symbols N) in
      let e : length (symbols N) + j ≡ k = omega arith in
      ap (λ i. boundary {p = p} N (relation N i)) (sym e) ∙ boundary-triple p N j positive (omega arith)
]

-- ---- combinations of relations
-- where a combination by each row is 0, so is that by each combination of the rows
vanishing : {p : ℕ} (images rows : List (Vector p)) (c : Vector p) → Each (λ r. combination r images ≡ zeros) rows →
    combination (combination c rows) images ≡ zeros
vanishing images [] c h = combination-zeros images
vanishing images (r ∷ rs) c (more e h) =
    combination-plus (c 0 ⊡ r) (combination (tail c) rs) images
    ∙ ap (λ v. v ⊞ combination (combination (tail c) rs) images) (combination-scale (c 0) r images ∙ ap (λ v. c 0 ⊡ v) e ∙ scale-zeros (c 0))
    ∙ ap (λ v. zeros ⊞ v) (vanishing images rs (tail c) h)
    ∙ plus-zeros zeros

pub boundary-span : (p N : ℕ) (x : Vector p) → 0 < p → InSpan (relations N) x → boundary N x ≡ zeros
boundary-span p N x positive h = ap (boundary N) h.is_combination ∙ vanishing (symbol_boundaries N) (relations N) h.coefficients
    (Each-rows (λ r. boundary N r ≡ zeros) (relations N) (λ j l.
    let within : j < 2 * length (symbols N) = omega (arith, length-relations p N) in
    ap (boundary N) (row-relations p N j within) ∙ boundary-relation p N j positive within))

-- congruent combinations have one boundary
pub boundary-congruent : (p N : ℕ) (x y : Vector p) → 0 < p → Congruent N x y → boundary N x ≡ boundary N y
boundary-congruent p N x y positive h = minus_none positive (boundary N x) (boundary N y)
    (sym (combination-minus positive x y (symbol_boundaries N)) ∙ boundary-span p N (minus x y) positive h)
