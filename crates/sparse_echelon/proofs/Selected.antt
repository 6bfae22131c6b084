-- Combinations of rows by the entries of a vector at their greatest places.
use Rattle.std.proofs.Common.{◌≡◌, ◌≢◌, ◌+◌, ◌-◌, ◌<◌, ℕ, List, [], length, get_or, take, sym, ◌∙◌, ap, subst, arith}
use Rattle.std.proofs.Math.Decide.{ℕ_discrete}
use Rattle.std.proofs.Math.ListN.{length-map}
use Rattle.std.proofs.lemmas.List.{get_or_default}
use Rattle.linear_algebra.specs.Residue.{Residue, residue, ◌⊗◌, opposite}
use Rattle.linear_algebra.specs.Vector.{Vector, ◌⊞◌, ◌⊡◌, zeros, combination, minus}
use Rattle.linear_algebra.specs.Span.{row}
use Rattle.linear_algebra.specs.Sparse.{single, sparse, sparse_rows}
use Rattle.linear_algebra.specs.Coordinates.{unit}
use Rattle.linear_algebra.proofs.ResidueLaws.{mul_comm, one-mul, zero-mul}
use Rattle.linear_algebra.proofs.Vectors.{plus_assoc, plus_comm, plus-zeros, zeros-plus, scale-plus, scale-zeros, scale-scale, one-scale, combination-plus, combination-scale, combination-zeros}
use Rattle.linear_algebra.proofs.Differences.{minus-times, opposite-residue}
use Rattle.linear_algebra.proofs.Rows.{combination_same}
use Rattle.linear_algebra.proofs.SparseLaws.{single_at, single_elsewhere, sparse_nil, sparse_more, row-sparse_rows}
use Rattle.linear_algebra.proofs.Coordinates.{unit_at, unit_elsewhere}
use Rattle.linear_algebra.proofs.Elimination.{combination-unit}
use Rattle.field_table.specs.Places.{PlaceList}
use Rattle.sparse_echelon.specs.Leads.{lead, at_leads}

-- a term whose place is no greatest place selects no row
pub selected_none : (p k a : ℕ) (l : PlaceList) (rows : List (Vector p)) → length l.places ≡ length rows
    → ((j : ℕ) → j < length l.places → lead l j ≢ k)
    → combination (at_leads l (single p k a)) rows ≡ zeros
selected_none p k a l rows many other =
    combination_same (at_leads l (single p k a)) zeros rows (λ j u. single_elsewhere p k a (lead l j) (λ e. other j (omega arith) (sym e)))
    ∙ combination-zeros rows

-- a term at the greatest place of one row alone selects it
pub selected_one : (p k a j : ℕ) (l : PlaceList) (rows : List (Vector p)) → length l.places ≡ length rows → j < length rows → lead l j ≡ k
    → ((i : ℕ) → i < length l.places → lead l i ≡ k → i ≡ j)
    → combination (at_leads l (single p k a)) rows ≡ residue p a ⊡ row rows j
selected_one p k a j l rows many within here only =
    combination_same (at_leads l (single p k a)) (residue p a ⊡ unit j) rows (λ i u. at i u (ℕ_discrete j i))
    ∙ combination-scale (residue p a) (unit j) rows ∙ ap (λ v. residue p a ⊡ v) (combination-unit rows j within)
  where
    at : (i : ℕ) → i < length rows → Dec (j ≡ i) → single p k a (lead l i) ≡ residue p a ⊗ unit j i
    at i u (yes same) =
        subst (λ m. single p k a (lead l m) ≡ residue p a ⊗ unit j m) same
        (ap (single p k a) here ∙ single_at p k a ∙ sym (ap (λ b. residue p a ⊗ b) (unit_at j) ∙ mul_comm (residue p a) (residue p 1)
        ∙ one-mul (residue p a)))
    at i u (no apart) =
        single_elsewhere p k a (lead l i) (λ e. apart (sym (only i (omega arith) (sym e))))
        ∙ sym (ap (λ b. residue p a ⊗ b) (unit_elsewhere j i apart) ∙ mul_comm (residue p a) (residue p 0) ∙ zero-mul (residue p a))

-- the step of a term at no greatest place
pub added_none : (p : ℕ) (l : PlaceList) (rows : List (List (ℕ × ℕ))) (factor number place : ℕ) (v : Vector p) → length l.places ≡ length rows
    → ((j : ℕ) → j < length l.places → lead l j ≢ place)
    → v ≡ v ⊞ residue p factor ⊡ combination (at_leads l (single p place number)) (sparse_rows p rows)
added_none p l rows factor number place v many other =
    sym (ap (λ w. v ⊞ (residue p factor ⊡ w)) (selected_none p place number l (sparse_rows p rows) (many ∙ sym (length-map rows (sparse p))) other)
    ∙ ap (λ w. v ⊞ w) (scale-zeros (residue p factor)) ∙ plus-zeros v)

-- the step of a term at the greatest place of row j
pub added_one : (p : ℕ) (l : PlaceList) (rows : List (List (ℕ × ℕ))) (factor number product place j : ℕ) (v new : Vector p) (r : List (ℕ × ℕ))
    → length l.places ≡ length rows → (j < length l.places) × (lead l j ≡ place)
    → ((i : ℕ) → i < length l.places → lead l i ≡ place → i ≡ j) → r ≡ get_or rows j r → residue p product ≡ residue p factor ⊗ residue p number
    → new ≡ v ⊞ residue p product ⊡ sparse p r
    → new ≡ v ⊞ residue p factor ⊡ combination (at_leads l (single p place number)) (sparse_rows p rows)
added_one p l rows factor number product place j v new r many (within, here) only is_row is_product sum =
    let same : sparse p r ≡ row (sparse_rows p rows) j = ap (sparse p) (is_row ∙ get_or_default rows j r [] (omega arith))
    ∙ sym (row-sparse_rows p rows j (omega arith)) in
    let mapped : length (sparse_rows p rows) ≡ length rows = length-map rows (sparse p) in
    sum ∙ ap (λ a. v ⊞ (a ⊡ sparse p r)) is_product
    ∙ ap (λ w. v ⊞ w) (scale-scale (residue p factor) (residue p number) (sparse p r) ∙ ap (λ w. residue p factor ⊡ (residue p number ⊡ w)) same
    ∙ ap (λ w. residue p factor ⊡ w) (sym (selected_one p place number j l (sparse_rows p rows) (omega arith) (omega arith) here only)))

-- the rows that the first terms select, and those that one term more does
pub selected_more : (p : ℕ) (f : Residue p) (l : PlaceList) (rows : List (Vector p)) (terms : List (ℕ × ℕ)) (i k a : ℕ) (v before after : Vector p)
    → i < length terms
    → (get_or terms i (0, 0)).0 ≡ k → (get_or terms i (0, 0)).1 ≡ a
    → before ≡ v ⊞ (f ⊡ combination (at_leads l (sparse p (take i terms))) rows) → after ≡ before ⊞ (f ⊡ combination (at_leads l (single p k a)) rows)
    → after ≡ v ⊞ (f ⊡ combination (at_leads l (sparse p (take (i + 1) terms))) rows)
selected_more p f l rows terms i k a v before after within place number sum step =
    let c : Vector p = combination (at_leads l (sparse p (take i terms))) rows in
    let d : Vector p = combination (at_leads l (single p k a)) rows in
    let more : sparse p (take (i + 1) terms) ≡ sparse p (take i terms) ⊞ single p k a = sparse_more p terms i within
    ∙ ap (λ q. sparse p (take i terms) ⊞ single p q (get_or terms i (0, 0)).1) place ∙ ap (λ b. sparse p (take i terms) ⊞ single p k b) number in
    step ∙ ap (λ w. w ⊞ (f ⊡ d)) sum ∙ plus_assoc v (f ⊡ c) (f ⊡ d) ∙ ap (λ w. v ⊞ w) (sym (scale-plus f c d)
    ∙ ap (λ w. f ⊡ w) (sym (combination-plus (at_leads l (sparse p (take i terms))) (at_leads l (single p k a)) rows)
    ∙ ap (λ w. combination (at_leads l w) rows) (sym more)))

-- before the first term no row is added
pub selected_start : {p : ℕ} (f : Residue p) (l : PlaceList) (rows : List (Vector p)) (v : Vector p)
    → v ≡ v ⊞ (f ⊡ combination (at_leads l (sparse p [])) rows)
selected_start {p} f l rows v =
    sym (ap (λ w. v ⊞ (f ⊡ w)) (ap (λ w. combination (at_leads l w) rows) (sparse_nil p) ∙ combination-zeros rows) ∙ ap (λ w. v ⊞ w) (scale-zeros f)
    ∙ plus-zeros v)

-- rows that are added with the factor -1
pub minus_selected : (p m : ℕ) → 1 < p → (x w c : Vector p) → residue p m ≡ opposite (residue p 1) → w ≡ x ⊞ residue p m ⊡ c → w ≡ minus x c
minus_selected p m above x w c negative sum = sum ∙ ap (λ a. x ⊞ (a ⊡ c)) (negative ∙ opposite-residue p 1 above)
    ∙ sym (minus-times (omega arith) x c)

-- rows that are added to a list of zeros
pub spread_only : {p : ℕ} (f : Residue p) (v z w : Vector p) → z ≡ zeros → w ≡ z ⊞ (f ⊡ v) → w ≡ f ⊡ v
spread_only f v z w empty sum = sum ∙ ap (λ u. u ⊞ (f ⊡ v)) empty ∙ zeros-plus (f ⊡ v)

-- rows that are added to zeros with the factor -1, and then terms
pub minus_spread : (p m : ℕ) → 1 < p → (z w total c x : Vector p) → z ≡ zeros → residue p m ≡ opposite (residue p 1) → w ≡ z ⊞ (residue p m ⊡ c)
    → total ≡ w ⊞ (residue p 1 ⊡ x) → total ≡ minus x c
minus_spread p m above z w total c x empty negative rows terms =
    terms ∙ ap (λ u. w ⊞ u) (one-scale x) ∙ ap (λ u. u ⊞ x) (spread_only (residue p m) c z w empty rows
    ∙ ap (λ a. a ⊡ c) (negative ∙ opposite-residue p 1 above))
    ∙ plus_comm (residue p (p - 1) ⊡ c) x ∙ sym (minus-times (omega arith) x c)
