-- The coordinates of each symbol as rows, and what a combination of these is.
use Rattle.std.proofs.Common.{◌≡◌, ◌≢◌, ◌⊎◌, ◌+◌, ◌<◌, ◌≤◌, inl, inr, ℕ, List, [], ◌∷◌, ◌++◌, length, get_or, replicate, take, All, refl, sym, ◌∙◌, ap, subst, arith}
use Rattle.std.proofs.Math.Decide.{ℕ_discrete}
use Rattle.std.proofs.Math.ListN.{get_or-append, length-map}
use Rattle.std.proofs.lemmas.Bool.{cases_lt}
use Rattle.std.proofs.lemmas.List.{get_or_default, get_or_push, length-append}
use Rattle.std.proofs.lemmas.List.Elements.{All-cons, All-nil, All-head, All-tail, All-from_get_or}
use Rattle.linear_algebra.specs.Residue.{residue, ◌⊖◌, opposite}
use Rattle.linear_algebra.specs.Vector.{Vector, ◌⊞◌, ◌⊡◌, zeros, combination, minus, EndsBefore}
use Rattle.linear_algebra.specs.Span.{row, Each}
use Rattle.linear_algebra.specs.Dense.{dense}
use Rattle.linear_algebra.specs.Sparse.{sparse, sparse_rows, single}
use Rattle.linear_algebra.specs.Coordinates.{unit, free_places, IsBound, IsCoordinates, IsReduction}
use Rattle.linear_algebra.specs.Echelon.{IsPivot}
use Rattle.linear_algebra.proofs.Coordinates.{coordinates-plus, coordinates-scale, coordinates-zeros, coordinates_from_entries, unit_at, unit_elsewhere}
use Rattle.linear_algebra.proofs.BoundPlaces.{bound_or_free, free_place, free_place_of}
use Rattle.linear_algebra.proofs.Reductions.{bound_is_pivot}
use Rattle.linear_algebra.proofs.Support.{EndsBefore-minus}
use Rattle.linear_algebra.proofs.Congruence.{Congruent_refl}
use Rattle.linear_algebra.proofs.DenseLaws.{dense-replicate}
use Rattle.linear_algebra.proofs.Rising.{rising_apart}
use Rattle.linear_algebra.proofs.Differences.{zero-sub}
use Rattle.linear_algebra.proofs.Elimination.{combination-unit}
use Rattle.linear_algebra.proofs.SparseLaws.{sparse_more, sparse_nil, sparse-cons, sparse-one, row-sparse_rows, scale-unit, single_at, single_elsewhere, EndsBefore-sparse}
use Rattle.linear_algebra.proofs.Vectors.{plus_assoc, plus-zeros, zeros-plus, combination-plus, combination-scale, combination-zeros}
use Rattle.field_table.specs.Residues.{AreResidues, HasResidues}
use Rattle.field_table.specs.Terms.{HasPlacesBelow}
use Rattle.p1_normal.specs.Points.{symbols}
use Rattle.manin_relations.specs.Relations.{relations}
use Rattle.manin_relations.proofs.RelationLaws.{EndsBefore-relations}
use Rattle.sparse_echelon.specs.System.{System, vectors, vector}
use Rattle.quotient_coords.specs.Quotient.{dimension, free_symbols, HasCoordinates, ground_of}
use Rattle.quotient_coords.specs.Tables.{IsSpace, IsSymbolRow, AreSymbolRows}
use Rattle.quotient_coords.proofs.Spaces.{free_symbols_rising, positive_of, space_characteristic, space_width}

-- the combination of rows with one term is a multiple of the row at its place
pub combination-single : (p : ℕ) (rows : List (List (ℕ × ℕ))) (k a : ℕ) → k < length rows
    → combination (single p k a) (sparse_rows p rows) ≡ residue p a ⊡ sparse p (get_or rows k [])
combination-single p rows k a l =
    ap (λ v. combination v (sparse_rows p rows)) (sym (scale-unit p k a)) ∙ combination-scale (residue p a) (unit k) (sparse_rows p rows)
    ∙ ap (λ v. residue p a ⊡ v) (combination-unit (sparse_rows p rows) k (omega (arith, length-map rows (sparse p))) ∙ row-sparse_rows p rows k l)

-- before the first term no row is added
pub combined_none : (p : ℕ) (rows : List (List (ℕ × ℕ))) (v : Vector p) → v ≡ v ⊞ combination (sparse p []) (sparse_rows p rows)
combined_none p rows v = sym (ap (λ w. v ⊞ w) (ap (λ c. combination c (sparse_rows p rows)) (sparse_nil p) ∙ combination-zeros (sparse_rows p rows))
    ∙ plus-zeros v)

-- one more term adds a multiple of the row at its place
pub combined_more : (p : ℕ) (rows : List (List (ℕ × ℕ))) (terms : List (ℕ × ℕ)) (i k a : ℕ) (r : List (ℕ × ℕ)) (v before after : Vector p)
    → i < length terms → (get_or terms i (0, 0)).0 ≡ k → (get_or terms i (0, 0)).1 ≡ a → k < length rows → r ≡ get_or rows k r
    → before ≡ v ⊞ combination (sparse p (take i terms)) (sparse_rows p rows) → after ≡ before ⊞ residue p a ⊡ sparse p r
    → after ≡ v ⊞ combination (sparse p (take (i + 1) terms)) (sparse_rows p rows)
combined_more p rows terms i k a r v before after within place number below is_row sum step =
    let c : Vector p = combination (sparse p (take i terms)) (sparse_rows p rows) in
    let d : Vector p = combination (single p k a) (sparse_rows p rows) in
    let more : sparse p (take (i + 1) terms) ≡ sparse p (take i terms) ⊞ single p k a = sparse_more p terms i within
    ∙ ap (λ q. sparse p (take i terms) ⊞ single p q (get_or terms i (0, 0)).1) place ∙ ap (λ b. sparse p (take i terms) ⊞ single p k b) number in
    step ∙ ap (λ w. before ⊞ w) (ap (λ ts. residue p a ⊡ sparse p ts) (is_row ∙ get_or_default rows k r [] below)
    ∙ sym (combination-single p rows k a below)) ∙ ap (λ w. w ⊞ d) sum ∙ plus_assoc v c d
    ∙ ap (λ w. v ⊞ w) (sym (combination-plus (sparse p (take i terms)) (single p k a) (sparse_rows p rows))
    ∙ ap (λ w. combination w (sparse_rows p rows)) (sym more))

-- what is added to zeros
pub combined_all : (p n : ℕ) (rows : List (List (ℕ × ℕ))) (c : Vector p) (start values : List ℕ) → start ≡ replicate n 0
    → dense p values ≡ dense p start ⊞ combination c (sparse_rows p rows) → dense p values ≡ combination c (sparse_rows p rows)
combined_all p n rows c start values none sum =
    sum ∙ ap (λ v. v ⊞ combination c (sparse_rows p rows)) (ap (dense p) none ∙ dense-replicate p n) ∙ zeros-plus (combination c (sparse_rows p rows))

-- the combination of the symbols' rows with these terms has the coordinates of the combination of the symbols
coordinates_of_combination : (N p : ℕ) (rows : List (List (ℕ × ℕ))) (terms : List (ℕ × ℕ)) → 0 < p → AreSymbolRows N p (length (symbols N)) rows
    → HasPlacesBelow (length (symbols N)) terms
    → IsCoordinates (length (symbols N)) (relations N) (sparse p terms) (combination (sparse p terms) (sparse_rows p rows))
coordinates_of_combination N p rows [] positive h below =
    subst (λ v. IsCoordinates (length (symbols N)) (relations N) v (combination v (sparse_rows p rows))) (sym (sparse_nil p))
    (subst (IsCoordinates (length (symbols N)) (relations N) zeros) (sym (combination-zeros (sparse_rows p rows)))
    (coordinates-zeros positive (length (symbols N)) (relations N) (EndsBefore-relations p N)))
coordinates_of_combination N p rows (t ∷ terms) positive h below =
    let place : t.0 < length (symbols N) = All-head (λ t. t.0 < length (symbols N)) t terms below in
    let rest = coordinates_of_combination N p rows terms positive h (All-tail (λ t. t.0 < length (symbols N)) t terms below) in
    subst (λ v. IsCoordinates (length (symbols N)) (relations N) v (combination v (sparse_rows p rows))) (sym (sparse-cons p t terms))
    (subst (IsCoordinates (length (symbols N)) (relations N) (single p t.0 t.1 ⊞ sparse p terms))
    (sym (combination-plus (single p t.0 t.1) (sparse p terms) (sparse_rows p rows)))
    (coordinates-plus positive (length (symbols N)) (relations N) (EndsBefore-relations p N) (single p t.0 t.1) (sparse p terms)
    (combination (single p t.0 t.1) (sparse_rows p rows)) (combination (sparse p terms) (sparse_rows p rows))
    (one place) rest))
  where
    one : t.0 < length (symbols N) → IsCoordinates (length (symbols N)) (relations N) (single p t.0 t.1)
        (combination (single p t.0 t.1) (sparse_rows p rows))
    one place =
        subst (IsCoordinates (length (symbols N)) (relations N) (single p t.0 t.1)) (sym (combination-single p rows t.0 t.1 (omega (arith, h.count))))
        (subst (λ v. IsCoordinates (length (symbols N)) (relations N) v (residue p t.1 ⊡ sparse p (get_or rows t.0 []))) (scale-unit p t.0 t.1)
        (coordinates-scale positive (length (symbols N)) (relations N) (EndsBefore-relations p N) (residue p t.1) (unit t.0)
        (sparse p (get_or rows t.0 [])) (h.each t.0 place).coordinates))

-- residues that are that combination are the coordinates
pub coordinates_from_rows : (N p : ℕ) (rows : List (List (ℕ × ℕ))) (terms : List (ℕ × ℕ)) (values : List ℕ) → 0 < p
    → AreSymbolRows N p (length (symbols N)) rows → HasPlacesBelow (length (symbols N)) terms
    → length values ≡ dimension N p → AreResidues p values → dense p values ≡ combination (sparse p terms) (sparse_rows p rows)
    → HasCoordinates (ground_of N p) terms values
coordinates_from_rows N p rows terms values positive h below count residues sum = record {
  count = count;
  residues = residues;
  coordinates = subst (IsCoordinates (length (symbols N)) (relations N) (sparse p terms)) (sym sum)
      (coordinates_of_combination N p rows terms positive h below);
}

-- the row of a bound symbol in the echelon form, renumbered and negated, is its row
pub symbol_row_bound : (N p f : ℕ) (s : System) (free : List ℕ) (k : ℕ) (r row : List (ℕ × ℕ)) → IsSpace N p s free → f ≡ s.characteristic
    → k < s.width → ((j : ℕ) → j < length free → get_or free j 0 ≢ k)
    → IsReduction (vectors s) (unit k) (minus (unit k) (vector s r)) → HasPlacesBelow s.width r
    → HasPlacesBelow (length free) row → HasResidues f row → ((j : ℕ) → j < length free → sparse f row j ≡ opposite (sparse f r (get_or free j 0)))
    → IsSymbolRow N p k row
symbol_row_bound N p f s free k r row h same below other reduction places row_places residues entries = record {
  places = dimension_places;
  residues = subst (λ q. HasResidues q row) is_p residues;
  coordinates = coordinates_from_entries (positive_of h) (length (symbols N)) (relations N) (EndsBefore-relations p N) (unit k)
      (minus (unit k) (sparse p r)) (sparse p row)
      (EndsBefore-minus (positive_of h) (length (symbols N)) (unit k) (sparse p r)
      (λ i u. unit_elsewhere k i (λ e. absurd (omega (arith, space_width N p s free h))))
      (EndsBefore-sparse p (length (symbols N)) r (subst (λ n. HasPlacesBelow n r) (space_width N p s free h) places)))
      (subst (λ vs. IsReduction vs (unit k) (minus (unit k) (sparse p r))) h.relations.vectors
      (subst (λ s. IsReduction (vectors s) (unit k) (minus (unit k) (vector s r))) h.eliminated reduction))
      (EndsBefore-sparse p (dimension N p) row dimension_places)
      (λ j l. subst (λ ks. sparse p row j ≡ (minus (unit k) (sparse p r)) (get_or ks j 0)) h.free
      (entry j (subst (λ ks. j < length ks) (sym h.free) l)));
}
  where
    is_p : f ≡ p
    is_p = same ∙ space_characteristic N p s free h

    dimension_places : HasPlacesBelow (dimension N p) row
    dimension_places = subst (λ ks. HasPlacesBelow (length ks) row) h.free row_places

    entry : (j : ℕ) → j < length free → sparse p row j ≡ (minus (unit k) (sparse p r)) (get_or free j 0)
    entry j l = subst (λ q. sparse q row j ≡ opposite (sparse q r (get_or free j 0))) is_p (entries j l)
        ∙ sym (ap (λ a. a ⊖ sparse p r (get_or free j 0)) (unit_elsewhere k (get_or free j 0) (λ e. other j l (sym e)))
        ∙ zero-sub (sparse p r (get_or free j 0)))

-- a free symbol is its own row
pub symbol_row_free : (N p : ℕ) (s : System) (free : List ℕ) (k q : ℕ) → IsSpace N p s free → 1 < p → q < length free → get_or free q 0 ≡ k
    → IsSymbolRow N p k ((q, 1) ∷ [])
symbol_row_free N p s free k q h above within here = record {
  places = All-cons (λ t. t.0 < dimension N p) (q, 1) [] (subst (λ ks. q < length ks) h.free within) (All-nil (λ t. t.0 < dimension N p));
  residues = All-cons (λ t. t.1 < p) (q, 1) [] above (All-nil (λ t. t.1 < p));
  coordinates = coordinates_from_entries (positive_of h) (length (symbols N)) (relations N) (EndsBefore-relations p N) (unit k) (unit k)
      (sparse p ((q, 1) ∷ []))
      (λ i u. unit_elsewhere k i (λ e. absurd (omega (arith, this.0))))
      (record {
        congruent = Congruent_refl (positive_of h) (relations N) (unit k);
        free = λ i b. unit_elsewhere k i
            (λ e. this.1 (subst (IsBound (relations N)) (sym e) b));
      })
      (EndsBefore-sparse p (dimension N p) ((q, 1) ∷ []) (All-cons (λ t. t.0 < dimension N p) (q, 1) [] (subst (λ ks. q < length ks) h.free within)
      (All-nil (λ t. t.0 < dimension N p))))
      (λ j l. ap (λ v. v j) (sparse-one p (q, 1)) ∙ entry j l (ℕ_discrete q j));
}
  where
    at : get_or (free_symbols N p) q 0 ≡ k
    at = subst (λ ks. get_or ks q 0 ≡ k) h.free here

    in_free : q < dimension N p
    in_free = subst (λ ks. q < length ks) h.free within

    this : (k < length (symbols N)) × (IsBound (relations {p = p} N) k → ⊥)
    this = subst (λ m. (m < length (symbols N)) × (IsBound (relations {p = p} N) m → ⊥)) at
        (free_place (positive_of h) (length (symbols N)) (relations N) q in_free)

    entry : (j : ℕ) → j < dimension N p → Dec (q ≡ j) → single p q 1 j ≡ unit k (get_or (free_symbols N p) j 0)
    entry j l (yes same) = ap (single p q 1) (sym same) ∙ single_at p q 1
        ∙ sym (ap (unit k) (ap (λ m. get_or (free_symbols N p) m 0) (sym same) ∙ at) ∙ unit_at k)
    entry j l (no apart) = single_elsewhere p q 1 j apart ∙ sym (unit_elsewhere k (get_or (free_symbols N p) j 0)
        (λ e. rising_apart (free_symbols N p) (free_symbols_rising N p) q j in_free l apart (at ∙ e)))

-- a symbol that is not free is a pivot
pub pivot_unless_free : {p : ℕ} → 0 < p → (d : ℕ) (rows : List (Vector p)) → Each (EndsBefore d) rows → (free : List ℕ) → free ≡ free_places d rows
    → (k : ℕ) → k < d
    → ((j : ℕ) → j < length free → get_or free j 0 ≢ k) → IsPivot rows k
pivot_unless_free positive d rows ends free is_free k below other = elim (bound_or_free positive d rows ends k) [
  | inl bound ↦ bound_is_pivot positive rows k bound
  | inr unbound ↦ (let (j, u, e) = free_place_of positive d rows ends k below unbound in
      absurd (other j (subst (λ ks. j < length ks) (sym is_free) u) (ap (λ ks. get_or ks j 0) is_free ∙ e)))
]

-- no row yet
pub symbol_rows_none : (N p : ℕ) → AreSymbolRows N p 0 []
symbol_rows_none N p = record { count = refl; each = λ k l. absurd (omega arith) }

-- the row of one more symbol
pub symbol_rows_more : (N p n : ℕ) (rows : List (List (ℕ × ℕ))) (row : List (ℕ × ℕ)) → AreSymbolRows N p n rows → IsSymbolRow N p n row
    → AreSymbolRows N p (n + 1) (rows ++ row ∷ [])
symbol_rows_more N p n rows row h is = record {
  count = length-append rows (row ∷ []) ∙ ap (λ m. m + 1) h.count;
  each = λ k l. at k l (cases_lt k n);
}
  where
    at : (k : ℕ) → k < n + 1 → (k < n) ⊎ (n ≤ k) → IsSymbolRow N p k (get_or (rows ++ row ∷ []) k [])
    at k l (inl before) = subst (IsSymbolRow N p k) (sym (get_or-append rows (row ∷ []) [] k (omega (arith, h.count)))) (h.each k before)
    at k l (inr last) =
        let same : n ≡ k = omega arith in
        subst (IsSymbolRow N p k) (sym (get_or_push rows row [] k (h.count ∙ same))) (subst (λ m. IsSymbolRow N p m row) same is)

-- all rows have places below the dimension
pub places_of_rows : (N p n : ℕ) (rows : List (List (ℕ × ℕ))) → AreSymbolRows N p n rows → All (HasPlacesBelow (dimension N p)) rows
places_of_rows N p n rows h = All-from_get_or (HasPlacesBelow (dimension N p)) rows [] (λ k l. (h.each k (omega (arith, h.count))).places)

-- and residues below the characteristic
pub residues_of_rows : (N p n : ℕ) (rows : List (List (ℕ × ℕ))) → AreSymbolRows N p n rows → All (HasResidues p) rows
residues_of_rows N p n rows h = All-from_get_or (HasResidues p) rows [] (λ k l. (h.each k (omega (arith, h.count))).residues)
