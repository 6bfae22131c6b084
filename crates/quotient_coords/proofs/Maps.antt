-- The matrix of a linear map on the quotient gives the coordinates of images.
use Rattle.std.proofs.Common.{◌≡◌, ◌+◌, ◌<◌, ◌≤◌, ◌⊎◌, inl, inr, ℕ, List, [], ◌∷◌, ◌++◌, length, get_or, map, All, sym, ◌∙◌, ap, subst, arith}
use Rattle.std.proofs.Math.ListN.{get_or-append, length-map}
use Rattle.std.proofs.lemmas.Bool.{cases_lt}
use Rattle.std.proofs.lemmas.List.{get_or_default, get_or-map, get_or_push, length-append, same_lists}
use Rattle.std.proofs.lemmas.List.Elements.{All-from_get_or, All-get_or}
use Rattle.linear_algebra.specs.Prime.{IsPrime}
use Rattle.linear_algebra.specs.Vector.{Vector, zeros, combination, EndsBefore}
use Rattle.linear_algebra.specs.Span.{Each, row}
use Rattle.linear_algebra.specs.Dense.{dense, dense_rows}
use Rattle.linear_algebra.specs.Coordinates.{IsCoordinates, at_places, unit}
use Rattle.linear_algebra.proofs.Rows.{row-map}
use Rattle.linear_algebra.proofs.Spans.{Each-rows}
use Rattle.linear_algebra.proofs.Vectors.{combination-combinations}
use Rattle.linear_algebra.proofs.Support.{EndsBefore-combination}
use Rattle.linear_algebra.proofs.Congruence.{Congruent_trans, Congruent-combination}
use Rattle.linear_algebra.proofs.DenseLaws.{row-dense_rows}
use Rattle.field_table.specs.Residues.{AreResidues}
use Rattle.p1_normal.specs.Points.{symbols}
use Rattle.manin_relations.specs.Relations.{relations, Congruent}
use Rattle.quotient_coords.specs.Quotient.{AreCoordinates, dimension, free_symbols}
use Rattle.quotient_coords.specs.Maps.{IsMatrixOf}
use Rattle.quotient_coords.proofs.Spaces.{free_symbols_below}
use Rattle.quotient_coords.proofs.Unique.{coordinates_same}

-- list j has what is said of j, for the first n lists
pub record AreFirst (P : ℕ → List ℕ → Type 0) (n : ℕ) (lists : List (List ℕ)) : Type 0 where
  pub count : length lists ≡ n
  pub each : (j : ℕ) → j < n → P j (get_or lists j [])

-- one more
pub first_more : (P : ℕ → List ℕ → Type 0) (n : ℕ) (lists pushed : List (List ℕ)) (values : List ℕ) → pushed ≡ lists ++ values ∷ []
    → AreFirst P n lists → P n values → AreFirst P (n + 1) pushed
first_more P n lists pushed values e h is = record {
  count = omega (arith, h.count, length-append lists (values ∷ []), ap (λ xs. length xs) e);
  each = λ j l. subst (λ xs. P j (get_or xs j [])) (sym e) (by_place j l (cases_lt j n));
}
  where
    by_place : (j : ℕ) → j < n + 1 → (j < n) ⊎ (n ≤ j) → P j (get_or (lists ++ values ∷ []) j [])
    by_place j l (inl u) = subst (P j) (sym (get_or-append lists (values ∷ []) [] j (omega (arith, h.count)))) (h.each j u)
    by_place j l (inr u) =
        let here : n ≡ j = omega arith in
        subst (P j) (sym (get_or_push lists values [] j (omega (arith, h.count)))) (subst (λ i. P i values) here is)

-- free symbols are symbols
pub free_symbol_below : (N p j : ℕ) → j < dimension N p → get_or (free_symbols N p) j 0 < length (symbols N)
free_symbol_below N p j l = All-get_or (λ k. k < length (symbols N)) (free_symbols N p) j 0 l (free_symbols_below N p)

-- the columns are as high as there are free symbols
pub matrix_heights : {p : ℕ} (N : ℕ) (images : ℕ → Vector p) (columns : List (List ℕ)) → IsMatrixOf N images columns
    → All (λ column. length column ≡ length columns) columns
matrix_heights N images columns h = All-from_get_or (λ column. length column ≡ length columns) columns []
    (λ j l. (h.each j (omega (arith, h.count))).count ∙ sym h.count)

-- and hold residues
pub matrix_residues : {p : ℕ} (N : ℕ) (images : ℕ → Vector p) (columns : List (List ℕ)) → IsMatrixOf N images columns → All (AreResidues p) columns
matrix_residues {p} N images columns h = All-from_get_or (AreResidues p) columns [] (λ j l. (h.each j (omega (arith, h.count))).residues)

-- equal images of the symbols have one matrix
pub matrix_of_same : {p : ℕ} (N : ℕ) (f g : ℕ → Vector p) (columns : List (List ℕ)) → ((k : ℕ) → k < length (symbols N) → f k ≡ g k)
    → IsMatrixOf N f columns → IsMatrixOf N g columns
matrix_of_same {p} N f g columns same h = record {
  count = h.count;
  each = λ j l. subst (λ v. AreCoordinates N v (get_or columns j []))
      (same (get_or (free_symbols N p) j 0) (free_symbol_below N p j l)) (h.each j l);
}

-- there is one matrix
pub matrix_once : {p : ℕ} → IsPrime p → (N : ℕ) (images : ℕ → Vector p) (a b : List (List ℕ)) → IsMatrixOf N images a → IsMatrixOf N images b
    → a ≡ b
matrix_once {p} prime N images a b h k = same_lists a b (h.count ∙ sym k.count) (λ j d l.
    let within : j < dimension N p = omega (arith, h.count) in
    let inside : j < length b = omega (arith, k.count) in
    get_or_default a j d [] l
    ∙ coordinates_same prime N (images (get_or (free_symbols N p) j 0)) (get_or a j []) (get_or b j []) (h.each j within) (k.each j within)
    ∙ sym (get_or_default b j d [] inside))

module _ {p : ℕ} (N : ℕ) (positive : 0 < p) (f : Vector p → Vector p)
    (linear : (c : Vector p) (rows : List (Vector p)) → f (combination c rows) ≡ combination c (map f rows))
    (columns : List (List ℕ)) (h : IsMatrixOf N (λ k. f (unit k)) columns) where
  abbrev free : List ℕ
  free = free_symbols N p

  -- each column is as long as there are free symbols
  EndsBefore-columns : Each (EndsBefore (dimension N p)) (dense_rows p columns)
  EndsBefore-columns = Each-rows (EndsBefore (dimension N p)) (dense_rows p columns) (λ j u.
      let l : j < length columns = subst (λ n. j < n) (length-map columns (dense p)) u in
      subst (EndsBefore (dimension N p)) (sym (row-dense_rows p columns j l)) (h.each j (omega (arith, h.count))).coordinates.ends)

  -- the image of a combination of free symbols is congruent to that of the columns
  image_of_free : (c : Vector p) → Congruent N (f (at_places free c)) (at_places free (combination c (dense_rows p columns)))
  image_of_free c =
      subst (λ v. Congruent N v (at_places free (combination c (dense_rows p columns)))) (sym (linear c (map unit free)))
      (subst (Congruent N (combination c (map f (map unit free)))) (combination-combinations c (dense_rows p columns) (map unit free))
      (Congruent-combination positive (relations N) c (map f (map unit free)) (map (at_places free) (dense_rows p columns)) sized each))
    where
      count : length (map (unit {p = p}) free) ≡ length free
      count = length-map free (unit {p = p})

      sized : length (map f (map unit free)) ≡ length (map (at_places {p = p} free) (dense_rows p columns))
      sized = length-map (map unit free) f ∙ count
          ∙ sym (length-map (dense_rows p columns) (at_places {p = p} free) ∙ length-map columns (dense p) ∙ h.count)

      each : (j : ℕ) → j < length (map f (map unit free))
          → Congruent N (row (map f (map unit free)) j) (row (map (at_places {p = p} free) (dense_rows p columns)) j)
      each j u =
          let l : j < dimension N p = subst (λ n. j < n) (length-map (map unit free) f ∙ count) u in
          let w : j < length columns = omega (arith, h.count) in
          subst (λ v. Congruent N v (row (map (at_places {p = p} free) (dense_rows p columns)) j))
          (sym (row-map f (map unit free) j zeros (omega (arith, count)) ∙ ap f (get_or-map unit free j 0 zeros l)))
          (subst (Congruent N (f (unit (get_or free j 0))))
          (sym (row-map (at_places free) (dense_rows p columns) j zeros (omega (arith, length-map columns (dense p)))
          ∙ ap (at_places free) (get_or-map (dense p) columns j [] zeros w)))
          (h.each j l).coordinates.congruent)

  -- where the map keeps congruence, the matrix times the coordinates of x is the coordinates of the image of x
  pub matrix_of_image : ((x y : Vector p) → Congruent N x y → Congruent N (f x) (f y)) → (x c : Vector p)
      → IsCoordinates (length (symbols N)) (relations N) x c
      → IsCoordinates (length (symbols N)) (relations N) (f x) (combination c (dense_rows p columns))
  matrix_of_image keeps x c at = record {
    ends = EndsBefore-combination (dimension N p) c (dense_rows p columns) EndsBefore-columns;
    congruent = Congruent_trans positive (relations N) (f x) (f (at_places free c)) (at_places free (combination c (dense_rows p columns)))
        (keeps x (at_places free c) at.congruent) (image_of_free c);
  }

  -- so lists of residues with that product are the coordinates
  pub coordinates_of_image : ((x y : Vector p) → Congruent N x y → Congruent N (f x) (f y)) → (x : Vector p) (values images : List ℕ)
      → AreCoordinates N x values → length images ≡ dimension N p → AreResidues p images
      → dense p images ≡ combination (dense p values) (dense_rows p columns) → AreCoordinates N (f x) images
  coordinates_of_image keeps x values images at count residues product = record {
    count = count;
    residues = residues;
    coordinates = subst (IsCoordinates (length (symbols N)) (relations N) (f x)) (sym product)
        (matrix_of_image keeps x (dense p values) at.coordinates);
  }
