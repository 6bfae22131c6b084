-- Each vector has its coordinates on the free places, in one way.
use Rattle.std.proofs.Common.{◌≡◌, ◌≢◌, ◌⊎◌, ◌+◌, ◌<◌, ◌≤◌, ℕ, List, [], ◌∷◌, length, get_or, take, map, sym, ◌∙◌, ap, subst, inl, inr, arith}
use Rattle.std.proofs.Math.ListN.{length-map}
use Rattle.std.proofs.lemmas.Bool.{cases_lt}
use Rattle.std.proofs.lemmas.List.{map-append, take_more, length-take-le}
use Rattle.linear_algebra.specs.Residue.{Residue, residue}
use Rattle.linear_algebra.specs.Vector.{Vector, ◌⊞◌, ◌⊡◌, zeros, combination, EndsBefore}
use Rattle.linear_algebra.specs.Span.{Each, row, Congruent}
use Rattle.linear_algebra.specs.Coordinates.{IsBound, IsReduction, unit, at_places, free_places, IsCoordinates}
use Rattle.linear_algebra.proofs.Rows.{row-map, combination_last, combination_at, combination_vanishes, combination_same}
use Rattle.linear_algebra.proofs.Rising.{rising_apart}
use Rattle.linear_algebra.proofs.Pivots.{lead_or_not}
use Rattle.linear_algebra.proofs.SparseLaws.{single_at, single_elsewhere}
use Rattle.linear_algebra.proofs.Dimension.{trim, combination-trim, EndsBefore-trim}
use Rattle.linear_algebra.proofs.Vectors.{combination-plus, combination-scale, combination-zeros}
use Rattle.linear_algebra.proofs.Support.{EndsBefore-plus, EndsBefore-scale, EndsBefore-zeros}
use Rattle.linear_algebra.proofs.Congruence.{Congruent_refl, Congruent_sym, Congruent_trans, Congruent-plus, Congruent-scale}
use Rattle.linear_algebra.proofs.Reductions.{reduction_once}
use Rattle.linear_algebra.proofs.BoundPlaces.{bound_or_free, free_place, free_place_of, free_places_rising}
use Rattle.std.specs.List.Sorted.{IsStrictlyIncreasing}

-- the unit vector at k is 1 there
pub unit_at : {p : ℕ} (k : ℕ) → unit {p = p} k k ≡ residue p 1
unit_at {p} k = single_at p k 1

-- is 0 at the other places
pub unit_elsewhere : {p : ℕ} (k i : ℕ) → k ≢ i → unit {p = p} k i ≡ residue p 0
unit_elsewhere {p} k i n = single_elsewhere p k 1 i n

-- row j of the unit vectors at the places
row-unit : {p : ℕ} (ks : List ℕ) (j : ℕ) → j < length ks → row (map (unit {p = p}) ks) j ≡ unit (get_or ks j 0)
row-unit ks j l = row-map unit ks j 0 l

-- the combination of the places has its coefficients there, and 0 elsewhere
pub at_places_at : {p : ℕ} (ks : List ℕ) (c : Vector p) → IsStrictlyIncreasing ks → (j : ℕ) → j < length ks → at_places ks c (get_or ks j 0) ≡ c j
at_places_at {p} ks c s j l = combination_at c (map unit ks) (get_or ks j 0) j (subst (λ n. j < n) (sym (length-map ks unit)) l)
    (ap (λ v. v (get_or ks j 0)) (row-unit ks j l) ∙ unit_at (get_or ks j 0))
    (λ i u n. let w : i < length ks = subst (λ m. i < m) (length-map ks unit) u in ap (λ v. v (get_or ks j 0)) (row-unit ks i w)
    ∙ unit_elsewhere (get_or ks i 0) (get_or ks j 0) (rising_apart ks s i j w l n))

-- one more place
pub at_places-more : {p : ℕ} (ks : List ℕ) (c : Vector p) (j : ℕ) → j < length ks
    → at_places (take (j + 1) ks) c ≡ at_places (take j ks) c ⊞ (c j ⊡ unit (get_or ks j 0))
at_places-more {p} ks c j l =
    let sized : length (map (unit {p = p}) (take j ks)) ≡ j = length-map (take j ks) unit ∙ length-take-le j ks (omega arith) in
    ap (λ xs. combination c (map unit xs)) (take_more ks j 0 l)
    ∙ ap (combination c) (map-append unit (take j ks) (get_or ks j 0 ∷ []))
    ∙ combination_last c (map unit (take j ks)) (unit (get_or ks j 0))
    ∙ ap (λ n. combination c (map unit (take j ks)) ⊞ (c n ⊡ unit (get_or ks j 0))) sized

-- and is 0 at the other places
pub at_places_elsewhere : {p : ℕ} (ks : List ℕ) (c : Vector p) (k : ℕ) → ((j : ℕ) → j < length ks → get_or ks j 0 ≢ k)
    → at_places ks c k ≡ residue p 0
at_places_elsewhere {p} ks c k away = combination_vanishes c (map unit ks) k
    (λ j u. let w : j < length ks = subst (λ m. j < m) (length-map ks unit) u in inr
    (ap (λ v. v k) (row-unit ks j w) ∙ unit_elsewhere (get_or ks j 0) k (away j w)))

-- a vector that is 0 away from the places is the combination by its entries there
pub at_places_all : {p : ℕ} (ks : List ℕ) (y : Vector p) → IsStrictlyIncreasing ks
    → ((k : ℕ) → ((j : ℕ) → j < length ks → get_or ks j 0 ≢ k) → y k ≡ residue p 0) → at_places ks (λ j. y (get_or ks j 0)) ≡ y
at_places_all {p} ks y s away = λ i k. at k (lead_or_not (λ j. get_or ks j 0) (length ks) k) i
  where
    at : (k : ℕ) → ((j : ℕ) × (j < length ks) × (get_or ks j 0 ≡ k)) ⊎ ((j : ℕ) → j < length ks → get_or ks j 0 ≢ k)
        → at_places ks (λ j. y (get_or ks j 0)) k ≡ y k
    at k (inl (j, l, e)) = subst (λ m. at_places ks (λ j. y (get_or ks j 0)) m ≡ y m) e (at_places_at ks (λ j. y (get_or ks j 0)) s j l)
    at k (inr others) = at_places_elsewhere ks (λ j. y (get_or ks j 0)) k others ∙ sym (away k others)

-- the entries of a reduced vector at the free places, and 0 past them
pub entries_at : {p : ℕ} → List ℕ → Vector p → Vector p
entries_at ks y = trim (map unit ks) (λ j. y (get_or ks j 0))

-- their combination is that of the entries
pub at_places-entries_at : {p : ℕ} (ks : List ℕ) (y : Vector p) → at_places ks (entries_at ks y) ≡ at_places ks (λ j. y (get_or ks j 0))
unfolding entries_at
at_places-entries_at ks y = combination-trim (λ j. y (get_or ks j 0)) (map unit ks)

-- they are as many as the places
pub EndsBefore-entries_at : {p : ℕ} (ks : List ℕ) (y : Vector p) → EndsBefore (length ks) (entries_at ks y)
unfolding entries_at
EndsBefore-entries_at ks y = subst (λ n. EndsBefore n (entries_at ks y)) (length-map ks unit) (EndsBefore-trim (λ j. y (get_or ks j 0)) (map unit ks))

module _ {p : ℕ} (positive : 0 < p) (d : ℕ) (rows : List (Vector p)) (ends : Each (EndsBefore d) rows) where
  -- a reduced vector of length d is 0 away from the free places
  reduced_elsewhere : (x y : Vector p) → EndsBefore d y → IsReduction rows x y → (k : ℕ)
      → ((j : ℕ) → j < length (free_places d rows) → get_or (free_places d rows) j 0 ≢ k) → y k ≡ residue p 0
  reduced_elsewhere x y short h k others = by_place (cases_lt k d)
    where
      by_place : (k < d) ⊎ (d ≤ k) → y k ≡ residue p 0
      by_place (inl l) = elim (bound_or_free positive d rows ends k) [
        | inl b ↦ h.free k b
        | inr free ↦ absurd
            (let (j, u, e) = free_place_of positive d rows ends k l free in others j u e)
      ]
      by_place (inr l) = short k l

  -- the entries of the reduced vector at the free places are the coordinates
  pub coordinates_of_reduction : (x y : Vector p) → EndsBefore d y → IsReduction rows x y → IsCoordinates d rows x (entries_at (free_places d rows) y)
  coordinates_of_reduction x y short h = record {
    ends = EndsBefore-entries_at (free_places d rows) y;
    congruent = subst (Congruent rows x) (sym (at_places-entries_at (free_places d rows) y
        ∙ at_places_all (free_places d rows) y (free_places_rising d rows) (reduced_elsewhere x y short h))) h.congruent;
  }

  -- and the combination of the free places by the coordinates is the reduced vector
  pub reduction_of_coordinates : (x c : Vector p) → IsCoordinates d rows x c → IsReduction rows x (at_places (free_places d rows) c)
  reduction_of_coordinates x c h = record {
    congruent = h.congruent;
    free = λ k b. at_places_elsewhere (free_places d rows) c k (λ j l e. (free_place positive d rows j l).1 (subst (IsBound rows) (sym e) b));
  }

  -- the coordinates are unique
  pub coordinates_once : (x c c' : Vector p) → IsCoordinates d rows x c → IsCoordinates d rows x c' → c ≡ c'
  coordinates_once x c c' h h' = λ i j. at j (cases_lt j (length (free_places d rows))) i
    where
      same : at_places (free_places d rows) c ≡ at_places (free_places d rows) c'
      same = reduction_once positive d rows ends x (at_places (free_places d rows) c) (at_places (free_places d rows) c')
          (reduction_of_coordinates x c h) (reduction_of_coordinates x c' h')

      at : (j : ℕ) → (j < length (free_places d rows)) ⊎ (length (free_places d rows) ≤ j) → c j ≡ c' j
      at j (inl l) = sym (at_places_at (free_places d rows) c (free_places_rising d rows) j l) ∙ ap (λ v. v (get_or (free_places d rows) j 0)) same
          ∙ at_places_at (free_places d rows) c' (free_places_rising d rows) j l
      at j (inr l) = h.ends j l ∙ sym (h'.ends j l)

  -- coefficients that agree with the reduced vector at the free places are the coordinates
  pub coordinates_from_entries : (x y c : Vector p) → EndsBefore d y → IsReduction rows x y → EndsBefore (length (free_places d rows)) c
      → ((j : ℕ) → j < length (free_places d rows) → c j ≡ y (get_or (free_places d rows) j 0)) → IsCoordinates d rows x c
  coordinates_from_entries x y c short h ends' each = record {
    ends = ends';
    congruent = subst (Congruent rows x) (sym (combination_same c (λ j. y (get_or (free_places d rows) j 0)) (map unit (free_places d rows))
        (λ j l. each j (subst (λ n. j < n) (length-map (free_places d rows) unit) l))
        ∙ at_places_all (free_places d rows) y (free_places_rising d rows) (reduced_elsewhere x y short h))) h.congruent;
  }

  -- coordinates of a sum
  pub coordinates-plus : (x x' c c' : Vector p) → IsCoordinates d rows x c → IsCoordinates d rows x' c' → IsCoordinates d rows (x ⊞ x') (c ⊞ c')
  coordinates-plus x x' c c' h h' = record {
    ends = EndsBefore-plus (length (free_places d rows)) c c' h.ends h'.ends;
    congruent = subst (Congruent rows (x ⊞ x')) (sym (combination-plus c c' (map unit (free_places d rows))))
        (Congruent-plus positive rows x (at_places (free_places d rows) c) x' (at_places (free_places d rows) c') h.congruent h'.congruent);
  }

  -- coordinates of a multiple
  pub coordinates-scale : (a : Residue p) (x c : Vector p) → IsCoordinates d rows x c → IsCoordinates d rows (a ⊡ x) (a ⊡ c)
  coordinates-scale a x c h = record {
    ends = EndsBefore-scale (length (free_places d rows)) a c h.ends;
    congruent = subst (Congruent rows (a ⊡ x)) (sym (combination-scale a c (map unit (free_places d rows))))
        (Congruent-scale positive rows a x (at_places (free_places d rows) c) h.congruent);
  }

  -- coordinates of 0
  pub coordinates-zeros : IsCoordinates d rows zeros zeros
  coordinates-zeros = record {
    ends = EndsBefore-zeros (length (free_places d rows));
    congruent = subst (Congruent rows zeros) (sym (combination-zeros (map unit (free_places d rows)))) (Congruent_refl positive rows zeros);
  }

  -- congruent vectors have the same coordinates
  pub coordinates-Congruent : (x y c : Vector p) → Congruent rows x y → IsCoordinates d rows y c → IsCoordinates d rows x c
  coordinates-Congruent x y c same h = record {
    ends = h.ends;
    congruent =
        Congruent_trans positive rows x y (at_places (free_places d rows) c) same h.congruent;
  }

  -- and vectors with the same coordinates are congruent
  pub Congruent-coordinates : (x y c : Vector p) → IsCoordinates d rows x c → IsCoordinates d rows y c → Congruent rows x y
  Congruent-coordinates x y c h k = Congruent_trans positive rows x (at_places (free_places d rows) c) y h.congruent
      (Congruent_sym positive rows y (at_places (free_places d rows) c) k.congruent)
