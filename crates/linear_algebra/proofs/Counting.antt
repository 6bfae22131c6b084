-- The free places and the rows of a basis are together as many as the width.
use Rattle.std.proofs.Common.{◌≡◌, ◌≢◌, ◌⊎◌, ◌+◌, ◌-◌, ◌<◌, ◌≤◌, ℕ, zero, suc, List, [], ◌∷◌, ◌++◌, length, get_or, map, refl, sym, ◌∙◌, ap, subst, inl, inr, arith, length-append}
use Rattle.std.proofs.Math.ListN.{length-map}
use Rattle.std.proofs.lemmas.Bool.{cases_lt}
use Rattle.std.proofs.lemmas.List.FromFn.{length-range_with_len}
use Rattle.std.specs.List.{range_with_len}
use Rattle.linear_algebra.specs.Residue.{residue}
use Rattle.linear_algebra.specs.Prime.{IsPrime}
use Rattle.linear_algebra.specs.Vector.{Vector, ◌⊞◌, ◌⊡◌, zeros, tail, combination, minus, EndsBefore}
use Rattle.linear_algebra.specs.Span.{Each, row, InSpan, Independent, IsBasis}
use Rattle.linear_algebra.specs.Coordinates.{unit, at_places, free_places}
use Rattle.linear_algebra.proofs.Vectors.{plus_assoc, plus_comm, zeros-plus, plus-zeros, combination-zeros}
use Rattle.linear_algebra.proofs.Differences.{minus_and_plus, plus_and_minus}
use Rattle.linear_algebra.proofs.Rows.{row-map}
use Rattle.linear_algebra.proofs.Spans.{Each-rows, Each-append, Each-weaker, InSpan-row, InSpan-plus, InSpan-append_left, InSpan-append_right}
use Rattle.linear_algebra.proofs.Support.{EndsBefore-InSpan}
use Rattle.linear_algebra.proofs.Dimension.{independent_le, trim, trim_at, combination-trim, EndsBefore-trim}
use Rattle.linear_algebra.proofs.BoundPlaces.{free_place, in_range, range_rising}
use Rattle.linear_algebra.proofs.Coordinates.{at_places_at, at_places_all, unit_elsewhere, coordinates_once, coordinates-zeros}
use Rattle.linear_algebra.proofs.Existence.{coordinates_exist}

-- the coefficients from number n on
shift : {p : ℕ} → ℕ → Vector p → Vector p
shift zero c = c
shift (suc n) c = shift n (tail c)

-- entry j of them
shift_at : {p : ℕ} (n : ℕ) (c : Vector p) (j : ℕ) → shift n c j ≡ c (n + j)
unfolding shift
shift_at zero c j = ap c (let e : j ≡ 0 + j = omega arith in e)
shift_at (suc n) c j = shift_at n (tail c) j ∙ ap c (let e : suc (n + j) ≡ suc n + j = omega arith in e)

-- a combination of joined rows
combination-append : {p : ℕ} (c : Vector p) (xs ys : List (Vector p)) → combination c (xs ++ ys) ≡ combination c xs
    ⊞ combination (shift (length xs) c) ys
unfolding shift
combination-append c [] ys = sym (zeros-plus (combination c ys))
combination-append c (x ∷ xs) ys = ap (λ v. (c 0 ⊡ x) ⊞ v) (combination-append (tail c) xs ys)
    ∙ sym (plus_assoc (c 0 ⊡ x) (combination (tail c) xs) (combination (shift (length xs) (tail c)) ys))

-- the unit vector at a place below d has length d
EndsBefore-unit : {p : ℕ} (d k : ℕ) → k < d → EndsBefore d (unit {p = p} k)
EndsBefore-unit d k l i u = unit_elsewhere k i (λ e. let w : k ≡ i = e in omega arith)

-- the first d unit vectors are independent
units_independent : {p : ℕ} (d : ℕ) → Independent (map (unit {p = p}) (range_with_len 0 d))
units_independent d = record {
  only_zero = λ c z j l. sym (at_places_at (range_with_len 0 d) c (range_rising d) j
      (subst (λ n. j < n) (length-map (range_with_len 0 d) unit) l)) ∙ ap (λ v. v (get_or (range_with_len 0 d) j 0)) z;
}

-- and span the vectors of length d
units_span : {p : ℕ} (d : ℕ) (v : Vector p) → EndsBefore d v → InSpan (map unit (range_with_len 0 d)) v
units_span {p} d v ends = record {
  coefficients = λ j. v (get_or (range_with_len 0 d) j 0);
  is_combination =
      sym (at_places_all (range_with_len 0 d) v (range_rising d) (λ k away. at k away (cases_lt k d)));
}
  where
    at : (k : ℕ) → ((j : ℕ) → j < length (range_with_len 0 d) → get_or (range_with_len 0 d) j 0 ≢ k) → (k < d) ⊎ (d ≤ k) → v k ≡ residue p 0
    at k away (inl l) = absurd (away k (omega (arith, length-range_with_len 0 d)) (in_range d k l))
    at k away (inr l) = ends k l

module _ {p : ℕ} (prime : IsPrime p) (d : ℕ) (rows basis : List (Vector p)) (ends : Each (EndsBefore d) rows) (b : IsBasis rows basis) where
  positive : 0 < p
  positive = omega (arith, prime.above_one)

  -- the unit vectors at the free places
  frees : List (Vector p)
  frees = map unit (free_places d rows)

  length-frees : length frees ≡ length (free_places d rows)
  unfolding frees
  length-frees = length-map (free_places d rows) unit

  -- each vector of length d is a combination of these and of the basis
  joined_span : (v : Vector p) → EndsBefore d v → InSpan (frees ++ basis) v
  unfolding frees
  joined_span v short =
      let (c, h) = coordinates_exist prime d rows ends v short in
      let g = at_places (free_places d rows) c in
      subst (InSpan (frees ++ basis)) (minus_and_plus positive v g) (InSpan-plus (frees ++ basis) (minus v g) g
      (InSpan-append_right frees basis (minus v g) (b.same.forth (minus v g) h.congruent))
      (InSpan-append_left frees basis g (record { coefficients = c; is_combination = refl })))

  -- they are independent
  joined_independent : Independent (frees ++ basis)
  unfolding frees
  joined_independent = record { only_zero = λ c z j l. by_side c z j l (cases_lt j (length frees)) }
    where
      rest : Vector p → Vector p
      rest c = combination (shift (length frees) c) basis

      sum : (c : Vector p) → combination c (frees ++ basis) ≡ zeros → rest c ⊞ combination c frees ≡ zeros
      sum c z = plus_comm (rest c) (combination c frees) ∙ sym (combination-append c frees basis) ∙ z

      trimmed : (c : Vector p) → combination c (frees ++ basis) ≡ zeros → trim frees c ≡ zeros
      trimmed c z = coordinates_once positive d rows ends zeros (trim frees c) zeros (record {
        ends = subst (λ n. EndsBefore n (trim frees c)) length-frees (EndsBefore-trim c frees);
        congruent = subst (InSpan rows) (sym (plus_and_minus positive (rest c) (combination c frees))
            ∙ ap (λ v. minus v (combination c frees)) (sum c z) ∙ ap (minus zeros) (sym (combination-trim c frees)))
            (b.same.back (rest c) (record { coefficients = shift (length frees) c; is_combination = refl }));
      }) (coordinates-zeros positive d rows ends)

      rest_zeros : (c : Vector p) → combination c (frees ++ basis) ≡ zeros → rest c ≡ zeros
      rest_zeros c z = sym (plus-zeros (rest c)) ∙ ap (λ v. rest c ⊞ v)
          (sym (sym (combination-trim c frees) ∙ ap (λ e. combination e frees) (trimmed c z) ∙ combination-zeros frees)) ∙ sum c z

      by_side : (c : Vector p) → combination c (frees ++ basis) ≡ zeros → (j : ℕ) → j < length (frees ++ basis)
          → (j < length frees) ⊎ (length frees ≤ j) → c j ≡ residue p 0
      by_side c z j l (inl u) = sym (trim_at c frees j u) ∙ ap (λ v. v j) (trimmed c z)
      by_side c z j l (inr u) = ap c (let e : j ≡ length frees + (j - length frees) = omega arith in e)
          ∙ sym (shift_at (length frees) c (j - length frees))
          ∙ b.independent.only_zero (shift (length frees) c) (rest_zeros c z) (j - length frees) (omega (arith, length-append frees basis))

  -- and have length d
  joined_ends : Each (EndsBefore d) (frees ++ basis)
  unfolding frees
  joined_ends = Each-append frees basis
      (Each-rows (EndsBefore d) frees (λ j l. let u : j < length (free_places d rows) = subst (λ n. j < n) length-frees l in
      subst (EndsBefore d) (sym (row-map unit (free_places d rows) j 0 u))
      (EndsBefore-unit d (get_or (free_places d rows) j 0) (free_place positive d rows j u).0)))
      (Each-rows (EndsBefore d) basis (λ j l. EndsBefore-InSpan d rows (row basis j) ends (b.same.back (row basis j) (InSpan-row basis j l))))

  -- so they are as many as the places below d
  pub length-free_places : length (free_places d rows) + length basis ≡ d
  unfolding frees
  length-free_places =
      let units : List (Vector p) = map unit (range_with_len 0 d) in
      let sized : length (map (unit {p = p}) (range_with_len 0 d)) ≡ d = length-map (range_with_len 0 d) unit ∙ length-range_with_len 0 d in
      let few : length (frees ++ basis) ≤ length (map (unit {p = p}) (range_with_len 0 d)) =
      independent_le prime (map unit (range_with_len 0 d)) (frees ++ basis) joined_independent
      (Each-weaker (frees ++ basis) (units_span d) joined_ends) in
      let many : length (map (unit {p = p}) (range_with_len 0 d)) ≤ length (frees ++ basis) =
      independent_le prime (frees ++ basis) (map unit (range_with_len 0 d)) (units_independent d)
      (Each-rows (InSpan (frees ++ basis)) (map unit (range_with_len 0 d))
      (λ j l. let u : j < length (range_with_len 0 d) = subst (λ n. j < n) (length-map (range_with_len 0 d) unit) l in
      let w : j < d = omega (arith, length-range_with_len 0 d) in
      subst (InSpan (frees ++ basis)) (sym (row-map unit (range_with_len 0 d) j 0 u))
      (joined_span (unit (get_or (range_with_len 0 d) j 0)) (EndsBefore-unit d (get_or (range_with_len 0 d) j 0)
      (omega (arith, in_range d j w)))))) in
      omega (arith, length-append frees basis, length-frees, sized, few, many)
