-- The kept rows are independent and span what all rows span.
use Rattle.std.proofs.Common.{◌≡◌, ◌≢◌, ◌<◌, ℕ, List, length, get_or, map, refl, sym, ◌∙◌, ap, subst, arith}
use Rattle.std.proofs.Math.ListN.{length-map}
use Rattle.std.proofs.lemmas.List.{get_or-map, get_or_default}
use Rattle.linear_algebra.proofs.Spans.{Each-rows, InSpan-row}
use Rattle.linear_algebra.specs.Residue.{residue}
use Rattle.linear_algebra.specs.Prime.{IsPrime}
use Rattle.linear_algebra.specs.Vector.{Vector, zeros, combination, EndsBefore}
use Rattle.linear_algebra.specs.Span.{Each, row, InSpan, Independent}
use Rattle.linear_algebra.specs.Coordinates.{IsKept, IsKeptList, IsOverKept, unit, at_places, rows_at}
use Rattle.linear_algebra.proofs.Vectors.{combination-combinations}
use Rattle.linear_algebra.proofs.Differences.{minus-zeros}
use Rattle.linear_algebra.proofs.Rows.{row-map, same_rows}
use Rattle.linear_algebra.proofs.Congruence.{Congruent-zeros}
use Rattle.linear_algebra.proofs.Coordinates.{at_places_at, at_places_elsewhere, at_places_all}
use Rattle.linear_algebra.proofs.KeptRows.{over_kept_zeros}
use Rattle.linear_algebra.proofs.Elimination.{combination-unit}
use Rattle.linear_algebra.proofs.Existence.{trace_exists}

-- a combination of the rows with these numbers, as one of all rows
pub combination-rows_at : {p : ℕ} (rows : List (Vector p)) (ks : List ℕ) (c : Vector p) → ((j : ℕ) → j < length ks → get_or ks j 0 < length rows)
    → combination c (rows_at rows ks) ≡ combination (at_places ks c) rows
combination-rows_at rows ks c below = ap (combination c) (same_rows (rows_at rows ks) (map (λ d. combination d rows) (map unit ks)) sized each)
    ∙ combination-combinations c (map unit ks) rows
  where
    sized : length (rows_at rows ks) ≡ length (map (λ d. combination d rows) (map unit ks))
    sized = length-map ks (row rows) ∙ sym (length-map (map unit ks) (λ d. combination d rows) ∙ length-map ks unit)

    each : (j : ℕ) → j < length (rows_at rows ks) → row (rows_at rows ks) j ≡ row (map (λ d. combination d rows) (map unit ks)) j
    each j u =
        let l : j < length ks = subst (λ n. j < n) (length-map ks (row rows)) u in
        let l' : j < length (map unit ks) = subst (λ n. j < n) (sym (length-map ks unit)) l in
        row-map (row rows) ks j 0 l ∙ sym (combination-unit rows (get_or ks j 0) (below j l))
        ∙ sym (row-map (λ d. combination d rows) (map unit ks) j (unit 0) l' ∙ ap (λ d. combination d rows) (get_or-map unit ks j 0 (unit 0) l))

module _ {p : ℕ} (prime : IsPrime p) (rows : List (Vector p)) (ks : List ℕ) (h : IsKeptList rows (length rows) ks) where
  -- their numbers are those of rows
  kept_below : (j : ℕ) → j < length ks → get_or ks j 0 < length rows
  kept_below j l = (h.only j l).within

  -- a row that is none of these is not kept
  kept_among : (i : ℕ) → ((j : ℕ) → j < length ks → get_or ks j 0 ≢ i) → IsKept rows i → ⊥
  kept_among i away k = let (j, l, e) = h.all i k.within k in away j l (get_or_default ks j 0 i l ∙ e)

  -- the kept rows are independent
  pub kept_independent : Independent (rows_at rows ks)
  kept_independent = record { only_zero = λ c z j l. zero_at c z j (subst (λ n. j < n) (length-map ks (row rows)) l) }
    where
      over : (c : Vector p) → IsOverKept rows (at_places ks c)
      over c = record { elsewhere = λ i n. at_places_elsewhere ks c i (λ j l e. n (subst (IsKept rows) e (h.only j l))) }

      zero_at : (c : Vector p) → combination c (rows_at rows ks) ≡ zeros → (j : ℕ) → j < length ks → c j ≡ residue p 0
      zero_at c z j l = sym (at_places_at ks c h.rising j l) ∙ ap (λ v. v (get_or ks j 0))
          (over_kept_zeros prime rows (at_places ks c) (over c) (sym (combination-rows_at rows ks c kept_below) ∙ z))

  -- and span what the rows span
  pub InSpan-kept : (d : ℕ) → Each (EndsBefore d) rows → (v : Vector p) → InSpan rows v → InSpan (rows_at rows ks) v
  InSpan-kept d ends v held =
      let positive : 0 < p = omega (arith, prime.above_one) in
      let (c, t) = trace_exists prime d rows ends v zeros (record { congruent = Congruent-zeros positive rows v held; free = λ i b. refl }) in
      record {
        coefficients = λ j. c (get_or ks j 0);
        is_combination = sym (combination-rows_at rows ks (λ j. c (get_or ks j 0)) kept_below
            ∙ ap (λ e. combination e rows) (at_places_all ks c h.rising (λ i away. t.over_kept.elsewhere i (kept_among i away)))
            ∙ t.adds_up ∙ minus-zeros positive v);
      }

  -- the kept rows are in the span of all
  pub Each-InSpan_kept : Each (InSpan rows) (rows_at rows ks)
  Each-InSpan_kept = Each-rows (InSpan rows) (rows_at rows ks) (λ j u.
      let l : j < length ks = subst (λ n. j < n) (length-map ks (row rows)) u in
      subst (InSpan rows) (sym (row-map (row rows) ks j 0 l)) (InSpan-row rows (get_or ks j 0) (kept_below j l)))
