-- As many rows as independent rows that they span are independent.
use Rattle.std.proofs.Common.{◌≡◌, ◌⊎◌, ◌<◌, ◌≤◌, ℕ, zero, suc, List, [], ◌∷◌, ◌++◌, length, refl, sym, ◌∙◌, ap, subst, inl, inr, arith}
use Rattle.linear_algebra.specs.Residue.{Residue, residue, ◌⊗◌}
use Rattle.linear_algebra.specs.Prime.{IsPrime}
use Rattle.linear_algebra.specs.Vector.{Vector, ◌⊞◌, ◌⊡◌, zeros, tail, combination}
use Rattle.linear_algebra.specs.Span.{Each, InSpan, Independent}
use Rattle.linear_algebra.proofs.ResidueLaws
use Rattle.linear_algebra.proofs.Vectors.{plus_comm, plus_assoc}
use Rattle.linear_algebra.proofs.Spans.{cons, Each-weaker, InSpan-plus, InSpan-scale}
use Rattle.linear_algebra.proofs.Exchange.{length-one_more}
use Rattle.linear_algebra.proofs.Dimension.{row_from_others, independent_le}

-- the coefficients without the one of the row after `before`
without : {p : ℕ} → List (Vector p) → Vector p → Vector p
without [] c = tail c
without (b ∷ before) c = cons (c 0) (without before (tail c))

-- a combination is that of the other rows and the multiple of this row
combination-without : {p : ℕ} (before after : List (Vector p)) (r c : Vector p)
    → combination c (before ++ r ∷ after) ≡ combination (without before c) (before ++ after) ⊞ (c (length before) ⊡ r)
unfolding without
combination-without [] after r c = plus_comm (c 0 ⊡ r) (combination (tail c) after)
combination-without (b ∷ before) after r c = rw (combination-without before after r (tail c))
    (sym (plus_assoc (c 0 ⊡ b) (combination (without before (tail c)) (before ++ after)) (c (suc (length before)) ⊡ r)))

-- row j with the rows round it
data Split {A : Type 0} (j : ℕ) : List A → Type 0 where
  at : (before after : List A) (r : A) → length before ≡ j → Split j (before ++ r ∷ after)

-- a row with the rows round it
split : {A : Type 0} (j : ℕ) (rows : List A) → j < length rows → Split j rows
split j [] l = absurd (omega arith)
split zero (r ∷ rows) l = at [] rows r refl
split {A = A} (suc j) (r ∷ rows) l = one_more (split j rows (omega arith))
  where
    one_more : {s : List A} → Split j s → Split (suc j) (r ∷ s)
    one_more (at before after q e) = at (r ∷ before) after q (ap suc e)

-- a row in the span of the others can be left out
InSpan-without : {p : ℕ} (before after : List (Vector p)) (r v : Vector p) → InSpan (before ++ after) r → InSpan (before ++ r ∷ after) v
    → InSpan (before ++ after) v
InSpan-without {p} before after r v held h = subst (InSpan (before ++ after))
    (sym (h.is_combination ∙ combination-without before after r h.coefficients))
    (InSpan-plus (before ++ after) (combination (without before h.coefficients) (before ++ after)) (h.coefficients (length before) ⊡ r)
    (record { coefficients = without before h.coefficients; is_combination = refl })
    (InSpan-scale (h.coefficients (length before)) (before ++ after) r held))

-- rows that span as many independent rows have no nontrivial combination that is 0
pub independent_from_spanning : {p : ℕ} → IsPrime p → (rows basis : List (Vector p)) → Independent basis → Each (InSpan rows) basis
    → length rows ≡ length basis → Independent rows
independent_from_spanning {p} prime rows basis i each same = record { only_zero = λ c z j l. by_split c z j l (split j rows l) each same }
  where
    by_split : {rows : List (Vector p)} (c : Vector p) → combination c rows ≡ zeros → (j : ℕ) → j < length rows → Split j rows
        → Each (InSpan rows) basis → length rows ≡ length basis → c j ≡ residue p 0
    by_split c z j l (at before after r place) each same = by_value (ResidueLaws.zero_or_inverse prime (c (length before)))
      where
        by_value : (c (length before) ≡ residue p 0) ⊎ ((b : Residue p) × (c (length before) ⊗ b ≡ residue p 1)) → c j ≡ residue p 0
        by_value (inl zero_at) = ap c (sym place) ∙ zero_at
        by_value (inr (b, e)) =
            let held : InSpan (before ++ after) r = row_from_others prime r (before ++ after) (cons (c (length before)) (without before c)) b e
            (plus_comm (c (length before) ⊡ r) (combination (without before c) (before ++ after)) ∙ sym (combination-without before after r c) ∙ z) in
            let few : length basis ≤ length (before ++ after) = independent_le prime (before ++ after) basis i
            (Each-weaker basis (λ v. InSpan-without before after r v held) each) in
            absurd (omega (arith, length-one_more before after r))
