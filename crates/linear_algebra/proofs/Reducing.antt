-- Reduction by rows that are reduced from the top: taking away the combination by the entries at the leads clears these.
use Rattle.std.proofs.Common.{◌≡◌, ◌≢◌, ◌⊎◌, ◌+◌, ◌<◌, ◌≤◌, ℕ, suc, List, [], length, take, sym, ◌∙◌, ap, subst, inl, inr, arith}
use Rattle.std.proofs.Math.Decide.{ℕ_discrete}
use Rattle.std.proofs.lemmas.Bool.{cases_lt}
use Rattle.std.proofs.lemmas.List.{length-take-le}
use Rattle.linear_algebra.specs.Residue.{residue, ◌⊕◌, ◌⊗◌, opposite, ◌⊖◌}
use Rattle.linear_algebra.specs.Vector.{Vector, ◌⊞◌, ◌⊡◌, combination, minus}
use Rattle.linear_algebra.specs.Span.{Each, row, InSpan, Congruent}
use Rattle.linear_algebra.specs.Echelon.{IsReducedFromTop, remainder}
use Rattle.linear_algebra.proofs.ResidueLaws
use Rattle.linear_algebra.proofs.Vectors.{plus_assoc, plus-zeros, plus-scale, zero-scale}
use Rattle.linear_algebra.proofs.Differences.{sub_self, sub-zero, opposite-zero, minus-zeros, minus_twice, minus-plus_scaled}
use Rattle.linear_algebra.proofs.Rows.{combination_at, combination_vanishes, combination-take, row-take}
use Rattle.linear_algebra.proofs.Spans.{Each-rows, InSpan-plus, InSpan-scale, InSpan-row}

-- the remainder is 0 at each lead
pub remainder_at_lead : {p : ℕ} → 0 < p → (rows : List (Vector p)) (lead : ℕ → ℕ) → IsReducedFromTop rows lead → (v : Vector p) (j : ℕ)
    → j < length rows → remainder rows lead v (lead j) ≡ residue p 0
remainder_at_lead positive rows lead e v j l =
    ap (λ a. v (lead j) ⊖ a) (combination_at (λ i. v (lead i)) rows (lead j) j l (e.one_at j l) (λ i u n. e.alone i j u l n))
    ∙ sub_self positive (v (lead j))

-- the remainder is congruent to the vector
pub Congruent_remainder : {p : ℕ} → 0 < p → (rows : List (Vector p)) (lead : ℕ → ℕ) (v : Vector p) → Congruent rows v (remainder rows lead v)
Congruent_remainder positive rows lead v = record {
  coefficients = λ j. v (lead j);
  is_combination =
      minus_twice positive v (combination (λ j. v (lead j)) rows);
}

-- the remainder by no row
pub remainder_none : {p : ℕ} → 0 < p → (lead : ℕ → ℕ) (v : Vector p) → remainder [] lead v ≡ v
remainder_none positive lead v = minus-zeros positive v

-- the remainder by one row more
pub remainder-take : {p : ℕ} → 0 < p → (rows : List (Vector p)) (lead : ℕ → ℕ) (v : Vector p) (j : ℕ) → j < length rows
    → remainder (take (j + 1) rows) lead v ≡ remainder (take j rows) lead v ⊞ (opposite (v (lead j)) ⊡ row rows j)
remainder-take positive rows lead v j l =
    ap (minus v) (combination-take (λ i. v (lead i)) rows j l) ∙ minus-plus_scaled positive v (combination (λ i. v (lead i)) (take j rows))
    (row rows j) (v (lead j))

-- the rows before row j leave the entry at its lead
pub remainder_before : {p : ℕ} → 0 < p → (rows : List (Vector p)) (lead : ℕ → ℕ) → IsReducedFromTop rows lead → (v : Vector p) (j : ℕ)
    → j < length rows → remainder (take j rows) lead v (lead j) ≡ v (lead j)
remainder_before {p} positive rows lead e v j l = ap (λ a. v (lead j) ⊖ a) (combination_vanishes (λ i. v (lead i)) (take j rows) (lead j) away)
    ∙ sub-zero positive (v (lead j))
  where
    away : (i : ℕ) → i < length (take j rows) → (v (lead i) ≡ residue p 0) ⊎ (row (take j rows) i (lead j) ≡ residue p 0)
    away i u =
        let m : i < j = omega (arith, length-take-le j rows (omega arith)) in
        inr (ap (λ r. r (lead j)) (row-take j rows i m) ∙ e.alone i j (omega arith) l (omega arith))

module _ {p : ℕ} (positive : 0 < p) (rows new : List (Vector p)) (lead lead' : ℕ → ℕ) (e : IsReducedFromTop rows lead)
    (s : Vector p) (k : ℕ) (one : s k ≡ residue p 1) (beyond : (i : ℕ) → k < i → s i ≡ residue p 0)
    (clear : (j : ℕ) → j < length rows → s (lead j) ≡ residue p 0)
    (sized : length new ≡ suc (length rows)) (old : (j : ℕ) → j < length rows → row new j ≡ row rows j ⊞ (opposite (row rows j k) ⊡ s))
    (last : row new (length rows) ≡ s) where
  -- one row more, where it is 1 at its greatest place k, 0 at the leads, and is taken from the others until they are 0 at k
  pub reduced_more : ((j : ℕ) → j < length rows → lead' j ≡ lead j) → lead' (length rows) ≡ k → IsReducedFromTop new lead'
  reduced_more kept added = record {
    one_at = λ j l. one_at j (side j l);
    beyond = λ j l. past j (side j l);
    alone =
        λ i j l u n. alone i j (side i l) (side j u) n;
  }
    where
      side : (j : ℕ) → j < length new → (j < length rows) ⊎ (j ≡ length rows)
      side j l = elim (ℕ_discrete j (length rows)) [ yes same ↦ inr same | no other ↦ inl (omega arith) ]

      entry : (j i : ℕ) → j < length rows → s i ≡ residue p 0 → row new j i ≡ row rows j i
      entry j i l z = ap (λ r. r i) (old j l) ∙ ap (λ a. row rows j i ⊕ (opposite (row rows j k) ⊗ a)) z
          ∙ ap (λ a. row rows j i ⊕ a) (ResidueLaws.mul_comm (opposite (row rows j k)) (residue p 0) ∙ ResidueLaws.zero-mul (opposite (row rows j k)))
          ∙ ResidueLaws.add-zero (row rows j i)

      at_new : (i : ℕ) → row new (length rows) i ≡ s i
      at_new i = ap (λ r. r i) last

      one_at : (j : ℕ) → (j < length rows) ⊎ (j ≡ length rows) → row new j (lead' j) ≡ residue p 1
      one_at j (inl l) = ap (row new j) (kept j l) ∙ entry j (lead j) l (clear j l) ∙ e.one_at j l
      one_at j (inr same) = subst (λ i. row new i (lead' i) ≡ residue p 1) (sym same) (ap (row new (length rows)) added ∙ at_new k ∙ one)

      low : (j i : ℕ) → j < length rows → lead j < i → (k < i) ⊎ (i ≤ k) → row new j i ≡ residue p 0
      low j i l u (inl v) = entry j i l (beyond i v) ∙ e.beyond j l i u
      low j i l u (inr v) = ap (λ r. r i) (old j l) ∙ rw (
        e.beyond j l i u,
        e.beyond j l k (omega arith),
        opposite-zero positive,
        ResidueLaws.zero-mul
            (s i),
      ) (ResidueLaws.add-zero (residue p 0))

      past : (j : ℕ) → (j < length rows) ⊎ (j ≡ length rows) → (i : ℕ) → lead' j < i → row new j i ≡ residue p 0
      past j (inl l) i u = low j i l (omega (arith, kept j l)) (cases_lt k i)
      past j (inr same) i u = ap (λ m. row new m i) same ∙ at_new i ∙ beyond i
          (let h : lead' (length rows) < i = subst (λ m. lead' m < i) same u in omega (arith, added))

      at_place : (i : ℕ) → i < length rows → row new i k ≡ residue p 0
      at_place i l = ap (λ r. r k) (old i l) ∙ ap (λ a. row rows i k ⊕ (opposite (row rows i k) ⊗ a)) one
          ∙ ap (λ a. row rows i k ⊕ a) (ResidueLaws.mul_comm (opposite (row rows i k)) (residue p 1) ∙ ResidueLaws.one-mul (opposite (row rows i k)))
          ∙ ResidueLaws.add-opposite positive (row rows i k)

      alone : (i j : ℕ) → (i < length rows) ⊎ (i ≡ length rows) → (j < length rows) ⊎ (j ≡ length rows) → i ≢ j → row new i (lead' j) ≡ residue p 0
      alone i j (inl l) (inl u) n = ap (row new i) (kept j u) ∙ entry i (lead j) l (clear j u) ∙ e.alone i j l u n
      alone i j (inl l) (inr same) n = ap (row new i) (ap lead' same ∙ added) ∙ at_place i l
      alone i j (inr same) (inl u) n = ap (row new i) (kept j u) ∙ ap (λ m. row new m (lead j)) same ∙ at_new (lead j) ∙ clear j u
      alone i j (inr same) (inr same') n = absurd (n (same ∙ sym same'))

  -- the new rows span the new row and the old ones
  pub InSpan_new : InSpan new s
  InSpan_new = subst (InSpan new) last (InSpan-row new (length rows) (omega arith))

  -- and each old row
  pub Each-InSpan_new : Each (InSpan new) rows
  Each-InSpan_new = Each-rows (InSpan new) rows (λ j l. subst (InSpan new) (back j l)
      (InSpan-plus new (row new j) (row rows j k ⊡ s) (InSpan-row new j (omega arith)) (InSpan-scale (row rows j k) new s InSpan_new)))
    where
      back : (j : ℕ) → j < length rows → row new j ⊞ (row rows j k ⊡ s) ≡ row rows j
      back j l = ap (λ r. r ⊞ (row rows j k ⊡ s)) (old j l) ∙ plus_assoc (row rows j) (opposite (row rows j k) ⊡ s) (row rows j k ⊡ s)
          ∙ ap (λ v. row rows j ⊞ v) (sym (plus-scale (opposite (row rows j k)) (row rows j k) s)
          ∙ ap (λ a. a ⊡ s) (ResidueLaws.add_comm (opposite (row rows j k)) (row rows j k) ∙ ResidueLaws.add-opposite positive (row rows j k))
          ∙ zero-scale s)
          ∙ plus-zeros (row rows j)

  -- and lie in each span that holds these
  pub Each-InSpan_old : (span : List (Vector p)) → ((j : ℕ) → j < length rows → InSpan span (row rows j)) → InSpan span s → Each (InSpan span) new
  Each-InSpan_old span each h = Each-rows (InSpan span) new (λ j l. elim (ℕ_discrete j (length rows)) [
    | yes same ↦ subst (λ m. InSpan span (row new m)) (sym same) (subst (InSpan span) (sym last) h)
    | no other ↦ let u : j < length rows = omega (arith, sized) in subst (InSpan span) (sym (old j u))
        (InSpan-plus span (row rows j) (opposite (row rows j k) ⊡ s) (each j u) (InSpan-scale (opposite (row rows j k)) span s h))
  ])
