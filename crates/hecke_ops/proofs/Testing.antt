-- The test of the kept relations, one after another.
use Rattle.std.proofs.Common.{◌≡◌, ◌+◌, ◌*◌, ◌<◌, ◌≤◌, ◌⊎◌, inl, inr, ℕ, zero, suc, List, length, get_or, take, replicate, sym, ◌∙◌, ap, subst, arith}
use Rattle.std.proofs.Math.Decide.{ℕ_discrete}
use Rattle.std.proofs.lemmas.Bool.{cases_lt}
use Rattle.std.proofs.lemmas.List.{get_or_default}
use Rattle.std.proofs.lemmas.List.Elements.{All-get_or}
use Rattle.linear_algebra.specs.Prime.{IsPrime}
use Rattle.linear_algebra.specs.Span.{row, InSpan}
use Rattle.linear_algebra.specs.Coordinates.{IsKept, IsKeptList}
use Rattle.linear_algebra.proofs.Existence.{kept_or_not}
use Rattle.p1_normal.specs.declared.matrix.Matrix.{Matrix}
use Rattle.p1_normal.specs.Points.{symbols}
use Rattle.manin_relations.specs.Relations.{relations}
use Rattle.manin_relations.proofs.RelationLaws.{length-relations, EndsBefore-relations}
use Rattle.quotient_coords.specs.Quotient.{AreCoordinates}
use Rattle.linear_algebra.proofs.Rising.{rising_at}
use Rattle.hecke_ops.specs.Operators.{IsFirstFailing, KeepsRelations, SendsToZero, relation_sum}
use Rattle.hecke_ops.proofs.FirstFailing.{Congruent-zero_coordinates, spanned_sends_to_zero}

module _ (N p : ℕ) (prime : IsPrime p) (L : List Matrix) (ks : List ℕ) (kept : IsKeptList (relations {p = p} N) (2 * length (symbols N)) ks) where
  positive : 0 < p
  positive = omega (arith, prime.above_one)

  -- where the kept relations below n are sent to 0, all relations below n are
  pub sent_before : (n : ℕ) → n ≤ 2 * length (symbols N) → ((q : ℕ) → q < length ks → get_or ks q 0 < n → SendsToZero N p L (get_or ks q 0))
      → (i : ℕ) → i < n → SendsToZero N p L i
  sent_before zero within sent i l = absurd (omega arith)
  sent_before (suc n) within sent i l = by_place (ℕ_discrete i n) (sent_before n (omega arith) (λ q u v. sent q u (omega arith)))
    where
      last : ((j : ℕ) → j < n → SendsToZero N p L j)
          → IsKept (relations {p = p} N) n ⊎ InSpan (take n (relations {p = p} N)) (row (relations {p = p} N) n) → SendsToZero N p L n
      last before (inl is_kept) =
          let (q, u, e) = kept.all n (omega arith) is_kept in
          let here : get_or ks q 0 ≡ n = get_or_default ks q 0 n u ∙ e in
          subst (SendsToZero N p L) here (sent q u (omega arith))
      last before (inr spanned) = spanned_sends_to_zero N p L n positive (omega arith) before spanned

      by_place : Dec (i ≡ n) → ((j : ℕ) → j < n → SendsToZero N p L j) → SendsToZero N p L i
      by_place (yes same) before = subst (SendsToZero N p L) (sym same)
          (last before (kept_or_not prime (length (symbols N)) (relations N) (EndsBefore-relations p N) n (omega (arith, length-relations p N))))
      by_place (no other) before = before i (omega arith)

  -- so where all kept relations are sent to 0, all relations are
  pub all_sent : ((q : ℕ) → q < length ks → SendsToZero N p L (get_or ks q 0)) → KeepsRelations N p L
  all_sent sent = record { each = sent_before (2 * length (symbols N)) (omega arith) (λ q u v. sent q u) }

  -- and the first kept relation that is not is the first relation that fails
  pub first_found : (q : ℕ) (values : List ℕ) → q < length ks → ((j : ℕ) → j < q → SendsToZero N p L (get_or ks j 0))
      → AreCoordinates {p = p} N (relation_sum N L (get_or ks q 0)) values → (values ≡ replicate (length values) 0 → ⊥)
      → IsFirstFailing N p L (get_or ks q 0) values
  first_found q values l sent at some =
      let within : get_or ks q 0 < 2 * length (symbols N) = All-get_or (λ i. i < 2 * length (symbols N)) ks q 0 l kept.below in
      record {
        within = within;
        coordinates = at;
        nonzero = λ none. some (none ∙ ap (λ n. replicate n 0) (sym at.count));
        before = sent_before (get_or ks q 0) (omega arith) (λ j u v. sent j (smaller j u v (cases_lt j q)));
      }
    where
      smaller : (j : ℕ) → j < length ks → get_or ks j 0 < get_or ks q 0 → (j < q) ⊎ (q ≤ j) → j < q
      smaller j u v (inl w) = w
      smaller j u v (inr w) = by_place (ℕ_discrete q j)
        where
          by_place : Dec (q ≡ j) → j < q
          by_place (yes same) = let e : get_or ks q 0 ≡ get_or ks j 0 = ap (λ n. get_or ks n 0) same in absurd (omega arith)
          by_place (no other) = let r : get_or ks q 0 < get_or ks j 0 = rising_at ks kept.rising q j (omega arith) u in absurd (omega arith)

  -- a kept relation whose sum has the coordinates 0 is sent to 0
  pub sent_from_zeros : (k : ℕ) (values : List ℕ) → AreCoordinates {p = p} N (relation_sum N L k) values → values ≡ replicate (length values) 0
      → SendsToZero N p L k
  sent_from_zeros k values at none = Congruent-zero_coordinates N p positive (relation_sum N L k)
      (subst (AreCoordinates {p = p} N (relation_sum N L k)) (none ∙ ap (λ n. replicate n 0) at.count) at)

-- one more kept relation that is sent to 0
pub sent_more : (N p : ℕ) (L : List Matrix) (ks : List ℕ) (n : ℕ) → ((q : ℕ) → q < n → SendsToZero N p L (get_or ks q 0))
    → SendsToZero N p L (get_or ks n 0) → (q : ℕ) → q < n + 1 → SendsToZero N p L (get_or ks q 0)
sent_more N p L ks n sent here q l = by_place (cases_lt q n)
  where
    by_place : (q < n) ⊎ (n ≤ q) → SendsToZero N p L (get_or ks q 0)
    by_place (inl u) = sent q u
    by_place (inr u) = let same : n ≡ q = omega arith in subst (λ k. SendsToZero N p L (get_or ks k 0)) same here
