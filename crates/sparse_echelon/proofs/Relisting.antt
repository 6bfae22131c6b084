-- The rows at each place after one more row is kept.
use Rattle.std.proofs.Common.{◌≡◌, ◌≢◌, ◌⊎◌, ◌+◌, ◌<◌, ◌≤◌, ℕ, List, [], ◌∷◌, ◌++◌, length, get_or, set, All, inl, inr, sym, ◌∙◌, ap, subst, arith, get_or-set_other, length-append}
use Rattle.std.specs.List.{Contains}
use Rattle.std.proofs.Math.ListN.{get_or-append}
use Rattle.std.proofs.lemmas.Bool.{cases_lt}
use Rattle.std.proofs.lemmas.List.{get_or_push}
use Rattle.std.proofs.lemmas.List.Elements.{All-weaker, All-set, All-nil}
use Rattle.linear_algebra.specs.Residue.{residue, ◌⊕◌, ◌⊗◌, opposite}
use Rattle.linear_algebra.specs.Vector.{Vector, ◌⊞◌, ◌⊡◌}
use Rattle.linear_algebra.specs.Sparse.{sparse, IsCombo}
use Rattle.linear_algebra.proofs.ResidueLaws.{mul_comm, zero-mul, add-zero}
use Rattle.linear_algebra.proofs.SparseLaws.{before_last}
use Rattle.linear_algebra.proofs.Support.{zero_or_not}
use Rattle.field_table.specs.Places.{PlaceList}
use Rattle.sparse_echelon.specs.Leads.{lead}
use Rattle.sparse_echelon.specs.Occurrences.{AreBelow, AreOccurrences, IsAt}
use Rattle.sparse_echelon.proofs.ClearedRows.{cleared_at}

-- the place k is taken from all rows, by the row r that joins them with the greatest place k
pub occurrences_kept : (p k : ℕ) → 0 < p → (basis : List (List (ℕ × ℕ))) (l : PlaceList) (occurrences : List (List ℕ))
    → AreOccurrences p basis l occurrences → length l.places ≡ length basis
    → (r : List (ℕ × ℕ)) → IsCombo r → sparse p r k ≡ residue p 1 → residue p 1 ≢ residue p 0 → ((i : ℕ) → k < i → sparse p r i ≡ residue p 0)
    → (new : List (List (ℕ × ℕ))) (cleared after : List (List ℕ)) → length new ≡ length basis
    → ((j : ℕ) → j < length basis → sparse p (get_or new j []) ≡ sparse p (get_or basis j []) ⊞
    (opposite (sparse p (get_or basis j []) k) ⊡ sparse p r))
    → ((j : ℕ) → j < length basis → (sparse p (get_or new j []) ≡ sparse p (get_or basis j [])) ⊎ IsAt cleared r j)
    → ((q j : ℕ) → Contains (get_or (set occurrences k []) q []) j → Contains (get_or cleared q []) j)
    → (AreBelow (length basis) (set occurrences k []) → AreBelow (length basis) cleared)
    → IsAt after r (length basis) → ((q j : ℕ) → Contains (get_or cleared q []) j → Contains (get_or after q []) j)
    → (AreBelow (length basis + 1) cleared → AreBelow (length basis + 1) after) → length after ≡ length occurrences
    → AreOccurrences p (new ++ r ∷ []) (record { width = l.width; places = l.places ++ k ∷ [] }) after
occurrences_kept p k positive basis l occurrences h many r combo one apart beyond new cleared after sized rows listed grows below at grown bounded
    width = record {
      width = width ∙ h.width;
      below = subst (λ n. AreBelow n after) (sym longer) (bounded (wider
          (below (All-set (All (λ j. j < length basis)) occurrences k [] (All-nil (λ j. j < length basis)) h.below))));
      all = λ j q u some other. by_row j q (cases_lt j (length basis)) u some other;
    }
  where
    longer : length (new ++ r ∷ []) ≡ length basis + 1
    longer = length-append new (r ∷ []) ∙ ap (λ n. n + 1) sized

    wider : AreBelow (length basis) cleared → AreBelow (length basis + 1) cleared
    wider b = All-weaker (All (λ j. j < length basis)) (All (λ j. j < length basis + 1))
        (λ numbers a. All-weaker (λ j. j < length basis) (λ j. j < length basis + 1) (λ j u. omega arith) numbers a) cleared b

    some_at_k : sparse p r k ≢ residue p 0
    some_at_k z = apart (sym one ∙ z)

    old : (j q : ℕ) → j < length basis → q ≢ k → q ≢ lead l j → sparse p (get_or basis j []) q ≢ residue p 0 → Contains (get_or after q []) j
    old j q u not_k other some = grown q j (grows q j (subst (λ xs. Contains xs j) (sym (get_or-set_other occurrences k q [] [] not_k))
        (h.all j q u some other)))

    changed : (j q : ℕ) → j < length basis → q ≢ k → q ≢ lead l j → sparse p (get_or new j []) q ≢ residue p 0 → IsAt cleared r j
        → (sparse p (get_or basis j []) q ≡ residue p 0) ⊎ (sparse p (get_or basis j []) q ≢ residue p 0) → Contains (get_or after q []) j
    changed j q u not_k other some there (inr was) = old j q u not_k other was
    changed j q u not_k other some there (inl none) =
        let here : sparse p r q ≢ residue p 0 = λ z. some (ap (λ v. v q) (rows j u)
        ∙ ap (λ a. a ⊕ (opposite (sparse p (get_or basis j []) k) ⊗ sparse p r q)) none ∙ ap (λ a. residue p 0 ⊕ a)
        (ap (λ a. opposite (sparse p (get_or basis j []) k) ⊗ a) z ∙ mul_comm (opposite (sparse p (get_or basis j []) k)) (residue p 0)
        ∙ zero-mul (opposite (sparse p (get_or basis j []) k))) ∙ add-zero (residue p 0)) in
        let (i, w, e) = before_last p k r combo some_at_k beyond q not_k here in
        grown q j (subst (λ m. Contains (get_or cleared m []) j) e (there i w))

    by_row : (j q : ℕ) → (j < length basis) ⊎ (length basis ≤ j) → j < length (new ++ r ∷ []) → sparse p (get_or (new ++ r ∷ []) j []) q ≢ residue p 0
        → q ≢ get_or (l.places ++ k ∷ []) j 0 → Contains (get_or after q []) j
    by_row j q (inl u) w some other =
        let before : get_or (new ++ r ∷ []) j [] ≡ get_or new j [] = get_or-append new (r ∷ []) [] j (omega (arith, sized)) in
        let some_new : sparse p (get_or new j []) q ≢ residue p 0 = subst (λ ts. sparse p ts q ≢ residue p 0) before some in
        let other_old : q ≢ lead l j = λ e. other (e ∙ sym (get_or-append l.places (k ∷ []) 0 j (omega (arith, many)))) in
        let not_k : q ≢ k = λ e. some_new (ap (sparse p (get_or new j [])) e ∙ ap (λ v. v k) (rows j u)
        ∙ cleared_at positive k (sparse p (get_or basis j [])) (sparse p r) one) in
        elim (listed j u) [
          | inl same ↦ old j q u not_k other_old (subst (λ (v : Vector p). v q ≢ residue p 0) same some_new)
          | inr there ↦ changed j q u not_k other_old some_new there (zero_or_not (sparse p (get_or basis j []) q))
        ]
    by_row j q (inr past) w some other =
        let last : length basis ≡ j = omega (arith, longer) in
        let is_r : get_or (new ++ r ∷ []) j [] ≡ r = get_or_push new r [] j (sized ∙ last) in
        let not_k : q ≢ k = λ e. other (e ∙ sym (get_or_push l.places k 0 j (many ∙ last))) in
        let (i, v, e) = before_last p k r combo some_at_k beyond q not_k (subst (λ ts. sparse p ts q ≢ residue p 0) is_r some) in
        subst (λ m. Contains (get_or after q []) m) last (subst (λ m. Contains (get_or after m []) (length basis)) e (at i v))

-- a row that is not kept changes nothing; before the first row there are none
pub occurrences_none : (p width : ℕ) (occurrences : List (List ℕ)) → length occurrences ≡ width → AreBelow 0 occurrences
    → AreOccurrences p [] (record { width = width; places = [] }) occurrences
occurrences_none p width occurrences sized below = record { width = sized; below = below; all = λ j k l. absurd (omega arith) }
