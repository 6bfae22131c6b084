-- Terms at places of a rising list, with the places' numbers in their stead and the residues that cancel theirs.
use Rattle.std.proofs.Common.{◌≡◌, ◌≢◌, ◌⊎◌, ◌+◌, ◌-◌, ◌%◌, ◌<◌, ◌≤◌, ℕ, List, [], ◌∷◌, ◌++◌, length, get_or, take, inl, inr, sym, ◌∙◌, ap, subst, arith}
use Rattle.std.specs.List.Sorted.{IsStrictlyIncreasing}
use Rattle.std.proofs.Math.Decide.{ℕ_discrete}
use Rattle.std.proofs.Math.ListN.{get_or-append}
use Rattle.std.proofs.Math.Nat.{mod-eq_of_lt}
use Rattle.std.proofs.lemmas.Bool.{cases_lt}
use Rattle.std.proofs.lemmas.List.{length-append, get_or_push}
use Rattle.std.proofs.lemmas.List.Elements.{All-push, All-get_or, All-nil}
use Rattle.field_table.specs.Residues.{HasResidues}
use Rattle.field_table.specs.Terms.{HasPlacesBelow, place_at}
use Rattle.field_table.proofs.Gathering.{IsCombo-push}
use Rattle.linear_algebra.specs.Residue.{residue, ◌⊕◌, opposite}
use Rattle.linear_algebra.specs.Sparse.{sparse, single, IsCombo}
use Rattle.linear_algebra.proofs.ResidueLaws.{add-zero}
use Rattle.linear_algebra.proofs.Differences.{opposite-zero, opposite-add}
use Rattle.linear_algebra.proofs.SparseLaws.{sparse-append, sparse-one, sparse_more, sparse_nil, single_at, single_elsewhere}
use Rattle.linear_algebra.proofs.Rising.{rising_at, rising_apart}

-- the first i terms are renumbered
pub record IsRenumbered (p : ℕ) (free : List ℕ) (terms : List (ℕ × ℕ)) (i : ℕ) (out : List (ℕ × ℕ)) : Type 0 where
  pub combo : IsCombo out
  pub residues : HasResidues p out
  pub places : HasPlacesBelow (length free) out
  pub before : (k : ℕ) → k < length out → i < length terms → get_or free (place_at out k) 0 < place_at terms i
  pub entries : (j : ℕ) → j < length free → sparse p out j ≡ opposite (sparse p (take i terms) (get_or free j 0))

-- before the first
pub renumbered_none : (p : ℕ) → 0 < p → (free : List ℕ) (terms : List (ℕ × ℕ)) → IsRenumbered p free terms 0 []
renumbered_none p positive free terms = record {
  combo = record { rising = λ i j l u. absurd (omega arith); nonzero = All-nil (λ t. 0 < t.1) };
  residues = All-nil (λ t. t.1 < p);
  places = All-nil (λ t. t.0 < length free);
  before = λ k l. absurd (omega arith);
  entries = λ j l. ap (λ v. v j) (sparse_nil p) ∙ sym (ap (λ v. opposite (v (get_or free j 0))) (sparse_nil p) ∙ opposite-zero positive);
}

-- a term at none of the places
pub renumbered_skip : (p : ℕ) (free : List ℕ) (terms : List (ℕ × ℕ)) (i : ℕ) (out : List (ℕ × ℕ)) → IsCombo terms → IsRenumbered p free terms i out
    → i < length terms
    → ((j : ℕ) → j < length free → get_or free j 0 ≢ place_at terms i) → IsRenumbered p free terms (i + 1) out
renumbered_skip p free terms i out combo h l other = record {
  combo = h.combo;
  residues = h.residues;
  places = h.places;
  before = λ k u more. omega (arith, h.before k u l, combo.rising i (i + 1) (omega arith) more);
  entries = λ j u. h.entries j u ∙ ap opposite (sym (ap (λ v. v (get_or free j 0)) (sparse_more p terms i l)
      ∙ ap (λ a. sparse p (take i terms) (get_or free j 0) ⊕ a) (single_elsewhere p (place_at terms i) (get_or terms i (0, 0)).1 (get_or free j 0)
      (λ e. other j u (sym e)))
      ∙ add-zero (sparse p (take i terms) (get_or free j 0))));
}

-- a term at the place with the number q
pub renumbered_put : (p : ℕ) → 0 < p → (free : List ℕ) (terms : List (ℕ × ℕ)) (i : ℕ) (out : List (ℕ × ℕ)) → IsStrictlyIncreasing free → IsCombo terms
    → HasResidues p terms → IsRenumbered p free terms i out → i < length terms
    → (q b : ℕ) → q < length free → get_or free q 0 ≡ place_at terms i → b ≡ (p - (get_or terms i (0, 0)).1) % p
    → residue p b ≡ opposite (residue p (get_or terms i (0, 0)).1) → b < p
    → IsRenumbered p free terms (i + 1) (out ++ (q, b) ∷ [])
renumbered_put p positive free terms i out rises combo low h l q b within here value negative below = record {
  combo = IsCombo-push out (q, b) h.combo (λ k u. earlier k u (cases_lt (place_at out k) q)) some;
  residues = All-push (λ t. t.1 < p) out (q, b) h.residues below;
  places = All-push (λ t. t.0 < length free) out (q, b) h.places within;
  before = λ k u more. by_term k u more (cases_lt k (length out));
  entries = λ j u. ap (λ v. v j) (sparse-append p out ((q, b) ∷ [])) ∙ ap (λ v. sparse p out j ⊕ v j) (sparse-one p (q, b))
      ∙ ap (λ a. a ⊕ single p q b j) (h.entries j u)
      ∙ ap (λ a. opposite (sparse p (take i terms) (get_or free j 0)) ⊕ a) (added j u (ℕ_discrete q j))
      ∙ sym (opposite-add positive (sparse p (take i terms) (get_or free j 0))
      (single p (place_at terms i) (get_or terms i (0, 0)).1 (get_or free j 0)))
      ∙ ap opposite (sym (ap (λ v. v (get_or free j 0)) (sparse_more p terms i l)));
}
  where
    a : ℕ
    a = (get_or terms i (0, 0)).1

    some : 0 < b
    some =
        let nonzero : 0 < a = All-get_or (λ t. 0 < t.1) terms i (0, 0) l combo.nonzero in
        let small : p - a < p = omega arith in
        let is_b : b ≡ p - a = value ∙ mod-eq_of_lt small in
        let low_a : a < p = All-get_or (λ t. t.1 < p) terms i (0, 0) l low in
        omega arith

    earlier : (k : ℕ) → k < length out → (place_at out k < q) ⊎ (q ≤ place_at out k) → place_at out k < q
    earlier k u (inl less) = less
    earlier k u (inr more) =
        let lower : get_or free (place_at out k) 0 < get_or free q 0 = subst (λ n. get_or free (place_at out k) 0 < n) (sym here) (h.before k u l) in
        elim (ℕ_discrete q (place_at out k)) [
          | yes same ↦ absurd (let e : get_or free q 0 ≡ get_or free (place_at out k) 0 = ap (λ n. get_or free n 0) same in omega arith)
          | no apart ↦ absurd
              (let other : get_or free q 0 < get_or free (place_at out k) 0 = rising_at free rises q (place_at out k) (omega arith) (All-get_or (λ t. t.0 < length free) out k (0, 0) u h.places) in omega arith)
        ]

    by_term : (k : ℕ) → k < length (out ++ (q, b) ∷ []) → i + 1 < length terms → (k < length out) ⊎ (length out ≤ k)
        → get_or free (place_at (out ++ (q, b) ∷ []) k) 0 < place_at terms (i + 1)
    by_term k u more (inl first) = subst (λ t. get_or free t.0 0 < place_at terms (i + 1)) (sym (get_or-append out ((q, b) ∷ []) (0, 0) k first))
        (omega (arith, h.before k first l, combo.rising i (i + 1) (omega arith) more))
    by_term k u more (inr last) =
        subst (λ t. get_or free t.0 0 < place_at terms (i + 1)) (sym (get_or_push out (q, b) (0, 0) k
        (omega (arith, length-append out ((q, b) ∷ [])))))
        (subst (λ n. n < place_at terms (i + 1)) (sym here) (combo.rising i (i + 1) (omega arith) more))

    added : (j : ℕ) → j < length free → Dec (q ≡ j) → single p q b j ≡ opposite (single p (place_at terms i) a (get_or free j 0))
    added j u (yes same) = ap (single p q b) (sym same) ∙ single_at p q b ∙ negative
        ∙ ap opposite (sym (ap (single p (place_at terms i) a) (ap (λ n. get_or free n 0) (sym same) ∙ here) ∙ single_at p (place_at terms i) a))
    added j u (no apart) = single_elsewhere p q b j apart
        ∙ sym (ap opposite (single_elsewhere p (place_at terms i) a (get_or free j 0) (λ e. rising_apart free rises q j within u apart (here ∙ e)))
        ∙ opposite-zero positive)
