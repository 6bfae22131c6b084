-- The steps of the merge of a combination with a multiple of another.
use Rattle.std.proofs.Common.{◌≡◌, ◌≢◌, ◌⊎◌, ◌+◌, ◌*◌, ◌%◌, ◌<◌, ◌≤◌, ℕ, List, [], ◌∷◌, ◌++◌, length, get_or, take, sym, ◌∙◌, ap, subst, arith, inl, inr}
use Rattle.std.proofs.lemmas.Bool.{cases_lt}
use Rattle.std.proofs.lemmas.List.{length-append, get_or_push}
use Rattle.std.proofs.lemmas.List.Elements.{All-push, All-get_or, All-nil}
use Rattle.std.proofs.Math.ListN.{get_or-append}
use Rattle.field_table.specs.Residues.{HasResidues}
use Rattle.field_table.specs.Terms.{HasPlacesBelow}
use Rattle.field_table.proofs.Places.{HasPlacesBelow-from_vector}
use Rattle.field_table.proofs.Gathering.{IsCombo-push}
use Rattle.linear_algebra.specs.Residue.{residue}
use Rattle.linear_algebra.specs.Vector.{◌⊞◌, ◌⊡◌, EndsBefore}
use Rattle.linear_algebra.specs.Sparse.{sparse, single, IsCombo}
use Rattle.linear_algebra.proofs.SparseLaws.{sparse-append, sparse-one, sparse_more, sparse_nil, single-add, single-zero, scale-single, EndsBefore-sparse}
use Rattle.linear_algebra.proofs.Support.{EndsBefore-plus, EndsBefore-scale}
use Rattle.linear_algebra.proofs.Vectors.{zeros-plus, plus_assoc, plus-zeros, plus_middle, plus_right_comm, scale-plus, scale-zeros}

abbrev pub term : List (ℕ × ℕ) → ℕ → ℕ × ℕ
term xs i = get_or xs i (0, 0)

-- out is the sum of the first i terms of x and c times the first j of y, and stands before the others
pub record IsMerged (p c : ℕ) (x y : List (ℕ × ℕ)) (i j : ℕ) (out : List (ℕ × ℕ)) : Type 0 where
  pub left : i ≤ length x
  pub right : j ≤ length y
  pub sum : sparse p out ≡ sparse p (take i x) ⊞ residue p c ⊡ sparse p (take j y)
  pub combo : IsCombo out
  pub residues : HasResidues p out
  pub below_left : (k : ℕ) → k < length out → i < length x → (term out k).0 < (term x i).0
  pub below_right : (k : ℕ) → k < length out → j < length y → (term out k).0 < (term y j).0

-- a bound on the places of a list with one more term
below_push : (out : List (ℕ × ℕ)) (t : ℕ × ℕ) (n : ℕ) → ((k : ℕ) → k < length out → (term out k).0 < n) → t.0 < n → (k : ℕ)
    → k < length (out ++ t ∷ []) → (term (out ++ t ∷ []) k).0 < n
below_push out t n below last k l = by_case (cases_lt k (length out))
  where
    by_case : (k < length out) ⊎ (length out ≤ k) → (term (out ++ t ∷ []) k).0 < n
    by_case (inl here) = subst (λ s. s.0 < n) (sym (get_or-append out (t ∷ []) (0, 0) k here)) (below k here)
    by_case (inr past) = subst (λ s. s.0 < n) (sym (get_or_push out t (0, 0) k (omega (arith, length-append out (t ∷ []))))) last

-- before the first terms
pub merged_start : (p c : ℕ) (x y : List (ℕ × ℕ)) → IsMerged p c x y 0 0 []
merged_start p c x y = record {
  left = omega arith;
  right = omega arith;
  sum = sym (ap (λ v. sparse p [] ⊞ (residue p c ⊡ v)) (sparse_nil p) ∙ ap (λ v. sparse p [] ⊞ v) (scale-zeros (residue p c))
      ∙ plus-zeros (sparse p []));
  combo = record { rising = λ i j l u. absurd (omega arith); nonzero = All-nil (λ t. 0 < t.1) };
  residues = All-nil (λ t. t.1 < p);
  below_left = λ k l. absurd (omega arith);
  below_right = λ k l. absurd (omega arith);
}

-- the next term of x
pub merged_left : (p c : ℕ) (x y : List (ℕ × ℕ)) (i j : ℕ) (out : List (ℕ × ℕ)) → IsCombo x → HasResidues p x → IsMerged p c x y i j out
    → i < length x → (j < length y → (term x i).0 < (term y j).0)
    → IsMerged p c x y (i + 1) j (out ++ term x i ∷ [])
merged_left p c x y i j out h low m l first = record {
  left = omega arith;
  right = m.right;
  sum = sparse-append p out (term x i ∷ []) ∙ rw (m.sum, sparse-one p (term x i), sparse_more p x i l)
      (plus_right_comm (sparse p (take i x)) (residue p c ⊡ sparse p (take j y)) (single p (term x i).0 (term x i).1));
  combo = IsCombo-push out (term x i) m.combo (λ k u. m.below_left k u l) (All-get_or (λ t. 0 < t.1) x i (0, 0) l h.nonzero);
  residues = All-push (λ t. t.1 < p) out (term x i) m.residues (All-get_or (λ t. t.1 < p) x i (0, 0) l low);
  below_left = λ k u more. below_push out (term x i) (term x (i + 1)).0
      (λ q w. omega (arith, m.below_left q w l, h.rising i (i + 1) (omega arith) more)) (h.rising i (i + 1) (omega arith) more) k u;
  below_right = λ k u more. below_push out (term x i) (term y j).0 (λ q w. m.below_right q w more) (first more) k u;
}

-- c times one more term of y
scaled_more : (p c : ℕ) (y : List (ℕ × ℕ)) (j b : ℕ) → j < length y → b ≡ (c * (term y j).1) % p
    → residue p c ⊡ sparse p (take (j + 1) y) ≡ residue p c ⊡ sparse p (take j y) ⊞ single p (term y j).0 b
scaled_more p c y j b l e =
    ap (λ v. residue p c ⊡ v) (sparse_more p y j l) ∙ scale-plus (residue p c) (sparse p (take j y)) (single p (term y j).0 (term y j).1)
    ∙ ap (λ v. residue p c ⊡ sparse p (take j y) ⊞ v) (scale-single p c (term y j).0 (term y j).1 b e)

-- the next term of y, whose multiple is not 0
pub merged_right : (p c : ℕ) (x y : List (ℕ × ℕ)) (i j b : ℕ) (out : List (ℕ × ℕ)) → IsCombo y → IsMerged p c x y i j out → j < length y
    → (i < length x → (term y j).0 < (term x i).0)
    → b ≡ (c * (term y j).1) % p → b < p → b ≢ 0 → IsMerged p c x y i (j + 1) (out ++ ((term y j).0, b) ∷ [])
merged_right p c x y i j b out h m l first e low some = record {
  left = m.left;
  right = omega arith;
  sum = sparse-append p out (((term y j).0, b) ∷ []) ∙ rw (m.sum, sparse-one p ((term y j).0, b), scaled_more p c y j b l e)
      (plus_assoc (sparse p (take i x)) (residue p c ⊡ sparse p (take j y)) (single p (term y j).0 b));
  combo = IsCombo-push out ((term y j).0, b) m.combo (λ k u. m.below_right k u l) (omega arith);
  residues = All-push (λ t. t.1 < p) out ((term y j).0, b) m.residues low;
  below_left = λ k u more. below_push out ((term y j).0, b) (term x i).0 (λ q w. m.below_left q w more) (first more) k u;
  below_right = λ k u more. below_push out ((term y j).0, b) (term y (j + 1)).0
      (λ q w. omega (arith, m.below_right q w l, h.rising j (j + 1) (omega arith) more)) (h.rising j (j + 1) (omega arith) more) k u;
}

-- and where it is 0
pub merged_right_none : (p c : ℕ) (x y : List (ℕ × ℕ)) (i j b : ℕ) (out : List (ℕ × ℕ)) → IsCombo y → IsMerged p c x y i j out → j < length y
    → b ≡ (c * (term y j).1) % p → b ≡ 0 → IsMerged p c x y i (j + 1) out
merged_right_none p c x y i j b out h m l e none = record {
  left = m.left;
  right = omega arith;
  sum = m.sum ∙ ap (λ v. sparse p (take i x) ⊞ v) (sym (scaled_more p c y j b l e
      ∙ ap (λ a. residue p c ⊡ sparse p (take j y) ⊞ single p (term y j).0 a) none
      ∙ ap (λ v. residue p c ⊡ sparse p (take j y) ⊞ v) (single-zero p (term y j).0) ∙ plus-zeros (residue p c ⊡ sparse p (take j y))));
  combo = m.combo;
  residues = m.residues;
  below_left = m.below_left;
  below_right = λ k u more. omega (arith, m.below_right k u l, h.rising j (j + 1) (omega arith) more);
}

-- the two terms at one place
two_terms : (p c : ℕ) (x y : List (ℕ × ℕ)) (i j b s : ℕ) (out : List (ℕ × ℕ)) → IsMerged p c x y i j out → i < length x → j < length y
    → (term x i).0 ≡ (term y j).0
    → b ≡ (c * (term y j).1) % p → s ≡ ((term x i).1 + b) % p
    → sparse p out ⊞ single p (term x i).0 s ≡ sparse p (take (i + 1) x) ⊞ residue p c ⊡ sparse p (take (j + 1) y)
two_terms p c x y i j b s out m l u same e total =
    let joined : single p (term x i).0 s ≡ single p (term x i).0 (term x i).1 ⊞ single p (term y j).0 b =
    ap (single p (term x i).0) total ∙ sym (single-add p (term x i).0 (term x i).1 b)
    ∙ ap (λ k. single p (term x i).0 (term x i).1 ⊞ single p k b) same in
    rw (joined, m.sum, sparse_more p x i l, scaled_more p c y j b u e)
    (plus_middle (sparse p (take i x)) (residue p c ⊡ sparse p (take j y)) (single p (term x i).0 (term x i).1) (single p (term y j).0 b))

-- their sum, which is not 0
pub merged_both : (p c : ℕ) (x y : List (ℕ × ℕ)) (i j b s : ℕ) (out : List (ℕ × ℕ)) → IsCombo x → IsCombo y → IsMerged p c x y i j out → i < length x
    → j < length y → (term x i).0 ≡ (term y j).0
    → b ≡ (c * (term y j).1) % p → s ≡ ((term x i).1 + b) % p → s < p → s ≢ 0 → IsMerged p c x y (i + 1) (j + 1) (out ++ ((term x i).0, s) ∷ [])
merged_both p c x y i j b s out h g m l u same e total low some = record {
  left = omega arith;
  right = omega arith;
  sum = sparse-append p out (((term x i).0, s) ∷ []) ∙ ap (λ v. sparse p out ⊞ v) (sparse-one p ((term x i).0, s))
      ∙ two_terms p c x y i j b s out m l u same e total;
  combo = IsCombo-push out ((term x i).0, s) m.combo (λ k v. m.below_left k v l) (omega arith);
  residues = All-push (λ t. t.1 < p) out ((term x i).0, s) m.residues low;
  below_left = λ k v more. below_push out ((term x i).0, s) (term x (i + 1)).0
      (λ q w. omega (arith, m.below_left q w l, h.rising i (i + 1) (omega arith) more)) (h.rising i (i + 1) (omega arith) more) k v;
  below_right = λ k v more. below_push out ((term x i).0, s) (term y (j + 1)).0
      (λ q w. omega (arith, m.below_right q w u, g.rising j (j + 1) (omega arith) more)) (omega (arith, same, g.rising j (j + 1) (omega arith) more))
      k v;
}

-- and where it is 0
pub merged_both_none : (p c : ℕ) (x y : List (ℕ × ℕ)) (i j b s : ℕ) (out : List (ℕ × ℕ)) → IsCombo x → IsCombo y → IsMerged p c x y i j out
    → i < length x → j < length y → (term x i).0 ≡ (term y j).0
    → b ≡ (c * (term y j).1) % p → s ≡ ((term x i).1 + b) % p → s ≡ 0 → IsMerged p c x y (i + 1) (j + 1) out
merged_both_none p c x y i j b s out h g m l u same e total none = record {
  left = omega arith;
  right = omega arith;
  sum = sym (plus-zeros (sparse p out)) ∙ ap (λ v. sparse p out ⊞ v) (sym (ap (single p (term x i).0) none ∙ single-zero p (term x i).0))
      ∙ two_terms p c x y i j b s out m l u same e total;
  combo = m.combo;
  residues = m.residues;
  below_left = λ k v more. omega (arith, m.below_left k v l, h.rising i (i + 1) (omega arith) more);
  below_right = λ k v more. omega (arith, m.below_right k v u, g.rising j (j + 1) (omega arith) more);
}

-- a sum with a multiple has the places of both
pub HasPlacesBelow-sum : (p c n : ℕ) (x y z : List (ℕ × ℕ)) → sparse p z ≡ sparse p x ⊞ residue p c ⊡ sparse p y → IsCombo z → HasResidues p z
    → HasPlacesBelow n x → HasPlacesBelow n y → HasPlacesBelow n z
HasPlacesBelow-sum p c n x y z sum combo low left right =
    HasPlacesBelow-from_vector p n z combo low (subst (EndsBefore n) (sym sum)
    (EndsBefore-plus n (sparse p x) (residue p c ⊡ sparse p y) (EndsBefore-sparse p n x left)
    (EndsBefore-scale n (residue p c) (sparse p y) (EndsBefore-sparse p n y right))))

-- what is added to no term
pub sum_of_none : (p c : ℕ) (y z : List (ℕ × ℕ)) → sparse p z ≡ sparse p [] ⊞ residue p c ⊡ sparse p y → sparse p z ≡ residue p c ⊡ sparse p y
sum_of_none p c y z sum = sum ∙ ap (λ v. v ⊞ (residue p c ⊡ sparse p y)) (sparse_nil p) ∙ zeros-plus (residue p c ⊡ sparse p y)
