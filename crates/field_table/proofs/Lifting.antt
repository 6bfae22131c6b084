-- The combination of unit vectors at rising places, term by term.
use Rattle.std.proofs.Common.{◌≡◌, ◌≢◌, ◌+◌, ◌<◌, ◌≤◌, ◌⊎◌, inl, inr, ℕ, List, [], ◌∷◌, ◌++◌, length, get_or, take, All, sym, ◌∙◌, ap, subst, arith}
use Rattle.std.proofs.Math.ListN.{get_or-append}
use Rattle.std.proofs.Math.Seq.{take-length}
use Rattle.std.proofs.lemmas.Bool.{cases_lt}
use Rattle.std.proofs.lemmas.List.{length-append, get_or_push}
use Rattle.std.proofs.lemmas.List.Elements.{All-push, All-nil, All-get_or}
use Rattle.std.specs.List.Sorted.{IsStrictlyIncreasing}
use Rattle.linear_algebra.specs.Residue.{residue}
use Rattle.linear_algebra.specs.Vector.{◌⊞◌, ◌⊡◌}
use Rattle.linear_algebra.specs.Dense.{dense}
use Rattle.linear_algebra.specs.Sparse.{sparse, IsCombo}
use Rattle.linear_algebra.specs.Coordinates.{unit, at_places}
use Rattle.linear_algebra.proofs.Vectors.{zero-scale, plus-zeros}
use Rattle.linear_algebra.proofs.DenseLaws.{dense_at}
use Rattle.linear_algebra.proofs.SparseLaws.{sparse-append, sparse-one, sparse_nil, scale-unit}
use Rattle.linear_algebra.proofs.Coordinates.{at_places-more}
use Rattle.field_table.specs.Residues.{AreResidues, HasResidues}
use Rattle.field_table.specs.Terms.{HasPlacesBelow, place_at}
use Rattle.field_table.proofs.Gathering.{IsCombo-push}
use Rattle.linear_algebra.proofs.Rising.{rising_at}

-- the terms stand for the combination of the first n places
pub record AreLifted (places values : List ℕ) (n : ℕ) (ts : List (ℕ × ℕ)) : Type 0 where
  pub combo : IsCombo ts
  pub before : (k i : ℕ) → k < length ts → n ≤ i → i < length places → place_at ts k < get_or places i 0
  pub vector : (p : ℕ) → sparse p ts ≡ at_places (take n places) (dense p values)
  pub residues : (p : ℕ) → AreResidues p values → HasResidues p ts
  pub within : (d : ℕ) → All (λ k. k < d) places → HasPlacesBelow d ts

-- no place
pub lifted_none : (places values : List ℕ) → AreLifted places values 0 []
lifted_none places values = record {
  combo = record { rising = λ i j l u. absurd (omega arith); nonzero = All-nil (λ t. 0 < t.1) };
  before = λ k i l u w. absurd (omega arith);
  vector = sparse_nil;
  residues = λ p r. All-nil (λ t. t.1 < p);
  within = λ d b. All-nil (λ t. t.0 < d);
}

-- a place with the coefficient 0
pub lifted_skip : (places values : List ℕ) (j : ℕ) (ts : List (ℕ × ℕ)) → AreLifted places values j ts → j < length places → get_or values j 0 ≡ 0
    → AreLifted places values (j + 1) ts
lifted_skip places values j ts h l none = record {
  combo = h.combo;
  before = λ k i u w v. h.before k i u (omega arith) v;
  vector = λ p. h.vector p ∙ sym (at_places-more places (dense p values) j l
      ∙ ap (λ r. at_places (take j places) (dense p values) ⊞ (r ⊡ unit (get_or places j 0))) (dense_at p values j ∙ ap (residue p) none)
      ∙ ap (λ v. at_places (take j places) (dense p values) ⊞ v) (zero-scale (unit (get_or places j 0)))
      ∙ plus-zeros (at_places (take j places) (dense p values)));
  residues = h.residues;
  within = h.within;
}

-- a place with another
pub lifted_push : (places values : List ℕ) (j k a : ℕ) (ts : List (ℕ × ℕ)) → IsStrictlyIncreasing places → AreLifted places values j ts
    → j < length places → j < length values
    → k ≡ get_or places j 0 → a ≡ get_or values j 0 → a ≢ 0 → AreLifted places values (j + 1) (ts ++ (k, a) ∷ [])
lifted_push places values j k a ts rises h l u at_k at_a some = record {
  combo = IsCombo-push ts (k, a) h.combo (λ i w. subst (λ n. place_at ts i < n) (sym at_k) (h.before i j w (omega arith) l)) (omega arith);
  before = λ i n w v y. by_term i n w v y (cases_lt i (length ts));
  vector = λ p. sparse-append p ts ((k, a) ∷ [])
      ∙ ap (λ v. v ⊞ sparse p ((k, a) ∷ [])) (h.vector p)
      ∙ ap (λ v. at_places (take j places) (dense p values) ⊞ v) (sparse-one p (k, a) ∙ sym (scale-unit p k a)
      ∙ ap (λ r. r ⊡ unit k) (ap (residue p) at_a ∙ sym (dense_at p values j)) ∙ ap (λ n. dense p values j ⊡ unit n) at_k)
      ∙ sym (at_places-more places (dense p values) j l);
  residues = λ p r. All-push (λ t. t.1 < p) ts (k, a) (h.residues p r) (subst (λ n. n < p) (sym at_a) (All-get_or (λ x. x < p) values j 0 u r));
  within = λ d b. All-push (λ t. t.0 < d) ts (k, a) (h.within d b) (subst (λ n. n < d) (sym at_k) (All-get_or (λ n. n < d) places j 0 l b));
}
  where
    by_term : (i n : ℕ) → i < length (ts ++ (k, a) ∷ []) → j + 1 ≤ n → n < length places → (i < length ts) ⊎ (length ts ≤ i)
        → place_at (ts ++ (k, a) ∷ []) i < get_or places n 0
    by_term i n w v y (inl here) = subst (λ t. t.0 < get_or places n 0) (sym (get_or-append ts ((k, a) ∷ []) (0, 0) i here))
        (h.before i n here (omega arith) y)
    by_term i n w v y (inr past) =
        subst (λ t. t.0 < get_or places n 0) (sym (get_or_push ts (k, a) (0, 0) i (omega (arith, length-append ts ((k, a) ∷ [])))))
        (subst (λ m. m < get_or places n 0) (sym at_k) (rising_at places rises j n (omega arith) y))

-- all places
pub lifted_all : (places values : List ℕ) (ts : List (ℕ × ℕ)) → AreLifted places values (length places) ts → (p : ℕ)
    → sparse p ts ≡ at_places places (dense p values)
lifted_all places values ts h p = h.vector p ∙ ap (λ ks. at_places ks (dense p values)) (take-length places)
