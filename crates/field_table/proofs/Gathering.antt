-- The steps that gather ordered terms into the one term of each place.
use Rattle.std.proofs.Common.{◌≡◌, ◌≢◌, ◌+◌, ◌%◌, ◌<◌, ◌≤◌, ℕ, List, [], ◌∷◌, ◌++◌, length, get_or, take, refl, sym, ◌∙◌, ap, subst, arith, inl, inr, ◌⊎◌, Bool, true, false, cond, nat_eq}
use Rattle.std.specs.List.{sum_by}
use Rattle.std.specs.List.Sorted.{IsNonDecreasingBy, IsPermutation}
use Rattle.std.proofs.Math.Nat.{add-mod-mod, mod-add-mod}
use Rattle.std.proofs.lemmas.List.Sums.{sum_by-cons}
use Rattle.std.proofs.lemmas.List.Sorted.{sum_by-IsPermutation}
use Rattle.linear_algebra.specs.Residue.{residue}
use Rattle.linear_algebra.proofs.ResidueLaws.{same_residue, value-residue, value-add}
use Rattle.std.proofs.lemmas.Bool.{cases_lt}
use Rattle.std.proofs.lemmas.List.{length-append, get_or_push, get_or_past}
use Rattle.std.proofs.lemmas.List.Elements.{All-push, All-nil, All-get_or, All-from_get_or}
use Rattle.std.proofs.Math.ListN.{get_or-append}
use Rattle.linear_algebra.specs.Dense.{dense}
use Rattle.linear_algebra.specs.Vector.{Vector, ◌⊞◌}
use Rattle.linear_algebra.specs.Sparse.{sparse, single, IsCombo}
use Rattle.linear_algebra.proofs.SparseLaws.{sparse-append, sparse-one, sparse_more, sparse_nil, sparse-cons, sparse_from_dense, single-add, single-zero}
use Rattle.linear_algebra.proofs.Vectors.{plus_assoc, plus-zeros}
use Rattle.field_table.specs.Residues.{AreResidues, HasResidues}
use Rattle.field_table.specs.Terms.{place_at, HasPlacesBelow}

-- one more term of the same place
pub run_step : (p : ℕ) (ts : List (ℕ × ℕ)) (before : Vector p) (end place a s : ℕ) → end < length ts → place_at ts end ≡ place
    → sparse p (take end ts) ≡ before ⊞ single p place a → s ≡ (a + (get_or ts end (0, 0)).1) % p
    → sparse p (take (end + 1) ts) ≡ before ⊞ single p place s
run_step p ts before end place a s l same sum e =
    let b : ℕ = (get_or ts end (0, 0)).1 in
    sparse_more p ts end l
    ∙ ap (λ k. sparse p (take end ts) ⊞ single p k b) same
    ∙ ap (λ v. v ⊞ single p place b) sum
    ∙ plus_assoc before (single p place a) (single p place b)
    ∙ ap (λ v. before ⊞ v) (single-add p place a b ∙ ap (single p place) (sym e))

-- the places of a list with one more term
place_at-push : (out : List (ℕ × ℕ)) (t : ℕ × ℕ) (k : ℕ) → k < length out → place_at (out ++ t ∷ []) k ≡ place_at out k
place_at-push out t k l = ap (λ s. s.0) (get_or-append out (t ∷ []) (0, 0) k l)

place_at-last : (out : List (ℕ × ℕ)) (t : ℕ × ℕ) (k : ℕ) → k ≡ length out → place_at (out ++ t ∷ []) k ≡ t.0
place_at-last out t k e = ap (λ s. s.0) (get_or_push out t (0, 0) k (sym e))

-- a bound on them
below_push : (out : List (ℕ × ℕ)) (t : ℕ × ℕ) (n : ℕ) → ((k : ℕ) → k < length out → place_at out k < n) → t.0 < n → (k : ℕ)
    → k < length (out ++ t ∷ []) → place_at (out ++ t ∷ []) k < n
below_push out t n below last k l = by_case (cases_lt k (length out))
  where
    by_case : (k < length out) ⊎ (length out ≤ k) → place_at (out ++ t ∷ []) k < n
    by_case (inl here) = omega (arith, place_at-push out t k here, below k here)
    by_case (inr past) = omega (arith, place_at-last out t k (omega (arith, length-append out (t ∷ []))), last)

-- a term past all places, with a number other than 0, goes on a combination
pub IsCombo-push : (out : List (ℕ × ℕ)) (t : ℕ × ℕ) → IsCombo out → ((k : ℕ) → k < length out → place_at out k < t.0) → 0 < t.1
    → IsCombo (out ++ t ∷ [])
IsCombo-push out t c below some = record { rising = rising; nonzero = All-push (λ t. 0 < t.1) out t c.nonzero some }
  where
    rising : (i j : ℕ) → i < j → j < length (out ++ t ∷ []) → place_at (out ++ t ∷ []) i < place_at (out ++ t ∷ []) j
    rising i j l u = by_case (cases_lt j (length out))
      where
        by_case : (j < length out) ⊎ (length out ≤ j) → place_at (out ++ t ∷ []) i < place_at (out ++ t ∷ []) j
        by_case (inl here) = omega (arith, place_at-push out t i (omega arith), place_at-push out t j here, c.rising i j l here)
        by_case (inr past) = omega (
          arith,
          place_at-push out t i (omega (arith, length-append out (t ∷ []))),
          place_at-last out t j
              (omega (arith, length-append out (t ∷ []))),
          below i (omega (arith, length-append out (t ∷ []))),
        )

-- out stands for the first terms of ts, up to before `start`, and its places are before the others
pub record IsGathered (p : ℕ) (ts : List (ℕ × ℕ)) (start : ℕ) (out : List (ℕ × ℕ)) : Type 0 where
  pub within : start ≤ length ts
  pub sum : sparse p out ≡ sparse p (take start ts)
  pub combo : IsCombo out
  pub residues : HasResidues p out
  pub below : (k : ℕ) → k < length out → start < length ts → place_at out k < place_at ts start

pub gathered_none : (p : ℕ) (ts : List (ℕ × ℕ)) → IsGathered p ts 0 []
unfolding sparse
gathered_none p ts = record {
  within = omega arith;
  sum = refl;
  combo = record { rising = λ i j l u. absurd (omega arith); nonzero = All-nil (λ t. 0 < t.1) };
  residues = All-nil (λ t. t.1 < p);
  below = λ k l. absurd (omega arith);
}

-- what a run says of the terms that it ends before
pub record IsRun (p : ℕ) (ts : List (ℕ × ℕ)) (start sum end : ℕ) : Type 0 where
  pub after : start < end
  pub within : end ≤ length ts
  pub ended : end < length ts → place_at ts end ≢ place_at ts start
  pub total : sparse p (take end ts) ≡ sparse p (take start ts) ⊞ single p (place_at ts start) sum
  pub below : sum < p

-- the place of a run is before the next
next_place : (p : ℕ) (ts : List (ℕ × ℕ)) (start sum end : ℕ) → IsNonDecreasingBy (λ t. t.0) ts → IsRun p ts start sum end → end < length ts
    → place_at ts start < place_at ts end
next_place p ts start sum end order run more =
    let up : place_at ts start ≤ place_at ts end = order start end (0, 0) (omega (arith, run.after)) more in
    let other : place_at ts end ≢ place_at ts start = run.ended more in
    grind arith

-- a run whose sum is not 0 gives a term
pub gathered_some : (p : ℕ) (ts : List (ℕ × ℕ)) (start sum end : ℕ) (out : List (ℕ × ℕ)) → IsNonDecreasingBy (λ t. t.0) ts → IsRun p ts start sum end
    → start < length ts → IsGathered p ts start out
    → sum ≢ 0 → IsGathered p ts end (out ++ (place_at ts start, sum) ∷ [])
gathered_some p ts start sum end out order run l g some = record {
  within = run.within;
  sum = sparse-append p out ((place_at ts start, sum) ∷ []) ∙ rw (sparse-one p (place_at ts start, sum), g.sum) (sym run.total);
  combo = IsCombo-push out (place_at ts start, sum) g.combo (λ k u. g.below k u l) (positive some);
  residues = All-push (λ t. t.1 < p) out (place_at ts start, sum) g.residues run.below;
  below = λ k u more. below_push out (place_at ts start, sum) (place_at ts end)
      (λ q w. omega (arith, g.below q w l, next_place p ts start sum end order run more)) (next_place p ts start sum end order run more) k u;
}
  where
    positive : {n : ℕ} → n ≢ 0 → 0 < n
    positive h = grind arith

-- a run whose sum is 0 gives none
pub gathered_zero : (p : ℕ) (ts : List (ℕ × ℕ)) (start sum end : ℕ) (out : List (ℕ × ℕ)) → IsNonDecreasingBy (λ t. t.0) ts → IsRun p ts start sum end
    → start < length ts → IsGathered p ts start out
    → sum ≡ 0 → IsGathered p ts end out
gathered_zero p ts start sum end out order run l g none = record {
  within = run.within;
  sum = g.sum ∙ sym (run.total ∙ ap (λ n. sparse p (take start ts) ⊞ single p (place_at ts start) n) none
      ∙ ap (λ v. sparse p (take start ts) ⊞ v) (single-zero p (place_at ts start)) ∙ plus-zeros (sparse p (take start ts)));
  combo = g.combo;
  residues = g.residues;
  below = λ k u more. omega (arith, g.below k u l, next_place p ts start sum end order run more);
}

-- the number that a vector of terms has at a place, before it is reduced
value_at : ℕ → ℕ × ℕ → ℕ
value_at k t = cond (nat_eq k t.0) t.1 0

value-single : (p : ℕ) (t : ℕ × ℕ) (k : ℕ) → (single p t.0 t.1 k).value ≡ value_at k t % p
unfolding single value_at
value-single p t k = at (nat_eq k t.0)
  where
    at : (b : Bool) → (cond b (residue p t.1) (residue p 0)).value ≡ cond b t.1 0 % p
    at true = value-residue p t.1
    at false = value-residue p 0

value-sparse : (p : ℕ) (ts : List (ℕ × ℕ)) (k : ℕ) → (sparse p ts k).value ≡ sum_by (value_at k) ts % p
value-sparse p [] k = ap (λ v. (v k).value) (sparse_nil p) ∙ value-residue p 0
value-sparse p (t ∷ ts) k = ap (λ v. (v k).value) (sparse-cons p t ts) ∙ value-add (single p t.0 t.1 k) (sparse p ts k)
    ∙ ap (λ n. ((single p t.0 t.1 k).value + n) % p) (value-sparse p ts k)
    ∙ add-mod-mod (single p t.0 t.1 k).value (sum_by (value_at k) ts) p ∙ ap (λ n. (n + sum_by (value_at k) ts) % p) (value-single p t k)
    ∙ mod-add-mod (value_at k t) p (sum_by (value_at k) ts)
    ∙ ap (λ n. n % p) (sym (sum_by-cons (value_at k) t ts))

-- the order of the terms is nothing to their vector
pub sparse-IsPermutation : (p : ℕ) (xs ys : List (ℕ × ℕ)) → IsPermutation xs ys → sparse p ys ≡ sparse p xs
sparse-IsPermutation p xs ys same = λ i k. same_residue (sparse p ys k) (sparse p xs k)
    (value-sparse p ys k ∙ ap (λ n. n % p) (sum_by-IsPermutation (value_at k) xs ys same) ∙ sym (value-sparse p xs k)) i

-- the terms are the numbers other than 0 before the place n
pub record IsListing (xs : List ℕ) (n : ℕ) (ts : List (ℕ × ℕ)) : Type 0 where
  pub combo : IsCombo ts
  pub before : (j : ℕ) → j < length ts → place_at ts j < n
  pub numbers : (j : ℕ) → j < length ts → get_or xs (place_at ts j) 0 ≡ (get_or ts j (0, 0)).1
  pub others : (k : ℕ) → k < n → ((j : ℕ) → j < length ts → place_at ts j ≢ k) → get_or xs k 0 ≡ 0

pub listing_none : (xs : List ℕ) → IsListing xs 0 []
listing_none xs = record {
  combo = record { rising = λ i j l u. absurd (omega arith); nonzero = All-nil (λ t. 0 < t.1) };
  before = λ j l. absurd (omega arith);
  numbers = λ j l. absurd (omega arith);
  others = λ k l. absurd (omega arith);
}

-- a number other than 0 is one term more
pub listing_some : (xs : List ℕ) (n : ℕ) (ts : List (ℕ × ℕ)) → IsListing xs n ts → get_or xs n 0 ≢ 0
    → IsListing xs (n + 1) (ts ++ (n, get_or xs n 0) ∷ [])
listing_some xs n ts g some = record {
  combo = IsCombo-push ts (n, get_or xs n 0) g.combo g.before (positive some);
  before = below_push ts (n, get_or xs n 0) (n + 1) (λ j l. omega (arith, g.before j l)) (omega arith);
  numbers = λ j l. number j l (cases_lt j (length ts));
  others = λ k l away. other k (cases_lt k n) l away;
}
  where
    positive : {m : ℕ} → m ≢ 0 → 0 < m
    positive h = grind arith

    longer : length (ts ++ (n, get_or xs n 0) ∷ []) ≡ length ts + 1
    longer = length-append ts ((n, get_or xs n 0) ∷ [])

    number : (j : ℕ) → j < length (ts ++ (n, get_or xs n 0) ∷ []) → (j < length ts) ⊎ (length ts ≤ j)
        → get_or xs (place_at (ts ++ (n, get_or xs n 0) ∷ []) j) 0 ≡ (get_or (ts ++ (n, get_or xs n 0) ∷ []) j (0, 0)).1
    number j l (inl here) = subst (λ t. get_or xs t.0 0 ≡ t.1) (sym (get_or-append ts ((n, get_or xs n 0) ∷ []) (0, 0) j here)) (g.numbers j here)
    number j l (inr past) = subst (λ t. get_or xs t.0 0 ≡ t.1) (sym (get_or_push ts (n, get_or xs n 0) (0, 0) j (omega (arith, longer)))) refl

    other : (k : ℕ) → (k < n) ⊎ (n ≤ k) → k < n + 1 → ((j : ℕ) → j < length (ts ++ (n, get_or xs n 0) ∷ [])
        → place_at (ts ++ (n, get_or xs n 0) ∷ []) j ≢ k) → get_or xs k 0 ≡ 0
    other k (inl here) l away = g.others k here (λ j u e. away j (omega (arith, longer)) (place_at-push ts (n, get_or xs n 0) j u ∙ e))
    other k (inr past) l away = absurd (away (length ts) (omega (arith, longer)) (place_at-last ts (n, get_or xs n 0) (length ts) refl ∙ omega arith))

-- a 0 is none
pub listing_zero : (xs : List ℕ) (n : ℕ) (ts : List (ℕ × ℕ)) → IsListing xs n ts → get_or xs n 0 ≡ 0 → IsListing xs (n + 1) ts
listing_zero xs n ts g none = record {
  combo = g.combo;
  before = λ j l. omega (arith, g.before j l);
  numbers = g.numbers;
  others = λ k l away. other k (cases_lt k n) l away;
}
  where
    other : (k : ℕ) → (k < n) ⊎ (n ≤ k) → k < n + 1 → ((j : ℕ) → j < length ts → place_at ts j ≢ k) → get_or xs k 0 ≡ 0
    other k (inl here) l away = g.others k here away
    other k (inr past) l away = let P : ℕ → Type 0 = λ m. get_or xs m 0 ≡ 0 in let e : n ≡ k = omega arith in subst P e none

-- listed to the end, the terms are the vector of the list
pub sparse-listing : (p : ℕ) (xs : List ℕ) (n : ℕ) (ts : List (ℕ × ℕ)) → length xs ≤ n → IsListing xs n ts → sparse p ts ≡ dense p xs
sparse-listing p xs n ts whole g = sparse_from_dense p ts xs g.combo (λ j l. ap (residue p) (g.numbers j l))
    (λ k away. ap (residue p) (other k (cases_lt k n) away))
  where
    other : (k : ℕ) → (k < n) ⊎ (n ≤ k) → ((j : ℕ) → j < length ts → (get_or ts j (0, 0)).0 ≢ k) → get_or xs k 0 ≡ 0
    other k (inl here) away = g.others k here away
    other k (inr past) away = get_or_past xs k 0 (omega arith)

-- its places are those of the list
pub HasPlacesBelow-listing : (xs : List ℕ) (n : ℕ) (ts : List (ℕ × ℕ)) → n ≤ length xs → IsListing xs n ts → HasPlacesBelow (length xs) ts
HasPlacesBelow-listing xs n ts within g = All-from_get_or (λ t. t.0 < length xs) ts (0, 0) (λ j l. omega (arith, g.before j l))

-- its numbers are residues where those of the list are
pub HasResidues-listing : (p : ℕ) (xs : List ℕ) (n : ℕ) (ts : List (ℕ × ℕ)) → n ≤ length xs → IsListing xs n ts → AreResidues p xs → HasResidues p ts
HasResidues-listing p xs n ts within g residues = All-from_get_or (λ t. t.1 < p) ts (0, 0)
    (λ j l. subst (λ m. m < p) (g.numbers j l) (All-get_or (λ x. x < p) xs (place_at ts j) 0 (omega (arith, g.before j l)) residues))
