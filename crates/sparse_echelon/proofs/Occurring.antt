-- Numbers of rows that are added at places.
use Rattle.std.proofs.Common.{◌≡◌, ◌<◌, ℕ, List, [], ◌∷◌, ◌++◌, length, get_or, set, All, sym, ◌∙◌, ap, subst, get_or-set_same, get_or-set_other}
use Rattle.std.specs.List.{Contains}
use Rattle.std.proofs.Math.Decide.{ℕ_discrete}
use Rattle.std.proofs.lemmas.List.{get_or_default}
use Rattle.std.proofs.lemmas.List.Elements.{All-get_or, All-push, All-set, Contains-push, Contains-append_left}
use Rattle.sparse_echelon.specs.Occurrences.{AreBelow}

module _ (occurrences : List (List ℕ)) (k number : ℕ) (d new : List ℕ) (within : k < length occurrences)
    (is_new : new ≡ get_or occurrences k d ++ number ∷ []) where
  there : new ≡ get_or occurrences k [] ++ number ∷ []
  there = is_new ∙ ap (λ xs. xs ++ number ∷ []) (get_or_default occurrences k d [] within)

  -- the number stands there
  pub added_here : Contains (get_or (set occurrences k new) k []) number
  added_here = subst (λ xs. Contains xs number) (sym (get_or-set_same occurrences k new [] within ∙ there))
      (Contains-push (get_or occurrences k []) number)

  -- and no other is lost
  pub added_grows : (q j : ℕ) → Contains (get_or occurrences q []) j → Contains (get_or (set occurrences k new) q []) j
  added_grows q j h = elim (ℕ_discrete q k) [
    | yes same ↦ subst (λ m. Contains (get_or (set occurrences k new) m []) j) (sym same)
        (subst (λ xs. Contains xs j) (sym (get_or-set_same occurrences k new [] within ∙ there))
        (Contains-append_left (get_or occurrences k []) (number ∷ []) j (subst (λ m. Contains (get_or occurrences m []) j) same h)))
    | no other ↦ subst (λ xs. Contains xs j) (sym (get_or-set_other occurrences k q new [] other)) h
  ]

  -- a bound on all numbers
  pub added_below : (n : ℕ) → number < n → AreBelow n occurrences → AreBelow n (set occurrences k new)
  added_below n l h = All-set (All (λ j. j < n)) occurrences k new
      (subst (All (λ j. j < n)) (sym there) (All-push (λ j. j < n) (get_or occurrences k []) number
      (All-get_or (All (λ j. j < n)) occurrences k [] within h) l)) h
