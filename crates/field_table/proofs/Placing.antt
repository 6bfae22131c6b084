-- The table that finds the number of a place.
use Rattle.std.proofs.Common.{◌≡◌, ◌≢◌, ◌⊎◌, ◌+◌, ◌<◌, ◌≤◌, ◌^◌, ℕ, List, [], ◌∷◌, ◌++◌, length, get_or, set, Option, Some, None, sym, ◌∙◌, ap, inl, inr, arith, length-append, get_or-set_same, get_or-set_other}
use Rattle.std.proofs.Math.Decide.{ℕ_discrete}
use Rattle.std.proofs.Math.ListN.{get_or-append}
use Rattle.std.proofs.lemmas.Bool.{cases_lt}
use Rattle.std.proofs.lemmas.List.{get_or_push}
use Rattle.field_table.specs.Places.{PlaceList, nth_place, FindsPlaces}

-- one place more
pub FindsPlaces-push : (table : List (Option ℕ)) (l : PlaceList) (k w : ℕ) → FindsPlaces table l → k < length table → length l.places + 1 < 2 ^ 32
    → ((j : ℕ) → j < length l.places → nth_place l j ≢ k)
    → FindsPlaces (set table k (Some (length l.places))) (record { width = w; places = l.places ++ k ∷ [] })
FindsPlaces-push table l k w h within small other = record {
  few = omega (arith, longer);
  only = λ q j e. only q j (ℕ_discrete q k) e;
  all =
      λ j u. all j (cases_lt j (length l.places)) u;
}
  where
    longer : length (l.places ++ k ∷ []) ≡ length l.places + 1
    longer = length-append l.places (k ∷ [])

    only : (q j : ℕ) → Dec (q ≡ k) → get_or (set table k (Some (length l.places))) q None ≡ Some j
        → (j < length (l.places ++ k ∷ [])) × (get_or (l.places ++ k ∷ []) j 0 ≡ q)
    only q j (yes same) e =
        let here : get_or (set table k (Some (length l.places))) q None ≡ Some (length l.places) =
        ap (λ m. get_or (set table k (Some (length l.places))) m None) same ∙ get_or-set_same table k (Some (length l.places)) None within in
        let last : length l.places ≡ j = cc (here, e) in
        (omega (arith, longer), get_or_push l.places k 0 j last ∙ sym same)
    only q j (no apart) e =
        let (u, at) = h.only q j (sym (get_or-set_other table k q (Some (length l.places)) None apart) ∙ e) in
        (omega (arith, longer), get_or-append l.places (k ∷ []) 0 j u ∙ at)

    all : (j : ℕ) → (j < length l.places) ⊎ (length l.places ≤ j) → j < length (l.places ++ k ∷ [])
        → get_or (set table k (Some (length l.places))) (get_or (l.places ++ k ∷ []) j 0) None ≡ Some j
    all j (inl before) u =
        ap (λ q. get_or (set table k (Some (length l.places))) q None) (get_or-append l.places (k ∷ []) 0 j before)
        ∙ get_or-set_other table k (nth_place l j) (Some (length l.places)) None (other j before) ∙ h.all j before
    all j (inr past) u =
        let last : length l.places ≡ j = omega (arith, longer) in
        ap (λ q. get_or (set table k (Some (length l.places))) q None) (get_or_push l.places k 0 j last)
        ∙ get_or-set_same table k (Some (length l.places)) None within ∙ ap Some last
