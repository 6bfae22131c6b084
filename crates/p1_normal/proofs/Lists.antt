-- Elements of a list by their places.
use Rattle.std.proofs.Common.{◌≡◌, ◌+◌, ◌<◌, ◌≤◌, ◌⊎◌, ◌++◌, ℕ, zero, suc, Bool, true, cond, List, [], ◌∷◌, Some, length, get_or, refl, sym, ◌∙◌, ap, inl, inr, arith}
use Rattle.std.specs.Prelude.{filter, slice_get}
use Rattle.std.specs.List.{range_with_len}
use Rattle.std.proofs.lemmas.Option.{same_Some, none-some}
use Rattle.std.proofs.lemmas.Bool.{cond_both, cases_eq, false≢true}

pub get-push_old : {X : Type 0} (xs : List X) (y q : X) (k : ℕ) → slice_get xs k ≡ Some q → slice_get (xs ++ y ∷ []) k ≡ Some q
get-push_old [] y q k e = absurd (none-some q e)
get-push_old (x ∷ xs) y q zero e = e
get-push_old (x ∷ xs) y q (suc k) e = get-push_old xs y q k e

pub get-push_new : {X : Type 0} (xs : List X) (y : X) → slice_get (xs ++ y ∷ []) (length xs) ≡ Some y
get-push_new [] y = refl
get-push_new (x ∷ xs) y = get-push_new xs y

pub get-push_cases : {X : Type 0} (xs : List X) (y q : X) (k : ℕ) → slice_get (xs ++ y ∷ []) k ≡ Some q
    → (slice_get xs k ≡ Some q) ⊎ ((k ≡ length xs) × (y ≡ q))
get-push_cases [] y q zero e = inr (refl, same_Some y q e)
get-push_cases [] y q (suc k) e = inl e
get-push_cases (x ∷ xs) y q zero e = inl e
get-push_cases (x ∷ xs) y q (suc k) e = elim (get-push_cases xs y q k e) [ inl h ↦ inl h | inr h ↦ inr (ap suc h.0, h.1) ]

pub filter-range_more : (t : ℕ → Bool) (a n : ℕ) → filter t (range_with_len a (n + 1))
    ≡ filter t (range_with_len a n) ++ cond (t (a + n)) ((a + n) ∷ []) []
filter-range_more t a zero = let e : a + 0 ≡ a = omega arith in rw e refl
filter-range_more t a (suc n) =
    let e : suc n + 1 ≡ suc (n + 1) = omega arith in
    let f : a + suc n ≡ a + 1 + n = omega arith in
    rw (e, f) (cond_both (t a) (a ∷ filter t (range_with_len (a + 1) (n + 1))) (filter t (range_with_len (a + 1) (n + 1)))
    (λ zs. zs ≡ cond (t a) (a ∷ filter t (range_with_len (a + 1) n)) (filter t (range_with_len (a + 1) n)) ++ cond (t (a + 1 + n)) ((a + 1 + n) ∷ [])
    [])
    (λ h. rw h (ap (λ zs. a ∷ zs) (filter-range_more t (a + 1) n)))
    (λ h. rw h (filter-range_more t (a + 1) n)))

abbrev pub FoundAt : List ℕ → ℕ → Type 0
FoundAt xs s = (j : ℕ) × (j < length xs) × (get_or xs j 0 ≡ s)

-- a number of the range that passes stands somewhere in the filtered list
pub filter-range_finds : (t : ℕ → Bool) (a n s : ℕ) → a ≤ s → s < a + n → t s ≡ true → FoundAt (filter t (range_with_len a n)) s
filter-range_finds t a zero s low high e = absurd (omega arith)
filter-range_finds t a (suc n) s low high e = cond_both (t a) (a ∷ filter t (range_with_len (a + 1) n)) (filter t (range_with_len (a + 1) n))
    (λ ys. FoundAt ys s)
    (λ passes. elim (cases_eq a s) [
      | inl same ↦ (0, omega arith, same)
      | inr other ↦ let (j, l, h) = filter-range_finds t (a + 1) n s (omega arith) (omega arith) e in (suc j, omega arith, h)
    ])
    (λ fails. elim (cases_eq a s) [
      | inl same ↦ absurd (false≢true (sym fails ∙ ap t same ∙ e))
      | inr other ↦ filter-range_finds t (a + 1) n s (omega arith) (omega arith) e
    ])

-- x is an element of the list
abbrev pub StandsIn : {X : Type 0} → List X → X → Type 0
StandsIn xs x = (j : ℕ) × (slice_get xs j ≡ Some x)

-- an element that passes stands in the filtered list
pub StandsIn-filter : {X : Type 0} (t : X → Bool) (xs : List X) (x : X) (j : ℕ) → slice_get xs j ≡ Some x → t x ≡ true → StandsIn (filter t xs) x
StandsIn-filter t [] x j h e = absurd (none-some x h)
StandsIn-filter t (y ∷ ys) x zero h e = cond_both (t y) (y ∷ filter t ys) (filter t ys) (λ zs. StandsIn zs x)
    (λ passes. (0, h))
    (λ fails. absurd (false≢true (sym fails ∙ ap t (same_Some y x h) ∙ e)))
StandsIn-filter t (y ∷ ys) x (suc j) h e =
    let (i, g) = StandsIn-filter t ys x j h e in
    cond_both (t y) (y ∷ filter t ys) (filter t ys) (λ zs. StandsIn zs x) (λ passes. (suc i, g)) (λ fails. (i, g))

pub read_at : (xs : List ℕ) (i x : ℕ) → i < length xs → x ≡ get_or xs i x → get_or xs i 0 ≡ x
read_at [] i x l e = absurd (omega arith)
read_at (y ∷ ys) zero x l e = sym e
read_at (y ∷ ys) (suc i) x l e = read_at ys i x (omega arith) e

pub filter_finds : (t : ℕ → Bool) (xs : List ℕ) (s : ℕ) → FoundAt xs s → t s ≡ true → FoundAt (filter t xs) s
filter_finds t [] s (j, l, h) e = absurd (omega arith)
filter_finds t (x ∷ xs) s (zero, l, h) e = cond_both (t x) (x ∷ filter t xs) (filter t xs) (λ ys. FoundAt ys s)
    (λ passes. (0, omega arith, h))
    (λ fails. absurd (false≢true (sym fails ∙ ap t h ∙ e)))
filter_finds t (x ∷ xs) s (suc j, l, h) e =
    let (i, k, g) = filter_finds t xs s (j, omega arith, h) e in
    cond_both (t x) (x ∷ filter t xs) (filter t xs) (λ ys. FoundAt ys s) (λ passes. (suc i, omega arith, g)) (λ fails. (i, k, g))
