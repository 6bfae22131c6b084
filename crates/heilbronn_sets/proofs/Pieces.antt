-- Filters and joined pieces over a range.
use Rattle.std.proofs.Common.{◌≡◌, ◌≢◌, ◌+◌, ◌-◌, ◌<◌, ◌≤◌, ℕ, zero, suc, Bool, true, false, cond, List, [], ◌∷◌, ◌++◌, refl, ◌∙◌, ap, inl, inr, arith}
use Rattle.std.specs.Prelude.{map, filter}
use Rattle.std.specs.List.{range_with_len, flat_map}
use Rattle.std.proofs.lemmas.Bool.{cases_eq}
use Rattle.std.proofs.lemmas.List.{append-nil}
use Rattle.std.proofs.lemmas.List.Elements.{filter-append}
use Rattle.std.proofs.lemmas.List.FromFn.{filter_of_map_range_with_len_more}

-- a filter of joined pieces joins the filtered pieces
pub filter-flat_map : {X A : Type 0} (p : A → Bool) (f : X → List A) (xs : List X) → filter p (flat_map f xs) ≡ flat_map (λ x. filter p (f x)) xs
filter-flat_map p f [] = refl
filter-flat_map p f (x ∷ xs) = filter-append p (f x) (flat_map f xs) ∙ ap (λ ys. filter p (f x) ++ ys) (filter-flat_map p f xs)

-- equal pieces join to one list
pub flat_map-same : {X A : Type 0} (f g : X → List A) → ((x : X) → f x ≡ g x) → (xs : List X) → flat_map f xs ≡ flat_map g xs
flat_map-same f g h [] = refl
flat_map-same f g h (x ∷ xs) = ap (λ ys. ys ++ flat_map f xs) (h x) ∙ ap (λ ys. g x ++ ys) (flat_map-same f g h xs)

-- the pieces of a range and one more
from_more : {A : Type 0} (f : ℕ → List A) (a n : ℕ) → flat_map f (range_with_len a (n + 1)) ≡ flat_map f (range_with_len a n) ++ f (a + n)
from_more f a zero = let e : a + 0 ≡ a = omega arith in rw e (append-nil (f a))
from_more f a (suc n) =
    let e : suc n + 1 ≡ suc (n + 1) = omega arith in
    let g : a + suc n ≡ a + 1 + n = omega arith in
    rw (e, g) (ap (λ ys. f a ++ ys) (from_more f (a + 1) n) ∙ joined (f a) (flat_map f (range_with_len (a + 1) n)) (f (a + 1 + n)))
  where
    joined : {A : Type 0} (xs ys zs : List A) → xs ++ (ys ++ zs) ≡ (xs ++ ys) ++ zs
    joined [] ys zs = refl
    joined (x ∷ xs) ys zs = ap (λ us. x ∷ us) (joined xs ys zs)

pub flat_map-range_more : {A : Type 0} (f : ℕ → List A) (n : ℕ) → flat_map f (range_with_len 0 (n + 1)) ≡ flat_map f (range_with_len 0 n) ++ f n
flat_map-range_more f n = let e : 0 + n ≡ n = omega arith in from_more f 0 n ∙ ap (λ j. flat_map f (range_with_len 0 n) ++ f j) e

-- pieces that are empty from k on add nothing
and_more : {A : Type 0} (f : ℕ → List A) (k m : ℕ) → ((j : ℕ) → k ≤ j → f j ≡ [])
    → flat_map f (range_with_len 0 (k + m)) ≡ flat_map f (range_with_len 0 k)
and_more f k zero h = let e : k + 0 ≡ k = omega arith in ap (λ n. flat_map f (range_with_len 0 n)) e
and_more f k (suc m) h =
    let e : k + suc m ≡ k + m + 1 = omega arith in
    ap (λ n. flat_map f (range_with_len 0 n)) e ∙ flat_map-range_more f (k + m)
    ∙ ap (λ ys. flat_map f (range_with_len 0 (k + m)) ++ ys) (h (k + m) (omega arith))
    ∙ append-nil (flat_map f (range_with_len 0 (k + m))) ∙ and_more f k m h

pub flat_map-range_part : {A : Type 0} (f : ℕ → List A) (k n : ℕ) → k ≤ n → ((j : ℕ) → k ≤ j → f j ≡ [])
    → flat_map f (range_with_len 0 n) ≡ flat_map f (range_with_len 0 k)
flat_map-range_part f k n l h = let e : n ≡ k + (n - k) = omega arith in ap (λ m. flat_map f (range_with_len 0 m)) e ∙ and_more f k (n - k) h

-- nothing of a range passes
pub filter-range_none : {X : Type 0} (p : X → Bool) (f : ℕ → X) (n : ℕ) → ((j : ℕ) → p (f j) ≡ false) → filter p (map f (range_with_len 0 n)) ≡ []
filter-range_none p f zero h = refl
filter-range_none p f (suc n) h =
    let e : suc n ≡ n + 1 = omega arith in
    ap (λ m. filter p (map f (range_with_len 0 m))) e ∙ filter_of_map_range_with_len_more p f 0 n n (omega arith)
    ∙ ap (λ t. filter p (map f (range_with_len 0 n)) ++ cond t (f n ∷ []) []) (h n) ∙ append-nil (filter p (map f (range_with_len 0 n)))
    ∙ filter-range_none p f n h

-- one of a range passes at most, and it is within
one_below : {X : Type 0} (p : X → Bool) (f : ℕ → X) (q n : ℕ) → ((j : ℕ) → j ≢ q → p (f j) ≡ false) → n ≤ q
    → filter p (map f (range_with_len 0 n)) ≡ []
one_below p f q zero h l = refl
one_below p f q (suc n) h l =
    let e : suc n ≡ n + 1 = omega arith in
    ap (λ m. filter p (map f (range_with_len 0 m))) e ∙ filter_of_map_range_with_len_more p f 0 n n (omega arith)
    ∙ ap (λ t. filter p (map f (range_with_len 0 n)) ++ cond t (f n ∷ []) []) (h n (omega arith)) ∙ append-nil (filter p (map f (range_with_len 0 n)))
    ∙ one_below p f q n h (omega arith)

-- one of a range passes, and no other
pub filter-range_one : {X : Type 0} (p : X → Bool) (f : ℕ → X) (q n : ℕ) → q < n → p (f q) ≡ true → ((j : ℕ) → j ≢ q → p (f j) ≡ false)
    → filter p (map f (range_with_len 0 n)) ≡ f q ∷ []
filter-range_one p f q zero l here h = absurd (omega arith)
filter-range_one p f q (suc n) l here h =
    let e : suc n ≡ n + 1 = omega arith in
    ap (λ m. filter p (map f (range_with_len 0 m))) e ∙ filter_of_map_range_with_len_more p f 0 n n (omega arith) ∙ elim (cases_eq n q) [
      | inl same ↦ ap (λ xs. xs ++ cond (p (f n)) (f n ∷ []) []) (one_below p f q n h (omega arith)) ∙ ap (λ j. cond (p (f j)) (f j ∷ []) []) same
          ∙ ap (λ t. cond t (f q ∷ []) []) here
      | inr other ↦ ap (λ t. filter p (map f (range_with_len 0 n)) ++ cond t (f n ∷ []) []) (h n other)
          ∙ append-nil (filter p (map f (range_with_len 0 n))) ∙ filter-range_one p f q n (omega arith) here h
    ]
