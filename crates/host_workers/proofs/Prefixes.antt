-- Lists that begin with another, and the items that a filter keeps.
use Rattle.std.proofs.Common.{◌≡◌, ℕ, zero, suc, ◌≤◌, Bool, true, false, cond, List, [], ◌∷◌, length, take, filter, Some, slice_get, sym, ap, ◌∙◌}
use Rattle.std.proofs.lemmas.List.{take-append-le}
use Rattle.std.proofs.lemmas.Option.{same_Some, slice_get_within}
use mathlib.Core.List.{IsPrefix}
use Rattle.session_core.proofs.RunLemmas.{get-append_left}

-- what stands in a list stands in each that begins with it
pub prefix_get : {E : Type 0} (xs ys : List E) (k : ℕ) (x : E) → IsPrefix xs ys → slice_get xs k ≡ Some x → slice_get ys k ≡ Some x
prefix_get {E} xs ys k x begins at =
    ap (λ (l : List E). slice_get l k) (sym begins.1) ∙ get-append_left xs begins.0 k (slice_get_within xs k x at) ∙ at

-- and their first items are the same
pub prefix_take : {E : Type 0} (xs ys : List E) (n : ℕ) → IsPrefix xs ys → n ≤ length xs → take n ys ≡ take n xs
prefix_take xs ys n begins within = ap (take n) (sym begins.1) ∙ take-append-le n xs begins.0 within

-- an item that passes a test stands among those that do
pub filter_get : {E : Type 0} (test : E → Bool) (xs : List E) (k : ℕ) (x : E) → slice_get xs k ≡ Some x → test x ≡ true
    → (j : ℕ) × (slice_get (filter test xs) j ≡ Some x)
filter_get test [] k x at passes = absurd cc
filter_get {E} test (y ∷ xs) zero x at passes = (
  0,
  ap (λ (b : Bool). slice_get (cond b (y ∷ filter test xs) (filter test xs)) 0) (ap test (same_Some y x at) ∙ passes) ∙ at,
)
filter_get {E} test (y ∷ xs) (suc k) x at passes = past (test y) (filter_get test xs k x at passes)
  where
    past : (b : Bool) → (j : ℕ) × (slice_get (filter test xs) j ≡ Some x)
        → (j : ℕ) × (slice_get (cond b (y ∷ filter test xs) (filter test xs)) j ≡ Some x)
    past true there = (suc there.0, there.1)
    past false there = there
