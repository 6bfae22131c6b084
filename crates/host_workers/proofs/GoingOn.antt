-- Lists that go on, and what they gain of a session.
use Rattle.std.proofs.Common.{◌≡◌, ◌⊎◌, inl, inr, ℕ, zero, suc, ◌+◌, ◌≤◌, List, [], ◌∷◌, ◌++◌, length, length-append, take, drop, Some, slice_get, refl, sym, ◌∙◌, ap, subst, arith, append_assoc, append-nil}
use Rattle.std.specs.List.{AllByRecursion}
use Rattle.std.proofs.Math.Seq.{take-append_seam, drop-append_seam}
use Rattle.std.proofs.lemmas.List.{take-append-le}
use Rattle.std.proofs.lemmas.Option.{same_Some, slice_get_within}
use mathlib.Core.List.{IsPrefix}
use Rattle.turn_board.specs.Views.{HasSeen}
use Rattle.session_core.proofs.RunLemmas.{get-append_left}
use Rattle.host_workers.specs.Sessions.{GoesOn}

pub prefix_refl : {E : Type 0} (xs : List E) → IsPrefix xs xs
prefix_refl xs = ([], append-nil xs)

pub prefix_trans : {E : Type 0} (xs ys zs : List E) → IsPrefix xs ys → IsPrefix ys zs → IsPrefix xs zs
prefix_trans xs ys zs p q = (p.0 ++ q.0, sym (append_assoc xs p.0 q.0) ∙ ap (λ es. es ++ q.0) p.1 ∙ q.1)

pub prefix_of_append : {E : Type 0} (xs rest : List E) → IsPrefix xs (xs ++ rest)
prefix_of_append xs rest = (rest, refl)

pub prefix-length : {E : Type 0} (xs ys : List E) → IsPrefix xs ys → length xs ≤ length ys
prefix-length xs ys p = let e = ap length p.1 in omega (arith, length-append xs p.0)

-- what stands in a list stands in one that goes on from it
pub prefix_get : {E : Type 0} (xs ys : List E) (k : ℕ) (e : E) → IsPrefix xs ys → slice_get xs k ≡ Some e → slice_get ys k ≡ Some e
prefix_get xs ys k e p at =
    ap (λ es. slice_get es k) (sym p.1) ∙ get-append_left xs p.0 k (slice_get_within xs k e at) ∙ at

-- and its beginnings are those of the list
pub prefix_take : {E : Type 0} (xs ys : List E) (n : ℕ) → n ≤ length xs → IsPrefix xs ys → take n ys ≡ take n xs
prefix_take xs ys n within p = ap (take n) (sym p.1) ∙ take-append-le n xs p.0 within

pub prefix_whole : {E : Type 0} (xs ys : List E) → IsPrefix xs ys → take (length xs) ys ≡ xs
prefix_whole xs ys p = ap (take (length xs)) (sym p.1) ∙ take-append_seam xs p.0

-- a list that is no longer than one from which it goes on is that one
pub prefix_same : {E : Type 0} (xs ys : List E) → IsPrefix xs ys → length ys ≤ length xs → ys ≡ xs
prefix_same xs ys p short = sym p.1 ∙ ap (λ es. xs ++ es) (none p.0 (omega (arith, ap length p.1, length-append xs p.0))) ∙ append-nil xs
  where
    none : {E : Type 0} (es : List E) → length es ≤ 0 → es ≡ []
    none [] l = refl
    none (e ∷ es) l = absurd (omega arith)

-- the beginning of a list of this length
pub prefix_of_take : {E : Type 0} (n : ℕ) (xs : List E) → IsPrefix (take n xs) xs
prefix_of_take zero xs = (xs, refl)
prefix_of_take (suc n) [] = ([], refl)
prefix_of_take (suc n) (x ∷ xs) = let p = prefix_of_take n xs in (p.0, ap (λ es. x ∷ es) p.1)

all_at : {E : Type 0} (P : E → Type 0) (xs : List E) (w : ℕ) (e : E) → AllByRecursion P xs → slice_get xs w ≡ Some e → P e
all_at P [] w e all at = absurd cc
all_at P (x ∷ xs) zero e all at = subst P (same_Some x e at) all.0
all_at P (x ∷ xs) (suc w) e all at = all_at P xs w e all.1 at

past_at : {E : Type 0} (P : E → Type 0) (xs rest : List E) (w : ℕ) (e : E) → AllByRecursion P rest → slice_get (xs ++ rest) w ≡ Some e
    → (slice_get xs w ≡ Some e) ⊎ P e
past_at P [] rest w e all at = inr (all_at P rest w e all at)
past_at P (x ∷ xs) rest zero e all at = inl at
past_at P (x ∷ xs) rest (suc w) e all at = past_at P xs rest w e all at

-- where a pass has seen a list, it goes on from what the pass had seen
pub goes_on : {E : Type 0} (maker : E → ℕ) (number : ℕ) (seen log : List E) → HasSeen maker number seen log → GoesOn maker (number + 1) seen log
goes_on {E} maker number seen log h = record {
  begins = h.begins;
  own = λ w e at mine.
      let rest : AllByRecursion (λ e. ¬ (maker e ≡ number + 1)) h.begins.0 =
      subst (AllByRecursion (λ e. ¬ (maker e ≡ number + 1)))
      (ap (drop (length seen)) (sym h.begins.1) ∙ drop-append_seam seen h.begins.0) h.own in
      elim (past_at (λ e. ¬ (maker e ≡ number + 1)) seen h.begins.0 w e rest (ap (λ es. slice_get es w) h.begins.1 ∙ at)) [
        | inl there ↦ there
        | inr other ↦ absurd (other mine)
      ];
}

pub goes_on_same : {E : Type 0} (maker : E → ℕ) (s : ℕ) (xs : List E) → GoesOn maker s xs xs
goes_on_same maker s xs = record { begins = prefix_refl xs; own = λ w e at mine. at }

pub goes_on_then : {E : Type 0} (maker : E → ℕ) (s : ℕ) (xs ys zs : List E) → GoesOn maker s xs ys → GoesOn maker s ys zs → GoesOn maker s xs zs
goes_on_then maker s xs ys zs a b = record {
  begins = prefix_trans xs ys zs a.begins b.begins;
  own = λ w e at mine. a.own w e (b.own w e at mine) mine;
}
