-- Lists that begin with what a pass has seen.
use Rattle.std.proofs.Common.{zero, suc, ◌≡◌, ℕ, ◌+◌, ◌<◌, ◌≤◌, List, [], ◌∷◌, ◌++◌, length, drop, refl, sym, ap, ◌∙◌, arith, length-append, append_assoc}
use Rattle.std.specs.List.{AllByRecursion}
use mathlib.Core.List.{IsPrefix}
use Rattle.turn_board.specs.Views.{HasSeen}

-- a list is as long as what it begins with, or longer
pub prefix_length : {E : Type 0} (xs ys : List E) → IsPrefix xs ys → length xs ≤ length ys
prefix_length xs ys p = let e = ap length p.1 in omega (arith, length-append xs p.0)

pub none_past : {E : Type 0} (P : E → Type 0) (xs : List E) → AllByRecursion P (drop (length xs) xs)
none_past P [] = tt
none_past P (x ∷ xs) = none_past P xs

pub whole : {E : Type 0} (xs : List E) → IsPrefix xs xs
whole [] = ([], refl)
whole (x ∷ xs) = let p = whole xs in (p.0, ap (λ ys. x ∷ ys) p.1)

pub past_more : {E : Type 0} (P : E → Type 0) (e : E) (xs : List E) (n : ℕ) → n ≤ length xs → AllByRecursion P (drop n xs) → P e →
    AllByRecursion P (drop n (xs ++ e ∷ []))
past_more P e [] zero le h pe = (pe, tt)
past_more P e [] (suc n) le h pe = absurd (omega arith)
past_more P e (x ∷ xs) zero le h pe = (h.0, past_more P e xs zero (omega arith) h.1 pe)
past_more P e (x ∷ xs) (suc n) le h pe = past_more P e xs n (omega arith) h pe

-- the same at 0
pub all_more : {E : Type 0} (P : E → Type 0) (e : E) (xs : List E) → AllByRecursion P xs → P e → AllByRecursion P (xs ++ e ∷ [])
all_more P e xs h pe = past_more P e xs 0 (omega arith) h pe

pub all_map : {E : Type 0} (P Q : E → Type 0) (xs : List E) → ((x : E) → P x → Q x) → AllByRecursion P xs → AllByRecursion Q xs
all_map P Q [] f h = tt
all_map P Q (x ∷ xs) f h = (f x h.0, all_map P Q xs f h.1)

-- two facts of each
pub all_both : {E : Type 0} (P Q R : E → Type 0) (xs : List E) → ((x : E) → P x → Q x → R x) → AllByRecursion P xs → AllByRecursion Q xs →
    AllByRecursion R xs
all_both P Q R [] f h k = tt
all_both P Q R (x ∷ xs) f h k = (f x h.0 k.0, all_both P Q R xs f h.1 k.1)

pub all_append : {E : Type 0} (P : E → Type 0) (xs ys : List E) → AllByRecursion P xs → AllByRecursion P ys → AllByRecursion P (xs ++ ys)
all_append P [] ys h k = k
all_append P (x ∷ xs) ys h k = (h.0, all_append P xs ys h.1 k)

module _ {E : Type 0} (maker : E → ℕ) where
  -- who has seen a list has seen it
  pub seen_all : (number : ℕ) (log : List E) → HasSeen maker number log log
  seen_all number log = record { begins = whole log; own = none_past (λ e. ¬ (maker e ≡ number + 1)) log }

  -- another pass's entry came to the list
  pub seen_more : (number : ℕ) (seen log : List E) (e : E) → HasSeen maker number seen log → ¬ (maker e ≡ number + 1) →
      HasSeen maker number seen (log ++ e ∷ [])
  seen_more number seen log e h other = record {
    begins = (h.begins.0 ++ e ∷ [], sym (append_assoc seen h.begins.0 (e ∷ [])) ∙ ap (λ (l : List E). l ++ e ∷ []) h.begins.1);
    own = past_more (λ (f : E). ¬ (maker f ≡ number + 1)) e log (length seen) (prefix_length seen log h.begins) h.own other;
  }

  -- a pass that was given its number just now has made no entry
  pub seen_none : (number given : ℕ) (seen log : List E) → given ≤ number → IsPrefix seen log →
      AllByRecursion (λ e. (0 < maker e) × (maker e ≤ given)) log → HasSeen maker number seen log
  seen_none number given seen log late begins makers = record {
    begins = begins;
    own = dropped log (length seen) makers;
  } where
    dropped : (l : List E) (n : ℕ) → AllByRecursion (λ e. (0 < maker e) × (maker e ≤ given)) l →
        AllByRecursion (λ e. ¬ (maker e ≡ number + 1)) (drop n l)
    dropped [] zero h = tt
    dropped [] (suc n) h = tt
    dropped (x ∷ xs) zero h = ((λ z. omega (arith, h.0.1)), dropped xs zero h.1)
    dropped (x ∷ xs) (suc n) h = dropped xs n h.1
