-- Steps of loops over lists.
use Rattle.std.proofs.Common.{◌≡◌, ℕ, ◌+◌, ◌<◌, List, [], ◌∷◌, ◌++◌, length, get_or, map, take, refl, sym, ◌∙◌, ap, subst, append-nil}
use Rattle.std.specs.List.{AllZip}
use Rattle.std.proofs.lemmas.List.{take_more}
use Rattle.session_core.proofs.RunLemmas.{zip-push}

-- one item was moved from the front of a list that still comes to the end of those that came
pub moved_more : {A B : Type 0} (f : A → B) (xs ys : List A) (x : A) (b : B) (old new all : List B) → map f xs ++ old ≡ all → old ≡ b ∷ new → f x ≡ b
    → ys ≡ xs ++ x ∷ [] → map f ys ++ new ≡ all
moved_more {A} f xs ys x b old new all whole front is pushed =
    ap (λ zs. map f zs ++ new) pushed ∙ one xs ∙ ap (λ c. map f xs ++ c ∷ new) is ∙ ap (λ zs. map f xs ++ zs) (sym front) ∙ whole
  where
    one : (zs : List A) → map f (zs ++ x ∷ []) ++ new ≡ map f zs ++ f x ∷ new
    one [] = refl
    one (z ∷ zs) = ap (λ ws. f z ∷ ws) (one zs)

-- nothing is left to come
pub moved_all : {A B : Type 0} (f : A → B) (xs : List A) (rest all : List B) → map f xs ++ rest ≡ all → length rest ≡ 0 → map f xs ≡ all
moved_all f xs [] all whole none = sym (append-nil (map f xs)) ∙ whole
moved_all f xs (b ∷ rest) all whole none = absurd cc

-- one pair more
pub zip_more : {A B : Type 0} (R : A → B → Type 0) (xs : List A) (ys new : List B) (i : ℕ) (x : A) (y : B) → i < length xs → x ≡ get_or xs i x
    → AllZip R (take i xs) ys → R x y → new ≡ ys ++ y ∷ [] → AllZip R (take (i + 1) xs) new
zip_more R xs ys new i x y within here before last pushed =
    subst (λ zs. AllZip R (take (i + 1) xs) zs) (sym pushed)
    (subst (λ zs. AllZip R zs (ys ++ y ∷ [])) (ap (λ z. take i xs ++ z ∷ []) here ∙ sym (take_more xs i x within)) (zip-push R (take i xs) ys x y before last))
