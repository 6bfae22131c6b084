-- Reading the digits of a number one after the other, up to a cap.
use Rattle.std.proofs.Common.{◌≡◌, ℕ, zero, suc, pos, neg_ℤ, Bool, if◌then◌else◌, ap, ◌∙◌, ◌+◌, ◌-◌, ◌*◌, ◌<◌, ◌≤◌, min, true, false, List, [], ◌∷◌, length, get_or, drop, refl, arith, add-one, drop-cons, eqb}
use Rattle.std.specs.List.{list_all}
use Rattle.std.proofs.lemmas.List.{drop_all}
use Rattle.text_lines.specs.Numbers.{is_digit, is_natural, value_after, natural_of, integer_of, capped_natural, capped_integer}
use Rattle.std.specs.Prelude.{unsigned_abs, ◌==◌}

-- where two numbers have one cap, so do those that more digits make of them
capped_same : (cap y z : ℕ) (digits : List ℕ) → min y cap ≡ min z cap → min (value_after y digits) cap ≡ min (value_after z digits) cap
capped_same cap y z [] same = same
capped_same cap y z (b ∷ digits) same = capped_same cap (10 * y + (b - 48)) (10 * z + (b - 48)) digits (omega arith)

pub is_natural-some : (token : List ℕ) → false ≡ eqb (length token) 0 → is_natural token ≡ list_all is_digit token
is_natural-some [] some = absurd cc
is_natural-some (b ∷ token) some = refl

pub digits-next : (token : List ℕ) (i : ℕ) → i < length token → is_digit (get_or token i 0) ≡ true
    → list_all is_digit (drop i token) ≡ list_all is_digit (drop (i + 1) token)
digits-next token i within fits = rw (add-one, drop-cons token i 0, fits) refl

pub digits-stop : (token : List ℕ) (i : ℕ) → i < length token → is_digit (get_or token i 0) ≡ false → list_all is_digit (drop i token) ≡ false
digits-stop token i within fails = rw (drop-cons token i 0, fails) refl

pub value_after-next : (cap : ℕ) (token : List ℕ) (i value : ℕ) → i < length token
    → min (value_after value (drop i token)) cap ≡ min (value_after (min (value * 10 + (get_or token i 0 - 48)) cap) (drop (i + 1) token)) cap
value_after-next cap token i value within =
    rw (drop-cons token i 0, add-one)
    (capped_same cap (10 * value + (get_or token i 0 - 48)) (min (value * 10 + (get_or token i 0 - 48)) cap) (drop (suc i) token) (omega arith))

pub value_after-end : (token : List ℕ) (i value : ℕ) → length token ≤ i
    → (list_all is_digit (drop i token) ≡ true) × (value_after value (drop i token) ≡ value)
value_after-end token i value past = (rw (drop_all i token past) refl, rw (drop_all i token past) refl)

unsigned_abs-neg : (n : ℕ) → unsigned_abs (neg_ℤ (pos n)) ≡ n
unsigned_abs-neg zero = refl
unsigned_abs-neg (suc n) = refl

pub capped_natural-small : (cap : ℕ) (token : List ℕ) → natural_of token ≤ cap → capped_natural cap token ≡ natural_of token
capped_natural-small cap token small = omega arith

pub capped_natural-large : (cap : ℕ) (token : List ℕ) → cap ≤ natural_of token → capped_natural cap token ≡ cap
capped_natural-large cap token large = omega arith

-- a number with or without a minus
signed_same : (minus : Bool) (cap x y : ℕ) → unsigned_abs (if minus then neg_ℤ (pos x) else pos y) ≤ cap
    → (if minus then neg_ℤ (pos (min x cap)) else pos (min y cap)) ≡ (if minus then neg_ℤ (pos x) else pos y)
signed_same true cap x y small = ap (λ n. neg_ℤ (pos n)) (omega (arith, unsigned_abs-neg x))
signed_same false cap x y small = ap pos (omega arith)

signed_large : (minus : Bool) (cap x y : ℕ) → cap ≤ unsigned_abs (if minus then neg_ℤ (pos x) else pos y)
    → unsigned_abs (if minus then neg_ℤ (pos (min x cap)) else pos (min y cap)) ≡ cap
signed_large true cap x y large = unsigned_abs-neg (min x cap) ∙ omega (arith, unsigned_abs-neg x)
signed_large false cap x y large = omega arith

pub capped_integer-small : (cap : ℕ) (token : List ℕ) → unsigned_abs (integer_of token) ≤ cap → capped_integer cap token ≡ integer_of token
capped_integer-small cap [] small = refl
capped_integer-small cap (b ∷ token) small = signed_same (b == 45) cap (natural_of token) (natural_of (b ∷ token)) small

pub capped_integer-large : (cap : ℕ) (token : List ℕ) → cap ≤ unsigned_abs (integer_of token) → unsigned_abs (capped_integer cap token) ≡ cap
capped_integer-large cap [] large = omega arith
capped_integer-large cap (b ∷ token) large = signed_large (b == 45) cap (natural_of token) (natural_of (b ∷ token)) large
