-- What a number prints as, and what its digits stand for.
use Rattle.std.proofs.Common.{◌≡◌, ℕ, ◌<◌, ◌≤◌, ◌^◌, true, false, List, [], ◌∷◌, length, decimal, ◌∙◌, arith, rules, inl, inr, ◌⊎◌}
use Rattle.std.specs.List.{list_all}
use Rattle.std.proofs.lemmas.Str.Parse.{IsNumeralModel, numerals_by_fold}
use Rattle.std.proofs.lemmas.Fmt.{digits_decimal, digits_value-decimal, decimal_nonempty}
use Rattle.text_lines.specs.Numbers.{is_digit, is_natural, natural_of, value_after}

own : IsNumeralModel (λ ds. list_all is_digit ds ≡ true) (value_after 0)
own = numerals_by_fold _ (search rules) value_after (search rules)

is_natural-digits : (ds : List ℕ) → 0 < length ds → list_all is_digit ds ≡ true → is_natural ds ≡ true
is_natural-digits [] some h = absurd (omega arith)
is_natural-digits (d ∷ ds) some h = h

pub is_natural-decimal : (n : ℕ) → n < 2 ^ 64 → is_natural (decimal n) ≡ true
is_natural-decimal n lt = is_natural-digits (decimal n) (decimal_nonempty n lt) (digits_decimal own n lt)

pub natural_of-decimal : (n : ℕ) → n < 2 ^ 64 → natural_of (decimal n) ≡ n
natural_of-decimal n lt = digits_value-decimal own n lt

-- what isn't a number below 2 ^ 64 is no numeral of one
pub not_decimal : (token : List ℕ) → ((is_natural token ≡ false) ⊎ (2 ^ 64 ≤ natural_of token)) → (n : ℕ) → n < 2 ^ 64 → token ≡ decimal n → ⊥
not_decimal token (inl none) n lt e =
    let fits : is_natural token ≡ true = rw e (is_natural-decimal n lt) in absurd cc
not_decimal token (inr large) n lt e =
    let value : natural_of token ≡ n = rw e (natural_of-decimal n lt) in omega arith

-- a numeral is that of the number that its digits stand for
pub decimal-value : (token : List ℕ) (v n : ℕ) → v ≡ natural_of token → n < 2 ^ 64 → token ≡ decimal n → token ≡ decimal v
decimal-value token v n is lt e =
    let same : v ≡ n = is ∙ rw e (natural_of-decimal n lt) in rw same e
