-- Decimal numbers in texts, of any length.
--   is_digit b           b is a digit from 0 to 9
--   is_natural token     one or more digits, leading zeros allowed
--   value_after n ds     the number that digits stand for where they follow those of n
--   natural_of ds        the number that the digits stand for
--   is_integer token     a natural, or a minus and a natural
--   integer_of token     the number that it stands for; -0 is 0
--   capped_natural c t, capped_integer c t   these numbers, with each magnitude above c taken for c
--   NumeralsRead         law: the numeral of a number is read as that number
--   CapsLoseNothing      law: a cap changes no magnitude up to it, and makes no greater one smaller than it
use Rattle.std.specs.Prelude.{◌≡◌, ◌≤◌, ℕ, ℤ, pos, neg_ℤ, unsigned_abs, ◌+◌, ◌-◌, ◌*◌, ◌^◌, ◌<◌, min, Bool, true, false, List, [], ◌∷◌, ◌==◌, ◌&&◌, nat_le, if◌then◌else◌, decimal}
use Rattle.std.specs.List.{list_all}

abbrev pub is_digit : ℕ → Bool
is_digit b = nat_le 48 b && nat_le b 57

abbrev pub is_natural : List ℕ → Bool
is_natural [] = false
is_natural (b ∷ token) = list_all is_digit (b ∷ token)

-- the number that digits stand for where they follow those of n
abbrev pub value_after : ℕ → List ℕ → ℕ
value_after n [] = n
value_after n (b ∷ digits) = value_after (10 * n + (b - 48)) digits

abbrev pub natural_of : List ℕ → ℕ
natural_of digits = value_after 0 digits

abbrev pub is_integer : List ℕ → Bool
is_integer [] = false
is_integer (b ∷ token) = if b == 45 then is_natural token else is_natural (b ∷ token)

abbrev pub integer_of : List ℕ → ℤ
integer_of [] = pos 0
integer_of (b ∷ token) = if b == 45 then neg_ℤ (pos (natural_of token)) else pos (natural_of (b ∷ token))

abbrev pub capped_natural : ℕ → List ℕ → ℕ
capped_natural cap digits = min (natural_of digits) cap

abbrev pub capped_integer : ℕ → List ℕ → ℤ
capped_integer cap [] = pos 0
capped_integer cap (b ∷ token) = if b == 45 then neg_ℤ (pos (capped_natural cap token)) else pos (capped_natural cap (b ∷ token))

abbrev pub NumeralsRead : Type 0
NumeralsRead = (n : ℕ) → n < 2 ^ 64 → (is_natural (decimal n) ≡ true) × (natural_of (decimal n) ≡ n)

abbrev pub CapsLoseNothing : Type 0
CapsLoseNothing = (cap : ℕ) (token : List ℕ) →
    (natural_of token ≤ cap → capped_natural cap token ≡ natural_of token)
    × (cap ≤ natural_of token → capped_natural cap token ≡ cap)
    × (unsigned_abs (integer_of token) ≤ cap → capped_integer cap token ≡ integer_of token)
    × (cap ≤ unsigned_abs (integer_of token) → unsigned_abs (capped_integer cap token) ≡ cap)
