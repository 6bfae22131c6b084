-- The definitions compute.
use Rattle.std.proofs.Common.{◌≡◌, [], ◌∷◌, ◌++◌, refl}
use Rattle.std.specs.Prelude.{map}
use Rattle.std.specs.List.{range_with_len}
use Rattle.p1_normal.specs.Units.{gcd}
use Rattle.p1_normal.specs.Points.{point, symbols, is_symbol, normal_form}

pub symbols-one : symbols 1 ≡ point 0 0 ∷ []
unfolding symbols is_symbol normal_form gcd
symbols-one = refl

pub symbols-four : symbols 4 ≡ point 0 1 ∷ map (point 1) (range_with_len 0 4) ++ point 2 1 ∷ []
unfolding symbols is_symbol normal_form gcd
symbols-four = refl

pub symbols-five : symbols 5 ≡ point 0 1 ∷ map (point 1) (range_with_len 0 5)
unfolding symbols is_symbol normal_form gcd
symbols-five = refl

pub symbols-eleven : symbols 11 ≡ point 0 1 ∷ map (point 1) (range_with_len 0 11)
unfolding symbols is_symbol normal_form gcd
symbols-eleven = refl

pub symbols-twelve : symbols 12 ≡ point 0 1 ∷ map (point 1) (range_with_len 0 12) ++ point 2 1 ∷ point 2 3 ∷ point 2 5 ∷ point 3 1 ∷ point 3 2 ∷ point
    3 4 ∷ point 3 7 ∷ point 4 1 ∷ point 4 3 ∷ point 4 5 ∷ point 6 1 ∷ []
unfolding symbols is_symbol normal_form gcd
symbols-twelve = refl
