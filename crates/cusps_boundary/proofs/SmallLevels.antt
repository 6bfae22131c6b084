-- The definitions compute.
use Rattle.std.proofs.Common.{◌≡◌, [], ◌∷◌, refl}
use Rattle.p1_normal.specs.Units.{gcd}
use Rattle.p1_normal.specs.Points.{symbols, is_symbol, normal_form, number}
use Rattle.p1_normal.specs.Actions.{image, image_number}
use Rattle.cusps_boundary.specs.Cusps.{cusps}

pub cusps-one : cusps 1 ≡ 0 ∷ []
unfolding cusps image_number number image symbols is_symbol normal_form gcd
cusps-one = refl

pub cusps-four : cusps 4 ≡ 0 ∷ 1 ∷ 5 ∷ []
unfolding cusps image_number number image symbols is_symbol normal_form gcd
cusps-four = refl

pub cusps-eleven : cusps 11 ≡ 0 ∷ 1 ∷ []
unfolding cusps image_number number image symbols is_symbol normal_form gcd
cusps-eleven = refl
