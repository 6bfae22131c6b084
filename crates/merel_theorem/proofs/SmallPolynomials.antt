-- The factorisations and polynomials of small numbers.
use Rattle.std.proofs.Common.{◌≡◌, [], ◌∷◌, refl}
use Rattle.std.specs.Prelude.{pos, neg_ℤ}
use Rattle.merel_theorem.specs.PrimePowers.{prime_powers}
use Rattle.merel_theorem.specs.Polynomials.{term, hecke_polynomial}

powers_one : prime_powers 1 ≡ []
unfolding prime_powers
powers_one = refl

powers_twelve : prime_powers 12 ≡ (2, 2) ∷ (3, 1) ∷ []
unfolding prime_powers
powers_twelve = refl

powers_thirteen : prime_powers 13 ≡ (13, 1) ∷ []
unfolding prime_powers
powers_thirteen = refl

powers_ninety : prime_powers 90 ≡ (2, 1) ∷ (3, 2) ∷ (5, 1) ∷ []
unfolding prime_powers
powers_ninety = refl

-- T_1 = 1
pub one : hecke_polynomial 1 ≡ term (pos 1) [] ∷ []
unfolding hecke_polynomial prime_powers
one = refl

-- T_2 and T_4 = T_2^2 - 2
pub two : hecke_polynomial 2 ≡ term (pos 1) (2 ∷ []) ∷ []
unfolding hecke_polynomial prime_powers
two = refl

pub four : hecke_polynomial 4 ≡ term (pos 1) (2 ∷ 2 ∷ []) ∷ term (neg_ℤ (pos 2)) [] ∷ []
unfolding hecke_polynomial prime_powers
four = refl

-- T_8 = T_2^3 - 4 T_2
pub eight : hecke_polynomial 8 ≡ term (pos 1) (2 ∷ 2 ∷ 2 ∷ []) ∷ term (neg_ℤ (pos 4)) (2 ∷ []) ∷ []
unfolding hecke_polynomial prime_powers
eight = refl

-- T_16 = T_2^4 - 6 T_2^2 + 4
sixteen : hecke_polynomial 16 ≡ term (pos 1) (2 ∷ 2 ∷ 2 ∷ 2 ∷ []) ∷ term (neg_ℤ (pos 6)) (2 ∷ 2 ∷ []) ∷ term (pos 4) [] ∷ []
unfolding hecke_polynomial prime_powers
sixteen = refl

-- T_9 = T_3^2 - 3 and T_27 = T_3^3 - 6 T_3
pub nine : hecke_polynomial 9 ≡ term (pos 1) (3 ∷ 3 ∷ []) ∷ term (neg_ℤ (pos 3)) [] ∷ []
unfolding hecke_polynomial prime_powers
nine = refl

pub twenty_seven : hecke_polynomial 27 ≡ term (pos 1) (3 ∷ 3 ∷ 3 ∷ []) ∷ term (neg_ℤ (pos 6)) (3 ∷ []) ∷ []
unfolding hecke_polynomial prime_powers
twenty_seven = refl

-- T_6 = T_2 T_3
pub six : hecke_polynomial 6 ≡ term (pos 1) (2 ∷ 3 ∷ []) ∷ []
unfolding hecke_polynomial prime_powers
six = refl

-- T_12 = (T_2^2 - 2) T_3
pub twelve : hecke_polynomial 12 ≡ term (pos 1) (2 ∷ 2 ∷ 3 ∷ []) ∷ term (neg_ℤ (pos 2)) (3 ∷ []) ∷ []
unfolding hecke_polynomial prime_powers
twelve = refl

-- T_36 = (T_2^2 - 2) (T_3^2 - 3)
thirty_six : hecke_polynomial 36
    ≡ term (pos 1) (2 ∷ 2 ∷ 3 ∷ 3 ∷ []) ∷ term (neg_ℤ (pos 3)) (2 ∷ 2 ∷ []) ∷ term (neg_ℤ (pos 2)) (3 ∷ 3 ∷ []) ∷ term (pos 6) [] ∷ []
unfolding hecke_polynomial prime_powers
thirty_six = refl
