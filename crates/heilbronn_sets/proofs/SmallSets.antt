-- The definitions compute.
use Rattle.std.proofs.Common.{◌≡◌, [], ◌∷◌, refl}
use Rattle.std.specs.Prelude.{pos}
use Rattle.p1_normal.specs.Actions.{matrix}
use Rattle.heilbronn_sets.specs.Merel.{quadruples, merel_matrices}

pub merel_matrices-one : merel_matrices 1 ≡ matrix (pos 1) (pos 0) (pos 0) (pos 1) ∷ []
unfolding merel_matrices quadruples
merel_matrices-one = refl

pub merel_matrices-two : merel_matrices 2 ≡ matrix (pos 1) (pos 0) (pos 0) (pos 2) ∷ matrix (pos 1) (pos 0) (pos 1) (pos 2) ∷ matrix (pos 2) (pos 0)
    (pos 0) (pos 1) ∷ matrix (pos 2) (pos 1) (pos 0) (pos 1) ∷ []
unfolding merel_matrices quadruples
merel_matrices-two = refl

pub merel_matrices-three : merel_matrices 3 ≡ matrix (pos 1) (pos 0) (pos 0) (pos 3) ∷ matrix (pos 1) (pos 0) (pos 1) (pos 3) ∷ matrix (pos 1) (pos 0)
    (pos 2) (pos 3) ∷ matrix (pos 2) (pos 1) (pos 1) (pos 2) ∷ matrix (pos 3) (pos 0) (pos 0) (pos 1) ∷ matrix (pos 3) (pos 1) (pos 0)
    (pos 1) ∷ matrix (pos 3) (pos 2) (pos 0) (pos 1) ∷ []
unfolding merel_matrices quadruples
merel_matrices-three = refl
