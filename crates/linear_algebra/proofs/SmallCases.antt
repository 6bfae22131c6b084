-- Small cases, by hand: the definitions that compute give these answers.
use Rattle.std.proofs.Common.{◌≡◌, [], ◌∷◌, refl}
use Rattle.linear_algebra.specs.Residue.{residue, ◌⊕◌, ◌⊗◌}
use Rattle.linear_algebra.specs.Dense.{dense}
use Rattle.linear_algebra.specs.Sparse.{sparse, single}
use Rattle.linear_algebra.specs.Coordinates.{is_bound, free_places}

-- modulo 3 the rows (1, 1, 0) and (0, 1, 2) bind the places 1 and 2
free_places-two_rows : free_places {p = 3} 3 (dense 3 (1 ∷ 1 ∷ 0 ∷ []) ∷ dense 3 (0 ∷ 1 ∷ 2 ∷ []) ∷ []) ≡ 0 ∷ []
unfolding free_places is_bound dense residue ◌⊕◌ ◌⊗◌
free_places-two_rows = refl

-- modulo 5 the rows (1, 0, 4) and (2, 0, 3) are multiples of one, and bind place 2 alone
free_places-dependent : free_places {p = 5} 3 (sparse 5 ((0, 1) ∷ (2, 4) ∷ []) ∷ sparse 5 ((0, 2) ∷ (2, 3) ∷ []) ∷ []) ≡ 0 ∷ 1 ∷ []
unfolding free_places is_bound dense sparse single residue ◌⊕◌ ◌⊗◌
free_places-dependent = refl
