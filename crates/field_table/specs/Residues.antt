-- Numbers that are residues as they stand.
--   AreResidues p xs      each number of the list is below p
--   HasResidues p terms   in each term (place, number) the number is below p
use Rattle.std.specs.Prelude.{ℕ, List, ◌<◌, All}

abbrev pub AreResidues : ℕ → List ℕ → Type 0
AreResidues p xs = All (λ x. x < p) xs

abbrev pub HasResidues : ℕ → List (ℕ × ℕ) → Type 0
HasResidues p terms = All (λ t. t.1 < p) terms
