-- The tables of steps of several determinants.
--   AreHeldSteps entries    each entry's steps are those of the determinant at which they stand
use Rattle.std.specs.Prelude.{◌≡◌, ℕ, List, All}

abbrev pub AreHeldSteps : List (ℕ × ℕ) → Type 0
AreHeldSteps entries = All (λ e. e.1 ≡ e.0) entries
