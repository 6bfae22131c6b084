-- Rows in echelon form, by first places and by greatest places (Cohen, A Course in Computational Algebraic Number Theory, 2.2 and 2.3).
--   IsGreatestPlace v k         k is the greatest place of the support of v
--   IsPivot rows k              some combination of the rows has k as its greatest place
--   IsReducedEchelon rows       the first nonzero place of each row (its lead) holds 1, leads rise, and the other rows are 0 there
--   IsReducedFromTop rows lead  row j holds 1 at its greatest place, lead j, and the other rows are 0 there; in any order
--   remainder rows lead v       v less the combination of the rows by the entries of v at the leads
--   IsTopBasis rows basis lead  basis is reduced from the top with these leads, and its span is that of the rows
use Rattle.std.specs.Prelude.{◌≡◌, ◌≢◌, ℕ, List, ◌<◌, length}
use Rattle.linear_algebra.specs.Residue.{residue}
use Rattle.linear_algebra.specs.Vector.{Vector, combination, minus}
use Rattle.linear_algebra.specs.Span.{Each, row, InSpan}

pub record IsGreatestPlace {p : ℕ} (v : Vector p) (k : ℕ) : Type 0 where
  pub at : v k ≢ residue p 0
  pub beyond : (i : ℕ) → k < i → v i ≡ residue p 0

abbrev pub IsPivot : {p : ℕ} → List (Vector p) → ℕ → Type 0
IsPivot {p} rows k = (v : Vector p) × InSpan rows v × IsGreatestPlace v k

pub record IsReducedEchelon {p : ℕ} (rows : List (Vector p)) : Type 0 where
  pub lead : ℕ → ℕ
  pub rising : (i j : ℕ) → i < j → j < length rows → lead i < lead j
  pub first : (j : ℕ) → j < length rows → (row rows j (lead j) ≡ residue p 1) × ((k : ℕ) → k < lead j → row rows j k ≡ residue p 0)
  pub alone : (i j : ℕ) → i < length rows → j < length rows → i ≢ j → row rows i (lead j) ≡ residue p 0

pub record IsReducedFromTop {p : ℕ} (rows : List (Vector p)) (lead : ℕ → ℕ) : Type 0 where
  pub one_at : (j : ℕ) → j < length rows → row rows j (lead j) ≡ residue p 1
  pub beyond : (j : ℕ) → j < length rows → (k : ℕ) → lead j < k → row rows j k ≡ residue p 0
  pub alone : (i j : ℕ) → i < length rows → j < length rows → i ≢ j → row rows i (lead j) ≡ residue p 0

abbrev pub remainder : {p : ℕ} → List (Vector p) → (ℕ → ℕ) → Vector p → Vector p
remainder rows lead v = minus v (combination (λ j. v (lead j)) rows)

pub record IsTopBasis {p : ℕ} (rows basis : List (Vector p)) (lead : ℕ → ℕ) : Type 0 where
  pub reduced : IsReducedFromTop basis lead
  pub inside : Each (InSpan rows) basis
  pub spans : Each (InSpan basis) rows
