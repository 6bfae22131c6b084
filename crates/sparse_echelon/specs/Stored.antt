-- An echelon form as it is stored, reduced from the top (Cohen, A Course in Computational Algebraic Number Theory, 2.3).
--   IsStored s n basis logs l kept  basis, with the greatest places l, is what elimination of the first n rows of s gives; logs has,
--                                   for each row of it, the coefficients over all rows of s that give it; kept are the kept of the n rows
--   Stores s n stored               the same of a stored form
--   IsEchelon s stored              the same of all rows of s, over a listed characteristic, fewer than 2^32 - 1, with places below the width
use Rattle.std.specs.Prelude.{◌≡◌, ◌<◌, ◌≤◌, ◌-◌, ◌^◌, ℕ, List, length, All}
use Rattle.field_table.specs.Table.{IsListed}
use Rattle.field_table.specs.Terms.{HasPlacesBelow}
use Rattle.linear_algebra.specs.Sparse.{sparse_rows}
use Rattle.linear_algebra.specs.Elimination.{IsEliminated}
use Rattle.field_table.specs.Places.{PlaceList}
use Rattle.sparse_echelon.specs.Leads.{lead, AreRows}
use Rattle.sparse_echelon.specs.System.{System, vectors}
use Rattle.sparse_echelon.specs.declared.stored.Stored.{Stored}

pub record IsStored (s : System) (n : ℕ) (basis logs : List (List (ℕ × ℕ))) (l : PlaceList) (kept : List ℕ) : Type 0 where
  pub eliminated : IsEliminated (vectors s) n (sparse_rows s.characteristic basis) (sparse_rows s.characteristic logs) (lead l) kept
  pub width : l.width ≡ s.width
  pub many : length l.places ≡ length basis
  pub basis_rows : AreRows s.characteristic s.width basis
  pub log_rows : AreRows s.characteristic (length s.rows) logs
  pub few : length kept ≤ n

abbrev pub Stores : System → ℕ → Stored → Type 0
Stores s n stored = IsStored s n stored.basis.items stored.logs.items stored.leads stored.kept.items

pub record IsEchelon (s : System) (stored : Stored) : Type 0 where
  pub listed : IsListed s.characteristic
  pub count : length s.rows < 2 ^ 32 - 1
  pub places : All (HasPlacesBelow s.width) s.rows
  pub stores : Stores s (length s.rows) stored
