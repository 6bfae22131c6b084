-- For each place, the numbers of the rows that have it: at least those that are not 0 there.
--   AreBelow n occurrences                the numbers are below n
--   KeepsNumbers old new                  each number stays at its place
--   HasNumbersAt p rows k numbers         the number of each row that is not 0 at place k is among the numbers
--   IsAt occurrences terms j              j stands at the place of each term but the last
--   ListsChanges p old new occurrences r  each row of new is the vector that it was in old, or its number stands at the place of each term of r
--                                         but the last
--   AreOccurrences p rows l occurrences   the numbers are those of rows, and at each place stand those of all rows that are not 0 there and don't
--                                         have it as their greatest place by l; a number may stand where its row is 0
use Rattle.std.specs.Prelude.{◌≡◌, ◌≢◌, ◌⊎◌, ◌<◌, ◌+◌, ℕ, List, [], length, All, slice_index_or}
use Rattle.std.specs.List.{Contains}
use Rattle.field_table.specs.Terms.{place_at}
use Rattle.linear_algebra.specs.Residue.{residue}
use Rattle.linear_algebra.specs.Sparse.{sparse}
use Rattle.field_table.specs.Places.{PlaceList}
use Rattle.sparse_echelon.specs.Leads.{lead}

abbrev pub AreBelow : ℕ → List (List ℕ) → Type 0
AreBelow n occurrences = All (λ numbers. All (λ j. j < n) numbers) occurrences

abbrev pub KeepsNumbers : List (List ℕ) → List (List ℕ) → Type 0
KeepsNumbers old new = (k j : ℕ) → Contains (slice_index_or old k []) j → Contains (slice_index_or new k []) j

abbrev pub HasNumbersAt : ℕ → List (List (ℕ × ℕ)) → ℕ → List ℕ → Type 0
HasNumbersAt p rows k numbers = (j : ℕ) → j < length rows → sparse p (slice_index_or rows j []) k ≢ residue p 0 → Contains numbers j

abbrev pub IsAt : List (List ℕ) → List (ℕ × ℕ) → ℕ → Type 0
IsAt occurrences terms j = (i : ℕ) → i + 1 < length terms → Contains (slice_index_or occurrences (place_at terms i) []) j

abbrev pub ListsChanges : ℕ → List (List (ℕ × ℕ)) → List (List (ℕ × ℕ)) → List (List ℕ) → List (ℕ × ℕ) → Type 0
ListsChanges p old new occurrences r = (j : ℕ) → j < length old
    → (sparse p (slice_index_or new j []) ≡ sparse p (slice_index_or old j [])) ⊎ IsAt occurrences r j

pub record AreOccurrences (p : ℕ) (rows : List (List (ℕ × ℕ))) (l : PlaceList) (occurrences : List (List ℕ)) : Type 0 where
  pub width : length occurrences ≡ l.width
  pub below : AreBelow (length rows) occurrences
  pub all : (j k : ℕ) → j < length rows → sparse p (slice_index_or rows j []) k ≢ residue p 0 → k ≢ lead l j → Contains (slice_index_or occurrences k []) j
