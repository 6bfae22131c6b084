-- The columns of one determinant n that a session gets from the flights, at a ground g (a level and a characteristic).
--   found_pairs n columns         the pairs of n with the symbols of these columns
--   IsLookup g n events symbols found missing
--                                 what a session has got of the columns of these symbols, over the flights that its pass has seen:
--     gathered                    the columns found are of n and of the ground
--     published                   they were published
--     places                      the missing symbols are symbols of the level
--     all                         the column of each symbol was found, or is missing
--     among                       what is missing is one of the symbols
use Rattle.std.specs.Prelude.{ℕ, ◌<◌, List, ◌++◌, length, map, All}
use Rattle.std.specs.Arc.{arc_value}
use Rattle.std.specs.declared.sync.Arc.{Arc}
use Rattle.p1_normal.specs.Points.{symbols}
use Rattle.quotient_coords.specs.Quotient.{Ground}
use Rattle.hecke_columns.specs.Hecke.{HeckeColumn}
use Rattle.hecke_columns.specs.Gathering.{IsGathered, symbol_of}
use Rattle.column_flight.specs.declared.event.FlightEvent.{FlightEvent}
use Rattle.session_core.specs.Demands.{HasAll, symbol_pairs}
use Rattle.host_workers.specs.Workers.{published_pairs}

abbrev pub found_pairs : {Z : Type 0} → ℕ → List (Arc HeckeColumn Z) → List (ℕ × ℕ)
found_pairs n columns = map (λ c. (n, symbol_of (arc_value c))) columns

pub record IsLookup {Z : Type 0} (g : Ground) (n : ℕ) (events : List FlightEvent) (given : List ℕ) (found : List (Arc HeckeColumn Z))
    (missing : List ℕ) : Type 0 where
  pub gathered : All (λ c. IsGathered g n (arc_value c)) found
  pub published : HasAll (published_pairs events) (found_pairs n found)
  pub places : All (λ k. k < length (symbols g.level)) missing
  pub all : HasAll (found_pairs n found ++ symbol_pairs n missing) (symbol_pairs n given)
  pub among : HasAll (symbol_pairs n given) (symbol_pairs n missing)
