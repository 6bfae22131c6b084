-- What a table of columns keeps, at a ground g (a level and a characteristic).
--   Gathered               a ground, and the pairs (n, symbol) of columns that were gathered
--   merel n                Merel's set of determinant n
--   determinant_of_demand d    the n of a demand, and 1 where it is nothing
--   IsColumnAt g n k c     the column c is that of the pair (n, k), at the ground
--   AreColumns g columns   each entry is a column that stands at its pair
use Rattle.std.specs.Prelude.{◌≡◌, ℕ, List, All}
use Rattle.quotient_coords.specs.Quotient.{Ground}
use Rattle.heilbronn_sets.specs.Merel.{merel_matrices}
use Rattle.heilbronn_sets.specs.Sets.{Matrices}
use Rattle.hecke_columns.specs.Hecke.{HeckeColumn, IsHeckeColumn}
use Rattle.session_core.specs.declared.demand.Demand.{Demand}
use Rattle.session_core.specs.declared.demand.Demand.TheVariants as demands

pub record Gathered : Type 0 where
  pub ground : Ground
  pub pairs : List (ℕ × ℕ)

abbrev pub merel : ℕ → Matrices
merel n = record { det = n; list = merel_matrices n }

abbrev pub determinant_of_demand : Demand → ℕ
determinant_of_demand demands.Nothing = 1
determinant_of_demand (demands.Some n given) = n
determinant_of_demand (demands.All n) = n

pub record IsColumnAt (g : Ground) (n symbol : ℕ) (column : HeckeColumn) : Type 0 where
  pub modulus : column.modulus ≡ g.level
  pub characteristic : column.characteristic ≡ g.characteristic
  pub n_is : column.n ≡ n
  pub symbol_is : column.symbol ≡ symbol
  pub column_is : IsHeckeColumn column

abbrev pub AreColumns : Ground → List ((ℕ × ℕ) × HeckeColumn) → Type 0
AreColumns g columns = All (λ e. IsColumnAt g e.0.0 e.0.1 e.1) columns
