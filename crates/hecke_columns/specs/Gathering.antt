-- Columns that were gathered for one determinant n, at a ground g (a level and a characteristic).
--   merel n                  Merel's set of determinant n
--   IsGathered g n c         the column c is one over Merel's set of determinant n, at the ground, and its symbol is one of its level's
--   IsGatheredAt g n k c     it is that of symbol k
--   symbol_of c              its symbol
--   Gathering                a ground, an n, and the symbols of the columns that were gathered, in their order
--   number_at numbers k      the number that the table has for k
--   FindsSymbols symbols numbers
--                            the table numbers has for each of the symbols, and for no other, the number of a place where it stands
use Rattle.std.specs.Prelude.{◌≡◌, ◌<◌, ℕ, List, length, nat_eq, slice_index_or, Option, Some, None, IsSome, true}
use Rattle.std.specs.Set.{is_member}
use Rattle.p1_normal.specs.Points.{symbols}
use Rattle.quotient_coords.specs.Quotient.{Ground}
use Rattle.heilbronn_sets.specs.Merel.{merel_matrices}
use Rattle.heilbronn_sets.specs.Sets.{Matrices}
use Rattle.hecke_columns.specs.Hecke.{HeckeColumn}

abbrev pub merel : ℕ → Matrices
merel n = record { det = n; list = merel_matrices n }

pub record IsGathered (g : Ground) (n : ℕ) (c : HeckeColumn) : Type 0 where
  pub modulus : c.modulus ≡ g.level
  pub characteristic : c.characteristic ≡ g.characteristic
  pub n_is : c.n ≡ n
  pub place : c.symbol < length (symbols g.level)

pub record IsGatheredAt (g : Ground) (n k : ℕ) (c : HeckeColumn) : Type 0 where
  pub gathered : IsGathered g n c
  pub symbol_is : c.symbol ≡ k

abbrev pub symbol_of : HeckeColumn → ℕ
symbol_of c = c.symbol

pub record Gathering : Type 0 where
  pub ground : Ground
  pub n : ℕ
  pub given : List ℕ

abbrev pub number_at : List (Option ℕ) → ℕ → Option ℕ
number_at numbers k = slice_index_or numbers k None

pub record FindsSymbols (given : List ℕ) (numbers : List (Option ℕ)) : Type 0 where
  pub found : (k j : ℕ) → number_at numbers k ≡ Some j → (j < length given) × (slice_index_or given j 0 ≡ k)
  pub every : (k : ℕ) → is_member nat_eq given k ≡ true → IsSome (number_at numbers k)
