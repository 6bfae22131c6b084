-- Versions of the space of modular symbols, made from the whole space by a list of entries: each entry names an operator and a polynomial
-- in it (Stein, Modular Forms: A Computational Approach, 3.7, 7.5 and chapter 8; Cremona, Algorithms for Modular Elliptic Curves, chapter 2).
-- A ground g is a level N and a characteristic p; d is the dimension of its space.
--   IsOperatorMatrix g op columns   the matrix of the operator: for T_n column j is the coordinates of Merel's sum of determinant n at
--                                   free symbol j, for star those of (-u:v), where free symbol j is (u:v)
--   IsEntryStep g s e r             r is made from s by one step, by the matrix of the entry's operator and its polynomial
--   IsVersionFrom g s entries r     r is made from s by the entries in their order, a step for each
--   IsVersion g entries s           s is made so from the whole space of vectors of length d, with no operator
--   operators entries               the operators of the entries, in their order
--   AreListed g ops names matrices  the names are these operators and no other, each once, and the matrices are theirs, in their order
--   ListsOperators g entries s      s lists the operators of the entries and no other, each once, with its matrix
--   HaveCommutingMatrices g op other
--                                   the matrices of the two operators commute
--   OperatorsCommute g entries      those of any two operators of the entries do
use Rattle.std.specs.Prelude.{◌≡◌, ◌≢◌, ◌↔◌, ◌<◌, ℕ, List, [], ◌∷◌, Contains, length, map, slice_index_or}
use Rattle.linear_algebra.specs.Dense.{dense_rows}
use Rattle.stable_subspaces.specs.Operator.{Commute}
use Rattle.op_polynomials.specs.declared.name.OpName.{OpName}
use Rattle.op_polynomials.specs.declared.name.OpName.TheVariants.{T, Star}
use Rattle.op_polynomials.specs.declared.entry.SplitEntry.{SplitEntry}
use Rattle.quotient_coords.specs.Quotient.{Ground, dimension}
use Rattle.heilbronn_sets.specs.Merel.{merel_matrices}
use Rattle.hecke_ops.specs.Operators.{IsHeckeMatrix}
use Rattle.star_map.specs.Star.{IsStarMatrix}
use Rattle.split_state.specs.Decomposition.{Decomposition}
use Rattle.split_state.specs.Step.{IsStep, IsWhole}

abbrev pub IsOperatorMatrix : Ground → OpName → List (List ℕ) → Type 0
IsOperatorMatrix g (T n) columns = IsHeckeMatrix g.level g.characteristic (merel_matrices n) columns
IsOperatorMatrix g Star columns = IsStarMatrix g.level g.characteristic columns

pub record IsEntryStep (g : Ground) (s : Decomposition) (e : SplitEntry) (r : Decomposition) : Type 0 where
  pub matrix : List (List ℕ)
  pub operator : IsOperatorMatrix g e.op matrix
  pub step : IsStep s e.op matrix e.poly r

pub data IsVersionFrom (g : Ground) : Decomposition → List SplitEntry → Decomposition → Type 0 where
  unchanged : {s : Decomposition} → IsVersionFrom g s [] s
  stepped : {s t r : Decomposition} {e : SplitEntry} {entries : List SplitEntry} → IsEntryStep g s e t → IsVersionFrom g t entries r
      → IsVersionFrom g s (e ∷ entries) r

pub record IsVersion (g : Ground) (entries : List SplitEntry) (s : Decomposition) : Type 0 where
  pub start : Decomposition
  pub whole : IsWhole g.characteristic (dimension g.level g.characteristic) start
  pub steps : IsVersionFrom g start entries s

abbrev pub operators : List SplitEntry → List OpName
operators entries = map (λ (e : SplitEntry). e.op) entries

pub record AreListed (g : Ground) (ops names : List OpName) (matrices : List (List (List ℕ))) : Type 0 where
  pub many : length matrices ≡ length names
  pub named : (op : OpName) → Contains names op ↔ Contains ops op
  pub once : (i j : ℕ) → i < j → j < length names → slice_index_or names i Star ≢ slice_index_or names j Star
  pub matrix : (k : ℕ) → k < length names → IsOperatorMatrix g (slice_index_or names k Star) (slice_index_or matrices k [])

abbrev pub ListsOperators : Ground → List SplitEntry → Decomposition → Type 0
ListsOperators g entries s = AreListed g (operators entries) s.names s.matrices

abbrev pub HaveCommutingMatrices : Ground → OpName → OpName → Type 0
HaveCommutingMatrices g op other = (m o : List (List ℕ)) → IsOperatorMatrix g op m → IsOperatorMatrix g other o
    → Commute (dense_rows g.characteristic m) (dense_rows g.characteristic o)

pub record OperatorsCommute (g : Ground) (entries : List SplitEntry) : Type 0 where
  pub commute : (op other : OpName) → Contains (operators entries) op → Contains (operators entries) other → HaveCommutingMatrices g op other
