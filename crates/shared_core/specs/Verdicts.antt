-- The test of an operator before a splitting, at a ground g: a level N and a characteristic p (Stein, Modular Forms: A Computational
-- Approach, chapters 3 and 8).
--   IsOperator N op        star, or T_n for an n of 1 to MAX_DET that is coprime to N
--   FailsFirst g op k      relation k is the first that the operator does not send to 0; star has none
--   KeepsRelationsOf g op  the operator sends each relation to 0
--   Verdict                what the test says: accepted, the first relation that fails, or a listed operator with which it does not commute
--   IsAccepted g s op      the operator keeps the relations, and its matrix agrees with each listed one in both orders of their product
--   IsCommutator g s op    it keeps the relations, and some place is the first difference of these products
--   IsVerdict g s op v     the verdict on the operator before the splitting s, the relations tested first
use Rattle.std.specs.Prelude.{◌≡◌, ℕ, ◌<◌, ◌≤◌, List}
use Rattle.op_polynomials.specs.declared.name.OpName.{OpName}
use Rattle.op_polynomials.specs.declared.name.OpName.TheVariants.{T, Star}
use Rattle.p1_normal.specs.declared.matrix.TheConstants.{MAX_DET}
use Rattle.p1_normal.specs.Units.{gcd}
use Rattle.quotient_coords.specs.Quotient.{Ground}
use Rattle.heilbronn_sets.specs.Merel.{merel_matrices}
use Rattle.hecke_ops.specs.Operators.{IsFirstFailing, KeepsRelations}
use Rattle.split_state.specs.Decomposition.{Decomposition}
use Rattle.split_state.specs.Difference.{AgreesWithListed, IsFirstDifference}
use Rattle.split_state.specs.Versions.{IsOperatorMatrix}

abbrev pub IsOperator : ℕ → OpName → Type 0
IsOperator N (T n) = (0 < n) × (n ≤ MAX_DET) × (gcd n N ≡ 1)
IsOperator N Star = Unit {0}

abbrev pub FailsFirst : Ground → OpName → ℕ → Type 0
FailsFirst g (T n) k = (coords : List ℕ) × IsFirstFailing g.level g.characteristic (merel_matrices n) k coords
FailsFirst g Star k = ⊥

abbrev pub KeepsRelationsOf : Ground → OpName → Type 0
KeepsRelationsOf g (T n) = KeepsRelations g.level g.characteristic (merel_matrices n)
KeepsRelationsOf g Star = Unit {0}

pub data Verdict : Type 0 where
  accepted : Verdict
  relation : ℕ → Verdict
  commutator : Verdict

pub record IsAccepted (g : Ground) (s : Decomposition) (op : OpName) : Type 0 where
  pub matrix : List (List ℕ)
  pub keeps : KeepsRelationsOf g op
  pub operator : IsOperatorMatrix g op matrix
  pub agrees : AgreesWithListed s matrix

pub record IsCommutator (g : Ground) (s : Decomposition) (op : OpName) : Type 0 where
  pub matrix : List (List ℕ)
  pub keeps : KeepsRelationsOf g op
  pub operator : IsOperatorMatrix g op matrix
  pub other : OpName
  pub row : ℕ
  pub column : ℕ
  pub left : ℕ
  pub right : ℕ
  pub first : IsFirstDifference s matrix other row column left right

abbrev pub IsVerdict : Ground → Decomposition → OpName → Verdict → Type 0
IsVerdict g s op accepted = IsAccepted g s op
IsVerdict g s op (relation k) = FailsFirst g op k
IsVerdict g s op commutator = IsCommutator g s op
