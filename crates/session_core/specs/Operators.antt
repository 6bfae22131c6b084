-- Operators by their names, at a ground g: a level N and a characteristic p (Stein, Modular Forms: A Computational Approach, chapters 3 and 8).
--   KeepsCongruence g o            sums over Merel's set of n send each relation to 0; star does always
--   IsFailing g o fault            a relation that the fault of a test tells is the first that an operator T_n does not send to 0, with its
--                                  coordinates; star has none
--   Fails g o reply                the reply tells this relation
--   ActsBy g o P reply             the operator keeps congruence, and its matrix and the reply have P
--   AnswersBy g o P reply          the operator fails, as the reply tells, or it acts by P
--   given_vector p zs              the vector of the residues of these numbers
--   TellsVector g v reply          the reply tells the d coordinates of the vector v, d the dimension
--   TellsTrace g columns reply     the reply tells the dimension and the trace of the matrix
--   TellsImage g zs columns reply  the reply tells the matrix's image of the vector of the numbers
--   TellsValue g f zs columns reply   the reply tells the value of the polynomial f in the matrix at this vector
--   operator_sum g o x             Merel's sum of determinant n at the combination x for T_n, and star of x for star
--   ImagesAreSums                  an operator's image of given coordinates is the coordinates of the operator's sum at each combination that
--                                  has the given ones
use Rattle.std.specs.Prelude.{◌≡◌, ◌⊎◌, ◌<◌, ℕ, ℤ, List, length, map}
use Rattle.linear_algebra.specs.Dense.{dense, dense_rows}
use Rattle.linear_algebra.specs.Integers.{residue_of}
use Rattle.linear_algebra.specs.Residue.{residue}
use Rattle.linear_algebra.specs.Vector.{Vector}
use Rattle.stable_subspaces.specs.Operator.{apply, polynomial_at}
use Rattle.field_table.specs.Residues.{AreResidues}
use Rattle.quotient_coords.specs.Quotient.{Ground, dimension, AreCoordinates}
use Rattle.heilbronn_sets.specs.Merel.{merel_matrices}
use Rattle.hecke_columns.specs.Hecke.{merel_sum}
use Rattle.star_map.specs.Star.{star}
use Rattle.dense_mat.specs.Matrix.{trace_of}
use Rattle.hecke_ops.specs.Operators.{IsFirstFailing, KeepsRelations}
use Rattle.hecke_ops.specs.Vetting.{IsFault}
use Rattle.hecke_ops.specs.declared.fault.VetFault.{VetFault}
use Rattle.hecke_ops.specs.declared.fault.VetFault.TheVariants as faults
use Rattle.op_polynomials.specs.declared.name.OpName.{OpName}
use Rattle.op_polynomials.specs.declared.name.OpName.TheVariants as ops
use Rattle.split_state.specs.Versions.{IsOperatorMatrix}
use Rattle.reply_text.specs.declared.refusal.Refusal.TheVariants as refusals
use Rattle.reply_text.specs.declared.reply.Reply.{Reply}
use Rattle.reply_text.specs.declared.reply.Reply.TheVariants as replies

abbrev pub KeepsCongruence : Ground → OpName → Type 0
KeepsCongruence g (ops.T n) = KeepsRelations g.level g.characteristic (merel_matrices n)
KeepsCongruence g ops.Star = Unit {0}

abbrev pub IsFailing : Ground → OpName → VetFault → Type 0
IsFailing g (ops.T n) fault = IsFault g.level g.characteristic (merel_matrices n) fault
IsFailing g ops.Star fault = fault ≡ faults.OutOfMemory

pub record TellsRelation (g : Ground) (n : ℕ) (reply : Reply) : Type 0 where
  pub number : ℕ
  pub coords : List ℕ
  pub first : IsFirstFailing g.level g.characteristic (merel_matrices n) number coords
  pub told : reply ≡ replies.Refused (refusals.Relation number coords)

abbrev pub Fails : Ground → OpName → Reply → Type 0
Fails g (ops.T n) reply = TellsRelation g n reply
Fails g ops.Star reply = ⊥

pub record ActsBy (g : Ground) (op : OpName) (P : List (List ℕ) → Reply → Type 0) (reply : Reply) : Type 0 where
  pub columns : List (List ℕ)
  pub keeps : KeepsCongruence g op
  pub matrix : IsOperatorMatrix g op columns
  pub told : P columns reply

abbrev pub AnswersBy : Ground → OpName → (List (List ℕ) → Reply → Type 0) → Reply → Type 0
AnswersBy g op P reply = Fails g op reply ⊎ ActsBy g op P reply

abbrev pub given_vector : (p : ℕ) → List ℤ → Vector p
given_vector p numbers = dense p (map (residue_of p) numbers)

pub record TellsVector (g : Ground) (v : Vector g.characteristic) (reply : Reply) : Type 0 where
  pub values : List ℕ
  pub told : reply ≡ replies.Coords values
  pub count : length values ≡ dimension g.level g.characteristic
  pub residues : AreResidues g.characteristic values
  pub vector : dense g.characteristic values ≡ v

abbrev pub TellsTrace : Ground → List (List ℕ) → Reply → Type 0
TellsTrace g columns reply = reply ≡ replies.Operator (dimension g.level g.characteristic) (trace_of g.characteristic columns)

abbrev pub TellsImage : Ground → List ℤ → List (List ℕ) → Reply → Type 0
TellsImage g numbers columns reply =
    TellsVector g (apply (dense_rows g.characteristic columns) (given_vector g.characteristic numbers)) reply

abbrev pub TellsValue : Ground → List ℤ → List ℤ → List (List ℕ) → Reply → Type 0
TellsValue g coefficients numbers columns reply =
    TellsVector g (polynomial_at (map (residue g.characteristic) (map (residue_of g.characteristic) coefficients))
    (dense_rows g.characteristic columns) (given_vector g.characteristic numbers)) reply

abbrev pub operator_sum : (g : Ground) → OpName → Vector g.characteristic → Vector g.characteristic
operator_sum g (ops.T n) x = merel_sum g.level n x
operator_sum g ops.Star x = star g.level x

abbrev pub ImagesAreSums : Type 0
ImagesAreSums = (g : Ground) (op : OpName) (coords : List ℤ) (x : Vector g.characteristic) (values : List ℕ) → 0 < g.characteristic
    → AreCoordinates g.level x (map (residue_of g.characteristic) coords) → AnswersBy g op (TellsImage g coords) (replies.Coords values)
    → AreCoordinates g.level (operator_sum g op x) values
