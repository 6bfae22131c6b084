-- The answer to a command that none of the refusals before it refuses, at a ground g (a level N and a characteristic p) and a version of the
-- space: v is its number, and s the splitting.
--   TellsCoordinates g x reply      the reply tells the coordinates of the combination x
--   TellsCertificate g terms reply  the reply tells the coordinates of the combination of the terms, and the coefficients over kept relations
--                                   by which these add up to it less the combination of the free symbols by its coordinates
--   TellsBoundary g x reply         the reply tells the boundary of the combination x: one residue for each cusp, in their order
--   part_sizes s                    the dimensions of the parts
--   TellsCommutator s A reply       the reply tells the first difference of the products of the matrix A with a listed one
--   IsCommutator s A fault          a difference that the fault of a refinement tells is this one
--   IsSplitInto s o f A next        the matrix A of the operator o commutes with each listed one, and next is s split by f(A)
--   TellsVersion v s o f A reply    the reply tells the number v + 1 and the dimensions of the parts of this splitting
--   TellsSplit v s o f A reply      the one or the other
--   TellsPart s k reply             the reply tells the rows of the reduced echelon basis of part k, from 1
--   IsNoSplit c                     the command is no split
--   IsAnswer g v s c reply          the reply answers the command
use Rattle.std.specs.Prelude.{◌≡◌, ◌⊎◌, ◌+◌, ◌-◌, ℕ, List, length, map, Some, slice_get}
use Rattle.linear_algebra.specs.Dense.{dense}
use Rattle.linear_algebra.specs.Integers.{residue_of}
use Rattle.linear_algebra.specs.Vector.{Vector}
use Rattle.field_table.specs.Residues.{AreResidues}
use Rattle.p1_normal.specs.Points.{symbol_at}
use Rattle.quotient_coords.specs.Quotient.{Ground, free_symbols, AreCoordinates, HasCoordinates, HasKeptCoefficients}
use Rattle.cusps_boundary.specs.Boundary.{boundary}
use Rattle.cusps_boundary.specs.Cusps.{cusps}
use Rattle.star_map.specs.Star.{star}
use Rattle.heilbronn_sets.specs.Merel.{merel_matrices, starts}
use Rattle.hecke_columns.specs.Hecke.{merel_sum}
use Rattle.op_polynomials.specs.declared.name.OpName.{OpName}
use Rattle.dense_mat.specs.Subspace.{Subspace}
use Rattle.split_state.specs.declared.fault.RefineFault.{RefineFault}
use Rattle.split_state.specs.declared.fault.RefineFault.TheVariants as faults
use Rattle.split_state.specs.Decomposition.{Decomposition}
use Rattle.split_state.specs.Difference.{AgreesWithListed, IsFirstDifference}
use Rattle.split_state.specs.Step.{IsStep}
use Rattle.script_text.specs.declared.command.Command.{Command}
use Rattle.script_text.specs.declared.command.Command.TheVariants as commands
use Rattle.reply_text.specs.declared.refusal.Refusal.TheVariants as refusals
use Rattle.reply_text.specs.declared.reply.Reply.{Reply}
use Rattle.reply_text.specs.declared.reply.Reply.TheVariants as replies
use Rattle.session_core.specs.Operators.{AnswersBy, TellsTrace, TellsImage, TellsValue}
use Rattle.session_core.specs.Terms.{pair, symbol_of, combination, vector_of}

abbrev pub TellsCoordinates : (g : Ground) → Vector g.characteristic → Reply → Type 0
TellsCoordinates g x reply = (values : List ℕ) × (reply ≡ replies.Coords values) × AreCoordinates g.level x values

pub record TellsCertificate (g : Ground) (terms : List (ℕ × ℕ)) (reply : Reply) : Type 0 where
  pub values : List ℕ
  pub coefficients : List (ℕ × ℕ)
  pub told : reply ≡ replies.Certified values coefficients
  pub coordinates : HasCoordinates g terms values
  pub kept : HasKeptCoefficients g terms coefficients

pub record TellsBoundary (g : Ground) (x : Vector g.characteristic) (reply : Reply) : Type 0 where
  pub values : List ℕ
  pub told : reply ≡ replies.Boundary values
  pub count : length values ≡ length (cusps g.level)
  pub residues : AreResidues g.characteristic values
  pub vector : dense g.characteristic values ≡ boundary g.level x

abbrev pub part_sizes : Decomposition → List ℕ
part_sizes s = map (λ (part : Subspace). length part.rows) s.parts

pub record TellsCommutator (s : Decomposition) (columns : List (List ℕ)) (reply : Reply) : Type 0 where
  pub other : OpName
  pub row : ℕ
  pub column : ℕ
  pub left : ℕ
  pub right : ℕ
  pub first : IsFirstDifference s columns other row column left right
  pub told : reply ≡ replies.Refused (refusals.Commutator other row column left right)

abbrev pub IsCommutator : Decomposition → List (List ℕ) → RefineFault → Type 0
IsCommutator s columns faults.OutOfMemory = Unit {0}
IsCommutator s columns (faults.Commutator other row column left right) = IsFirstDifference s columns other row column left right

pub record IsSplitInto (s : Decomposition) (op : OpName) (f : List ℕ) (columns : List (List ℕ)) (next : Decomposition) : Type 0 where
  pub agrees : AgreesWithListed s columns
  pub step : IsStep s op columns f next

pub record TellsVersion (v : ℕ) (s : Decomposition) (op : OpName) (f : List ℕ) (columns : List (List ℕ)) (reply : Reply) : Type 0 where
  pub next : Decomposition
  pub is_next : IsSplitInto s op f columns next
  pub told : reply ≡ replies.Version (v + 1) (part_sizes next)

abbrev pub TellsSplit : ℕ → Decomposition → OpName → List ℕ → List (List ℕ) → Reply → Type 0
TellsSplit v s op f columns reply = TellsCommutator s columns reply ⊎ TellsVersion v s op f columns reply

pub record TellsPart (s : Decomposition) (number : ℕ) (reply : Reply) : Type 0 where
  pub part : Subspace
  pub at_number : slice_get s.parts (number - 1) ≡ Some part
  pub told : reply ≡ replies.Rows part.rows

abbrev pub IsNoSplit : Command → Type 0
IsNoSplit (commands.Split op coefficients) = ⊥
IsNoSplit command = Unit {0}

abbrev pub IsAnswer : Ground → ℕ → Decomposition → Command → Reply → Type 0
IsAnswer g v s (commands.Normal u w) reply = reply ≡ replies.Point (symbol_of g.level (pair u w))
IsAnswer g v s commands.Basis reply = reply ≡ replies.Basis (map (symbol_at g.level) (free_symbols g.level g.characteristic))
IsAnswer g v s (commands.Reduce terms) reply = TellsCoordinates g (vector_of g terms) reply
IsAnswer g v s (commands.Certify terms) reply = TellsCertificate g (combination g terms) reply
IsAnswer g v s (commands.Image n terms) reply = TellsCoordinates g (merel_sum g.level n (vector_of g terms)) reply
IsAnswer g v s (commands.Star terms) reply = TellsCoordinates g (star g.level (vector_of g terms)) reply
IsAnswer g v s (commands.Boundary terms) reply = TellsBoundary g (vector_of g terms) reply
IsAnswer g v s commands.Cusps reply = reply ≡ replies.Cusps (map (symbol_at g.level) (cusps g.level))
IsAnswer g v s (commands.Operator op) reply = AnswersBy g op (TellsTrace g) reply
IsAnswer g v s (commands.Apply op coords) reply = AnswersBy g op (TellsImage g coords) reply
IsAnswer g v s (commands.Poly op coefficients coords) reply = AnswersBy g op (TellsValue g coefficients coords) reply
IsAnswer g v s (commands.Split op coefficients) reply =
    AnswersBy g op (TellsSplit v s op (map (residue_of g.characteristic) coefficients)) reply
IsAnswer g v s commands.Show reply = reply ≡ replies.Splitting v (part_sizes s) s.names
IsAnswer g v s (commands.Part number) reply = TellsPart s number reply
IsAnswer g v s (commands.Chains n) reply = reply ≡ replies.Chains (length (starts n)) (length (merel_matrices n))
