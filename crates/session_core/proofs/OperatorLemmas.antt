-- What operators tell: images, values and splits.
use Rattle.std.proofs.Common.{◌≡◌, ◌<◌, [], ℕ, ℤ, List, length, map, Result, Err, IsErrOf, refl, sym, ◌∙◌, ap, subst, inl, inr}
use Rattle.linear_algebra.specs.Dense.{dense, dense_rows}
use Rattle.linear_algebra.specs.Integers.{residue_of}
use Rattle.linear_algebra.specs.Residue.{residue}
use Rattle.stable_subspaces.specs.Operator.{apply, polynomial_at}
use Rattle.field_table.specs.Residues.{AreResidues}
use Rattle.quotient_coords.specs.Quotient.{Ground, dimension, AreCoordinates}
use Rattle.linear_algebra.specs.Vector.{Vector}
use Rattle.heilbronn_sets.specs.Merel.{merel_matrices}
use Rattle.hecke_columns.specs.Hecke.{merel_sum}
use Rattle.hecke_ops.proofs.Operators.{coordinates_of_sum}
use Rattle.star_map.specs.Star.{star}
use Rattle.star_map.proofs.Columns.{stars_of_lists}
use Rattle.op_polynomials.specs.declared.name.OpName.{OpName}
use Rattle.op_polynomials.specs.declared.name.OpName.TheVariants as ops
use Rattle.split_state.specs.declared.fault.RefineFault.{RefineFault}
use Rattle.split_state.specs.declared.fault.RefineFault.TheVariants as faults
use Rattle.split_state.specs.Decomposition.{Decomposition}
use Rattle.split_state.specs.Difference.{IsFirstDifference}
use Rattle.split_state.specs.Versions.{IsOperatorMatrix}
use Rattle.script_text.specs.declared.command.Command.TheVariants as commands
use Rattle.reply_text.specs.declared.reply.Reply.{Reply}
use Rattle.reply_text.specs.declared.reply.Reply.TheVariants as replies
use Rattle.session_core.specs.declared.outcome.Finish.{Finish}
use Rattle.session_core.specs.declared.outcome.Finish.TheVariants as outcomes
use Rattle.session_core.specs.Operators.{KeepsCongruence, AnswersBy, TellsImage, TellsValue, operator_sum}
use Rattle.session_core.specs.Answers.{IsCommutator, TellsCommutator}
use Rattle.session_core.specs.Demands.{Adds, HasAll, GathersFor}
use Rattle.session_core.specs.Replies.{IsAccepted, Finishes}

-- the image of given numbers is told
pub image_told : (g : Ground) (q r : ℕ) (coords : List ℤ) (columns : List (List ℕ)) (items given values : List ℕ)
    → q ≡ g.characteristic → r ≡ g.characteristic → items ≡ map (residue_of q) coords → given ≡ items
    → dense r values ≡ apply (dense_rows r columns) (dense r given) → length values ≡ length columns
    → length columns ≡ dimension g.level g.characteristic → AreResidues r values → TellsImage g coords columns (replies.Coords values)
image_told g q r coords columns items given values first second numbers same image count size residues = record {
  values = values;
  told = refl;
  count = count ∙ size;
  residues = subst (λ k. AreResidues k values) second residues;
  vector = subst (λ k. dense k values ≡ apply (dense_rows k columns) (dense k given)) second image
      ∙ ap (λ xs. apply (dense_rows g.characteristic columns) (dense g.characteristic xs))
      (same ∙ numbers ∙ ap (λ k. map (residue_of k) coords) first);
}

-- and so is the value of a polynomial
pub value_told : (g : Ground) (q r s : ℕ) (coefficients coords : List ℤ) (columns : List (List ℕ)) (poly items given values : List ℕ)
    → q ≡ g.characteristic → r ≡ g.characteristic → s ≡ g.characteristic → poly ≡ map (residue_of s) coefficients
    → items ≡ map (residue_of q) coords → given ≡ items
    → dense r values ≡ polynomial_at (map (residue r) poly) (dense_rows r columns) (dense r given) → length values ≡ length columns
    → length columns ≡ dimension g.level g.characteristic → AreResidues r values
    → TellsValue g coefficients coords columns (replies.Coords values)
value_told g q r s coefficients coords columns poly items given values first second third is_poly numbers same image count size residues = record {
  values = values;
  told = refl;
  count = count ∙ size;
  residues = subst (λ k. AreResidues k values) second residues;
  vector = subst (λ k. dense k values ≡ polynomial_at (map (residue k) poly) (dense_rows k columns) (dense k given)) second image
      ∙ ap (λ xs. polynomial_at (map (residue g.characteristic) poly) (dense_rows g.characteristic columns) (dense g.characteristic xs))
      (same ∙ numbers ∙ ap (λ k. map (residue_of k) coords) first)
      ∙ ap (λ f. polynomial_at (map (residue g.characteristic) f) (dense_rows g.characteristic columns)
      (dense g.characteristic (map (residue_of g.characteristic) coords)))
      (is_poly ∙ ap (λ k. map (residue_of k) coefficients) third);
}

-- the first difference that a refinement meets is the one that its fault tells
pub commutator_of : {S : Type 0} (s : Decomposition) (columns : List (List ℕ)) (result : Result S RefineFault) (fault : RefineFault)
    → result ≡ Err fault
    → ((other : OpName) (row column left right : ℕ) → IsErrOf result (faults.Commutator other row column left right)
    → IsFirstDifference s columns other row column left right)
    → IsCommutator s columns fault
commutator_of s columns result faults.OutOfMemory is each = tt
commutator_of s columns result (faults.Commutator other row column left right) is each =
    each other row column left right (subst (λ r. IsErrOf r (faults.Commutator other row column left right)) (sym is) refl)

-- and it finishes the split
pub commutator_finish : (g : Ground) (v : ℕ) (s : Decomposition) (op : OpName) (columns : List (List ℕ)) (coefficients : List ℤ) (reply : Reply)
    → KeepsCongruence g op → IsOperatorMatrix g op columns → TellsCommutator s columns reply
    → Finishes g v s (commands.Split op coefficients) (outcomes.Reply reply)
commutator_finish g v s op columns coefficients reply keeps matrix told = inl (
  inr (record { columns = columns; keeps = keeps; matrix = matrix; told = inl told }),
  λ accepted. subst IsAccepted told.told accepted,
)

-- what was gathered serves any outcome
pub gathers_for : (pairs : List (ℕ × ℕ)) (finish : Finish) (old new : List (ℕ × ℕ)) → Adds pairs old new → HasAll new pairs
    → GathersFor pairs finish old new
gathers_for pairs (outcomes.Reply reply) old new adds held = record { adds = adds; held = λ some. held }
gathers_for pairs (outcomes.Split op poly next sizes) old new adds held = (adds, held)

-- the numbers of a reply that tells coordinates
abbrev told_coords : Reply → List ℕ
told_coords (replies.Coords values) = values
told_coords reply = []

-- the image of the coordinates of a combination is the coordinates of its sum
pub answers_are_sums : (g : Ground) (op : OpName) (coords : List ℤ) (x : Vector g.characteristic) (values : List ℕ) → 0 < g.characteristic
    → AreCoordinates g.level x (map (residue_of g.characteristic) coords) → AnswersBy g op (TellsImage g coords) (replies.Coords values)
    → AreCoordinates g.level (operator_sum g op x) values
answers_are_sums g (ops.T n) coords x values positive given (inl h) = absurd (let other = h.told in cc)
answers_are_sums g ops.Star coords x values positive given (inl h) = absurd h
answers_are_sums g (ops.T n) coords x values positive given (inr h) =
    subst (AreCoordinates g.level (merel_sum g.level n x)) (sym (ap told_coords h.told.told))
    (coordinates_of_sum g.level g.characteristic (merel_matrices n) h.columns x (map (residue_of g.characteristic) coords) h.told.values positive
    (record { keeps = h.keeps; matrix = h.matrix }) given h.told.count h.told.residues h.told.vector)
answers_are_sums g ops.Star coords x values positive given (inr h) =
    subst (AreCoordinates g.level (star g.level x)) (sym (ap told_coords h.told.told))
    (stars_of_lists g.level g.characteristic h.columns x (map (residue_of g.characteristic) coords) h.told.values positive h.matrix given
    h.told.count h.told.residues h.told.vector)
