-- Matrices that commute have no first difference, so a split whose operator commutes with those before it is no commutator.
use Rattle.std.proofs.Common.{◌≡◌, ◌<◌, ℕ, List, [], Contains, length, get_or, sym, ◌∙◌, ap, subst, arith}
use Rattle.std.proofs.lemmas.List.Elements.{Contains-get_or}
use Rattle.linear_algebra.specs.Coordinates.{unit}
use Rattle.linear_algebra.specs.Dense.{dense, dense_rows}
use Rattle.linear_algebra.proofs.DenseLaws.{row-dense_rows}
use Rattle.linear_algebra.proofs.Elimination.{combination-unit}
use Rattle.stable_subspaces.specs.Operator.{Commute, apply}
use Rattle.dense_mat.proofs.Steps.{length-dense_rows}
use Rattle.op_polynomials.specs.declared.entry.SplitEntry.{SplitEntry}
use Rattle.op_polynomials.specs.declared.name.OpName.{OpName}
use Rattle.op_polynomials.specs.declared.name.OpName.TheVariants.{Star}
use Rattle.quotient_coords.specs.Quotient.{Ground}
use Rattle.split_state.specs.Decomposition.{Decomposition}
use Rattle.split_state.specs.Difference.{AgreeAll, AgreesWithListed, column}
use Rattle.split_state.specs.Versions.{HaveCommutingMatrices, IsOperatorMatrix, IsVersion, ListsOperators, operators}
use Rattle.split_state.proofs.Versions.{operator_matrix_sized, version_characteristic, version_lists}

-- a column is the image of a unit vector
column_image : (p : ℕ) (m : List (List ℕ)) (j : ℕ) → j < length m → dense p (column m j) ≡ apply (dense_rows p m) (unit j)
column_image p m j l = sym (row-dense_rows p m j l) ∙ sym (combination-unit (dense_rows p m) j (omega (arith, l, length-dense_rows p m)))

-- matrices that commute have products that agree everywhere
commute_agrees : (p : ℕ) (a o : List (List ℕ)) → length o ≡ length a → Commute (dense_rows p a) (dense_rows p o) → AgreeAll p a o
commute_agrees p a o size h j l i k =
    ap (λ v. v i) (ap (apply (dense_rows p a)) (column_image p o j (omega (arith, size, l))) ∙ h.same (unit j)
    ∙ ap (apply (dense_rows p o)) (sym (column_image p a j l)))

-- so the matrix of an operator agrees with each that a version lists, where it commutes with those of the entries
pub agrees_with_listed : (g : Ground) (entries : List SplitEntry) (s : Decomposition) → IsVersion g entries s
    → (op : OpName) (columns : List (List ℕ))
    → IsOperatorMatrix g op columns → ((other : OpName) → Contains (operators entries) other → HaveCommutingMatrices g op other)
    → AgreesWithListed s columns
agrees_with_listed g entries s version op columns is commute = record { agree = agree }
  where
    same : s.characteristic ≡ g.characteristic
    same = version_characteristic g entries s version

    lists : ListsOperators g entries s
    lists = version_lists g entries s version

    agree : (k : ℕ) → k < length s.matrices → AgreeAll s.characteristic columns (get_or s.matrices k [])
    agree k within =
        let named : k < length s.names = omega (arith, within, lists.many) in
        let name = get_or s.names k Star in
        let matrix = get_or s.matrices k [] in
        let there : IsOperatorMatrix g name matrix = lists.matrix k named in
        let listed : Contains (operators entries) name = (lists.named name).0 (Contains-get_or s.names k Star named) in
        let size : length matrix ≡ length columns =
        (operator_matrix_sized g name matrix there).size ∙ sym (operator_matrix_sized g op columns is).size in
        subst (λ p. AgreeAll p columns matrix) (sym same)
        (commute_agrees g.characteristic columns matrix size (commute name listed columns matrix is there))
