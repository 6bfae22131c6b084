use Rattle.std.proofs.Common.{◌∙◌, sym, ap, arith}
use Rattle.heilbronn_sets.specs.Sets.{list_fault}
use Rattle.heilbronn_sets.proofs.Faults.{IsMatrixSet-from_no_fault}
use Rattle.heilbronn_sets.proofs.matrix_set.MatrixSet.of.Goals as goal

pub invariant_of-result : goal.invariant_of-result
invariant_of-result c = IsMatrixSet-from_no_fault c.args.det c.args.list.items (omega arith) (omega arith) (omega (arith, c.requires.few))
    (ap (list_fault c.args.det) (sym c.deref.ensures.value) ∙ sym c.in-None.ensures)
