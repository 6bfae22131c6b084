use Rattle.std.proofs.Common.{inr}
use Rattle.session_core.proofs.OperatorLemmas.{value_told}
use Rattle.session_core.proofs.answers.operators.poly.Goals as goal

pub returns-in-Ok-operator_matrix : goal.returns-in-Ok-operator_matrix
returns-in-Ok-operator_matrix g c = inr (record {
  columns = c.in-Ok-operator_matrix.mat;
  keeps = c.in-Ok-operator_matrix.ensures.keeps;
  matrix = c.in-Ok-operator_matrix.ensures.matrix;
  told = value_told c.args.space.now c.field.result c.field-in-Ok-operator_matrix.result c.field-2.result c.args.coefficients.now c.args.coords.now
      c.in-Ok-operator_matrix.mat c.in-Ok.polynomial c.in_ok-given.given.items c.deref.result.now
      c.in_ok-at_vector-in-Ok-operator_matrix.field-0 c.field.ensures c.field-in-Ok-operator_matrix.ensures c.field-2.ensures c.in-Ok.ensures.residues
      c.in_ok-given.ensures.numbers c.deref.ensures.value
      c.in_ok-at_vector-in-Ok-operator_matrix.ensures.value c.in_ok-at_vector-in-Ok-operator_matrix.ensures.length c.in-Ok-operator_matrix.ensures.size
      c.in_ok-at_vector-in-Ok-operator_matrix.ensures.residues;
})
