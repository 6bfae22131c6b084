use Rattle.std.proofs.Common.{inr}
use Rattle.session_core.proofs.OperatorLemmas.{image_told}
use Rattle.session_core.proofs.answers.operators.apply.Goals as goal

pub returns-in-Ok : goal.returns-in-Ok
returns-in-Ok g c = inr (record {
  columns = c.in-Ok.mat;
  keeps = c.in-Ok.ensures.keeps;
  matrix = c.in-Ok.ensures.matrix;
  told = image_told c.args.space.now c.field.result c.field-in-Ok.result c.args.coords.now c.in-Ok.mat c.in_ok-given.given.items c.deref.result.now
      c.in_ok-apply-in-Ok.field-0 c.field.ensures c.field-in-Ok.ensures c.in_ok-given.ensures.numbers c.deref.ensures.value
      c.in_ok-apply-in-Ok.ensures.image c.in_ok-apply-in-Ok.ensures.length c.in-Ok.ensures.size c.in_ok-apply-in-Ok.ensures.residues;
})
