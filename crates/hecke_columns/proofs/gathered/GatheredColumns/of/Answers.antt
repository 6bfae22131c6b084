use Rattle.hecke_columns.proofs.gathered.GatheredColumns.of.Goals as goal

pub invariant_of-result : goal.invariant_of-result
invariant_of-result c = (
  rw c.modulus.ensures.modulus (rw c.level-2.ensures (rw c.field.ensures c.requires.columns)),
  rw c.as_slice.ensures.value at c.in_ok-numbers.ensures.finds,
)
