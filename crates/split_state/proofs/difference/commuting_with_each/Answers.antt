use Rattle.std.proofs.Common.{sym, subst, length}
use Rattle.split_state.specs.Decomposition.{IsSized}
use Rattle.split_state.proofs.Keeping.{Each-get_or}
use Rattle.split_state.proofs.difference.commuting_with_each.Goals as goal

pub matrix_difference-requires-clause-other : goal.matrix_difference-requires-clause-other
matrix_difference-requires-clause-other c = subst (IsSized c.args.field (length c.args.mat.now)) (sym c.index-matrices-k.is)
    (Each-get_or c.args.matrices.now c.loop-k.k c.index-matrices-k.result c.loop-k-test.true c.requires.listed)
