use Rattle.std.proofs.Common.{arith, ◌≡◌, length}
use Rattle.dense_mat.proofs.Scalars.{scalar_all}
use Rattle.dense_mat.proofs.constants.scalar_columns.Goals as goal

pub returns : goal.returns
returns c =
    let all : length c.loop-j.columns.items ≡ c.args.size = omega (arith, c.loop-j.invariant.many, c.loop-j-test.false, c.loop-j.auto.j-end) in
    scalar_all c.args.size c.args.c c.loop-j.columns.items all c.loop-j.invariant.each
