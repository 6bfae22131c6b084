use Rattle.std.proofs.Common.{arith}
use Rattle.std.proofs.lemmas.Int.{ints}
use Rattle.heilbronn_chains.specs.Chains.{degree}
use Rattle.heilbronn_chains.proofs.Columns.{small_member, after_few, after_follows}
use Rattle.heilbronn_chains.proofs.step.next.Goals as goal

pub first_column-a-requires-clause-few : goal.first_column-a-requires-clause-few
first_column-a-requires-clause-few c = small_member (degree c.args.matrix.now) c.args.matrix.now c.requires.limit c.requires.member

pub overflow_cast-a : goal.overflow_cast-a
overflow_cast-a c =
    let r = c.first_column-a.result in
    let h = c.first_column-a.ensures in
    let few = after_few (degree c.args.matrix.now) c.args.matrix.now r.0 r.1 c.requires.limit c.requires.member
    (record { column = h.column; below = h.below }) in
    omega (arith, ints, few)

pub returns-clause-next : goal.returns-clause-next
returns-clause-next c =
    let r = c.first_column-a.result in
    let h = c.first_column-a.ensures in
    after_follows (degree c.args.matrix.now) c.args.matrix.now r.0 r.1 c.new.result c.requires.limit c.requires.member
    (record { column = h.column; below = h.below }) c.new.ensures
