use Rattle.std.proofs.Common.{rules, arith, ◌<◌}
use Rattle.std.proofs.lemmas.Grind.{get_or_default_zero}
use Rattle.dense_mat.proofs.Summing.{remainders_same}
use Rattle.dense_mat.proofs.accumulation.make_room.Goals as goal

pub returns-then-number-clause-same : goal.returns-then-number-clause-same
returns-then-number-clause-same c =
    remainders_same c.args.field c.args.sums.now c.reduce_all.new.sums c.reduce_all.auto.sums (λ k l. c.reduce_all.ensures k l)

pub returns-then-number-clause-room : goal.returns-then-number-clause-room
returns-then-number-clause-room c = λ k d l.
    let positive : 0 < c.args.field = search rules in
    omega (
      arith,
      positive,
      get_or_default_zero c.reduce_all.new.sums k d l,
      c.reduce_all.ensures k (omega (arith, l, c.reduce_all.auto.sums)),
      c.characteristic-characteristic.ensures.limit,
    )
