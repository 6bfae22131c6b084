use Rattle.std.proofs.Common.{◌+◌, get_or, sym, arith}
use Rattle.linear_algebra.proofs.DenseLaws.{below_from_entries}
use Rattle.hecke_ops.proofs.RelationSums.{dense_sum}
use Rattle.hecke_ops.proofs.sum.add.Goals as goal

pub returns-clause-sum : goal.returns-clause-sum
returns-clause-sum c = dense_sum c.args.field c.args.sum.now c.args.x.now c.loop-i.sum
    (sym c.requires.count) (omega arith) (λ k l. c.loop-i.invariant.done k (omega arith))

pub returns-clause-residues : goal.returns-clause-residues
returns-clause-residues c =
    below_from_entries c.args.field c.loop-i.sum (λ k. get_or c.args.sum.now k 0 + get_or c.args.x.now k 0)
    (omega arith) (λ k l. c.loop-i.invariant.done k (omega arith))
