use Rattle.std.proofs.Common.{◌+◌, ◌*◌, ◌∙◌, get_or, ap, arith}
use Rattle.linear_algebra.specs.Dense.{dense}
use Rattle.linear_algebra.specs.Residue.{residue}
use Rattle.linear_algebra.specs.Vector.{◌⊞◌, ◌⊡◌}
use Rattle.linear_algebra.proofs.DenseLaws.{dense_plus, below_from_entries}
use Rattle.field_table.proofs.TableFacts.{listed_above_one}
use Rattle.field_table.proofs.kernel.Kernel.axpy.Goals as goal

pub returns-clause-sum : goal.returns-clause-sum
returns-clause-sum g c =
    dense_plus g.row.P c.of-multiple.result.factor c.args.acc.now c.args.row.now c.loop-i.acc c.requires.lengths (omega arith)
    (λ k l. c.loop-i.invariant.done k (omega arith))
    ∙ ap (λ f. dense g.row.P c.args.acc.now ⊞ residue g.row.P f ⊡ dense g.row.P c.args.row.now) c.of-multiple.ensures

pub returns-clause-residues : goal.returns-clause-residues
returns-clause-residues g c =
    below_from_entries g.row.P c.loop-i.acc (λ k. get_or c.args.acc.now k 0 + c.of-multiple.result.factor * get_or c.args.row.now k 0)
    (omega (arith, listed_above_one g.row.P c.requires.listed)) (λ k l. c.loop-i.invariant.done k (omega arith))
