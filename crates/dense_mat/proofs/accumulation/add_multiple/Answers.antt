use Rattle.std.proofs.Common.{arith, sym, ap, ◌∙◌}
use Rattle.field_table.specs.declared.table.TheConstants.{CHARACTERISTIC_LIMIT}
use Rattle.linear_algebra.specs.Dense.{dense}
use Rattle.linear_algebra.specs.Residue.{residue}
use Rattle.linear_algebra.specs.Vector.{◌⊞◌, ◌⊡◌}
use Rattle.linear_algebra.proofs.Vectors.{plus-zeros, zero-scale}
use Rattle.dense_mat.proofs.Summing.{sums_plus, sums_grow}
use Rattle.dense_mat.proofs.accumulation.add_multiple.Goals as goal

pub returns-then-c-ne0-clause-sum : goal.returns-then-c-ne0-clause-sum
returns-then-c-ne0-clause-sum c =
    sums_plus c.args.field c.args.c c.args.sums.now c.args.row.now c.add_products.new.sums c.requires.lengths c.add_products.auto.sums
    (λ k l. c.add_products.ensures.each k l)

pub returns-then-c-ne0-clause-growth : goal.returns-then-c-ne0-clause-growth
returns-then-c-ne0-clause-growth c = λ b bounded.
    sums_grow CHARACTERISTIC_LIMIT c.args.c b c.args.sums.now c.args.row.now c.add_products.new.sums
    (omega (arith, c.requires.factor, c.characteristic-characteristic.ensures.limit))
    (λ k d l. omega (arith, c.requires.residues k d l, c.characteristic-characteristic.ensures.limit))
    c.requires.lengths c.add_products.auto.sums (λ k l. c.add_products.ensures.each k l) bounded

pub returns-else-c-ne0-clause-sum : goal.returns-else-c-ne0-clause-sum
returns-else-c-ne0-clause-sum c =
    sym (ap (λ n. dense c.args.field c.args.sums.now ⊞ (residue c.args.field n ⊡ dense c.args.field c.args.row.now)) c.if-c-ne0.false
    ∙ ap (λ u. dense c.args.field c.args.sums.now ⊞ u) (zero-scale (dense c.args.field c.args.row.now))
    ∙ plus-zeros (dense c.args.field c.args.sums.now))
