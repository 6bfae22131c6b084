use Rattle.linear_algebra.specs.Sparse.{sparse}
use Rattle.sparse_echelon.proofs.Selected.{added_none, added_one}
use Rattle.sparse_echelon.proofs.selection.add_row_of.Goals as goal

pub returns-in_ok-sum-clause-sum : goal.returns-in_ok-sum-clause-sum
returns-in_ok-sum-clause-sum c =
    added_one c.args.field c.args.leads.now c.args.rows.now c.args.factor c.args.number c.mul.result c.args.place c.in-Some.row
    (sparse c.args.field c.args.sum.now) (sparse c.args.field c.in_ok-sum.field-0) c.index-rows-row.result
    c.requires.many c.in-Some.ensures.number c.in-Some.ensures.only c.index-rows-row.is c.mul.ensures.residue
    (rw (c.terms.ensures.terms, c.terms-in-Some.ensures.terms) at c.in_ok-sum.ensures.sum)

pub returns-in_default-clause-sum : goal.returns-in_default-clause-sum
returns-in_default-clause-sum c = added_none c.args.field c.args.leads.now c.args.rows.now c.args.factor c.args.number c.args.place
    (sparse c.args.field c.args.sum.now) c.requires.many c.in_default.ensures.number
