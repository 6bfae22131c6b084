use Rattle.linear_algebra.specs.Dense.{dense}
use Rattle.sparse_echelon.proofs.Selected.{added_none, added_one}
use Rattle.sparse_echelon.proofs.spreading.spread_row_of.Goals as goal

pub returns-in-Some-clause-sum : goal.returns-in-Some-clause-sum
returns-in-Some-clause-sum c =
    added_one c.args.field c.args.leads.now c.args.rows.now c.args.factor c.args.number c.mul.result c.args.place c.in-Some.row
    (dense c.args.field c.args.acc.now) (dense c.args.field c.axpy_sparse.new.acc) c.index-rows-row.result
    c.requires.many c.in-Some.ensures.number c.in-Some.ensures.only c.index-rows-row.is c.mul.ensures.residue
    (rw c.terms.ensures.terms at c.axpy_sparse.ensures.sum)

pub returns-in_default-clause-sum : goal.returns-in_default-clause-sum
returns-in_default-clause-sum c = added_none c.args.field c.args.leads.now c.args.rows.now c.args.factor c.args.number c.args.place
    (dense c.args.field c.args.acc.now) c.requires.many c.in_default.ensures.number
