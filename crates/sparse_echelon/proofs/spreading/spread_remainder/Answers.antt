use Rattle.std.proofs.Common.{rules, ◌≡◌, ◌<◌, length, ap, ◌∙◌, replicate}
use Rattle.linear_algebra.specs.Dense.{dense}
use Rattle.linear_algebra.proofs.DenseLaws.{dense-replicate}
use Rattle.sparse_echelon.proofs.Selected.{minus_spread}
use Rattle.sparse_echelon.proofs.spreading.spread_remainder.Goals as goal

pub returns-clause-difference : goal.returns-clause-difference
returns-clause-difference c =
    let filled : c.fill.new.self ≡ replicate (length c.args.acc.now) 0 = c.fill.ensures.after (λ y h. h) in
    let empty = ap (dense c.args.field) filled ∙ dense-replicate c.args.field (length c.args.acc.now) in
    let above : 1 < c.args.field = search rules in
    minus_spread c.args.field c.neg.result above (dense c.args.field c.fill.new.self) (dense c.args.field c.spread_selected.new.acc)
    (dense c.args.field c.axpy_sparse.new.acc) _ _
    empty c.neg.ensures.residue c.spread_selected.ensures.sum c.axpy_sparse.ensures.sum
