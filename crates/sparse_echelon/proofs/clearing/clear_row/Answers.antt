use Rattle.std.proofs.Common.{rules, ◌≡◌, ◌<◌, ap, sym, ◌∙◌, inr}
use Rattle.linear_algebra.specs.Residue.{residue}
use Rattle.linear_algebra.specs.Sparse.{sparse}
use Rattle.sparse_echelon.proofs.ClearedRows.{cleared_none}
use Rattle.sparse_echelon.proofs.clearing.clear_row.Goals as goal

pub returns-in_ok-add_row-clause-listed : goal.returns-in_ok-add_row-clause-listed
returns-in_ok-add_row-clause-listed c = inr (rw c.terms-then-coefficient-ne0-4.ensures.terms at c.in_ok-add_row.ensures.added)

pub returns-else-coefficient-ne0-clause-row : goal.returns-else-coefficient-ne0-clause-row
returns-else-coefficient-ne0-clause-row c =
    let above : 0 < c.args.field = search rules in
    let none : sparse c.args.field c.args.row.now c.args.place ≡ residue c.args.field 0 =
    sym (c.at-coefficient.ensures.number c.args.field) ∙ ap (residue c.args.field) c.if-coefficient-ne0.false in
    sym (cleared_none above c.args.place (sparse c.args.field c.args.row.now) (sparse c.args.field c.args.row.now)
    (sparse c.args.field c.args.cleared.now) none)

pub returns-else-coefficient-ne0-clause-log : goal.returns-else-coefficient-ne0-clause-log
returns-else-coefficient-ne0-clause-log c =
    let above : 0 < c.args.field = search rules in
    let none : sparse c.args.field c.args.row.now c.args.place ≡ residue c.args.field 0 =
    sym (c.at-coefficient.ensures.number c.args.field) ∙ ap (residue c.args.field) c.if-coefficient-ne0.false in
    sym (cleared_none above c.args.place (sparse c.args.field c.args.row.now) (sparse c.args.field c.args.log.now)
    (sparse c.args.field c.args.cleared_log.now) none)
