use Rattle.std.proofs.Common.{rules, ◌≡◌, ◌<◌, [], get_or, ap, sym, ◌∙◌}
use Rattle.std.proofs.lemmas.List.{get_or_default, nil_from_length}
use Rattle.field_table.specs.Table.{IsListed}
use Rattle.field_table.proofs.TableFacts.{listed_prime}
use Rattle.linear_algebra.specs.Sparse.{sparse}
use Rattle.linear_algebra.proofs.SparseLaws.{sparse_nil}
use Rattle.sparse_echelon.proofs.Selected.{minus_selected}
use Rattle.sparse_echelon.proofs.Steps.{stored_spanned}
use Rattle.sparse_echelon.proofs.elimination.eliminate_row.Goals as goal

pub returns-then-is_empty-clause-stored : goal.returns-then-is_empty-clause-stored
returns-then-is_empty-clause-stored c =
    let listed : IsListed c.args.field = search rules in
    let above : 1 < c.args.field = search rules in
    let terms : c.terms-terms.result.now ≡ get_or c.args.rows.now c.args.n [] = c.terms-terms.ensures.terms ∙ c.index-rows-n.is
    ∙ get_or_default c.args.rows.now c.args.n c.index-rows-n.result [] c.requires.number in
    let none : c.in_ok-left.left ≡ [] = sym c.terms.ensures.terms ∙ nil_from_length c.terms.result.now (search rules) in
    stored_spanned _ (listed_prime c.args.field listed) c.args.n _ _ _ _ c.requires.stored c.requires.number c.in_ok-left.left
    (rw (c.deref.ensures.value, terms) at (minus_selected c.args.field c.neg.result above _
    (sparse c.args.field c.in_ok-left.left) _ c.neg.ensures.residue c.in_ok-left.ensures.sum))
    (ap (sparse c.args.field) none ∙ sparse_nil c.args.field)

pub keep-requires-clause-left : goal.keep-requires-clause-left
keep-requires-clause-left c =
    let above : 1 < c.args.field = search rules in
    let terms : c.terms-terms.result.now ≡ get_or c.args.rows.now c.args.n [] = c.terms-terms.ensures.terms ∙ c.index-rows-n.is
    ∙ get_or_default c.args.rows.now c.args.n c.index-rows-n.result [] c.requires.number in
    ap (sparse c.args.field) c.terms-2.ensures.terms
    ∙ rw (c.deref.ensures.value, terms) at (minus_selected c.args.field c.neg.result above _
    (sparse c.args.field c.in_ok-left.left) _ c.neg.ensures.residue c.in_ok-left.ensures.sum)
