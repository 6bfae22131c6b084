use Rattle.std.proofs.Common.{rules, ◌≡◌, ◌<◌, ◌∷◌, [], ◌∙◌, ap}
use Rattle.std.proofs.lemmas.List.Elements.{All-cons, All-nil}
use Rattle.std.proofs.lemmas.Result.{IfOk-weaker}
use Rattle.linear_algebra.specs.Coordinates.{unit}
use Rattle.linear_algebra.specs.Residue.{residue}
use Rattle.linear_algebra.specs.Sparse.{sparse, sparse_rows}
use Rattle.linear_algebra.specs.Vector.{◌⊡◌, combination, minus}
use Rattle.linear_algebra.proofs.SparseLaws.{sparse-one}
use Rattle.sparse_echelon.specs.Leads.{at_leads}
use Rattle.sparse_echelon.proofs.Selected.{minus_selected}
use Rattle.sparse_echelon.proofs.elimination.log_of.Goals as goal

pub returns-clause-log : goal.returns-clause-log
returns-clause-log c =
    let above : 1 < c.args.field = search rules in
    let log : sparse c.args.field c.in_ok-log.log ≡ minus (unit c.args.number)
    (combination (at_leads c.args.leads.now (sparse c.args.field c.args.terms.now)) (sparse_rows c.args.field c.args.logs.now)) =
    minus_selected c.args.field c.neg.result above (sparse c.args.field ((c.args.number, 1) ∷ []))
    (sparse c.args.field c.in_ok-log.log) _ c.neg.ensures.residue c.in_ok-log.ensures.sum
    ∙ ap (λ v. minus v (combination (at_leads c.args.leads.now (sparse c.args.field c.args.terms.now)) (sparse_rows c.args.field c.args.logs.now)))
    (sparse-one c.args.field (c.args.number, 1)) in
    IfOk-weaker c.product.result _ _ (λ z product. product ∙ ap (λ v. residue c.args.field c.args.factor ⊡ v)
    (ap (sparse c.args.field) c.terms.ensures.terms ∙ log)) c.product.ensures.product

pub returns-clause-rows : goal.returns-clause-rows
returns-clause-rows c = IfOk-weaker c.product.result _ _ (λ z places n below all. places n (rw c.terms.ensures.terms
    (c.in_ok-log.ensures.places n (All-cons (λ t. t.0 < n) (c.args.number, 1) [] below (All-nil (λ t. t.0 < n))) all))) c.product.ensures.places
