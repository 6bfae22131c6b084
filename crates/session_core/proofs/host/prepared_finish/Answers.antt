use Rattle.std.proofs.Common.{refl, rules}
use Rattle.session_core.proofs.DemandLemmas.{Adds-demand, HasAll-demand}
use Rattle.session_core.proofs.OperatorLemmas.{gathers_for}
use Rattle.session_core.proofs.host.prepared_finish.Goals as goal

pub returns-then-is_err-clause-columns : goal.returns-then-is_err-clause-columns
returns-then-is_err-clause-columns c = record {
  adds = Adds-demand c.args.space.now c.args.prepared.now.command c.demand.result.now _ _ (search rules) c.gather.ensures.adds;
  held = λ some. absurd (some refl);
}

pub returns-clause-columns : goal.returns-clause-columns
returns-clause-columns c =
    gathers_for _ c.finish_over.result _ _
    (Adds-demand c.args.space.now c.args.prepared.now.command c.demand.result.now _ _ (search rules) c.gather.ensures.adds)
    (HasAll-demand c.args.space.now c.args.prepared.now.command c.demand.result.now _ (search rules) (search rules))
