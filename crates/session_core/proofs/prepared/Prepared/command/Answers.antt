use Rattle.std.proofs.Common.{◌≡◌, None, subst}
use Rattle.session_core.specs.Demands.{Preparation}
use Rattle.session_core.specs.Refusals.{refusal_of}
use Rattle.session_core.proofs.prepared.Prepared.command.Goals as goal

pub returns-clause-unrefused : goal.returns-clause-unrefused
returns-clause-unrefused c =
    subst (λ (p : Preparation). refusal_of p.ground p.version p.parts c.self.inside.command ≡ None) c.self.view_is c.self.invariant.unrefused
