use Rattle.std.proofs.Common.{sym, ap, subst, []}
use Rattle.shared_core.specs.Claims.{AreClaims}
use Rattle.shared_core.proofs.ClaimLemmas.{AreClaims-nil}
use Rattle.shared_core.proofs.run.opened.Goals as goal

pub returns-clause-machine : goal.returns-clause-machine
returns-clause-machine c = record {
  flights = ap (λ f. f.setting) c.new-2.ensures;
  versions = ap (λ v. v.setting) c.in_ok-versions.ensures;
  claims = subst (λ es. AreClaims es c.new-3.result.entries) (sym (ap (λ f. f.events) c.new-2.ensures))
      (subst (AreClaims []) (sym c.new-3.ensures.empty) AreClaims-nil);
  learnt = c.in_ok-learnt.ensures.learnt;
  sessions_are = c.in_ok-learnt.ensures.sessions;
}
