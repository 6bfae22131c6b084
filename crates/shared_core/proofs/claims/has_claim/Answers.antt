use Rattle.std.proofs.Common.{◌≡◌, Some, None, sym, ap, ◌∙◌}
use Rattle.std.proofs.lemmas.Bool.{eqb-true, eq-eqb, true≢false}
use Rattle.shared_core.proofs.ClaimLemmas.{claimer_there, claimer_absent}
use Rattle.shared_core.proofs.claims.has_claim.Goals as goal

pub returns-in-Some : goal.returns-in-Some
returns-in-Some c =
    let there = claimer_there _ _ _ _ c.requires.claims (sym c.in-Some.ensures.value) in (
      λ h. there.0 ∙ ap Some (sym c.by.ensures ∙ eqb-true _ _ h),
      λ h. eq-eqb _ _
          (let same : Some c.by.result ≡ Some c.args.session = ap Some c.by.ensures ∙ sym there.0 ∙ h in cc),
    )

pub returns-in-None : goal.returns-in-None
returns-in-None c =
    let none = claimer_absent _ _ _ c.requires.claims (sym c.in-None.ensures.value) in
    (λ h. absurd (true≢false (sym h)), λ h. absurd (let both : None ≡ Some c.args.session = sym none ∙ h in cc))
