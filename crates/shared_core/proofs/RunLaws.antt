-- A list of steps has one run.
use Rattle.std.proofs.Common.{◌≡◌, ℕ, zero, suc, List, [], ◌∷◌, take, slice_get, length, Some, sym, ap, subst, ◌∙◌}
use Rattle.quotient_coords.specs.Quotient.{Ground}
use Rattle.field_table.specs.Table.{IsListed}
use Rattle.split_state.proofs.Versions.{version_once}
use Rattle.shared_core.specs.declared.run.CoreRun.{CoreRun}
use Rattle.shared_core.specs.declared.step.CoreStep.{CoreStep}
use Rattle.shared_core.specs.declared.step.Act.{Act}
use Rattle.shared_core.specs.declared.step.Act.TheVariants.{Learn, Look, Publish, Abandon, Commit}
use Rattle.shared_core.specs.declared.step.Outcome.{Outcome}
use Rattle.shared_core.specs.Core.{CoreState, Does, IsLegalStep, IsRun, IsFirstIllegal, commit_outcome, committed, learnt_of, core_start}
use Rattle.shared_core.specs.Results.{IsCoreRun}
use Rattle.shared_core.specs.Verdicts.{IsVerdict}
use Rattle.shared_core.proofs.VerdictLaws.{verdict_once}

Does-unique : (setting : Ground) → IsListed setting.characteristic → (s : CoreState) (session : ℕ) (act : Act) (o p : Outcome) (t u : CoreState)
    → Does setting s session act o t → Does setting s session act p u → (o ≡ p) × (t ≡ u)
Does-unique setting listed s session Learn o p t u d e = (d.0 ∙ sym e.0, d.1 ∙ sym e.1)
Does-unique setting listed s session (Look key) o p t u d e = (d.0 ∙ sym e.0, d.1 ∙ sym e.1)
Does-unique setting listed s session (Publish key) o p t u d e = (d.0 ∙ sym e.0, d.1 ∙ sym e.1)
Does-unique setting listed s session (Abandon key) o p t u d e = (d.0 ∙ sym e.0, d.1 ∙ sym e.1)
Does-unique setting listed s session (Commit command op poly) o p t u d e =
    let parts = version_once setting listed _ d.0 e.0 d.2 e.2 in
    let verdict = verdict_once setting listed e.0 op d.1 e.1 (subst (λ x. IsVerdict setting x op d.1) parts d.3) e.3 in
    let same = d.4 ∙ ap (λ v. commit_outcome v (learnt_of s session) (length s.history)) verdict ∙ sym e.4 in
    (same, d.5 ∙ ap (committed s session (record { session = session; command = command; op = op; poly = poly })) same ∙ sym e.5)

pub IsRun-unique : (setting : Ground) → IsListed setting.characteristic
    → (sessions : ℕ) (s : CoreState) (steps : List CoreStep) (os others : List Outcome) (t u : CoreState) → IsRun setting sessions s steps os t
    → IsRun setting sessions s steps others u
    → (os ≡ others) × (t ≡ u)
IsRun-unique setting listed sessions s [] os others t u d e = (d.0 ∙ sym e.0, d.1 ∙ sym e.1)
IsRun-unique setting listed sessions s (x ∷ steps) os others t u d e =
    let first = Does-unique setting listed s x.session x.act d.0 e.0 d.1 e.1 d.4 e.4 in
    let rest = IsRun-unique setting listed sessions e.1 steps d.2 e.2 t u (subst (λ a. IsRun setting sessions a steps d.2 t) first.1 d.6) e.6 in
    (d.5 ∙ (λ j. first.0 j ∷ rest.0 j) ∙ sym e.5, rest.1)

-- each step of a run is legal after those before it
legal_within : (setting : Ground) → IsListed setting.characteristic
    → (sessions : ℕ) (s : CoreState) (steps : List CoreStep) (os : List Outcome) (t : CoreState) → IsRun setting sessions s steps os t
    → (place : ℕ) (step : CoreStep) → slice_get steps place ≡ Some step
    → (before : List Outcome) (reached : CoreState) → IsRun setting sessions s
    (take place steps) before reached → IsLegalStep setting sessions reached step
legal_within setting listed sessions s [] os t d place step at before reached e = absurd cc
legal_within setting listed sessions s (x ∷ steps) os t d zero step at before reached e =
    subst (λ a. IsLegalStep setting sessions a step) (sym e.1) (subst (IsLegalStep setting sessions s) (let same : x ≡ step = cc in same) d.3)
legal_within setting listed sessions s (x ∷ steps) os t d (suc place) step at before reached e =
    let first = Does-unique setting listed s x.session x.act d.0 e.0 d.1 e.1 d.4 e.4 in
    legal_within setting listed sessions d.1 steps d.2 t d.6 place step at e.2 reached
    (subst (λ a. IsRun setting sessions a (take place steps) e.2 reached) (sym first.1) e.6)

pub never_both : (setting : Ground) → IsListed setting.characteristic → (sessions : ℕ) (steps : List CoreStep) (run : CoreRun) (place : ℕ)
    → IsCoreRun setting sessions steps run → IsFirstIllegal setting sessions steps place → ⊥
never_both setting listed sessions steps run place whole first =
    first.illegal
    (legal_within setting listed sessions
    (core_start sessions) steps run.outcomes.items whole.left whole.runs place first.step first.at first.outcomes first.reached first.before)
