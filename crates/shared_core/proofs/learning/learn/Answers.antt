use Rattle.std.proofs.Common.{sym, ap, subst, ◌∙◌, ◌-◌, length, slice_set, arith}
use Rattle.std.specs.Arc.{arc_value}
use Rattle.std.proofs.lemmas.List.{take_all}
use Rattle.split_state.specs.Versions.{IsVersion}
use Rattle.shared_core.specs.Learning.{counts}
use Rattle.shared_core.proofs.LearntLemmas.{AreLearnt-set, counts-set}
use Rattle.shared_core.proofs.learning.learn.Goals as goal

pub returns-clause-learnt : goal.returns-clause-learnt
returns-clause-learnt c =
    let all = take_all (length c.entries.result.now) c.args.versions.now.entries (omega (arith, ap length c.entries.ensures.entries)) in
    let version = subst (λ es. IsVersion c.args.versions.now.setting es (arc_value c.in_ok-splitting.splitting)) (sym all)
    (subst (IsVersion c.args.versions.now.setting c.args.versions.now.entries) (sym c.in_ok-splitting.ensures.cases) c.newest.ensures) in
    AreLearnt-set _ _ _ _ _ c.requires.learnt (record { within = omega (arith, ap length c.entries.ensures.entries); version = version })

pub returns-clause-counts : goal.returns-clause-counts
returns-clause-counts c = counts-set _ _ _ ∙ ap (λ es. slice_set (counts c.args.learnt.now) (c.args.session - 1)
    (length es)) c.entries.ensures.entries
