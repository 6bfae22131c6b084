use Rattle.std.proofs.Common.{refl, sym, ap, subst, ◌∙◌, ◌<◌, length, ◌-◌, arith, ◌++◌, ◌∷◌, [], take, get_or, slice_set, Err}
use Rattle.quotient_coords.specs.Quotient.{Ground}
use Rattle.split_state.specs.Versions.{IsVersion}
use Rattle.shared_core.specs.declared.step.Outcome.TheVariants.{Relation}
use Rattle.shared_core.specs.Learning.{AreLearnt}
use Rattle.shared_core.specs.Verdicts.{accepted, commutator, relation}
use Rattle.shared_core.proofs.LearntLemmas.{AreLearnt-commit, counts-set, known_at, commits, version_read, stale_is, full_is, committed_is}
use Rattle.shared_core.proofs.learning.commit_at.Goals as goal

pub next_version-requires-clause-version : goal.next_version-requires-clause-version
next_version-requires-clause-version c =
    let within : c.args.entry.session - 1 < length c.args.learnt.now = omega (arith, c.requires.session.0, c.requires.session.1) in
    let known = known_at _ _ c.args.learnt.now (c.args.entry.session - 1) c.index-learnt-place.result c.requires.learnt within in
    (_, version_read _ c.args.space.now _ _ _ c.requires.setting known.0 c.deref.ensures)

pub returns-in-Err-Relation-clause-outcome : goal.returns-in-Err-Relation-clause-outcome
returns-in-Err-Relation-clause-outcome c =
    let within : c.args.entry.session - 1 < length c.args.learnt.now = omega (arith, c.requires.session.0, c.requires.session.1) in
    let known = known_at _ _ c.args.learnt.now (c.args.entry.session - 1) c.index-learnt-place.result c.requires.learnt within in
    commits _ _ _ _ _ _ c.args.entry (relation _) _ c.requires.setting known.0 known.1 c.deref.ensures
    (c.in-Err-Relation.ensures.relation _ c.in-Err-Relation.field-0-is) (ap Relation c.in-Err-Relation.number-is)

pub returns-in-Err-Commutator-clause-outcome : goal.returns-in-Err-Commutator-clause-outcome
returns-in-Err-Commutator-clause-outcome c =
    let within : c.args.entry.session - 1 < length c.args.learnt.now = omega (arith, c.requires.session.0, c.requires.session.1) in
    let known = known_at _ _ c.args.learnt.now (c.args.entry.session - 1) c.index-learnt-place.result c.requires.learnt within in
    commits _ _ _ _ _ _ c.args.entry commutator _ c.requires.setting known.0 known.1 c.deref.ensures
    (c.in-Err-Commutator.ensures.commutator c.in-Err-Commutator.field-0-is) refl

pub commit-requires-clause-seen : goal.commit-requires-clause-seen
commit-requires-clause-seen c =
    let within : c.args.entry.session - 1 < length c.args.learnt.now = omega (arith, c.requires.session.0, c.requires.session.1) in
    (known_at _ _ c.args.learnt.now (c.args.entry.session - 1) c.index-learnt-place.result c.requires.learnt within).0.within

pub commit-requires-clause-next : goal.commit-requires-clause-next
commit-requires-clause-next c =
    let within : c.args.entry.session - 1 < length c.args.learnt.now = omega (arith, c.requires.session.0, c.requires.session.1) in
    let known = known_at _ _ c.args.learnt.now (c.args.entry.session - 1) c.index-learnt-place.result c.requires.learnt within in
    let version = c.in-Ok.ensures.version _ (version_read _ c.args.space.now _ _ _ c.requires.setting known.0 c.deref.ensures) in
    subst (IsVersion c.args.versions.now.setting (take (get_or c.args.learnt.now
    (c.args.entry.session - 1) c.index-learnt-place.result).count c.args.versions.now.entries ++ c.args.entry ∷ [])) (sym c.in_ok-next.ensures.ok)
    (subst (λ (s : Ground). IsVersion s (take (get_or c.args.learnt.now
    (c.args.entry.session - 1) c.index-learnt-place.result).count c.args.versions.now.entries ++ c.args.entry ∷ []) c.in-Ok.next)
    (sym c.requires.setting) version)

pub returns-in-Ok-commit-clause-outcome : goal.returns-in-Ok-commit-clause-outcome
returns-in-Ok-commit-clause-outcome c =
    let within : c.args.entry.session - 1 < length c.args.learnt.now = omega (arith, c.requires.session.0, c.requires.session.1) in
    let known = known_at _ _ c.args.learnt.now (c.args.entry.session - 1) c.index-learnt-place.result c.requires.learnt within in
    commits _ _ _ _ _ _ c.args.entry accepted _ c.requires.setting known.0 known.1 c.deref.ensures c.in-Ok.ensures.accepted
    (committed_is (get_or c.args.learnt.now (c.args.entry.session - 1) c.index-learnt-place.result).count
    (length c.args.versions.now.entries) _ c.in-Ok-commit.ensures.answer)

pub returns-in-Err-Stale-clause-outcome : goal.returns-in-Err-Stale-clause-outcome
returns-in-Err-Stale-clause-outcome c =
    let within : c.args.entry.session - 1 < length c.args.learnt.now = omega (arith, c.requires.session.0, c.requires.session.1) in
    let known = known_at _ _ c.args.learnt.now (c.args.entry.session - 1) c.index-learnt-place.result c.requires.learnt within in
    commits _ _ _ _ _ _ c.args.entry accepted _ c.requires.setting known.0 known.1 c.deref.ensures c.in-Ok.ensures.accepted
    (stale_is (get_or c.args.learnt.now (c.args.entry.session - 1) c.index-learnt-place.result).count (length c.args.versions.now.entries) _
    (ap Err (sym c.in-Err-Stale.field-0-is) ∙ c.in-Err-Stale.ensures.answer))

pub returns-clause-outcome : goal.returns-clause-outcome
returns-clause-outcome c =
    let within : c.args.entry.session - 1 < length c.args.learnt.now = omega (arith, c.requires.session.0, c.requires.session.1) in
    let known = known_at _ _ c.args.learnt.now (c.args.entry.session - 1) c.index-learnt-place.result c.requires.learnt within in
    commits _ _ _ _ _ _ c.args.entry accepted _ c.requires.setting known.0 known.1 c.deref.ensures c.in-Ok.ensures.accepted
    (full_is (get_or c.args.learnt.now (c.args.entry.session - 1) c.index-learnt-place.result).count (length c.args.versions.now.entries)
    (ap Err (sym c.in-Err-Full.field-0-is) ∙ c.in-Err-Full.ensures.answer))

pub returns-in-Ok-commit-clause-state : goal.returns-in-Ok-commit-clause-state
returns-in-Ok-commit-clause-state c = λ F j. record {
  flights = F;
  history = c.in-Ok-commit.ensures.entries j;
  learnt = counts-set
      c.args.learnt.now (c.args.entry.session - 1) (record { count = c.in-Ok-commit.count; splitting = c.in_ok-known.known }) j;
}

pub returns-in-Ok-commit-clause-learnt : goal.returns-in-Ok-commit-clause-learnt
returns-in-Ok-commit-clause-learnt c =
    let seen = (get_or c.args.learnt.now (c.args.entry.session - 1) c.index-learnt-place.result).count in
    let within : c.args.entry.session - 1 < length c.args.learnt.now = omega (arith, c.requires.session.0, c.requires.session.1) in
    let known = known_at _ _ c.args.learnt.now (c.args.entry.session - 1) c.index-learnt-place.result c.requires.learnt within in
    let read = c.in-Ok.ensures.version _ (version_read _ c.args.space.now _ _ _ c.requires.setting known.0 c.deref.ensures) in
    let next = subst (IsVersion c.args.versions.now.setting (take seen c.args.versions.now.entries ++ c.args.entry ∷ []))
    (sym c.in_ok-next.ensures.ok)
    (subst (λ (s : Ground). IsVersion s (take seen c.args.versions.now.entries ++ c.args.entry ∷ []) c.in-Ok.next) (sym c.requires.setting) read) in
    let version = subst (IsVersion c.args.versions.now.setting (take seen c.args.versions.now.entries ++ c.args.entry ∷ []))
    (sym c.in_ok-known.ensures.cases) next in
    subst (λ (s : Ground). AreLearnt s c.commit.new.self.entries
    (slice_set c.args.learnt.now (c.args.entry.session - 1) (record { count = c.in-Ok-commit.count; splitting = c.in_ok-known.known })))
    (sym c.in-Ok-commit.ensures.setting)
    (subst (λ es. AreLearnt c.args.versions.now.setting es (slice_set c.args.learnt.now (c.args.entry.session - 1)
    (record { count = c.in-Ok-commit.count; splitting = c.in_ok-known.known }))) (sym c.in-Ok-commit.ensures.entries)
    (AreLearnt-commit _ _ c.args.entry c.args.learnt.now (c.args.entry.session - 1)
    (record { count = c.in-Ok-commit.count; splitting = c.in_ok-known.known }) seen c.requires.learnt c.in-Ok-commit.ensures.count
    (c.in-Ok-commit.ensures.committed.0 refl).0 version))
