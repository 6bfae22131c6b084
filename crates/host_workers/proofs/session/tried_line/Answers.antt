use Rattle.std.proofs.Common.{◌+◌, [], ◌∷◌, ◌++◌, ◌∙◌, ap, subst}
use Rattle.op_polynomials.specs.declared.entry.SplitEntry.{SplitEntry}
use Rattle.turn_board.specs.Passes.{view}
use Rattle.split_state.specs.Versions.{IsVersion}
use Rattle.session_core.specs.declared.outcome.Finish.TheVariants as outcomes
use Rattle.session_core.specs.Replies.{FinishesLine}
use Rattle.split_versions.specs.Histories.{maker_of}
use Rattle.split_versions.specs.Shared.{setting_of}
use Rattle.host_workers.specs.Sessions.{TriesSplit}
use Rattle.host_workers.proofs.GoingOn.{goes_on}
use Rattle.host_workers.proofs.Tries.{plain_flies, plain_try, split_of, split_try, stale_try, version_here, wanting_line, wanting_try}
use Rattle.host_workers.proofs.session.tried_line.Goals as goal

pub returns-in_default-clause-answers : goal.returns-in_default-clause-answers
returns-in_default-clause-answers g c =
    wanting_line c.args.space.now ((view c.args.splits.now).number + 1) c.args.number c.args.known.now c.args.line.now (view c.args.splits.now).seen
    (view c.current.new.pass).seen c.requires.known
    (goes_on maker_of (view c.args.splits.now).number (view c.args.splits.now).seen (view c.current.new.pass).seen c.current.ensures.none)

pub returns-in-Reply-clause-answers : goal.returns-in-Reply-clause-answers
returns-in-Reply-clause-answers g c =
    let version : IsVersion c.args.space.now (view c.current.new.pass).seen c.deref.result.now =
    version_here c.args.space.now (setting_of c.args.versions.now) (view c.current.new.pass).seen c.deref.result.now c.in-Ok.splitting.value
    c.requires.splits.setting c.deref.ensures c.in-Ok.ensures.newest in
    plain_try c.args.space.now ((view c.args.splits.now).number + 1) c.args.number c.args.known.now c.in-Ok.version c.args.line.now
    (view c.args.splits.now).seen (view c.current.new.pass).seen c.deref.result.now c.in-Reply.reply c.requires.known
    (goes_on maker_of (view c.args.splits.now).number (view c.args.splits.now).seen (view c.current.new.pass).seen c.current.ensures.none)
    c.in-Ok.ensures.count version
    (subst (FinishesLine c.args.space.now c.in-Ok.version c.deref.result.now c.args.line.now.text) c.in-Reply.is c.line_finish.ensures.finishes)

pub returns-in-Reply-clause-flies : goal.returns-in-Reply-clause-flies
returns-in-Reply-clause-flies g c =
    plain_flies c.args.space.now (view c.args.columns.now).number (view c.args.splits.now).number c.in-Ok.version c.args.number c.args.line.now
    (view c.args.columns.now).seen (view c.line_finish.new.columns).seen c.line_finish.result c.in-Reply.reply c.requires.number c.in-Reply.is
    c.line_finish.ensures.flown

pub commit_split-requires-clause-next : goal.commit_split-requires-clause-next
commit_split-requires-clause-next g c κs within =
    let version : IsVersion c.args.space.now (view c.current.new.pass).seen c.deref.result.now =
    version_here c.args.space.now (setting_of c.args.versions.now) (view c.current.new.pass).seen c.deref.result.now c.in-Ok.splitting.value
    c.requires.splits.setting c.deref.ensures c.in-Ok.ensures.newest in
    let split = split_of c.args.space.now (c.number.result + 1) c.args.number c.in-Ok.version c.args.line.now.text (view c.current.new.pass).seen
    c.deref.result.now c.in-Split.next c.in-Split.op c.in-Split.poly c.in-Split.dims c.in-Ok.ensures.count version
    (subst (FinishesLine c.args.space.now c.in-Ok.version c.deref.result.now c.args.line.now.text) c.in-Split.is c.line_finish.ensures.finishes) in
    subst (λ s. IsVersion s ((view c.current.new.pass).seen
    ++ record { session = c.number.result + 1; command = c.args.number; op = c.in-Split.op; poly = c.in-Split.poly } ∷ []) c.in-Split.next)
    c.requires.splits.setting split.1

pub returns-in-Ok-true-clause-answers : goal.returns-in-Ok-true-clause-answers
returns-in-Ok-true-clause-answers g c =
    let version : IsVersion c.args.space.now (view c.current.new.pass).seen c.deref.result.now =
    version_here c.args.space.now (setting_of c.args.versions.now) (view c.current.new.pass).seen c.deref.result.now c.in-Ok.splitting.value
    c.requires.splits.setting c.deref.ensures c.in-Ok.ensures.newest in
    let entry : SplitEntry = record { session = c.number.result + 1; command = c.args.number; op = c.in-Split.op; poly = c.in-Split.poly } in
    split_try c.args.space.now ((view c.args.splits.now).number + 1) (c.number.result + 1) c.args.number c.args.known.now c.in-Ok.version
    c.args.line.now (view c.args.splits.now).seen (view c.current.new.pass).seen (view c.commit_split.new.splits).seen c.deref.result.now
    c.in-Split.next c.in-Split.op c.in-Split.poly c.in-Split.dims
    (ap (λ k. k + 1) (c.number.ensures.number ∙ c.current.ensures.later.number)) c.requires.known
    (goes_on maker_of (view c.args.splits.now).number (view c.args.splits.now).seen (view c.current.new.pass).seen c.current.ensures.none)
    c.in-Ok.ensures.count version
    (subst (FinishesLine c.args.space.now c.in-Ok.version c.deref.result.now c.args.line.now.text) c.in-Split.is c.line_finish.ensures.finishes)
    (subst (λ b. TriesSplit ((view c.current.new.pass).number + 1) entry (view c.current.new.pass).seen b (view c.commit_split.new.splits).seen)
    c.in-Ok-true.field-0-test c.in-Ok-true.ensures.answer)

pub returns-in-Ok-false-clause-answers : goal.returns-in-Ok-false-clause-answers
returns-in-Ok-false-clause-answers g c =
    let version : IsVersion c.args.space.now (view c.current.new.pass).seen c.deref.result.now =
    version_here c.args.space.now (setting_of c.args.versions.now) (view c.current.new.pass).seen c.deref.result.now c.in-Ok.splitting.value
    c.requires.splits.setting c.deref.ensures c.in-Ok.ensures.newest in
    let entry : SplitEntry = record { session = c.number.result + 1; command = c.args.number; op = c.in-Split.op; poly = c.in-Split.poly } in
    stale_try c.args.space.now (view c.current.new.pass).number (view c.args.splits.now).number c.args.number c.args.known.now c.in-Ok.version
    c.args.line.now (view c.args.splits.now).seen (view c.current.new.pass).seen (view c.commit_split.new.splits).seen c.deref.result.now
    c.in-Split.next c.in-Split.op c.in-Split.poly c.in-Split.dims c.current.ensures.later.number c.requires.known
    (goes_on maker_of (view c.args.splits.now).number (view c.args.splits.now).seen (view c.current.new.pass).seen c.current.ensures.none)
    c.in-Ok.ensures.count version
    (subst (FinishesLine c.args.space.now c.in-Ok.version c.deref.result.now c.args.line.now.text) c.in-Split.is c.line_finish.ensures.finishes)
    (subst (λ b. TriesSplit ((view c.current.new.pass).number + 1) entry (view c.current.new.pass).seen b (view c.commit_split.new.splits).seen)
    c.in-Ok-false.field-0-test c.in-Ok-false.ensures.answer)

pub returns-clause-answers : goal.returns-clause-answers
returns-clause-answers g c =
    let version : IsVersion c.args.space.now (view c.current.new.pass).seen c.deref.result.now =
    version_here c.args.space.now (setting_of c.args.versions.now) (view c.current.new.pass).seen c.deref.result.now c.in-Ok.splitting.value
    c.requires.splits.setting c.deref.ensures c.in-Ok.ensures.newest in
    wanting_try c.args.space.now ((view c.args.splits.now).number + 1) c.args.number c.args.known.now c.in-Ok.version c.args.line.now
    (view c.args.splits.now).seen (view c.current.new.pass).seen (view c.commit_split.new.splits).seen c.deref.result.now c.requires.known
    (goes_on maker_of (view c.args.splits.now).number (view c.args.splits.now).seen (view c.current.new.pass).seen c.current.ensures.none)
    c.in-Ok.ensures.count version c.in-Err.ensures.refused
