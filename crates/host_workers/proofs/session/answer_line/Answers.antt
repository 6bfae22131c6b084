use Rattle.std.proofs.Common.{◌+◌, ◌∙◌, arith, refl, subst, sym}
use Rattle.turn_board.specs.Passes.{view}
use Rattle.turn_board.proofs.PassLemmas.{continues_refl, continues_trans}
use Rattle.session_core.specs.Demands.{line_demand}
use Rattle.split_versions.specs.Histories.{maker_of}
use Rattle.host_workers.specs.Sessions.{FliesTry}
use Rattle.host_workers.proofs.FlownLines.{Flies_refl}
use Rattle.host_workers.proofs.GoingOn.{goes_on_same}
use Rattle.host_workers.proofs.Lookups.{may_fly_as}
use Rattle.host_workers.proofs.Tries.{IsStaleAfter, answers_after, flies_after, flies_again, may_commit_on, stale_after}
use Rattle.host_workers.proofs.session.answer_line.Goals as goal

pub loop-told-init : goal.loop-told-init
loop-told-init g c = record {
  columns = continues_refl c.args.columns.now;
  splits = continues_refl c.args.splits.now;
  may_fly = c.requires.columns;
  may_commit = c.requires.splits;
  walks = refl;
  known = omega arith;
  within = c.requires.known;
  goes = goes_on_same maker_of ((view c.args.splits.now).number + 1) (view c.args.splits.now).seen;
  flies = Flies_refl (line_demand c.args.space.now 0 c.args.line.now.text) ((view c.args.splits.now).number + 1) (view c.args.columns.now).seen;
}

pub tried_line-requires-clause-number : goal.tried_line-requires-clause-number
tried_line-requires-clause-number g c κs within =
    c.loop-told.invariant.columns.number ∙ c.requires.number ∙ sym c.loop-told.invariant.splits.number

pub returns-in-Some-clause-answers : goal.returns-in-Some-clause-answers
returns-in-Some-clause-answers g c =
    answers_after c.args.space.now (view c.loop-told.splits).number (view c.args.splits.now).number (c.args.number, c.args.line.now) c.args.known.now
    c.loop-told.known c.tried_line.new.known (view c.args.splits.now).seen (view c.loop-told.splits).seen (view c.tried_line.new.splits).seen
    c.tried_line.result c.in-Some.told c.loop-told.invariant.splits.number c.loop-told.invariant.known c.loop-told.invariant.goes c.in-Some.is
    c.tried_line.ensures.answers

pub returns-in-Some-clause-flies : goal.returns-in-Some-clause-flies
returns-in-Some-clause-flies g c =
    flies_after c.args.space.now (view c.loop-told.splits).number (view c.args.splits.now).number c.args.line.now (view c.args.columns.now).seen
    (view c.loop-told.columns).seen (view c.tried_line.new.columns).seen c.tried_line.result c.in-Some.told c.loop-told.invariant.splits.number c.in-Some.is
    c.loop-told.invariant.flies c.tried_line.ensures.flies

pub loop-told-preserved : goal.loop-told-preserved
loop-told-preserved g c =
    let stale : IsStaleAfter (view c.args.splits.now).number c.args.known.now (view c.args.splits.now).seen (view c.loop-told.splits).seen
    c.tried_line.new.known (view c.tried_line.new.splits).seen =
    stale_after c.args.space.now (view c.loop-told.splits).number (view c.args.splits.now).number (c.args.number, c.args.line.now) c.args.known.now
    c.loop-told.known c.tried_line.new.known (view c.args.splits.now).seen (view c.loop-told.splits).seen (view c.tried_line.new.splits).seen
    c.tried_line.result c.loop-told.invariant.splits.number c.loop-told.invariant.known c.loop-told.invariant.goes c.in_default.is c.tried_line.ensures.answers in
    record {
      columns = continues_trans c.args.columns.now c.loop-told.columns c.tried_line.new.columns c.loop-told.invariant.columns c.tried_line.ensures.columns;
      splits = continues_trans c.args.splits.now c.loop-told.splits c.tried_line.new.splits c.loop-told.invariant.splits c.tried_line.ensures.splits;
      may_fly = may_fly_as c.args.flights.now c.args.space.now (line_demand c.args.space.now 0 c.args.line.now.text) (view c.loop-told.splits).number
          c.loop-told.columns c.tried_line.new.columns
          (c.loop-told.invariant.splits.number ∙ sym c.requires.number ∙ sym c.loop-told.invariant.columns.number) c.loop-told.invariant.may_fly
          c.tried_line.ensures.columns c.tried_line.ensures.idle.0
          (subst (λ o. FliesTry c.args.space.now ((view c.loop-told.splits).number + 1) c.args.line.now (view c.loop-told.columns).seen o
          (view c.tried_line.new.columns).seen) c.in_default.is c.tried_line.ensures.flies);
      may_commit = may_commit_on c.args.versions.now c.args.space.now c.loop-told.splits c.tried_line.new.splits c.loop-told.invariant.may_commit
          c.tried_line.ensures.splits c.tried_line.ensures.idle.1;
      walks = c.tried_line.ensures.walks ∙ c.loop-told.invariant.walks;
      known = stale.no_earlier;
      within = stale.within;
      goes = stale.goes;
      flies = flies_again c.args.space.now (view c.loop-told.splits).number (view c.args.splits.now).number c.args.line.now (view c.args.columns.now).seen
          (view c.loop-told.columns).seen (view c.tried_line.new.columns).seen c.tried_line.result c.loop-told.invariant.splits.number c.in_default.is
          c.loop-told.invariant.flies c.tried_line.ensures.flies;
    }

pub loop-told-smaller : goal.loop-told-smaller
loop-told-smaller g c =
    let stale : IsStaleAfter (view c.args.splits.now).number c.args.known.now (view c.args.splits.now).seen (view c.loop-told.splits).seen
    c.tried_line.new.known (view c.tried_line.new.splits).seen =
    stale_after c.args.space.now (view c.loop-told.splits).number (view c.args.splits.now).number (c.args.number, c.args.line.now) c.args.known.now
    c.loop-told.known c.tried_line.new.known (view c.args.splits.now).seen (view c.loop-told.splits).seen (view c.tried_line.new.splits).seen
    c.tried_line.result c.loop-told.invariant.splits.number c.loop-told.invariant.known c.loop-told.invariant.goes c.in_default.is c.tried_line.ensures.answers in
    omega (arith, stale.longer, stale.room)
