use Rattle.std.proofs.Common.{◌≡◌, ◌+◌, ◌-◌, ◌≤◌, length}
use Rattle.turn_board.specs.Passes.{Continues, view}
use Rattle.reply_text.specs.declared.limits.TheConstants.{MAX_VERSIONS}
use Rattle.session_core.specs.Demands.{line_demand}
use Rattle.split_versions.specs.Histories.{maker_of}
use Rattle.host_workers.specs.Sessions.{Flies, GoesOn, MayCommit, MayFly}
use Rattle.host_workers.proofs.session.answer_line.Given as goal

abbrev pub invariant-loop-told : goal.invariant-loop-told
invariant-loop-told g l = record {
  columns : Continues l.fn.columns l.columns;
  splits : Continues l.fn.splits l.splits;
  may_fly : MayFly l.flights l.space l.columns;
  may_commit : MayCommit l.versions l.space l.splits;
  walks : l.walks ≡ l.fn.walks;
  known : l.fn.known ≤ l.known;
  within : l.known ≤ length (view l.splits).seen;
  goes : GoesOn maker_of ((view l.fn.splits).number + 1) (view l.fn.splits).seen (view l.splits).seen;
  flies : Flies (line_demand l.space 0 l.line.text) ((view l.fn.splits).number + 1) (view l.fn.columns).seen (view l.columns).seen;
}

abbrev pub decreases-loop-told : goal.decreases-loop-told
decreases-loop-told g l = MAX_VERSIONS - length (view l.splits).seen
