use Rattle.std.proofs.Common.{◌≡◌, ◌+◌, take, vec_capacity}
use Rattle.turn_board.specs.Passes.{Continues, view}
use Rattle.host_workers.specs.Sessions.{MayCommit, MayFly}
use Rattle.host_workers.proofs.AnsweredLines.{HasAnswered}
use Rattle.host_workers.proofs.FlownLines.{LinesFly}
use Rattle.host_workers.proofs.session.run_session.Given as goal

abbrev pub invariant-loop-line : goal.invariant-loop-line
invariant-loop-line g l = record {
  numbered : l.number ≡ l.line-index;
  columns : Continues l.fn.columns l.columns;
  splits : Continues l.fn.splits l.splits;
  may_fly : MayFly l.flights l.space l.columns;
  may_commit : MayCommit l.versions l.space l.splits;
  walks : l.walks ≡ l.space.level;
  room : vec_capacity l.replies ≡ vec_capacity l.fn.replies;
  answered : HasAnswered l.space ((view l.fn.splits).number + 1) (take l.line-index l.lines) l.replies.items l.known (view l.splits).seen;
  flown : LinesFly l.space ((view l.fn.splits).number + 1) (take l.line-index l.lines) l.replies.items (view l.columns).seen;
}
