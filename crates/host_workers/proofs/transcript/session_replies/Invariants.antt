use Rattle.std.proofs.Common.{◌≡◌, ◌+◌, take}
use Rattle.std.specs.List.{enumerate_from}
use Rattle.session_core.specs.SoloRuns.{AnswersLines}
use Rattle.session_core.proofs.RunSteps.{Serves}
use Rattle.host_workers.proofs.transcript.session_replies.Given as goal

abbrev pub invariant-loop-line : goal.invariant-loop-line
invariant-loop-line l = record {
  answers : AnswersLines l.fn.host.ground l.session l.fn.host.history (enumerate_from 1 (take l.line-index l.lines)) l.replies.items l.host.history;
  numbered : l.number ≡ l.line-index + 1;
  ground : l.host.ground ≡ l.fn.host.ground;
  sessions : l.host.sessions ≡ l.fn.host.sessions;
  serves : Serves l.fn.host.ground (take l.line-index l.lines) l.replies.items l.fn.host.pairs l.host.pairs;
}
