use Rattle.std.proofs.Common.{◌≡◌, ◌+◌, take}
use Rattle.session_core.specs.SoloRuns.{AnswersSessions}
use Rattle.session_core.proofs.RunSteps.{ServesAll}
use Rattle.host_workers.proofs.transcript.script_replies.Given as goal

abbrev pub invariant-loop-session : goal.invariant-loop-session
invariant-loop-session l = record {
  answers : AnswersSessions l.fn.host.ground 1 l.fn.host.history (take l.session-index l.sessions) l.all.items l.host.history;
  numbered : l.number ≡ l.session-index + 1;
  ground : l.host.ground ≡ l.fn.host.ground;
  sessions : l.host.sessions ≡ l.fn.host.sessions;
  serves : ServesAll l.fn.host.ground (take l.session-index l.sessions) l.all.items l.fn.host.pairs l.host.pairs;
}
