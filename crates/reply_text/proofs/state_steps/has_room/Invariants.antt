use Rattle.std.proofs.Common.{◌≡◌, ◌+◌, ◌<◌, drop}
use Rattle.script_text.specs.declared.limits.TheConstants.{MAX_COMMANDS}
use Rattle.reply_text.specs.Rules.{replies_of}
use Rattle.reply_text.proofs.state_steps.has_room.Given as goal

abbrev pub invariant-loop-session : goal.invariant-loop-session
invariant-loop-session l = record {
  room : replies_of l.sessions + l.left ≡ MAX_COMMANDS + replies_of (drop l.session-index l.sessions);
  some : 0 < l.left;
}
