use Rattle.std.proofs.Common.{◌≡◌, ◌+◌, ◌*◌, ◌^◌, ◌≤◌, drop}
use Rattle.reply_text.specs.Rules.{replies_of}
use Rattle.reply_text.proofs.summary.reply_count.Given as goal

abbrev pub invariant-loop-told : goal.invariant-loop-told
invariant-loop-told l = record {
  count : l.count + replies_of (drop l.told-index l.sessions) ≡ replies_of l.sessions;
  bound : l.count ≤ l.told-index * 2 ^ 64;
}
