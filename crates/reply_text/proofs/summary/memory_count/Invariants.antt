use Rattle.std.proofs.Common.{◌≡◌, ◌+◌, ◌*◌, ◌^◌, ◌≤◌, drop}
use Rattle.reply_text.specs.Summaries.{is_memory, count_replies}
use Rattle.reply_text.proofs.summary.memory_count.Given as goal

abbrev pub invariant-loop-told : goal.invariant-loop-told
invariant-loop-told l = record {
  count : l.count + count_replies is_memory (drop l.told-index l.sessions) ≡ count_replies is_memory l.sessions;
  bound : l.count ≤ l.told-index * 2 ^ 64;
}
