use Rattle.std.proofs.Common.{◌≡◌, ◌+◌, ◌*◌, ◌^◌, ◌≤◌, drop}
use Rattle.reply_text.specs.Summaries.{is_ok, count_replies}
use Rattle.reply_text.proofs.summary.ok_count.Given as goal

abbrev pub invariant-loop-told : goal.invariant-loop-told
invariant-loop-told l = record {
  count : l.count + count_replies is_ok (drop l.told-index l.sessions) ≡ count_replies is_ok l.sessions;
  bound : l.count ≤ l.told-index * 2 ^ 64;
}
