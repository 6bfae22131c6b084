use Rattle.std.proofs.Common.{◌≡◌, ◌+◌, ◌*◌, ◌^◌, ◌≤◌, drop, sum}
use Rattle.reply_text.proofs.summary.sum_of.Given as goal

abbrev pub invariant-loop-value : goal.invariant-loop-value
invariant-loop-value l = record {
  sum : l.sum + sum (drop l.value-index l.values) ≡ sum l.values;
  bound : l.sum ≤ l.value-index * 2 ^ 32;
}
