use Rattle.std.proofs.Common.{◌≡◌, ◌+◌, ◌-◌, ◌*◌, ◌^◌, ◌≤◌, drop}
use Rattle.script_text.specs.Draws.{drawn_command, times}
use Rattle.reply_text.specs.Summaries.{session_sum}
use Rattle.reply_text.proofs.SummaryLemmas.{chosen_sum}
use Rattle.reply_text.proofs.summary.image_sum.Given as goal

abbrev pub invariant-loop-place : goal.invariant-loop-place
invariant-loop-place l = record {
  sum : l.sum + chosen_sum session_sum (4 - l.place) (times 40 (drawn_command l.draws.level)) l.draws.state (drop l.place l.sessions)
      ≡ chosen_sum session_sum 4 (times 40 (drawn_command l.initial.draws.level)) l.initial.draws.state l.sessions;
  level : l.draws.level ≡ l.initial.draws.level;
  bound : l.sum ≤ l.place * (40 * 2 ^ 96);
}
