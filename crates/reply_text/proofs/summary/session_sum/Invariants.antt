use Rattle.std.proofs.Common.{◌≡◌, ◌+◌, ◌-◌, ◌*◌, ◌^◌, ◌≤◌, drop}
use Rattle.script_text.specs.Draws.{drawn_command}
use Rattle.reply_text.specs.Summaries.{answer_sum}
use Rattle.reply_text.proofs.SummaryLemmas.{chosen_sum, chosen_state}
use Rattle.reply_text.proofs.summary.session_sum.Given as goal

abbrev pub invariant-loop-place : goal.invariant-loop-place
invariant-loop-place l = record {
  sum : l.sum + chosen_sum answer_sum (40 - l.place) (drawn_command l.draws.level) l.draws.state (drop l.place l.told)
      ≡ chosen_sum answer_sum 40 (drawn_command l.initial.draws.level) l.initial.draws.state l.told;
  state : chosen_state (40 - l.place) (drawn_command l.draws.level) l.draws.state
      ≡ chosen_state 40 (drawn_command l.initial.draws.level) l.initial.draws.state;
  level : l.draws.level ≡ l.initial.draws.level;
  bound : l.sum ≤ l.place * 2 ^ 96;
}
