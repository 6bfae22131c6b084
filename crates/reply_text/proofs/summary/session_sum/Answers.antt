use Rattle.std.proofs.Common.{arith, ◌∙◌}
use Rattle.script_text.specs.Draws.{drawn_command}
use Rattle.reply_text.specs.Summaries.{answer_sum}
use Rattle.reply_text.proofs.SummaryLemmas.{chosen_sum-next, chosen_sum-end, chosen_state-next, chosen_state-end, session_sum-chosen, state-chosen}
use Rattle.reply_text.proofs.summary.session_sum.Goals as goal

pub loop-place-preserved : goal.loop-place-preserved
loop-place-preserved c =
    let level = c.loop-place.draws.level in
    let state = c.loop-place.draws.state in
    let place = c.loop-place.place in
    record {
      sum = rw c.next_command.ensures.level
          (chosen_sum-next answer_sum 40 place (drawn_command level) state c.next_command.new.self.state c.next_command.result c.args.told.now
          c.loop-place.sum c.answer_sum-sum.result _ c.loop-place-test.true c.loop-place.invariant.sum c.next_command.ensures.value c.next_command.ensures.state
          c.answer_sum-sum.ensures.sum);
      state = rw c.next_command.ensures.level
          (chosen_state-next 40 place (drawn_command level) state c.next_command.new.self.state _ c.loop-place-test.true c.loop-place.invariant.state
          c.next_command.ensures.state);
      level = c.next_command.ensures.level ∙ c.loop-place.invariant.level;
      bound = omega arith;
    }

pub returns-clause-sum : goal.returns-clause-sum
returns-clause-sum c =
    chosen_sum-end answer_sum 40 c.loop-place.place _ _ c.args.told.now _ _ c.loop-place-test.false c.loop-place.invariant.sum
    ∙ session_sum-chosen _ _ c.args.told.now

pub returns-clause-state : goal.returns-clause-state
returns-clause-state c =
    chosen_state-end 40 c.loop-place.place _ _ _ c.loop-place-test.false c.loop-place.invariant.state ∙ state-chosen _ _
