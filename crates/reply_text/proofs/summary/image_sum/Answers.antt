use Rattle.std.proofs.Common.{◌≡◌, [], ◌∷◌, drop, refl, ap, ◌∙◌, arith}
use Rattle.std.specs.List.{sum_by, zip}
use Rattle.script_text.specs.declared.space.SpaceLine.{SpaceLine}
use Rattle.script_text.specs.Draws.{drawn_command, times}
use Rattle.reply_text.specs.Summaries.{session_sum}
use Rattle.reply_text.proofs.SummaryLemmas.{chosen_sum-next, chosen_sum-end, image_sum-chosen, session_sum-at}
use Rattle.reply_text.proofs.summary.image_sum.Goals as goal

pub loop-place-preserved : goal.loop-place-preserved
loop-place-preserved c =
    let choice = times 40 (drawn_command c.loop-place.draws.level) in
    let state = c.loop-place.draws.state in
    let place = c.loop-place.place in
    let commands = (choice state).0 in
    let added : c.session_sum-sum.result ≡ sum_by session_sum (zip (commands ∷ []) (drop place c.args.sessions.now)) =
    c.session_sum-sum.ensures.sum ∙ ap (λ told. session_sum (commands, told)) c.session_at.ensures ∙ session_sum-at commands c.args.sessions.now place in
    record {
      sum = rw c.session_sum-sum.ensures.level
          (chosen_sum-next session_sum 4 place choice state c.session_sum-sum.new.draws.state commands c.args.sessions.now c.loop-place.sum
          c.session_sum-sum.result _ c.loop-place-test.true c.loop-place.invariant.sum refl c.session_sum-sum.ensures.state added);
      level = c.session_sum-sum.ensures.level ∙ c.loop-place.invariant.level;
      bound = omega arith;
    }

pub returns : goal.returns
returns c =
    let modulus = c.of.ensures.level ∙ ap (λ (s : SpaceLine). s.modulus) c.of.ensures.space in
    chosen_sum-end session_sum 4 c.loop-place.place _ _ c.args.sessions.now _ _ c.loop-place-test.false c.loop-place.invariant.sum
    ∙ image_sum-chosen c.args.number c.of.result.1.level c.of.result.1.state c.args.sessions.now modulus c.of.ensures.state
