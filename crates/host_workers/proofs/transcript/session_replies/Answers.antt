use Rattle.std.proofs.Common.{◌≡◌, ◌+◌, List, [], ◌∷◌, ◌++◌, length, take, refl, sym, subst, arith}
use Rattle.std.specs.List.{enumerate_from}
use Rattle.quotient_coords.specs.Quotient.{Ground}
use Rattle.reply_text.specs.declared.transcript.ReplyLine.{ReplyLine}
use Rattle.session_core.specs.Demands.{Gathers, line_demand}
use Rattle.session_core.specs.SoloRuns.{Answers, AnswersLines}
use Rattle.session_core.proofs.RunSteps.{AnswersLines_more, Serves, Serves-nil, Serves_more}
use Rattle.host_workers.proofs.transcript.session_replies.Goals as goal

pub loop-line-init : goal.loop-line-init
loop-line-init c = record {
  answers = subst (λ (rs : List ReplyLine). AnswersLines c.args.host.now.ground c.args.session c.args.host.now.history [] rs c.args.host.now.history)
      (sym c.in_ok-replies.ensures.items) AnswersLines.done;
  numbered = refl;
  ground = refl;
  sessions = refl;
  serves = subst (λ (rs : List ReplyLine). Serves c.args.host.now.ground [] rs c.args.host.now.pairs c.args.host.now.pairs)
      (sym c.in_ok-replies.ensures.items) (Serves-nil c.args.host.now.ground c.args.host.now.pairs);
}

pub loop-line-preserved : goal.loop-line-preserved
loop-line-preserved c =
    let pushed : c.push.new.self.items ≡ c.loop-line.replies.items ++ c.step.result ∷ [] = c.in_ok-push.ensures.items in
    let answers : Answers c.args.host.now.ground c.args.session c.loop-line.host.history (c.loop-line.line-index + 1, c.line-item.result)
    c.step.result c.step.new.self.history =
    subst (λ n. Answers c.args.host.now.ground c.args.session c.loop-line.host.history (n, c.line-item.result) c.step.result
    c.step.new.self.history) c.loop-line.invariant.numbered
    (subst (λ (g : Ground). Answers g c.args.session c.loop-line.host.history (c.loop-line.number, c.line-item.result) c.step.result
    c.step.new.self.history) c.loop-line.invariant.ground c.step.ensures.answers) in
    let gathered : Gathers (line_demand c.args.host.now.ground c.step.result.version c.line-item.result.text) c.step.result.reply
    c.loop-line.host.pairs c.step.new.self.pairs =
    subst (λ n. Gathers (line_demand c.args.host.now.ground n c.line-item.result.text) c.step.result.reply c.loop-line.host.pairs
    c.step.new.self.pairs) (sym answers.version)
    (subst (λ (g : Ground). Gathers (line_demand g (length c.loop-line.host.history) c.line-item.result.text) c.step.result.reply
    c.loop-line.host.pairs c.step.new.self.pairs) c.loop-line.invariant.ground c.step.ensures.columns) in
    record {
      answers = subst (λ (rs : List ReplyLine). AnswersLines c.args.host.now.ground c.args.session c.args.host.now.history
          (enumerate_from 1 (take (c.loop-line.line-index + 1) c.args.lines.now)) rs c.step.new.self.history) (sym pushed)
          (AnswersLines_more c.args.host.now.ground c.args.session c.args.host.now.history c.loop-line.host.history c.step.new.self.history
          c.args.lines.now c.loop-line.replies.items c.loop-line.line-index c.line-item.result c.step.result
          c.loop-line-test.true c.line-item.is c.loop-line.invariant.answers answers);
      numbered = omega arith;
      ground = cc;
      sessions = cc;
      serves = subst (λ (rs : List ReplyLine). Serves c.args.host.now.ground (take (c.loop-line.line-index + 1) c.args.lines.now) rs
          c.args.host.now.pairs c.step.new.self.pairs) (sym pushed)
          (Serves_more c.args.host.now.ground c.loop-line.line-index c.args.lines.now c.loop-line.replies.items c.line-item.result c.step.result
          c.args.host.now.pairs c.loop-line.host.pairs c.step.new.self.pairs
          c.loop-line-test.true c.line-item.is c.loop-line.invariant.serves gathered);
    }
