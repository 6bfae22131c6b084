use Rattle.std.proofs.Common.{◌≡◌, ◌+◌, List, [], ◌∷◌, ◌++◌, take, refl, sym, subst, arith}
use Rattle.std.specs.List.{enumerate_from}
use Rattle.quotient_coords.specs.Quotient.{Ground}
use Rattle.reply_text.specs.declared.transcript.ReplyLine.{ReplyLine}
use Rattle.script_text.specs.Numbered.{NumberedLine}
use Rattle.session_core.specs.SoloRuns.{AnswersLines, AnswersSessions}
use Rattle.session_core.proofs.RunSteps.{AnswersSessions_more, Serves, ServesAll, ServesAll-nil, ServesAll_more}
use Rattle.host_workers.proofs.transcript.script_replies.Goals as goal

pub loop-session-init : goal.loop-session-init
loop-session-init c = record {
  answers = subst (λ (all : List (List ReplyLine)). AnswersSessions c.args.host.now.ground 1 c.args.host.now.history [] all c.args.host.now.history)
      (sym c.in_ok-all.ensures.items) AnswersSessions.done;
  numbered = refl;
  ground = refl;
  sessions = refl;
  serves = subst (λ (all : List (List ReplyLine)). ServesAll c.args.host.now.ground [] all c.args.host.now.pairs c.args.host.now.pairs)
      (sym c.in_ok-all.ensures.items) (ServesAll-nil c.args.host.now.ground c.args.host.now.pairs);
}

pub loop-session-preserved : goal.loop-session-preserved
loop-session-preserved c =
    let pushed : c.push.new.self.items ≡ c.loop-session.all.items ++ c.in_ok-session_replies.field-0 ∷ [] = c.in_ok-push.ensures.items in
    let answers : AnswersLines c.args.host.now.ground (c.loop-session.session-index + 1) c.loop-session.host.history
    (enumerate_from 1 c.session-item.result) c.in_ok-session_replies.field-0 c.session_replies.new.host.history =
    subst (λ n. AnswersLines c.args.host.now.ground n c.loop-session.host.history (enumerate_from 1 c.session-item.result)
    c.in_ok-session_replies.field-0 c.session_replies.new.host.history) c.loop-session.invariant.numbered
    (subst (λ (g : Ground). AnswersLines g c.loop-session.number c.loop-session.host.history (enumerate_from 1 c.session-item.result)
    c.in_ok-session_replies.field-0 c.session_replies.new.host.history) c.loop-session.invariant.ground
    (subst (λ (ls : List NumberedLine). AnswersLines c.loop-session.host.ground c.loop-session.number c.loop-session.host.history
    (enumerate_from 1 ls) c.in_ok-session_replies.field-0 c.session_replies.new.host.history) c.commands.ensures
    c.in_ok-session_replies.ensures.answers)) in
    let served : Serves c.args.host.now.ground c.session-item.result c.in_ok-session_replies.field-0 c.loop-session.host.pairs
    c.session_replies.new.host.pairs =
    subst (λ (g : Ground). Serves g c.session-item.result c.in_ok-session_replies.field-0 c.loop-session.host.pairs
    c.session_replies.new.host.pairs) c.loop-session.invariant.ground
    (subst (λ (ls : List NumberedLine). Serves c.loop-session.host.ground ls c.in_ok-session_replies.field-0 c.loop-session.host.pairs
    c.session_replies.new.host.pairs) c.commands.ensures
    (record { adds = c.in_ok-session_replies.ensures.adds; held = c.in_ok-session_replies.ensures.held })) in
    record {
      answers = subst (λ (all : List (List ReplyLine)). AnswersSessions c.args.host.now.ground 1 c.args.host.now.history
          (take (c.loop-session.session-index + 1) c.args.sessions.now) all c.session_replies.new.host.history) (sym pushed)
          (AnswersSessions_more c.args.host.now.ground c.args.host.now.history c.loop-session.host.history c.session_replies.new.host.history
          c.args.sessions.now c.loop-session.all.items c.loop-session.session-index c.session-item.result c.in_ok-session_replies.field-0
          c.loop-session-test.true c.session-item.is c.loop-session.invariant.answers answers);
      numbered = omega arith;
      ground = cc;
      sessions = cc;
      serves = subst (λ (all : List (List ReplyLine)). ServesAll c.args.host.now.ground
          (take (c.loop-session.session-index + 1) c.args.sessions.now) all c.args.host.now.pairs c.session_replies.new.host.pairs) (sym pushed)
          (ServesAll_more c.args.host.now.ground c.loop-session.session-index c.args.sessions.now c.loop-session.all.items c.session-item.result
          c.in_ok-session_replies.field-0 c.args.host.now.pairs c.loop-session.host.pairs c.session_replies.new.host.pairs
          c.loop-session-test.true c.session-item.is c.loop-session.invariant.serves served);
    }
