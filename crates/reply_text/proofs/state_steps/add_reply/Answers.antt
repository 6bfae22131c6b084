use Rattle.std.proofs.Common.{◌≡◌, ◌+◌, ◌≤◌, ltb, true, ◌++◌, [], ◌∷◌, length, sym, ◌∙◌, rules}
use Rattle.script_text.specs.declared.limits.TheConstants.{MAX_COMMANDS}
use Rattle.reply_text.specs.declared.limits.TheConstants.{MAX_VERSIONS}
use Rattle.reply_text.specs.Rules.{replies_of}
use Rattle.reply_text.proofs.StepLemmas.{reply_refused, reply_taken}
use Rattle.reply_text.proofs.state_steps.add_reply.Goals as goal

pub returns-then-reply-len : goal.returns-then-reply-len
returns-then-reply-len c =
    let split : c.args.t.sessions ≡ c.pop.new.self.items ++ c.in-Some.last ∷ [] = sym c.into_vec-list.ensures ∙ c.in-Some.ensures.items in
    reply_refused c.args.t c.args.reply _ c.pop.new.self.items c.in-Some.last split (search rules)

pub returns-in_ok-push-in-Some-2 : goal.returns-in_ok-push-in-Some-2
returns-in_ok-push-in-Some-2 c =
    let split : c.args.t.sessions ≡ c.pop.new.self.items ++ c.in-Some.last ∷ [] = sym c.into_vec-list.ensures ∙ c.in-Some.ensures.items in
    let number : c.args.reply.number ≡ length c.in-Some.last + 1 = search rules in
    let version : c.args.reply.version ≤ MAX_VERSIONS = search rules in
    let room : ltb (replies_of c.args.t.sessions) MAX_COMMANDS ≡ true = search rules in
    reply_taken c.args.t c.args.reply c.pop.new.self.items c.in-Some.last c.of-in-Some.result split number version room c.requires.written
    (search rules)
