use Rattle.std.proofs.Common.{◌≡◌, rules, refl, sym, subst}
use Rattle.session_core.specs.Demands.{GathersFor}
use Rattle.session_core.specs.Hosts.{EntersLine}
use Rattle.session_core.specs.Replies.{FinishesLine}
use Rattle.reply_text.specs.declared.reply.Reply.TheVariants as replies
use Rattle.session_core.proofs.HostLemmas.{plain_enters, memory_enters, split_enters}
use Rattle.session_core.proofs.host.enter.Goals as goal

pub returns-in-Reply-clause-enters : goal.returns-in-Reply-clause-enters
returns-in-Reply-clause-enters c = λ g line version finished.
    plain_enters g c.args.session c.args.number c.args.version c.args.history.now.items c.args.splitting.now line c.in-Reply.reply
    c.requires.version c.requires.few version
    (subst (FinishesLine g c.args.version c.args.splitting.now line.text) c.in-Reply.is finished)

pub returns-in-Reply-clause-columns : goal.returns-in-Reply-clause-columns
returns-in-Reply-clause-columns c = λ pairs old new gathers. subst (λ f. GathersFor pairs f old new) c.in-Reply.is gathers

pub returns-in-Ok-clause-enters : goal.returns-in-Ok-clause-enters
returns-in-Ok-clause-enters c = λ g line version finished.
    split_enters g c.args.session c.args.number c.args.version c.args.history.now.items c.push.new.self.items c.args.splitting.now line
    c.in-Split.op c.in-Split.poly c.in-Split.next c.in-Split.dims c.requires.version c.in-Ok.ensures.items version
    (subst (FinishesLine g c.args.version c.args.splitting.now line.text) c.in-Split.is finished)

pub returns-in-Ok-clause-columns : goal.returns-in-Ok-clause-columns
returns-in-Ok-clause-columns c = λ pairs old new gathers.
    let (adds, held) = subst (λ f. GathersFor pairs f old new) c.in-Split.is gathers in
    record { adds = adds; held = λ some. held }

pub returns-in-Err-clause-enters : goal.returns-in-Err-clause-enters
returns-in-Err-clause-enters c = λ g line version finished.
    let same : c.push.new.self.items ≡ c.args.history.now.items = search rules in
    subst (λ es. EntersLine g c.args.session c.args.number line c.args.version c.args.history.now.items replies.Memory es c.args.splitting.now)
    (sym same)
    (memory_enters g c.args.session c.args.number c.args.version c.args.history.now.items c.args.splitting.now line
    c.requires.version c.requires.few version)

pub returns-in-Err-clause-columns : goal.returns-in-Err-clause-columns
returns-in-Err-clause-columns c = λ pairs old new gathers.
    let (adds, held) = subst (λ f. GathersFor pairs f old new) c.in-Split.is gathers in
    record { adds = adds; held = λ some. absurd (some refl) }
