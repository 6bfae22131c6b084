use Rattle.reply_text.specs.Lexemes.{lexemes}
use Rattle.reply_text.proofs.ItemLemmas.{only_none}
use Rattle.reply_text.proofs.item.only.Goals as goal

pub returns-then-after : goal.returns-then-after
returns-then-after g c =
    only_none g.T.Item.item
    (lexemes c.args.rest.more c.args.rest.text.now) c.in-Some.item c.in-Some.after.more c.in-Some.after.text.now c.in-Some.ensures c.if-after.true
