use Rattle.reply_text.specs.Lexemes.{lexemes}
use Rattle.reply_text.proofs.ItemLemmas.{all_of_none}
use Rattle.reply_text.proofs.item.all_of.Goals as goal

pub returns-then-left : goal.returns-then-left
returns-then-left g c =
    all_of_none g.T.Item.item
    (lexemes c.args.rest.more c.args.rest.text.now) c.in_ok-found.left.more c.in_ok-found.left.text.now c.in_ok-found.ensures.left c.if-left.true
