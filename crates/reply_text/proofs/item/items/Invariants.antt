use Rattle.std.proofs.Common.{◌≡◌, ◌++◌, length}
use Rattle.reply_text.specs.Lexemes.{lexemes}
use Rattle.reply_text.specs.Wordings.{items_in}
use Rattle.reply_text.proofs.item.items.Given as goal

abbrev pub invariant-loop-item : goal.invariant-loop-item
invariant-loop-item g l = record {
  items : (items_in g.T.Item.item (lexemes l.rest.more l.rest.text.now)).0
      ≡ l.found.items ++ (items_in g.T.Item.item (lexemes l.left.more l.left.text.now)).0;
  left : (items_in g.T.Item.item (lexemes l.rest.more l.rest.text.now)).1 ≡ (items_in g.T.Item.item (lexemes l.left.more l.left.text.now)).1;
}

abbrev pub decreases-loop-item : goal.decreases-loop-item
decreases-loop-item g l = length (lexemes l.left.more l.left.text.now)
