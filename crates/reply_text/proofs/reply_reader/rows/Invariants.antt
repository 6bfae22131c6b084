use Rattle.std.proofs.Common.{◌≡◌, [], length}
use Rattle.reply_text.specs.Lexemes.{lexemes}
use Rattle.reply_text.specs.Wordings.{rows_of}
use Rattle.reply_text.proofs.reply_reader.rows.Given as goal

abbrev pub invariant-loop-lexeme : goal.invariant-loop-lexeme
invariant-loop-lexeme l = rows_of l.rows.items l.row.items (lexemes l.left.more l.left.text.now) ≡ rows_of [] [] (lexemes l.rest.more l.rest.text.now)

abbrev pub decreases-loop-lexeme : goal.decreases-loop-lexeme
decreases-loop-lexeme l = length (lexemes l.left.more l.left.text.now)
