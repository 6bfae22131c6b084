use Rattle.std.proofs.Common.{ap}
use Rattle.reply_text.specs.Lexemes.{first_word, word_of}
use Rattle.reply_text.proofs.word.word_of.Goals as goal

pub loop-word-init : goal.loop-word-init
unfolding word_of
loop-word-init c = ap (λ ws. first_word ws c.args.token.now) c.words-word-items.ensures
