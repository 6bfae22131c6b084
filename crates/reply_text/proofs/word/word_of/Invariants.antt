use Rattle.std.proofs.Common.{◌≡◌, drop}
use Rattle.reply_text.specs.Lexemes.{first_word, word_of}
use Rattle.reply_text.proofs.word.word_of.Given as goal

abbrev pub invariant-loop-word : goal.invariant-loop-word
invariant-loop-word l = first_word (drop l.word-index l.word-items) l.token ≡ word_of l.token
