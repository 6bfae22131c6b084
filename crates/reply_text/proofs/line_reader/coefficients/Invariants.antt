use Rattle.std.proofs.Common.{◌≡◌, ◌++◌, Some, length}
use Rattle.reply_text.specs.Lexemes.{then_option}
use Rattle.reply_text.specs.LineForms.{commas, smalls_of, coefficients_of}
use Rattle.reply_text.proofs.line_reader.coefficients.Given as goal

abbrev pub invariant-loop-token : goal.invariant-loop-token
invariant-loop-token l = then_option (smalls_of (commas l.left.more l.left.text.now)) (λ ns. Some (l.found.items ++ ns)) ≡ coefficients_of l.text

abbrev pub decreases-loop-token : goal.decreases-loop-token
decreases-loop-token l = length (commas l.left.more l.left.text.now)
