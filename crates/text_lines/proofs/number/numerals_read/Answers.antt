use Rattle.text_lines.proofs.NumeralLemmas.{is_natural-decimal, natural_of-decimal}
use Rattle.text_lines.proofs.number.numerals_read.Goals as goal

pub returns : goal.returns
returns c = record { law = λ n lt. (is_natural-decimal n lt, natural_of-decimal n lt) }
