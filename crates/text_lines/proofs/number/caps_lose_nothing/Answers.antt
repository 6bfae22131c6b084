use Rattle.text_lines.proofs.NumberLemmas.{capped_natural-small, capped_natural-large, capped_integer-small, capped_integer-large}
use Rattle.text_lines.proofs.number.caps_lose_nothing.Goals as goal

pub returns : goal.returns
returns c = record {
  law = λ cap token. (capped_natural-small cap token, capped_natural-large cap token, capped_integer-small cap token, capped_integer-large cap token);
}
