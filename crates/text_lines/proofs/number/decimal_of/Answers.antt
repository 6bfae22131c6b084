use Rattle.std.proofs.Common.{sym, ◌∙◌}
use Rattle.std.proofs.lemmas.Slice.Eq.{bytes_eq-Decides}
use Rattle.text_lines.proofs.NumeralLemmas.{not_decimal, decimal-value}
use Rattle.text_lines.proofs.number.decimal_of.Goals as goal

pub returns-in_err-value : goal.returns-in_err-value
returns-in_err-value c = record { number = rw c.from_residual.ensures (not_decimal c.args.token.now (c.in_err-value.ensures {u = tt}).number) }

pub returns-else-eq : goal.returns-else-eq
returns-else-eq c = record {
  number = λ n lt e.
      let printed = decimal-value c.args.token.now c.in_ok-value.value n (c.in_ok-value.ensures {u = tt}).number.1 lt e in
      let same = c.as_bytes.ensures.value ∙ c.format.ensures.text ∙ sym printed in
      let yes = (bytes_eq-Decides c.as_bytes.result.now c.args.token.now).1 same in
      let no = c.if-eq.ensures {u = tt} in
      absurd cc;
}
