use Rattle.std.proofs.Common.{◌≡◌, ◌+◌, ◌-◌, ◌*◌, ◌^◌, min, true, get_or, sym, ◌∙◌, arith}
use Rattle.text_lines.specs.Numbers.{is_digit}
use Rattle.text_lines.proofs.NumberLemmas.{digits-next, value_after-next}
use Rattle.text_lines.proofs.number.exact_natural.Goals as goal

pub loop-b-preserved : goal.loop-b-preserved
loop-b-preserved c =
    let byte = get_or c.args.token.now c.loop-b.b-index 0 in
    let fits : is_digit byte ≡ true = sym (c.if-not-is_digit_byte.ensures {u = tt}) in
    let next : c.min-value.result ≡ min (c.loop-b.value * 10 + (byte - 48)) (2 ^ 64) = rw (← c.from.ensures) c.min-value.ensures in
    record {
      small = omega arith;
      digits = sym (digits-next c.args.token.now c.loop-b.b-index c.loop-b-test.true fits) ∙ c.loop-b.invariant.digits;
      value = rw next (sym (value_after-next (2 ^ 64) c.args.token.now c.loop-b.b-index c.loop-b.value c.loop-b-test.true)
          ∙ c.loop-b.invariant.value);
    }
