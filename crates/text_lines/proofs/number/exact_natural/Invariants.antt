use Rattle.std.proofs.Common.{◌≡◌, ◌≤◌, ◌^◌, min, drop}
use Rattle.std.specs.List.{list_all}
use Rattle.text_lines.specs.Numbers.{is_digit, value_after}
use Rattle.text_lines.proofs.number.exact_natural.Given as goal

abbrev pub invariant-loop-b : goal.invariant-loop-b
invariant-loop-b l = record {
  small : l.value ≤ 2 ^ 64;
  digits : list_all is_digit (drop l.b-index l.token) ≡ list_all is_digit l.token;
  value : min (value_after l.value (drop l.b-index l.token)) (2 ^ 64) ≡ min (value_after 0 l.token) (2 ^ 64);
}
