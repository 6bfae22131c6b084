use Rattle.std.proofs.Common.{◌≡◌, ◌≤◌, min, drop}
use Rattle.std.specs.List.{list_all}
use Rattle.text_lines.specs.Numbers.{is_digit, value_after, capped_natural}
use Rattle.text_lines.proofs.number.natural.Given as goal

abbrev pub invariant-loop-b : goal.invariant-loop-b
invariant-loop-b l = record {
  small : l.value ≤ l.cap;
  digits : list_all is_digit (drop l.b-index l.token) ≡ list_all is_digit l.token;
  value : min (value_after l.value (drop l.b-index l.token)) l.cap ≡ capped_natural l.cap l.token;
}
