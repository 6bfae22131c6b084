use Rattle.std.proofs.Common.{◌≡◌, ◌++◌, map, length}
use Rattle.std.specs.List.{list_all}
use Rattle.text_lines.specs.Lines.{parts}
use Rattle.text_lines.specs.Numbers.{is_integer}
use Rattle.script_text.specs.Tokens.{integer}
use Rattle.script_text.proofs.fields.add_coefficients.Given as goal

abbrev pub invariant-loop-integer : goal.invariant-loop-integer
invariant-loop-integer l = record {
  fits : list_all is_integer (parts 44 l.rest) ≡ list_all is_integer (parts 44 l.token);
  added : l.integers.items ++ map integer (parts 44 l.rest) ≡ l.fn.integers.items ++ map integer (parts 44 l.token);
}

abbrev pub decreases-loop-integer : goal.decreases-loop-integer
decreases-loop-integer l = length l.rest
