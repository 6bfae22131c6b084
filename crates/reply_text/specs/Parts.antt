-- What is put of a line at a time.
--   part_text p      bytes as they stand, a number in decimal, an item of a reply, or a list of items
use Rattle.std.specs.Prelude.{ℕ, List, decimal}
use Rattle.reply_text.specs.declared.part.Part.{Part}
use Rattle.reply_text.specs.declared.part.Part.TheVariants as parts
use Rattle.script_text.specs.Draws.{operator_text}
use Rattle.reply_text.specs.Texts.{numbers, symbol_text, symbols, pairs, operators, rows_text, coefficients_text}

abbrev pub part_text : Part → List ℕ
part_text (parts.Word bytes) = bytes.now
part_text (parts.Number n) = decimal n
part_text (parts.Symbol symbol) = symbol_text symbol
part_text (parts.Operator op) = operator_text op
part_text (parts.Numbers values) = numbers values.now
part_text (parts.Symbols points) = symbols points.now
part_text (parts.Pairs given) = pairs given.now
part_text (parts.Operators ops) = operators ops.now
part_text (parts.Rows rows) = rows_text rows.now
part_text (parts.Coefficients values) = coefficients_text values.now
