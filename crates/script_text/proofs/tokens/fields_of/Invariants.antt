use Rattle.std.proofs.Common.{◌≡◌, ◌+◌, ◌≤◌, length}
use Rattle.text_lines.specs.Lines.{tokens}
use Rattle.script_text.specs.Tokens.{nothing}
use Rattle.script_text.specs.Rows.{row}
use Rattle.script_text.specs.Walk.{given, walk}
use Rattle.script_text.proofs.tokens.fields_of.Given as goal

abbrev pub invariant-loop-token : goal.invariant-loop-token
invariant-loop-token l = record {
  room : l.place + length l.rest ≤ 2 + length l.line;
  few : length l.fields.integers.items + 2 ≤ l.place;
  ahead : walk l.to_come (row l.word).repeated l.place (given l.fields) (tokens l.rest)
      ≡ walk (row l.word).kinds (row l.word).repeated 2 nothing (tokens l.line);
}

abbrev pub decreases-loop-token : goal.decreases-loop-token
decreases-loop-token l = length l.rest
