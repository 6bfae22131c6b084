-- What the reader of a script keeps of the lines that it has read.
--   IsBegun begun ls        the space, the sessions and the number of commands are those of the significant lines ls,
--                           of which the first is the header
--   Follows reading ls      the reading is that of the significant lines ls
--   with_line ss line       the sessions with one more line in the one begun last
--   Reads ls line result    the result is the reading with one significant line more, or why that line is refused
--   Takes s ls line result  the same of any line, s being whether it is skipped
use Rattle.std.specs.Prelude.{◌≡◌, ◌≤◌, Bool, true, false, List, [], ◌∷◌, ◌++◌, length, not, count_by, Some, None, Result, Ok, Err}
use Rattle.text_lines.specs.Lines.{tokens}
use Rattle.script_text.specs.declared.limits.TheConstants.{MAX_SESSIONS, MAX_COMMANDS}
use Rattle.script_text.specs.declared.script_fault.ScriptFault.{ScriptFault}
use Rattle.script_text.specs.declared.script_fault.ScriptFault.TheVariants as faults
use Rattle.script_text.specs.declared.reading.Begun.{Begun}
use Rattle.script_text.specs.declared.reading.Reading.{Reading}
use Rattle.script_text.specs.declared.reading.Reading.TheVariants as readings
use Rattle.script_text.specs.Numbered.{NumberedLine}
use Rattle.script_text.specs.Valid.{command_count}
use Rattle.script_text.specs.Scripts.{header, is_session, sessions_of, cause_after}

pub record IsBegun (begun : Begun) (before : List NumberedLine) : Type 0 where
  pub first : NumberedLine
  pub later : List NumberedLine
  pub are : before ≡ first ∷ later
  pub space : header (tokens first.text) ≡ Ok begun.space
  pub sessions : begun.sessions.items ≡ sessions_of later
  pub session_count : length begun.sessions.items ≡ count_by is_session later
  pub command_lines : begun.commands ≡ count_by (λ line. not (is_session line)) later
  pub commands : command_count begun.sessions.items ≡ begun.commands
  pub few_sessions : length begun.sessions.items ≤ MAX_SESSIONS
  pub few_commands : begun.commands ≤ MAX_COMMANDS

abbrev pub Follows : Reading → List NumberedLine → Type 0
Follows readings.Start before = before ≡ []
Follows (readings.Begun begun) before = IsBegun begun before

abbrev pub with_line : List (List NumberedLine) → NumberedLine → List (List NumberedLine)
with_line [] line = []
with_line (session ∷ []) line = (session ++ line ∷ []) ∷ []
with_line (session ∷ next ∷ sessions) line = session ∷ with_line (next ∷ sessions) line

abbrev pub Reads : List NumberedLine → NumberedLine → Result Reading ScriptFault → Type 0
Reads before line (Ok reading) = (cause_after before line ≡ None) × Follows reading (before ++ line ∷ [])
Reads before line (Err faults.OutOfMemory) = Unit {0}
Reads before line (Err (faults.BadScript number cause)) = (number ≡ line.line) × (cause_after before line ≡ Some cause)

abbrev pub Takes : Bool → List NumberedLine → NumberedLine → Result Reading ScriptFault → Type 0
Takes false before line result = Reads before line result
Takes true before line (Ok reading) = Follows reading before
Takes true before line (Err faults.OutOfMemory) = Unit {0}
Takes true before line (Err (faults.BadScript number cause)) = ⊥
