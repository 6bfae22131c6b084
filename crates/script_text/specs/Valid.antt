-- What every script keeps.
--   ScriptText        a script as data: its space, and its sessions as the lists of their command lines
--   IsSpace s         N is 1 to MAX_LEVEL, and p is a characteristic of the table
--   command_count ss  the number of command lines of these sessions
--   IsScript s ss     the space is one, and there are at most MAX_SESSIONS sessions and MAX_COMMANDS commands
use Rattle.std.specs.Prelude.{ℕ, ◌≤◌, List, length, sum_by}
use Rattle.field_table.specs.Table.{IsListed}
use Rattle.p1_normal.specs.declared.level.TheConstants.{MAX_LEVEL}
use Rattle.script_text.specs.declared.limits.TheConstants.{MAX_SESSIONS, MAX_COMMANDS}
use Rattle.script_text.specs.declared.space.SpaceLine.{SpaceLine}
use Rattle.script_text.specs.Numbered.{NumberedLine}

pub record ScriptText : Type 0 where
  pub space : SpaceLine
  pub sessions : List (List NumberedLine)

pub record IsSpace (space : SpaceLine) : Type 0 where
  pub least : 1 ≤ space.modulus
  pub most : space.modulus ≤ MAX_LEVEL
  pub listed : IsListed space.characteristic

abbrev pub command_count : List (List NumberedLine) → ℕ
command_count sessions = sum_by (λ session. length session) sessions

pub record IsScript (space : SpaceLine) (sessions : List (List NumberedLine)) : Type 0 where
  pub is_space : IsSpace space
  pub few_sessions : length sessions ≤ MAX_SESSIONS
  pub few_commands : command_count sessions ≤ MAX_COMMANDS
