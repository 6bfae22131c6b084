-- The operators that the commands of a script name. A word that takes the parameter `named` tells those that this word tells of a command.
--   split_operator c              the operator of a split; none of another command
--   named_operator c              the operator of `operator`, `apply`, `poly` or `split`; none of another command
--   read_operators named r        those of the command that a line is read as
--   line_operators named line     those of a command line
--   session_operators named ls    those of the lines of a session, in their order
--   script_operators named ss     those of all sessions
--   split_operators ss            the operators of the splits of these sessions
--   named_operators ss            the operators of all commands of these sessions
--   split_count ss                how many splits there are
use Rattle.std.specs.Prelude.{ℕ, List, [], ◌∷◌, length, Result, Ok, Err}
use Rattle.std.specs.List.{flat_map}
use Rattle.op_polynomials.specs.declared.name.OpName.{OpName}
use Rattle.script_text.specs.declared.command.Command.{Command}
use Rattle.script_text.specs.declared.command.Command.TheVariants as commands
use Rattle.script_text.specs.declared.command_fault.CommandFault.{CommandFault}
use Rattle.script_text.specs.Commands.{command_of}
use Rattle.script_text.specs.Numbered.{NumberedLine}

abbrev pub split_operator : Command → List OpName
split_operator (commands.Split op coefficients) = op ∷ []
split_operator command = []

abbrev pub named_operator : Command → List OpName
named_operator (commands.Operator op) = op ∷ []
named_operator (commands.Apply op coords) = op ∷ []
named_operator (commands.Poly op coefficients coords) = op ∷ []
named_operator (commands.Split op coefficients) = op ∷ []
named_operator command = []

abbrev pub read_operators : (Command → List OpName) → Result Command CommandFault → List OpName
read_operators named (Ok command) = named command
read_operators named (Err fault) = []

abbrev pub line_operators : (Command → List OpName) → NumberedLine → List OpName
line_operators named line = read_operators named (command_of line.text)

abbrev pub session_operators : (Command → List OpName) → List NumberedLine → List OpName
session_operators named lines = flat_map (λ line. line_operators named line) lines

abbrev pub script_operators : (Command → List OpName) → List (List NumberedLine) → List OpName
script_operators named sessions = flat_map (λ lines. session_operators named lines) sessions

abbrev pub split_operators : List (List NumberedLine) → List OpName
split_operators sessions = script_operators split_operator sessions

abbrev pub named_operators : List (List NumberedLine) → List OpName
named_operators sessions = script_operators named_operator sessions

abbrev pub split_count : List (List NumberedLine) → ℕ
split_count sessions = length (split_operators sessions)
