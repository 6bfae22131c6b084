-- What a command line is read as.
--   command w g              the command of a word and of what its tokens give
--   unless_limit l c         the limit that is broken, if one is, else the command
--   command_by_form line w   what a line is read as that has the form of the command w, if of any
--   command_of text          the command that a line is, or the first refusal that applies: its grammar is judged before any limit
--   IsIndexed op                 the index n of an operator T_n is within its limits
--   IsWithin command             the index of a command, and how many terms, coefficients and coordinates it has, are within their limits
--   AnswersCommand result read   the result is what is read, but where memory ran out
use Rattle.std.specs.Prelude.{◌≡◌, ℕ, ◌<◌, ◌≤◌, ◌^◌, pos, List, length, get_or, Option, Some, None, Result, Ok, Err}
use Rattle.text_lines.specs.Lines.{tokens}
use Rattle.p1_normal.specs.declared.matrix.TheConstants.{MAX_DET}
use Rattle.op_polynomials.specs.declared.name.OpName.{OpName}
use Rattle.op_polynomials.specs.declared.name.OpName.TheVariants as ops
use Rattle.op_polynomials.specs.declared.poly.TheConstants.{MAX_COEFFICIENTS}
use Rattle.script_text.specs.declared.limits.TheConstants.{MAX_TERMS}
use Rattle.script_text.specs.declared.command.Command.{Command}
use Rattle.script_text.specs.declared.command.Command.TheVariants as commands
use Rattle.script_text.specs.declared.word.Word.{Word}
use Rattle.script_text.specs.declared.word.Word.TheVariants as words
use Rattle.script_text.specs.declared.command_fault.CommandFault.{CommandFault}
use Rattle.script_text.specs.declared.command_fault.CommandFault.TheVariants as faults
use Rattle.script_text.specs.declared.command_fault.LimitWord.{LimitWord}
use Rattle.script_text.specs.Tokens.{Given}
use Rattle.script_text.specs.Grammar.{form_of, grammar_fault, given_by}
use Rattle.script_text.specs.Limits.{limit_of}

abbrev pub command : Word → Given → Command
command words.Normal g = commands.Normal (get_or g.integers 0 (pos 0)) (get_or g.integers 1 (pos 0))
command words.Basis g = commands.Basis
command words.Reduce g = commands.Reduce g.terms
command words.Certify g = commands.Certify g.terms
command words.Image g = commands.Image g.n g.terms
command words.Star g = commands.Star g.terms
command words.Boundary g = commands.Boundary g.terms
command words.Cusps g = commands.Cusps
command words.Operator g = commands.Operator g.op
command words.Apply g = commands.Apply g.op g.integers
command words.Poly g = commands.Poly g.op g.coefficients g.integers
command words.Split g = commands.Split g.op g.coefficients
command words.Show g = commands.Show
command words.Part g = commands.Part g.number
command words.Chains g = commands.Chains g.n

abbrev pub unless_limit : Option LimitWord → Command → Result Command CommandFault
unless_limit None command = Ok command
unless_limit (Some what) command = Err (faults.Limit what)

abbrev pub command_by_form : List (List ℕ) → Option Word → Result Command CommandFault
command_by_form line None = Err (faults.Grammar (grammar_fault line))
command_by_form line (Some word) = unless_limit (limit_of (given_by word line)) (command word (given_by word line))

unfoldable pub command_of : List ℕ → Result Command CommandFault
command_of text = command_by_form (tokens text) (form_of (tokens text))

abbrev pub IsIndexed : OpName → Type 0
IsIndexed (ops.T n) = (0 < n) × (n ≤ MAX_DET)
IsIndexed ops.Star = Unit {0}

abbrev pub IsWithin : Command → Type 0
IsWithin (commands.Reduce terms) = length terms ≤ MAX_TERMS
IsWithin (commands.Certify terms) = length terms ≤ MAX_TERMS
IsWithin (commands.Image n terms) = (0 < n) × (n ≤ MAX_DET) × (length terms ≤ MAX_TERMS)
IsWithin (commands.Star terms) = length terms ≤ MAX_TERMS
IsWithin (commands.Boundary terms) = length terms ≤ MAX_TERMS
IsWithin (commands.Operator op) = IsIndexed op
IsWithin (commands.Apply op coords) = IsIndexed op × (length coords < 2 ^ 32)
IsWithin (commands.Poly op coefficients coords) = IsIndexed op × (length coefficients ≤ MAX_COEFFICIENTS) × (length coords < 2 ^ 32)
IsWithin (commands.Split op coefficients) = IsIndexed op × (length coefficients ≤ MAX_COEFFICIENTS)
IsWithin (commands.Chains n) = (0 < n) × (n ≤ MAX_DET)
IsWithin command = Unit {0}

abbrev pub AnswersCommand : Result Command CommandFault → Result Command CommandFault → Type 0
AnswersCommand (Ok command) read = read ≡ Ok command
AnswersCommand (Err faults.OutOfMemory) read = Unit {0}
AnswersCommand (Err (faults.Grammar token)) read = read ≡ Err (faults.Grammar token)
AnswersCommand (Err (faults.Limit what)) read = read ≡ Err (faults.Limit what)
