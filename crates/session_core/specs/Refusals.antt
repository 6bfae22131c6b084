-- The first of the refusals of a command that need no operator, at a ground g (a level and a characteristic) and a version of the space: v is
-- its number, and c the number of its parts.
--   unnamed o                    the refusal of the term at this place, if there is one
--   index_of o                   the index n of an operator T_n
--   determinant_of c             the number n of a command, where it is to be coprime to the level
--   uncoprime N o                the refusal of such a number, if it is not coprime to the level N
--   coordinate_count c           how many coordinates a command gives, where it gives a vector by its coordinates
--   mislength d o                the refusal of a number of coordinates that is not the dimension d
--   part_number c                the number of the part that a command asks for
--   no_part c o                  the refusal of such a number, if it is not 1 to c
--   full v c                     the refusal of a split where the version has MAX_VERSIONS entries
--   first_of a b                 the first of two refusals that applies
--   refusal_of g v c command     the first refusal that applies to a command whose line breaks no rule and no limit
--   reading_refusal g v c r      the same of what a line is read as: the rule or the limit that it breaks comes first
--   line_refusal g v c text      the first refusal that applies to a command line
use Rattle.std.specs.Prelude.{ℕ, ◌+◌, List, length, nat_eq, nat_le, nat_lt, ◌&&◌, Option, Some, None, Result, Ok, Err, if◌then◌else◌}
use Rattle.p1_normal.specs.Units.{gcd}
use Rattle.quotient_coords.specs.Quotient.{Ground, dimension}
use Rattle.op_polynomials.specs.declared.name.OpName.{OpName}
use Rattle.op_polynomials.specs.declared.name.OpName.TheVariants as ops
use Rattle.script_text.specs.declared.command.Command.{Command}
use Rattle.script_text.specs.declared.command.Command.TheVariants as commands
use Rattle.script_text.specs.declared.command_fault.CommandFault.{CommandFault}
use Rattle.script_text.specs.declared.command_fault.CommandFault.TheVariants as faults
use Rattle.script_text.specs.Commands.{command_of}
use Rattle.reply_text.specs.declared.limits.TheConstants.{MAX_VERSIONS}
use Rattle.reply_text.specs.declared.refusal.Refusal.{Refusal}
use Rattle.reply_text.specs.declared.refusal.Refusal.TheVariants.{Grammar, Limit, NotSymbol, NotCoprime, Length, NoPart, VersionsFull}
use Rattle.session_core.specs.Terms.{terms_of, first_unnamed}

abbrev pub unnamed : Option ℕ → Option Refusal
unnamed None = None
unnamed (Some i) = Some (NotSymbol (i + 1))

abbrev pub index_of : OpName → Option ℕ
index_of (ops.T n) = Some n
index_of ops.Star = None

abbrev pub determinant_of : Command → Option ℕ
determinant_of (commands.Image n terms) = Some n
determinant_of (commands.Operator op) = index_of op
determinant_of (commands.Apply op coords) = index_of op
determinant_of (commands.Poly op coefficients coords) = index_of op
determinant_of (commands.Split op coefficients) = index_of op
determinant_of command = None

abbrev pub uncoprime : ℕ → Option ℕ → Option Refusal
uncoprime N None = None
uncoprime N (Some n) = if nat_eq (gcd n N) 1 then None else Some (NotCoprime (gcd n N))

abbrev pub coordinate_count : Command → Option ℕ
coordinate_count (commands.Apply op coords) = Some (length coords)
coordinate_count (commands.Poly op coefficients coords) = Some (length coords)
coordinate_count command = None

abbrev pub mislength : ℕ → Option ℕ → Option Refusal
mislength d None = None
mislength d (Some k) = if nat_eq k d then None else Some (Length d k)

abbrev pub part_number : Command → Option ℕ
part_number (commands.Part number) = Some number
part_number command = None

abbrev pub no_part : ℕ → Option ℕ → Option Refusal
no_part count None = None
no_part count (Some number) = if nat_le 1 number && nat_le number count then None else Some (NoPart count)

abbrev pub full : ℕ → Command → Option Refusal
full v (commands.Split op coefficients) = if nat_lt v MAX_VERSIONS then None else Some VersionsFull
full v command = None

abbrev pub first_of : Option Refusal → Option Refusal → Option Refusal
first_of None next = next
first_of (Some refusal) next = Some refusal

abbrev pub refusal_of : Ground → ℕ → ℕ → Command → Option Refusal
refusal_of g v count command =
    first_of (unnamed (first_unnamed g.level (terms_of command)))
    (first_of (uncoprime g.level (determinant_of command))
    (first_of (mislength (dimension g.level g.characteristic) (coordinate_count command))
    (first_of (no_part count (part_number command))
    (full v command))))

abbrev pub reading_refusal : Ground → ℕ → ℕ → Result Command CommandFault → Option Refusal
reading_refusal g v count (Err faults.OutOfMemory) = None
reading_refusal g v count (Err (faults.Grammar token)) = Some (Grammar token)
reading_refusal g v count (Err (faults.Limit what)) = Some (Limit what)
reading_refusal g v count (Ok command) = refusal_of g v count command

abbrev pub line_refusal : Ground → ℕ → ℕ → List ℕ → Option Refusal
line_refusal g v count text = reading_refusal g v count (command_of text)
