-- What drawn commands are read as, and what all of them keep.
--   drawn_term t           a drawn term as a term
--   command_of_drawn d     a drawn command as the command that its line is read as
--   IsDrawnIndex N n       n is 1 to MAX_DET, below N, and coprime to N
--   IsDrawnTerm N t        the coefficient of a term is 1 to 9, and its v is below N
--   IsDrawnOperator N op   the index n of an operator T_n is a drawn one
--   IsDrawnAt N d          the numbers of a command are those that are drawn at level N
--   IsDrawnScript seed     the drawing of a number has four sessions of forty commands, each drawn at its level
--   DrawnCommandsFit, DrawnLinesAreRead   laws: drawings are such, and a line is read as the command that was drawn
use Rattle.std.specs.Prelude.{◌≡◌, ℕ, ◌<◌, ◌≤◌, pos, neg_ℤ, List, [], ◌∷◌, All, Some, None, Ok}
use Rattle.p1_normal.specs.declared.matrix.TheConstants.{MAX_DET}
use Rattle.p1_normal.specs.Units.{gcd}
use Rattle.op_polynomials.specs.declared.name.OpName.{OpName}
use Rattle.op_polynomials.specs.declared.name.OpName.TheVariants as ops
use Rattle.script_text.specs.declared.term.Term.{Term}
use Rattle.script_text.specs.declared.command.Command.{Command}
use Rattle.script_text.specs.declared.command.Command.TheVariants as commands
use Rattle.script_text.specs.declared.drawn.DrawnCommand.{DrawnCommand}
use Rattle.script_text.specs.declared.drawn.DrawnCommand.TheVariants as drawn
use Rattle.script_text.specs.declared.drawn.DrawnTerm.{DrawnTerm}
use Rattle.script_text.specs.Commands.{command_of}
use Rattle.script_text.specs.Draws.{drawing, drawn_text, HasFourSessions}

abbrev pub drawn_term : DrawnTerm → Term
drawn_term t = record { coefficient = pos t.coefficient; u = pos 1; v = pos t.v }

abbrev pub command_of_drawn : DrawnCommand → Command
command_of_drawn (drawn.Normal v) = commands.Normal (pos 1) (pos v)
command_of_drawn (drawn.Reduce first second) = commands.Reduce (drawn_term first ∷ drawn_term second ∷ [])
command_of_drawn (drawn.Image n first None) = commands.Image n (drawn_term first ∷ [])
command_of_drawn (drawn.Image n first (Some second)) = commands.Image n (drawn_term first ∷ drawn_term second ∷ [])
command_of_drawn (drawn.Star t) = commands.Star (drawn_term t ∷ [])
command_of_drawn (drawn.Boundary first second) = commands.Boundary (drawn_term first ∷ drawn_term second ∷ [])
command_of_drawn drawn.Show = commands.Show
command_of_drawn (drawn.Split op constant) = commands.Split op (neg_ℤ (pos constant) ∷ pos 1 ∷ [])

pub record IsDrawnIndex (N n : ℕ) : Type 0 where
  pub least : 1 ≤ n
  pub most : n ≤ MAX_DET
  pub below : n < N
  pub coprime : gcd n N ≡ 1

pub record IsDrawnTerm (N : ℕ) (t : DrawnTerm) : Type 0 where
  pub least : 1 ≤ t.coefficient
  pub most : t.coefficient ≤ 9
  pub below : t.v < N

abbrev pub IsDrawnOperator : ℕ → OpName → Type 0
IsDrawnOperator N (ops.T n) = IsDrawnIndex N n
IsDrawnOperator N ops.Star = Unit {0}

abbrev pub IsDrawnAt : ℕ → DrawnCommand → Type 0
IsDrawnAt N (drawn.Normal v) = v < N
IsDrawnAt N (drawn.Reduce first second) = IsDrawnTerm N first × IsDrawnTerm N second
IsDrawnAt N (drawn.Image n first None) = IsDrawnIndex N n × IsDrawnTerm N first
IsDrawnAt N (drawn.Image n first (Some second)) = IsDrawnIndex N n × IsDrawnTerm N first × IsDrawnTerm N second
IsDrawnAt N (drawn.Star t) = IsDrawnTerm N t
IsDrawnAt N (drawn.Boundary first second) = IsDrawnTerm N first × IsDrawnTerm N second
IsDrawnAt N drawn.Show = Unit {0}
IsDrawnAt N (drawn.Split op constant) = IsDrawnOperator N op × (constant < 10)

pub record IsDrawnScript (seed : ℕ) : Type 0 where
  pub four_sessions : HasFourSessions seed
  pub drawn : All (λ (session : List DrawnCommand). All (IsDrawnAt (drawing seed).level) session) (drawing seed).sessions

abbrev pub DrawnCommandsFit : Type 0
DrawnCommandsFit = (seed : ℕ) → IsDrawnScript seed

abbrev pub DrawnLinesAreRead : Type 0
DrawnLinesAreRead = (N : ℕ) (d : DrawnCommand) → N ≤ 1000 → IsDrawnAt N d → command_of (drawn_text d) ≡ Ok (command_of_drawn d)
