-- The columns that commands demand, each by its pair (n, symbol); g is a ground: a level N and a characteristic.
--   is_pair a b                    the test that two pairs are one
--   Has pairs q                    q is one of the pairs
--   HasAll table pairs             the table has each of the pairs
--   symbol_pairs n ks              the pairs of n with each of these symbols
--   operator_pairs N o             the pairs of n with all symbols for an operator T_n, and none for star
--   demand g c                     the pairs that a command demands: those of the symbols of its terms for `image`, whatever their
--                                  coefficients, those of its operator for `operator`, `apply`, `poly` and
--                                  `split`, and none for another command
--   reading_demand o g r           those of what a line is read as, or none where there is a refusal
--   line_demand g v text           those of a command line at the version of number v, or none where something refuses it; a command that
--                                  demands columns asks for no part, so their number is told as 0
--   session_demand g lines         those of all lines at version 0, where no split finds the history full: the most that they demand
--   script_demand g sessions       those of all sessions
--   told_demand g lines told       those of all lines, each at the version of its reply line
--   told_demands g sessions all    those of all sessions
--   Adds pairs old new             each pair of `old` is in `new`, and what else is in `new` is one of the pairs
--   Gathers pairs reply old new    the same, and each of the pairs is in `new`, but where the reply is want of memory
--   GathersFor pairs finish old new   the same, where an outcome is no want of memory
--   AreDistinctOf given symbols    the symbols are those that are given, rising, each once
--   operator_demand o              the demand of an operator
--   IsDemand g c d                 d tells the demand of a command, with its n and its symbols
--   demand_pairs N d               the pairs of d
--   HasColumns N d                 each pair of d has a column: n is 1 to MAX_DET and coprime to N, and the symbols are those of N
--   Serves s L g n                 a source with the setting s and the matrices L is one of g and of Merel's set of determinant n
--   ServesDemand s L gives g d     it is one for the n of d, and by the test it gives the symbols of d; any source where d is nothing
--   Preparation                    a command at a ground and at a version with so many parts, and its demand
use Rattle.std.specs.Prelude.{◌≡◌, ◌≢◌, ◌⊎◌, ℕ, ◌<◌, ◌≤◌, List, [], ◌∷◌, ◌++◌, length, map, All, Bool, true, nat_eq, ◌&&◌, Option, Some, None, Result, Ok, Err}
use Rattle.std.specs.List.{Contains, flat_map, range_with_len}
use Rattle.std.specs.List.Sorted.{IsStrictlyIncreasing}
use Rattle.std.specs.Set.{is_member}
use Rattle.p1_normal.specs.declared.matrix.TheConstants.{MAX_DET}
use Rattle.p1_normal.specs.Points.{symbols}
use Rattle.p1_normal.specs.Units.{gcd}
use Rattle.quotient_coords.specs.Quotient.{Ground}
use Rattle.heilbronn_sets.specs.Merel.{merel_matrices}
use Rattle.heilbronn_sets.specs.Sets.{Matrices}
use Rattle.op_polynomials.specs.declared.name.OpName.{OpName}
use Rattle.op_polynomials.specs.declared.name.OpName.TheVariants as ops
use Rattle.script_text.specs.declared.command.Command.{Command}
use Rattle.script_text.specs.declared.command.Command.TheVariants as commands
use Rattle.script_text.specs.declared.command_fault.CommandFault.{CommandFault}
use Rattle.script_text.specs.Commands.{command_of}
use Rattle.script_text.specs.Numbered.{NumberedLine}
use Rattle.reply_text.specs.declared.refusal.Refusal.{Refusal}
use Rattle.reply_text.specs.declared.transcript.ReplyLine.{ReplyLine}
use Rattle.reply_text.specs.declared.reply.Reply.{Reply}
use Rattle.reply_text.specs.declared.reply.Reply.TheVariants.{Memory}
use Rattle.session_core.specs.declared.demand.Demand.{Demand}
use Rattle.session_core.specs.declared.outcome.Finish.{Finish}
use Rattle.session_core.specs.declared.outcome.Finish.TheVariants as outcomes
use Rattle.session_core.specs.declared.demand.Demand.TheVariants as demands
use Rattle.session_core.specs.Terms.{symbols_of}
use Rattle.session_core.specs.Refusals.{line_refusal}

abbrev pub is_pair : ℕ × ℕ → ℕ × ℕ → Bool
is_pair a b = nat_eq a.0 b.0 && nat_eq a.1 b.1

abbrev pub Has : List (ℕ × ℕ) → ℕ × ℕ → Type 0
Has pairs q = is_member is_pair pairs q ≡ true

abbrev pub HasAll : List (ℕ × ℕ) → List (ℕ × ℕ) → Type 0
HasAll table pairs = (q : ℕ × ℕ) → Has pairs q → Has table q

abbrev pub symbol_pairs : ℕ → List ℕ → List (ℕ × ℕ)
symbol_pairs n given = map (λ k. (n, k)) given

abbrev pub operator_pairs : ℕ → OpName → List (ℕ × ℕ)
operator_pairs N (ops.T n) = symbol_pairs n (range_with_len 0 (length (symbols N)))
operator_pairs N ops.Star = []

abbrev pub demand : Ground → Command → List (ℕ × ℕ)
demand g (commands.Image n terms) = symbol_pairs n (symbols_of g.level terms)
demand g (commands.Operator op) = operator_pairs g.level op
demand g (commands.Apply op coords) = operator_pairs g.level op
demand g (commands.Poly op coefficients coords) = operator_pairs g.level op
demand g (commands.Split op coefficients) = operator_pairs g.level op
demand g command = []

abbrev pub reading_demand : Option Refusal → Ground → Result Command CommandFault → List (ℕ × ℕ)
reading_demand None g (Ok command) = demand g command
reading_demand None g (Err fault) = []
reading_demand (Some refusal) g reading = []

abbrev pub line_demand : Ground → ℕ → List ℕ → List (ℕ × ℕ)
line_demand g v text = reading_demand (line_refusal g v 0 text) g (command_of text)

abbrev pub session_demand : Ground → List NumberedLine → List (ℕ × ℕ)
session_demand g lines = flat_map (λ line. line_demand g 0 line.text) lines

abbrev pub script_demand : Ground → List (List NumberedLine) → List (ℕ × ℕ)
script_demand g sessions = flat_map (λ lines. session_demand g lines) sessions

abbrev pub told_demand : Ground → List NumberedLine → List ReplyLine → List (ℕ × ℕ)
told_demand g [] told = []
told_demand g (line ∷ lines) [] = []
told_demand g (line ∷ lines) (r ∷ told) = line_demand g r.version line.text ++ told_demand g lines told

abbrev pub told_demands : Ground → List (List NumberedLine) → List (List ReplyLine) → List (ℕ × ℕ)
told_demands g [] all = []
told_demands g (lines ∷ sessions) [] = []
told_demands g (lines ∷ sessions) (told ∷ all) = told_demand g lines told ++ told_demands g sessions all

pub record Adds (pairs old new : List (ℕ × ℕ)) : Type 0 where
  pub kept : (q : ℕ × ℕ) → Has old q → Has new q
  pub only : (q : ℕ × ℕ) → Has new q → Has old q ⊎ Has pairs q

pub record Gathers (pairs : List (ℕ × ℕ)) (reply : Reply) (old new : List (ℕ × ℕ)) : Type 0 where
  pub adds : Adds pairs old new
  pub held : reply ≢ Memory → HasAll new pairs

abbrev pub GathersFor : List (ℕ × ℕ) → Finish → List (ℕ × ℕ) → List (ℕ × ℕ) → Type 0
GathersFor pairs (outcomes.Reply reply) old new = Gathers pairs reply old new
GathersFor pairs finish old new = Adds pairs old new × HasAll new pairs

pub record AreDistinctOf (given symbols : List ℕ) : Type 0 where
  pub rising : IsStrictlyIncreasing symbols
  pub all : (k : ℕ) → Contains given k → Contains symbols k
  pub only : (k : ℕ) → Contains symbols k → Contains given k

abbrev pub operator_demand : OpName → Demand
operator_demand (ops.T n) = demands.All n
operator_demand ops.Star = demands.Nothing

abbrev pub IsDemand : Ground → Command → Demand → Type 0
IsDemand g (commands.Image n terms) d = (symbols : List ℕ) × (d ≡ demands.Some n symbols) × AreDistinctOf (symbols_of g.level terms) symbols
IsDemand g (commands.Operator op) d = d ≡ operator_demand op
IsDemand g (commands.Apply op coords) d = d ≡ operator_demand op
IsDemand g (commands.Poly op coefficients coords) d = d ≡ operator_demand op
IsDemand g (commands.Split op coefficients) d = d ≡ operator_demand op
IsDemand g command d = d ≡ demands.Nothing

abbrev pub demand_pairs : ℕ → Demand → List (ℕ × ℕ)
demand_pairs N demands.Nothing = []
demand_pairs N (demands.Some n given) = symbol_pairs n given
demand_pairs N (demands.All n) = symbol_pairs n (range_with_len 0 (length (symbols N)))

abbrev pub HasColumns : ℕ → Demand → Type 0
HasColumns N demands.Nothing = Unit {0}
HasColumns N (demands.Some n given) = (0 < n) × (n ≤ MAX_DET) × (gcd n N ≡ 1) × All (λ k. k < length (symbols N)) given
HasColumns N (demands.All n) = (0 < n) × (n ≤ MAX_DET) × (gcd n N ≡ 1)

pub record Serves (setting : Ground) (matrices : Matrices) (g : Ground) (n : ℕ) : Type 0 where
  pub of_ground : setting ≡ g
  pub determinant : matrices.det ≡ n
  pub list : matrices.list ≡ merel_matrices n

abbrev pub ServesDemand : Ground → Matrices → (ℕ → Bool) → Ground → Demand → Type 0
ServesDemand setting matrices gives g demands.Nothing = Unit {0}
ServesDemand setting matrices gives g (demands.Some n given) = Serves setting matrices g n × ((k : ℕ) → Contains given k → gives k ≡ true)
ServesDemand setting matrices gives g (demands.All n) = Serves setting matrices g n × ((k : ℕ) → k < length (symbols g.level) → gives k ≡ true)

pub record Preparation : Type 0 where
  pub ground : Ground
  pub version : ℕ
  pub parts : ℕ
  pub command : Command
  pub demand : Demand
