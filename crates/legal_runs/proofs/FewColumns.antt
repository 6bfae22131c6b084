-- A legal run counts fewer than 2^64 columns.
use Rattle.std.proofs.Common.{◌-◌, ◌*◌, ◌<◌, ◌≤◌, ◌^◌, ℕ, ℤ, List, [], ◌∷◌, length, length-append, All, Option, None, Some, Result, Ok, Err, arith}
use Rattle.std.specs.List.{range_with_len}
use Rattle.std.proofs.lemmas.List.{length-map}
use Rattle.std.proofs.lemmas.List.Elements.{All-head, All-tail}
use Rattle.std.proofs.lemmas.List.FromFn.{length-range_with_len}
use Rattle.std.proofs.lemmas.List.Sums.{sum_by-cons}
use Rattle.std.proofs.lemmas.Map.Made.{length-le_from_is_member}
use Rattle.p1_normal.specs.declared.level.TheConstants.{MAX_LEVEL}
use Rattle.p1_normal.specs.Points.{number, symbols}
use Rattle.quotient_coords.specs.Quotient.{Ground}
use Rattle.op_polynomials.specs.declared.name.OpName.{OpName}
use Rattle.op_polynomials.specs.declared.name.OpName.TheVariants as ops
use Rattle.script_text.specs.declared.command.Command.{Command}
use Rattle.script_text.specs.declared.command.Command.TheVariants as commands
use Rattle.script_text.specs.declared.command_fault.CommandFault.{CommandFault}
use Rattle.script_text.specs.Commands.{command_of}
use Rattle.script_text.specs.Numbered.{NumberedLine, IsShort}
use Rattle.script_text.specs.Valid.{ScriptText, command_count}
use Rattle.reply_text.specs.declared.refusal.Refusal.{Refusal}
use Rattle.reply_text.specs.declared.transcript.Transcript.{Transcript}
use Rattle.session_core.specs.Demands.{operator_pairs, demand, reading_demand, line_demand, session_demand, script_demand}
use Rattle.session_core.specs.Refusals.{line_refusal}
use Rattle.session_core.specs.Terms.{symbol_of, symbol_terms, symbols_of}
use Rattle.session_core.specs.Transcripts.{script_ground, CountsColumns}
use Rattle.session_core.proofs.PairLemmas.{is_pair-equivalence}
use Rattle.legal_runs.proofs.GroundSizes.{IsGround, few_symbols, space_ground}
use Rattle.legal_runs.proofs.ReadCommands.{IsReadWell, read_well}
use Rattle.legal_runs.proofs.ScriptLimits.{IsLineWithin, IsReadScript}

module _ (g : Ground) (is : IsGround g) where
  operator_few : (op : OpName) → length (operator_pairs g.level op) ≤ MAX_LEVEL * MAX_LEVEL
  operator_few (ops.T n) =
      let ks = range_with_len 0 (length (symbols g.level)) in
      omega (arith, length-map {B = ℕ × ℕ} ks (λ k. (n, k)), length-range_with_len 0 (length (symbols g.level)), few_symbols g is)
  operator_few ops.Star = omega arith

  demand_few : (command : Command) → IsReadWell (Ok command) → length (demand g command) ≤ MAX_LEVEL * MAX_LEVEL
  demand_few (commands.Image n terms) well =
      let named = symbol_terms g.level terms in
      omega (
        arith,
        length-map {B = ℕ × ℕ} (symbols_of g.level terms) (λ k. (n, k)),
        length-map named (λ t. t.0),
        length-map {B = ℕ × ℤ} terms (λ t. (number g.level (symbol_of g.level t), t.coefficient)),
        well.0.2,
      )
  demand_few (commands.Operator op) well = operator_few op
  demand_few (commands.Apply op coords) well = operator_few op
  demand_few (commands.Poly op coefficients coords) well = operator_few op
  demand_few (commands.Split op coefficients) well = operator_few op
  demand_few command well = omega arith

  reading_few : (o : Option Refusal) (reading : Result Command CommandFault) → IsReadWell reading
      → length (reading_demand o g reading) ≤ MAX_LEVEL * MAX_LEVEL
  reading_few None (Ok command) well = demand_few command well
  reading_few None (Err fault) well = omega arith
  reading_few (Some refusal) reading well = omega arith

  session_few : (n : ℕ) (lines : List NumberedLine) → n < 2 ^ 32 - 1 → All (IsLineWithin n) lines
      → length (session_demand g lines) ≤ MAX_LEVEL * MAX_LEVEL * length lines
  session_few n [] short within = omega arith
  session_few n (line ∷ lines) short within =
      let first : IsLineWithin n line = All-head (IsLineWithin n) line lines within in
      let well = read_well line.text (omega (arith, first, short)) in
      omega (
        arith,
        length-append (line_demand g 0 line.text) (session_demand g lines),
        reading_few (line_refusal g 0 0 line.text) (command_of line.text) well,
        session_few n lines short (All-tail (IsLineWithin n) line lines within),
      )

  script_few : (n : ℕ) (sessions : List (List NumberedLine)) → n < 2 ^ 32 - 1 → All (All (IsLineWithin n)) sessions
      → length (script_demand g sessions) ≤ MAX_LEVEL * MAX_LEVEL * command_count sessions
  script_few n [] short within = omega arith
  script_few n (lines ∷ sessions) short within = omega (
    arith,
    length-append (session_demand g lines) (script_demand g sessions),
    session_few n lines short (All-head (All (IsLineWithin n)) lines sessions within),
    script_few n sessions short (All-tail (All (IsLineWithin n)) lines sessions within),
    sum_by-cons (λ (ls : List NumberedLine). length ls) lines sessions,
  )

pub columns_few : (text : List ℕ) (script : ScriptText) (t : Transcript) → IsShort text → IsReadScript text script → CountsColumns script t
    → t.columns < 2 ^ 64
columns_few text script t short read counts =
    let g = script_ground script in
    omega (
      arith,
      counts.counted,
      length-le_from_is_member is_pair-equivalence counts.pairs (script_demand g script.sessions) counts.distinct counts.only,
      script_few g (space_ground script.space read.limits.is_space) (length text) script.sessions short read.within,
      read.limits.few_commands,
    )
