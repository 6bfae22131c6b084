-- Each number that stands in a refusal is below 2^32, and so are those of the reply to a line.
use Rattle.std.proofs.Common.{◌≤◌, ◌+◌, ◌&&◌, ℕ, List, [], ◌∷◌, length, nat_eq, nat_le, nat_lt, ltb-true, not, Option, Some, None, Result}
use Rattle.std.proofs.Common.{Ok, Err, refl, arith}
use Rattle.std.specs.List.{position_or_len}
use Rattle.std.proofs.lemmas.Bool.{cond_both}
use Rattle.std.proofs.lemmas.Nat.Gcd.{le_of_dvd}
use Rattle.p1_normal.specs.Units.{gcd}
use Rattle.p1_normal.proofs.Units.{IsGcd-gcd}
use Rattle.quotient_coords.specs.Quotient.{Ground, dimension}
use Rattle.split_state.specs.Decomposition.{Decomposition}
use Rattle.split_state.proofs.Counting.{parts_are_few}
use Rattle.script_text.specs.declared.command.Command.{Command}
use Rattle.script_text.specs.declared.command.Command.TheVariants as commands
use Rattle.script_text.specs.declared.command_fault.CommandFault.{CommandFault}
use Rattle.script_text.specs.declared.command_fault.CommandFault.TheVariants as faults
use Rattle.script_text.specs.declared.limits.TheConstants.{MAX_TERMS}
use Rattle.script_text.specs.declared.term.Term.{Term}
use Rattle.script_text.specs.Commands.{command_of, IsWithin}
use Rattle.reply_text.specs.declared.limits.TheConstants.{MAX_VERSIONS}
use Rattle.reply_text.specs.declared.lexeme.Lexeme.TheVariants as lexs
use Rattle.reply_text.specs.declared.refusal.Refusal.{Refusal}
use Rattle.reply_text.specs.declared.refusal.Refusal.TheVariants as refusals
use Rattle.reply_text.specs.declared.reply.Reply.{Reply}
use Rattle.reply_text.specs.Wordings.{refusal_lexemes}
use Rattle.session_core.specs.Answers.{IsAnswer}
use Rattle.session_core.specs.Refusals.{unnamed, determinant_of, uncoprime, coordinate_count, mislength, part_number, no_part, full}
use Rattle.session_core.specs.Refusals.{first_of, refusal_of, reading_refusal}
use Rattle.session_core.specs.Replies.{IsAnswerTo, IsReplyAt, UnlessRefused}
use Rattle.session_core.specs.Terms.{terms_of, names_point, first_unnamed}
use Rattle.legal_runs.proofs.GroundSizes.{IsGround, few_dimensions}
use Rattle.legal_runs.proofs.ReadCommands.{IsReadWell}
use Rattle.legal_runs.proofs.WrittenAnswers.{IsVersioned, IsWritten, answer_written, refused_written}
use Rattle.legal_runs.proofs.WrittenLexemes.{IsSmall, AreLexemes, number}

-- the numbers of a refusal, if there is one
abbrev AreSmallIn : Option Refusal → Type 0
AreSmallIn None = Unit {0}
AreSmallIn (Some refusal) = AreLexemes (refusal_lexemes refusal)

first_small : (a b : Option Refusal) → AreSmallIn a → AreSmallIn b → AreSmallIn (first_of a b)
first_small None b h k = k
first_small (Some refusal) b h k = h

unnamed_small : (N : ℕ) (terms : List Term) → length terms ≤ MAX_TERMS → AreSmallIn (unnamed (first_unnamed N terms))
unnamed_small N terms few =
    let place = position_or_len (λ t. not (names_point N t)) terms in
    cond_both (nat_lt place (length terms)) (Some place) None (λ o. AreSmallIn (unnamed o))
    (λ e. number (place + 1) [] (omega (arith, few, ltb-true place (length terms) e)) refl) (λ e. tt)

few_terms : (command : Command) → IsWithin command → length (terms_of command) ≤ MAX_TERMS
few_terms (commands.Normal a b) within = omega arith
few_terms (commands.Reduce terms) within = within
few_terms (commands.Certify terms) within = within
few_terms (commands.Image n terms) within = within.2
few_terms (commands.Star terms) within = within
few_terms (commands.Boundary terms) within = within
few_terms commands.Basis within = omega arith
few_terms commands.Cusps within = omega arith
few_terms (commands.Operator op) within = omega arith
few_terms (commands.Apply op coords) within = omega arith
few_terms (commands.Poly op coefficients coords) within = omega arith
few_terms (commands.Split op coefficients) within = omega arith
few_terms commands.Show within = omega arith
few_terms (commands.Part k) within = omega arith
few_terms (commands.Chains n) within = omega arith

module _ (g : Ground) (is : IsGround g) where
  uncoprime_small : (o : Option ℕ) → AreSmallIn (uncoprime g.level o)
  uncoprime_small None = tt
  uncoprime_small (Some n) =
      cond_both (nat_eq (gcd n g.level) 1) None (Some (refusals.NotCoprime (gcd n g.level))) AreSmallIn (λ e. tt)
      (λ e. number (gcd n g.level) [] (omega (arith, is.few, le_of_dvd is.some (IsGcd-gcd n g.level).1)) refl)

  count_small : (k : ℕ) → IsSmall k → AreSmallIn (mislength (dimension g.level g.characteristic) (Some k))
  count_small k l =
      let d = dimension g.level g.characteristic in
      cond_both (nat_eq k d) None (Some (refusals.Length d k)) AreSmallIn (λ e. tt)
      (λ e. number d (lexs.Number k ∷ []) (omega (arith, few_dimensions g is)) (number k [] l refl))

  mislength_small : (command : Command) → IsWithin command → AreSmallIn (mislength (dimension g.level g.characteristic) (coordinate_count command))
  mislength_small (commands.Apply op coords) within = count_small (length coords) within.1
  mislength_small (commands.Poly op coefficients coords) within = count_small (length coords) within.2
  mislength_small command within = tt

  no_part_small : (count : ℕ) (o : Option ℕ) → IsSmall count → AreSmallIn (no_part count o)
  no_part_small count None l = tt
  no_part_small count (Some k) l =
      cond_both (nat_le 1 k && nat_le k count) None (Some (refusals.NoPart count)) AreSmallIn (λ e. tt) (λ e. number count [] l refl)

  full_small : (v : ℕ) (command : Command) → AreSmallIn (full v command)
  full_small v (commands.Split op coefficients) =
      cond_both (nat_lt v MAX_VERSIONS) None (Some refusals.VersionsFull) AreSmallIn (λ e. tt) (λ e. refl)
  full_small v command = tt

  refusal_small : (v count : ℕ) (command : Command) → IsSmall count → IsWithin command → AreSmallIn (refusal_of g v count command)
  refusal_small v count command l within =
      let d = dimension g.level g.characteristic in
      let last = first_of (no_part count (part_number command)) (full v command) in
      let later = first_of (mislength d (coordinate_count command)) last in
      first_small (unnamed (first_unnamed g.level (terms_of command))) (first_of (uncoprime g.level (determinant_of command)) later)
      (unnamed_small g.level (terms_of command) (few_terms command within))
      (first_small (uncoprime g.level (determinant_of command)) later (uncoprime_small (determinant_of command))
      (first_small (mislength d (coordinate_count command)) last (mislength_small command within)
      (first_small (no_part count (part_number command)) (full v command) (no_part_small count (part_number command) l) (full_small v command))))

  -- the reply to what a line is read as
  reading_written : (v : ℕ) (s : Decomposition) → IsVersioned g v s → (reading : Result Command CommandFault) (reply : Reply) → IsReadWell reading
      → UnlessRefused (reading_refusal g v (length s.parts) reading) (IsAnswerTo g v s reading reply) reply → IsWritten reply
  reading_written v s at (Err faults.OutOfMemory) reply well h = absurd h
  reading_written v s at (Err (faults.Grammar token)) reply well h =
      refused_written g is reply (refusals.Grammar token) h (number token [] well refl)
  reading_written v s at (Err (faults.Limit what)) reply well h = refused_written g is reply (refusals.Limit what) h refl
  reading_written v s at (Ok command) reply well h =
      let few : IsSmall (length s.parts) = omega (arith, parts_are_few s at.splits, at.dim, few_dimensions g is) in
      by (refusal_of g v (length s.parts) command) (refusal_small v (length s.parts) command few well.0) h
    where
      by : (o : Option Refusal) → AreSmallIn o → UnlessRefused o (IsAnswer g v s command reply) reply → IsWritten reply
      by None small answer = answer_written g is v s at command reply well.0 answer
      by (Some refusal) small told = refused_written g is reply refusal told small

  -- the reply to a line at a version
  pub reply_written : (v : ℕ) (s : Decomposition) (text : List ℕ) (reply : Reply) → IsVersioned g v s → IsReadWell (command_of text)
      → IsReplyAt g v s text reply → IsWritten reply
  reply_written v s text reply at well h = reading_written v s at (command_of text) reply well h
