-- No reply of a legal transcript refuses an operator: it is prime to the level where it is looked at, and so are those that are listed.
use Rattle.std.proofs.Common.{◌≡◌, inl, inr, ◌+◌, ◌&&◌, ℕ, Bool, true, false, cond, List, length, map, take, get_or}
use Rattle.std.proofs.Common.{All, Contains, nat_eq, nat_le, nat_lt, eqb-true, Option, Some, None, slice_get, Result, Ok, Err, refl, sym}
use Rattle.std.proofs.Common.{subst}
use Rattle.std.proofs.lemmas.Bool.{cond_both}
use Rattle.std.proofs.lemmas.List.Elements.{All-contains, All-map, All-take}
use Rattle.std.proofs.lemmas.Option.{slice_get-get_or}
use Rattle.linear_algebra.specs.Integers.{residue_of}
use Rattle.linear_algebra.specs.Prime.{IsPrime}
use Rattle.field_table.specs.Table.{IsListed}
use Rattle.field_table.proofs.TableFacts.{listed_prime}
use Rattle.p1_normal.specs.Units.{gcd}
use Rattle.quotient_coords.specs.Quotient.{Ground, dimension}
use Rattle.op_polynomials.specs.declared.entry.SplitEntry.{SplitEntry}
use Rattle.op_polynomials.specs.declared.name.OpName.{OpName}
use Rattle.op_polynomials.specs.declared.name.OpName.TheVariants as ops
use Rattle.split_state.specs.Decomposition.{Decomposition}
use Rattle.split_state.specs.Difference.{AgreesWithListed}
use Rattle.split_state.specs.Versions.{IsOperatorMatrix, IsVersion, operators}
use Rattle.split_state.proofs.FirstDifferences.{none_where_listed_agree}
use Rattle.commuting_operators.specs.Operators.{IsPrimeTo}
use Rattle.commuting_operators.proofs.Matrices.{merel_none, operator_matrices}
use Rattle.script_text.specs.declared.command.Command.{Command}
use Rattle.script_text.specs.declared.command.Command.TheVariants as commands
use Rattle.script_text.specs.declared.command_fault.CommandFault.{CommandFault}
use Rattle.script_text.specs.declared.command_fault.CommandFault.TheVariants as faults
use Rattle.script_text.specs.declared.word.Word.{Word}
use Rattle.script_text.specs.declared.word.Word.TheVariants as words
use Rattle.script_text.specs.Commands.{command, command_of, IsIndexed}
use Rattle.script_text.specs.Limits.{limit_of}
use Rattle.script_text.specs.Numbered.{NumberedLine}
use Rattle.script_text.specs.Tokens.{Given}
use Rattle.script_text.specs.Valid.{ScriptText}
use Rattle.script_text.proofs.WithinLemmas.{IsReadAs, indexed, read_is}
use Rattle.reply_text.specs.declared.limits.TheConstants.{MAX_VERSIONS}
use Rattle.reply_text.specs.declared.refusal.Refusal.{Refusal}
use Rattle.reply_text.specs.declared.refusal.Refusal.TheVariants as refusals
use Rattle.reply_text.specs.declared.reply.Reply.{Reply}
use Rattle.reply_text.specs.declared.reply.Reply.TheVariants as replies
use Rattle.reply_text.specs.declared.transcript.ReplyLine.{ReplyLine}
use Rattle.reply_text.specs.declared.transcript.Transcript.{Transcript}
use Rattle.session_core.specs.Answers.{IsAnswer, TellsSplit}
use Rattle.session_core.specs.Operators.{ActsBy, AnswersBy, TellsImage, TellsTrace, TellsValue}
use Rattle.session_core.specs.Refusals.{unnamed, index_of, determinant_of, uncoprime, coordinate_count, mislength, part_number, no_part}
use Rattle.session_core.specs.Refusals.{full, first_of, refusal_of, reading_refusal, line_refusal}
use Rattle.session_core.specs.Replies.{UnlessRefused, IsAccepted, IsAnswerTo, IsReply}
use Rattle.session_core.specs.Terms.{terms_of, first_unnamed}
use Rattle.session_core.specs.Transcripts.{IsAnsweredBy, IsEntry, IsLegalTranscript, script_ground}
use Rattle.generated_runs.proofs.Commuting.{agrees_with_listed}
use Rattle.generated_runs.proofs.LinesAnswered.{all_told, reply_line}
use Rattle.legal_runs.specs.OperatorAnswers.{RefusesOperator, OperatorsAreNeverRefused}
use Rattle.legal_runs.proofs.ReadCommands.{command_read}

-- ---- the refusals before an operator is looked at

abbrev IsOther : Option Refusal → Type 0
IsOther None = Unit {0}
IsOther (Some refusal) = RefusesOperator (replies.Refused refusal) → ⊥

first_other : (a b : Option Refusal) → IsOther a → IsOther b → IsOther (first_of a b)
first_other None b h k = k
first_other (Some refusal) b h k = h

unnamed_other : (o : Option ℕ) → IsOther (unnamed o)
unnamed_other None = tt
unnamed_other (Some i) = λ h. h

uncoprime_other : (N : ℕ) (o : Option ℕ) → IsOther (uncoprime N o)
uncoprime_other N None = tt
uncoprime_other N (Some n) =
    cond_both (nat_eq (gcd n N) 1) None (Some (refusals.NotCoprime (gcd n N))) IsOther (λ e. tt) (λ e. λ h. h)

mislength_other : (d : ℕ) (o : Option ℕ) → IsOther (mislength d o)
mislength_other d None = tt
mislength_other d (Some k) = cond_both (nat_eq k d) None (Some (refusals.Length d k)) IsOther (λ e. tt) (λ e. λ h. h)

no_part_other : (count : ℕ) (o : Option ℕ) → IsOther (no_part count o)
no_part_other count None = tt
no_part_other count (Some k) =
    cond_both (nat_le 1 k && nat_le k count) None (Some (refusals.NoPart count)) IsOther (λ e. tt) (λ e. λ h. h)

full_other : (v : ℕ) (command : Command) → IsOther (full v command)
full_other v (commands.Split op coefficients) =
    cond_both (nat_lt v MAX_VERSIONS) None (Some refusals.VersionsFull) IsOther (λ e. tt) (λ e. λ h. h)
full_other v command = tt

refusal_other : (g : Ground) (v count : ℕ) (command : Command) → IsOther (refusal_of g v count command)
refusal_other g v count command =
    let d = dimension g.level g.characteristic in
    let last = first_of (no_part count (part_number command)) (full v command) in
    let later = first_of (mislength d (coordinate_count command)) last in
    first_other (unnamed (first_unnamed g.level (terms_of command))) (first_of (uncoprime g.level (determinant_of command)) later)
    (unnamed_other (first_unnamed g.level (terms_of command)))
    (first_other (uncoprime g.level (determinant_of command)) later (uncoprime_other g.level (determinant_of command))
    (first_other (mislength d (coordinate_count command)) last (mislength_other d (coordinate_count command))
    (first_other (no_part count (part_number command)) (full v command) (no_part_other count (part_number command)) (full_other v command))))

-- ---- where none of them applies, the operator is prime to the level

none_before : (a b : Option Refusal) → first_of a b ≡ None → b ≡ None
none_before None b e = e
none_before (Some refusal) b e = absurd cc

none_first : (a b : Option Refusal) → first_of a b ≡ None → a ≡ None
none_first None b e = refl
none_first (Some refusal) b e = absurd cc

coprime_from_none : (N n : ℕ) → uncoprime N (Some n) ≡ None → gcd n N ≡ 1
coprime_from_none N n e = eqb-true (gcd n N) 1 (passes (nat_eq (gcd n N) 1) e)
  where
    passes : (b : Bool) → cond b None (Some (refusals.NotCoprime (gcd n N))) ≡ None → b ≡ true
    passes true e = refl
    passes false e = absurd cc

unrefused_coprime : (g : Ground) (v count : ℕ) (command : Command) → refusal_of g v count command ≡ None
    → uncoprime g.level (determinant_of command) ≡ None
unrefused_coprime g v count command none =
    let last = first_of (no_part count (part_number command)) (full v command) in
    let later = first_of (mislength (dimension g.level g.characteristic) (coordinate_count command)) last in
    none_first (uncoprime g.level (determinant_of command)) later
    (none_before (unnamed (first_unnamed g.level (terms_of command))) (first_of (uncoprime g.level (determinant_of command)) later) none)

abbrev OperatorIsPrime : ℕ → Command → Type 0
OperatorIsPrime N (commands.Operator op) = IsPrimeTo N op
OperatorIsPrime N (commands.Apply op coords) = IsPrimeTo N op
OperatorIsPrime N (commands.Poly op coefficients coords) = IsPrimeTo N op
OperatorIsPrime N (commands.Split op coefficients) = IsPrimeTo N op
OperatorIsPrime N command = Unit {0}

indexed_prime : (N : ℕ) (op : OpName) → IsIndexed op → uncoprime N (index_of op) ≡ None → IsPrimeTo N op
indexed_prime N (ops.T n) is none = (is.0, coprime_from_none N n none)
indexed_prime N ops.Star is none = tt

word_prime : (N : ℕ) (word : Word) (tokens : List (List ℕ)) (given : Given) → IsReadAs word tokens given → limit_of given ≡ None
    → uncoprime N (determinant_of (command word given)) ≡ None → OperatorIsPrime N (command word given)
word_prime N words.Operator tokens given read none coprime =
    indexed_prime N given.op (indexed given none (read_is words.Operator tokens given (refl, tt) refl read)) coprime
word_prime N words.Apply tokens given read none coprime =
    indexed_prime N given.op (indexed given none (read_is words.Apply tokens given (refl, tt) refl read)) coprime
word_prime N words.Poly tokens given read none coprime =
    indexed_prime N given.op (indexed given none (read_is words.Poly tokens given (refl, (refl, tt)) refl read)) coprime
word_prime N words.Split tokens given read none coprime =
    indexed_prime N given.op (indexed given none (read_is words.Split tokens given (refl, (refl, tt)) refl read)) coprime
word_prime N word tokens given read none coprime = tt

command_prime : (g : Ground) (v count : ℕ) (text : List ℕ) (c : Command) → command_of text ≡ Ok c → refusal_of g v count c ≡ None
    → OperatorIsPrime g.level c
command_prime g v count text c reads none =
    let r = command_read text c reads in
    subst (OperatorIsPrime g.level) r.is (word_prime g.level r.word r.others r.given r.read r.none
    (subst (λ (d : Command). uncoprime g.level (determinant_of d) ≡ None) (sym r.is) (unrefused_coprime g v count c none)))

-- ---- answers

module _ (g : Ground) (prime : IsPrime g.characteristic) where
  -- an operator that is prime to the level acts
  acting : (op : OpName) (P : List (List ℕ) → Reply → Type 0) (reply : Reply) → IsPrimeTo g.level op → AnswersBy g op P reply → ActsBy g op P reply
  acting (ops.T n) P reply is (inl h) = absurd (merel_none g.level g.characteristic n h.number h.coords prime is.0 is.1 h.first)
  acting ops.Star P reply is (inl h) = absurd h
  acting op P reply is (inr h) = h

  module _ (v : ℕ) (s : Decomposition)
      (agrees : (op : OpName) → IsPrimeTo g.level op → (columns : List (List ℕ)) → IsOperatorMatrix g op columns → AgreesWithListed s columns)
      (reply : Reply) where
    other_told : (told : Reply) → reply ≡ told → (RefusesOperator told → ⊥) → RefusesOperator reply → ⊥
    other_told told same none refused = none (subst RefusesOperator same refused)

    split_answer : (op : OpName) (f : List ℕ) → IsPrimeTo g.level op → AnswersBy g op (TellsSplit v s op f) reply → RefusesOperator reply → ⊥
    split_answer op f is h =
        let x = acting op (TellsSplit v s op f) reply is h in
        by x.columns (agrees op is x.columns x.matrix) x.told
      where
        by : (columns : List (List ℕ)) → AgreesWithListed s columns → TellsSplit v s op f columns reply → RefusesOperator reply → ⊥
        by columns agree (inl k) refused =
            none_where_listed_agree s columns k.other k.row k.column k.left k.right agree k.first
        by columns agree (inr k) refused = subst RefusesOperator k.told refused

    answer_other : (c : Command) → OperatorIsPrime g.level c → IsAnswer g v s c reply → RefusesOperator reply → ⊥
    answer_other (commands.Normal a b) is h refused = subst RefusesOperator h refused
    answer_other commands.Basis is h refused = subst RefusesOperator h refused
    answer_other (commands.Reduce terms) is h refused = subst RefusesOperator h.1 refused
    answer_other (commands.Certify terms) is h refused = subst RefusesOperator h.told refused
    answer_other (commands.Image n terms) is h refused = subst RefusesOperator h.1 refused
    answer_other (commands.Star terms) is h refused = subst RefusesOperator h.1 refused
    answer_other (commands.Boundary terms) is h refused = subst RefusesOperator h.told refused
    answer_other commands.Cusps is h refused = subst RefusesOperator h refused
    answer_other (commands.Operator op) is h refused = subst RefusesOperator (acting op (TellsTrace g) reply is h).told refused
    answer_other (commands.Apply op coords) is h refused =
        subst RefusesOperator (acting op (TellsImage g coords) reply is h).told.told refused
    answer_other (commands.Poly op coefficients coords) is h refused =
        subst RefusesOperator (acting op (TellsValue g coefficients coords) reply is h).told.told refused
    answer_other (commands.Split op coefficients) is h refused = split_answer op (map (residue_of g.characteristic) coefficients) is h refused
    answer_other commands.Show is h refused = subst RefusesOperator h refused
    answer_other (commands.Part number) is h refused = subst RefusesOperator h.told refused
    answer_other (commands.Chains n) is h refused = subst RefusesOperator h refused

    -- so does no reply to what a line is read as
    reading_other : (text : List ℕ) (reading : Result Command CommandFault) → command_of text ≡ reading
        → UnlessRefused (reading_refusal g v (length s.parts) reading) (IsAnswerTo g v s reading reply) reply → RefusesOperator reply → ⊥
    reading_other text (Err faults.OutOfMemory) reads h refused = absurd h
    reading_other text (Err (faults.Grammar token)) reads h refused = subst RefusesOperator h refused
    reading_other text (Err (faults.Limit what)) reads h refused = subst RefusesOperator h refused
    reading_other text (Ok c) reads h refused =
        by (refusal_of g v (length s.parts) c) refl (refusal_other g v (length s.parts) c) h
      where
        by : (o : Option Refusal) → refusal_of g v (length s.parts) c ≡ o → IsOther o → UnlessRefused o (IsAnswer g v s c reply) reply → ⊥
        by None none other answer = answer_other c (command_prime g v (length s.parts) text c reads none) answer refused
        by (Some refusal) is other told = other (subst RefusesOperator told refused)

-- ---- legal transcripts

-- an accepted split was not refused
none_refused : (o : Option Refusal) (A : Type 0) (reply : Reply) → UnlessRefused o A reply → IsAccepted reply → o ≡ None
none_refused None A reply h accepted = refl
none_refused (Some refusal) A reply h accepted = absurd (subst IsAccepted h accepted)

split_prime : (g : Ground) (session : ℕ) (past : List SplitEntry) (text : List ℕ) (r : ReplyLine) (e : SplitEntry) → IsReply g past text r.reply
    → IsEntry g session text r e → IsPrimeTo g.level e.op
split_prime g session past text r e h entry =
    let v = length past in
    let count = length h.splitting.parts in
    let none : line_refusal g v count text ≡ None =
    none_refused (line_refusal g v count text) (IsAnswerTo g v h.splitting (command_of text) r.reply) r.reply h.reply_at entry.accepted in
    command_prime g v count text (commands.Split e.op entry.coefficients) entry.split
    (subst (λ reading. reading_refusal g v count reading ≡ None) entry.split none)

module _ (script : ScriptText) (t : Transcript) (listed : IsListed script.space.characteristic) (legal : IsLegalTranscript script t) where
  abbrev setting : Ground
  setting = script_ground script

  prime_field : IsPrime setting.characteristic
  prime_field = listed_prime setting.characteristic listed

  -- the operator of an entry is prime to the level
  entry_prime : (w : ℕ) (e : SplitEntry) → slice_get t.history w ≡ Some e → IsPrimeTo setting.level e.op
  entry_prime w e at =
      let (s, c, line, r, answered, version, entry) = legal.entries w e at in
      elim (reply_line script t legal s c line r answered).reply [
        | inl reply ↦ split_prime setting (s + 1) (take r.version t.history) line.text r e reply entry
        | inr memory ↦ absurd (subst IsAccepted memory entry.accepted)
      ]

  listed_prime_to : (v : ℕ) (op : OpName) → Contains (operators (take v t.history)) op → IsPrimeTo setting.level op
  listed_prime_to v op there =
      All-contains (IsPrimeTo setting.level) (operators (take v t.history)) op
      (All-map (IsPrimeTo setting.level) (λ (e : SplitEntry). e.op) (take v t.history)
      (All-take (λ (e : SplitEntry). IsPrimeTo setting.level e.op) v t.history
      (λ w d within. entry_prime w (get_or t.history w d) (slice_get-get_or t.history w d within)))) there

  -- so the matrix of an operator that is agrees with the listed ones
  all_agree : (v : ℕ) (s : Decomposition) → IsVersion setting (take v t.history) s → (op : OpName) → IsPrimeTo setting.level op
      → (columns : List (List ℕ)) → IsOperatorMatrix setting op columns → AgreesWithListed s columns
  all_agree v s version op is columns matrix =
      agrees_with_listed setting (take v t.history) s version op columns matrix
      (λ other there. operator_matrices setting op other prime_field is (listed_prime_to v other there))

  line_other : (s c : ℕ) (line : NumberedLine) (r : ReplyLine) → IsAnsweredBy script t s c line r → RefusesOperator r.reply → ⊥
  line_other s c line r answered refused = elim (reply_line script t legal s c line r answered).reply [
    | inl h ↦ reading_other setting prime_field (length (take r.version t.history)) h.splitting (all_agree r.version h.splitting h.version) r.reply
        line.text (command_of line.text) refl h.reply_at refused
    | inr memory ↦ subst RefusesOperator memory refused
  ]

  pub none_refuse : All (λ told. All (λ r. RefusesOperator r.reply → ⊥) told) t.sessions
  none_refuse = all_told script t legal (λ (r : ReplyLine). RefusesOperator r.reply → ⊥) line_other

pub operators_not_refused : OperatorsAreNeverRefused
operators_not_refused script t listed legal = none_refuse script t listed legal
