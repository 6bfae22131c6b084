-- Where nothing refuses the commands of a script, each of them is answered and each split accepted.
use Rattle.std.proofs.Common.{◌≡◌, ◌≢◌, inl, inr, ℕ, ℤ, zero, suc, ◌+◌, Bool, true, cond, List, [], ◌∷◌, length, get_or, take, map, All, Contains, Some, Ok, Err, Result, slice_get, count_by, refl, sym, ◌∙◌, ap, subst, arith}
use Rattle.std.specs.List.{AllZip, flat_map}
use Rattle.std.proofs.lemmas.List.Elements.{All-contains, All-head, All-map, All-tail, All-take, Contains-append_left, Contains-append_right}
use Rattle.std.proofs.lemmas.List.Sums.{sum_by-cons}
use Rattle.std.proofs.lemmas.Option.{same_Some, slice_get-get_or}
use Rattle.field_table.specs.Table.{IsListed}
use Rattle.field_table.proofs.TableFacts.{listed_prime}
use Rattle.linear_algebra.specs.Integers.{residue_of}
use Rattle.linear_algebra.specs.Prime.{IsPrime}
use Rattle.hecke_ops.proofs.FirstFailing.{failing_or_keeps}
use Rattle.quotient_coords.specs.Quotient.{Ground}
use Rattle.op_polynomials.specs.declared.entry.SplitEntry.{SplitEntry}
use Rattle.op_polynomials.specs.declared.name.OpName.{OpName}
use Rattle.op_polynomials.specs.declared.name.OpName.TheVariants as ops
use Rattle.split_state.specs.Decomposition.{Decomposition}
use Rattle.split_state.specs.Difference.{AgreesWithListed}
use Rattle.split_state.specs.Versions.{IsOperatorMatrix, operators}
use Rattle.split_state.proofs.FirstDifferences.{none_where_listed_agree}
use Rattle.script_text.specs.declared.command.Command.{Command}
use Rattle.script_text.specs.declared.command.Command.TheVariants as commands
use Rattle.script_text.specs.declared.command_fault.CommandFault.{CommandFault}
use Rattle.script_text.specs.Commands.{command_of}
use Rattle.script_text.specs.Numbered.{NumberedLine}
use Rattle.script_text.specs.Valid.{ScriptText, command_count}
use Rattle.reply_text.specs.declared.reply.Reply.{Reply}
use Rattle.reply_text.specs.declared.reply.Reply.TheVariants as replies
use Rattle.reply_text.specs.declared.transcript.ReplyLine.{ReplyLine}
use Rattle.reply_text.specs.declared.transcript.Transcript.{Transcript}
use Rattle.reply_text.specs.Summaries.{count_replies, is_ok}
use Rattle.session_core.specs.Answers.{IsAnswer, TellsSplit, TellsVersion}
use Rattle.session_core.specs.Operators.{ActsBy, AnswersBy, KeepsCongruence, TellsImage, TellsTrace, TellsValue}
use Rattle.session_core.specs.Replies.{IsAccepted, IsAnswerTo}
use Rattle.session_core.specs.Transcripts.{AreReplyLines, HasNoMemory, IsAnsweredBy, IsLegalRun, IsLegalTranscript, script_ground}
use Rattle.session_core.proofs.RunsOnce.{columns_counted}
use Rattle.generated_runs.specs.Splits.{line_operators, named_operator, read_operators, script_operators, session_operators, split_operator, split_operators}
use Rattle.generated_runs.specs.Unrefused.{AcceptsSplits, AnswersAll, Fits}
use Rattle.generated_runs.proofs.Commuting.{agrees_with_listed}
use Rattle.generated_runs.proofs.FixedImages.{AnsweredAt, line_answered}
use Rattle.generated_runs.proofs.Histories.{full_count, room_left}
use Rattle.generated_runs.proofs.LinesAnswered.{all_there, all_told, lines_counted}
use Rattle.generated_runs.proofs.PrimeOperators.{OperatorsAgree, scripts_agree}

-- an operator that keeps congruence acts
acts : (g : Ground) → IsPrime g.characteristic → (op : OpName) (P : List (List ℕ) → Reply → Type 0) (reply : Reply) → KeepsCongruence g op
    → AnswersBy g op P reply → ActsBy g op P reply
acts g prime (ops.T n) P reply keeps (inl fails) = absurd (failing_or_keeps prime fails.first keeps)
acts g prime ops.Star P reply keeps (inl fails) = absurd fails
acts g prime op P reply keeps (inr h) = h

-- a split by a matrix that agrees with the listed ones makes a version
version_told : (g : Ground) → IsPrime g.characteristic → (v : ℕ) (s : Decomposition) (op : OpName) (f : List ℕ) (reply : Reply) → KeepsCongruence g op
    → ((columns : List (List ℕ)) → IsOperatorMatrix g op columns → AgreesWithListed s columns)
    → AnswersBy g op (TellsSplit v s op f) reply → (columns : List (List ℕ)) × TellsVersion v s op f columns reply
version_told g prime v s op f reply keeps agrees h =
    let x = acts g prime op (TellsSplit v s op f) reply keeps h in
    (x.columns, by_case x.columns (agrees x.columns x.matrix) x.told)
  where
    by_case : (columns : List (List ℕ)) → AgreesWithListed s columns → TellsSplit v s op f columns reply → TellsVersion v s op f columns reply
    by_case columns agree (inl k) = absurd (none_where_listed_agree s columns k.other k.row k.column k.left k.right agree k.first)
    by_case columns agree (inr k) = k

-- an operator in its own list
itself : (op : OpName) → Contains (op ∷ []) op
itself op = (0, omega arith, refl)

module _ (g : Ground) (prime : IsPrime g.characteristic) (v : ℕ) (s : Decomposition) (reply : Reply) where
  -- the operators that a command names keep congruence
  abbrev Keeps : Command → Type 0
  Keeps command = (op : OpName) → Contains (named_operator command) op → KeepsCongruence g op

  -- and the matrices of those of a split agree with the listed ones
  abbrev Agrees : Command → Type 0
  Agrees command = (op : OpName) → Contains (split_operator command) op → (columns : List (List ℕ)) → IsOperatorMatrix g op columns
      → AgreesWithListed s columns

  -- then a split is accepted
  split_accepted : (op : OpName) (coefficients : List ℤ) → Keeps (commands.Split op coefficients) → Agrees (commands.Split op coefficients)
      → IsAnswer g v s (commands.Split op coefficients) reply → IsAccepted reply
  split_accepted op coefficients keeps agrees h =
      let (columns, x) = version_told g prime v s op (map (residue_of g.characteristic) coefficients) reply (keeps op (itself op))
      (agrees op (itself op)) h in
      subst IsAccepted (sym x.told) tt

  -- and each command is answered
  plain_answer : (command : Command) → Keeps command → Agrees command → IsAnswer g v s command reply → is_ok reply ≡ true
  plain_answer (commands.Normal a b) keeps agrees h = ap is_ok h
  plain_answer commands.Basis keeps agrees h = ap is_ok h
  plain_answer (commands.Reduce terms) keeps agrees h = ap is_ok h.1
  plain_answer (commands.Certify terms) keeps agrees h = ap is_ok h.told
  plain_answer (commands.Image n terms) keeps agrees h = ap is_ok h.1
  plain_answer (commands.Star terms) keeps agrees h = ap is_ok h.1
  plain_answer (commands.Boundary terms) keeps agrees h = ap is_ok h.told
  plain_answer commands.Cusps keeps agrees h = ap is_ok h
  plain_answer (commands.Operator op) keeps agrees h = ap is_ok (acts g prime op (TellsTrace g) reply (keeps op (itself op)) h).told
  plain_answer (commands.Apply op coords) keeps agrees h =
      ap is_ok (acts g prime op (TellsImage g coords) reply (keeps op (itself op)) h).told.told
  plain_answer (commands.Poly op coefficients coords) keeps agrees h =
      ap is_ok (acts g prime op (TellsValue g coefficients coords) reply (keeps op (itself op)) h).told.told
  plain_answer (commands.Split op coefficients) keeps agrees h =
      let (columns, x) = version_told g prime v s op (map (residue_of g.characteristic) coefficients) reply (keeps op (itself op))
      (agrees op (itself op)) h in
      ap is_ok x.told
  plain_answer commands.Show keeps agrees h = ap is_ok h
  plain_answer (commands.Part number) keeps agrees h = ap is_ok h.told
  plain_answer (commands.Chains n) keeps agrees h = ap is_ok h

  -- so is what a line is read as
  reading_answer : (reading : Result Command CommandFault)
      → ((op : OpName) → Contains (read_operators named_operator reading) op → KeepsCongruence g op)
      → ((op : OpName) → Contains (read_operators split_operator reading) op → (columns : List (List ℕ)) → IsOperatorMatrix g op columns
      → AgreesWithListed s columns)
      → IsAnswerTo g v s reading reply → is_ok reply ≡ true
  reading_answer (Ok command) keeps agrees h = plain_answer command keeps agrees h
  reading_answer (Err fault) keeps agrees h = absurd h

-- what one of the images of a list has, they have together
Contains-flat_map : {X A : Type 0} (f : X → List A) (xs : List X) (k : ℕ) (x : X) (a : A) → slice_get xs k ≡ Some x → Contains (f x) a
    → Contains (flat_map f xs) a
Contains-flat_map f [] k x a at h = absurd cc
Contains-flat_map f (y ∷ xs) zero x a at h =
    Contains-append_left (f y) (flat_map f xs) a (subst (λ z. Contains (f z) a) (sym (same_Some y x at)) h)
Contains-flat_map f (y ∷ xs) (suc k) x a at h =
    Contains-append_right (f y) (flat_map f xs) a (Contains-flat_map f xs k x a at h)

-- the operators of a line are among those of the script
line_in_script : (named : Command → List OpName) (script : ScriptText) (t : Transcript) (s c : ℕ) (line : NumberedLine) (r : ReplyLine) (op : OpName)
    → IsAnsweredBy script t s c line r → Contains (line_operators named line) op → Contains (script_operators named script.sessions) op
line_in_script named script t s c line r op h has =
    Contains-flat_map (λ (lines : List NumberedLine). session_operators named lines) script.sessions s h.lines op h.session
    (Contains-flat_map (λ (l : NumberedLine). line_operators named l) h.lines c line op h.command has)

-- the operators of a beginning of the history are those of splits
entry_operators : (script : ScriptText) (t : Transcript) → IsLegalTranscript script t → (v : ℕ) (op : OpName)
    → Contains (operators (take v t.history)) op → Contains (split_operators script.sessions) op
entry_operators script t legal v op h =
    All-contains (Contains (split_operators script.sessions)) (operators (take v t.history)) op
    (All-map (Contains (split_operators script.sessions)) (λ (e : SplitEntry). e.op) (take v t.history)
    (All-take (λ (e : SplitEntry). Contains (split_operators script.sessions) e.op) v t.history each)) h
  where
    each : All (λ (e : SplitEntry). Contains (split_operators script.sessions) e.op) t.history
    each = λ w d within.
        let e = get_or t.history w d in
        let (s, c, line, r, answered, version, entry) = legal.entries w e (slice_get-get_or t.history w d within) in
        let named : Contains (line_operators split_operator line) e.op =
        subst (λ reading. Contains (read_operators split_operator reading) e.op) (sym entry.split) (itself e.op) in
        line_in_script split_operator script t s c line r e.op answered named

module _ (script : ScriptText) (t : Transcript) (listed : IsListed script.space.characteristic) (fits : Fits script)
    (legal : IsLegalTranscript script t) (some : HasNoMemory t) where
  abbrev setting : Ground
  setting = script_ground script

  -- its operators agree
  agree : OperatorsAgree script
  agree = scripts_agree script listed fits

  -- no reply is want of memory
  has_reply : (s c : ℕ) (line : NumberedLine) (r : ReplyLine) → IsAnsweredBy script t s c line r → r.reply ≢ replies.Memory
  has_reply s c line r h =
      all_there (λ (q : ReplyLine). q.reply ≢ replies.Memory) h.told c r
      (all_there (λ (told : List ReplyLine). All (λ (q : ReplyLine). q.reply ≢ replies.Memory) told) t.sessions s h.told some
      h.session_told) h.command_told

  -- the operators of a line keep congruence
  line_keeps : (s c : ℕ) (line : NumberedLine) (r : ReplyLine) → IsAnsweredBy script t s c line r → (op : OpName)
      → Contains (line_operators named_operator line) op → KeepsCongruence setting op
  line_keeps s c line r h op has = agree.keep op (line_in_script named_operator script t s c line r op h has)

  -- and its split agrees with the listed ones
  line_agrees : (s c : ℕ) (line : NumberedLine) (r : ReplyLine) → IsAnsweredBy script t s c line r
      → (x : AnsweredAt setting (take r.version t.history) line.text r.reply) (op : OpName) → Contains (line_operators split_operator line) op
      → (columns : List (List ℕ)) → IsOperatorMatrix setting op columns → AgreesWithListed x.splitting columns
  line_agrees s c line r h x op has columns is =
      agrees_with_listed setting (take r.version t.history) x.splitting x.version op columns is (λ other listed_there.
      agree.commute op other (line_in_script split_operator script t s c line r op h has)
      (entry_operators script t legal r.version other listed_there))

  -- so each line is answered
  line_plain : (s c : ℕ) (line : NumberedLine) (r : ReplyLine) → IsAnsweredBy script t s c line r → is_ok r.reply ≡ true
  line_plain s c line r h =
      let x = line_answered script t fits legal s c line r h (has_reply s c line r h) in
      reading_answer setting (listed_prime setting.characteristic listed) (length (take r.version t.history)) x.splitting r.reply
      (command_of line.text)
      (line_keeps s c line r h) (line_agrees s c line r h x) x.answer

  pub all_plain : All (All (λ (r : ReplyLine). is_ok r.reply ≡ true)) t.sessions
  all_plain = all_told script t legal (λ (r : ReplyLine). is_ok r.reply ≡ true) line_plain

  -- and each split accepted
  pub all_accepted : AcceptsSplits script t
  all_accepted s c line r op coefficients h reads =
      let x = line_answered script t fits legal s c line r h (has_reply s c line r h) in
      split_accepted setting (listed_prime setting.characteristic listed) (length (take r.version t.history)) x.splitting r.reply op coefficients
      (subst (λ reading. (o : OpName) → Contains (read_operators named_operator reading) o → KeepsCongruence setting o) reads
      (line_keeps s c line r h))
      (subst (λ reading. (o : OpName) → Contains (read_operators split_operator reading) o → (columns : List (List ℕ))
      → IsOperatorMatrix setting o columns
      → AgreesWithListed x.splitting columns) reads (line_agrees s c line r h x))
      (subst (λ reading. IsAnswerTo setting (length (take r.version t.history)) x.splitting reading r.reply) reads x.answer)

-- where all pass a test, as many pass as there are
count_all : {A : Type 0} (test : A → Bool) (xs : List A) → All (λ x. test x ≡ true) xs → count_by test xs ≡ length xs
count_all test [] h = refl
count_all {A} test (x ∷ xs) h =
    let first : cond (test x) 1 0 ≡ 1 = ap {B = ℕ} (λ (b : Bool). cond b 1 0) (All-head (λ (y : A). test y ≡ true) x xs h) in
    let rest : count_by test xs ≡ length xs = count_all test xs (All-tail (λ (y : A). test y ≡ true) x xs h) in
    omega (arith, sum_by-cons (λ (y : A). cond (test y) 1 0) x xs, first, rest)

-- so where each is an answer, there are as many answers as commands
sessions_counted : (g : Ground) (history : List SplitEntry) (sessions : List (List NumberedLine)) (all : List (List ReplyLine))
    → AllZip (AreReplyLines g history) sessions all → All (All (λ (r : ReplyLine). is_ok r.reply ≡ true)) all
    → count_replies is_ok all ≡ command_count sessions
sessions_counted g history [] [] h plain = refl
sessions_counted g history [] (told ∷ all) h plain = absurd h
sessions_counted g history (lines ∷ sessions) [] h plain = absurd h
sessions_counted g history (lines ∷ sessions) (told ∷ all) h plain =
    let first : count_by (λ (r : ReplyLine). is_ok r.reply) told ≡ length told =
    count_all (λ (r : ReplyLine). is_ok r.reply) told (All-head (All (λ (r : ReplyLine). is_ok r.reply ≡ true)) told all plain) in
    let rest : count_replies is_ok all ≡ command_count sessions =
    sessions_counted g history sessions all h.1 (All-tail (All (λ (r : ReplyLine). is_ok r.reply ≡ true)) told all plain) in
    sum_by-cons (λ (told : List ReplyLine). count_by (λ (r : ReplyLine). is_ok r.reply) told) told all
    ∙ (let both : count_by (λ (r : ReplyLine). is_ok r.reply) told
    + count_replies is_ok all ≡ length lines + command_count sessions =
    omega (arith, first, rest, lines_counted g history 1 lines told h.0) in both)
    ∙ sym (sum_by-cons (λ (session : List NumberedLine). length session) lines sessions)

-- all is answered
pub all_answered : (script : ScriptText) (t : Transcript) → IsListed script.space.characteristic → Fits script
    → IsLegalRun script t → HasNoMemory t → AnswersAll script t
all_answered script t listed fits run some =
    let plain = all_plain script t listed fits run.legal some in
    let accepted = all_accepted script t listed fits run.legal some in
    record {
      answers = plain;
      count = sessions_counted (script_ground script) t.history script.sessions t.sessions run.legal.sessions plain;
      accepts = accepted;
      versions = full_count script t run.legal accepted;
      columns = columns_counted script t run some (room_left script t run.legal fits.few);
    }
