-- Lines that are answered one after another make a legal run.
use Rattle.std.proofs.Common.{◌≡◌, ◌⊎◌, inl, inr, ℕ, ℤ, zero, suc, ◌+◌, ◌<◌, ◌≤◌, Bool, true, false, List, [], ◌∷◌, ◌++◌, length, length-append, take, All, AllPairs, Option, None, Some, Result, Ok, Err, slice_get, refl, sym, ◌∙◌, ap, subst, arith, append_assoc, nat_lt, lt-ltb, ltb-true, if◌then◌else◌}
use Rattle.std.specs.List.{AllZip, enumerate_from}
use Rattle.std.proofs.lemmas.Bool.{cases_lt}
use Rattle.std.proofs.lemmas.List.Elements.{All-nil, All-cons}
use Rattle.std.proofs.lemmas.List.Kept.{AllPairs-cons}
use Rattle.std.proofs.lemmas.Option.{same_Some, slice_get_within}
use Rattle.quotient_coords.specs.Quotient.{Ground, dimension}
use Rattle.op_polynomials.specs.declared.entry.SplitEntry.{SplitEntry}
use Rattle.op_polynomials.specs.declared.name.OpName.{OpName}
use Rattle.script_text.specs.declared.command.Command.{Command}
use Rattle.script_text.specs.declared.command.Command.TheVariants as commands
use Rattle.script_text.specs.declared.command_fault.CommandFault.{CommandFault}
use Rattle.script_text.specs.declared.command_fault.CommandFault.TheVariants as faults
use Rattle.script_text.specs.Commands.{command_of}
use Rattle.script_text.specs.Numbered.{NumberedLine}
use Rattle.script_text.specs.Valid.{ScriptText}
use Rattle.reply_text.specs.declared.limits.TheConstants.{MAX_VERSIONS}
use Rattle.reply_text.specs.declared.refusal.Refusal.{Refusal}
use Rattle.reply_text.specs.declared.refusal.Refusal.TheVariants.{VersionsFull}
use Rattle.reply_text.specs.declared.reply.Reply.TheVariants as replies
use Rattle.reply_text.specs.declared.transcript.ReplyLine.{ReplyLine}
use Rattle.reply_text.specs.declared.transcript.Transcript.{Transcript}
use Rattle.session_core.specs.Terms.{terms_of, first_unnamed}
use Rattle.session_core.specs.Refusals.{line_refusal, unnamed, uncoprime, determinant_of, mislength, coordinate_count, no_part, part_number, full, first_of, reading_refusal}
use Rattle.session_core.specs.Demands.{Has, demand, reading_demand, line_demand, session_demand, script_demand, told_demand, told_demands}
use Rattle.session_core.specs.Replies.{UnlessRefused, IsAnswerTo, IsReply, IsAccepted}
use Rattle.session_core.specs.Transcripts.{script_ground, IsReplyLine, AreReplyLines, Follows, IsEntry, EntersHistory, IsLegalTranscript, IsLegalRun}
use Rattle.session_core.specs.SoloRuns.{IsHistoryAfter, grown, unchanged, Answers, AnswersLines, AnswersSessions, IsSoloRun}
use Rattle.session_core.proofs.AnswerLemmas.{room_of}
use Rattle.session_core.proofs.PairLemmas.{Has-nil, Has-append_left, Has-append_right, Has-from_append}
use Rattle.session_core.proofs.RunLemmas.{Continues, Continues_refl, Continues_trans, Continues-length, Continues-take, get-append_left, get-append_seam, after_continues, after_accepted, lines_continue, sessions_continue, get-enumerate_from, get-from_enumerate}

-- a line's reply is that at its version of the whole history
reply_line_of : {g : Ground} {session : ℕ} {old mid history : List SplitEntry} (line : ℕ × NumberedLine) (r : ReplyLine)
    → Answers g session old line r mid → Continues mid history → IsReplyLine g history line r
reply_line_of {g} {session} {old} {mid} {history} line r a into =
    let whole : Continues old history = Continues_trans (after_continues a.after) into in
    let here : take r.version history ≡ old = ap (λ n. take n history) a.version ∙ Continues-take whole in
    record {
      numbered = a.numbered;
      version = omega (arith, a.version, Continues-length whole);
      reply = subst (λ es. IsReply g es line.1.text r.reply ⊎ (r.reply ≡ replies.Memory)) (sym here) a.reply;
    }

-- and so are those of a session
lines_reply : {g : Ground} {session : ℕ} {old new history : List SplitEntry} {lines : List (ℕ × NumberedLine)} {told : List ReplyLine}
    → AnswersLines g session old lines told new → Continues new history → AllZip (IsReplyLine g history) lines told
lines_reply AnswersLines.done into = tt
lines_reply (AnswersLines.next {line = line} {r = r} a rest) into =
    (reply_line_of line r a (Continues_trans (lines_continue rest) into), lines_reply rest into)

-- and of all sessions
sessions_reply : {g : Ground} {session : ℕ} {old new history : List SplitEntry} {sessions : List (List NumberedLine)} {all : List (List ReplyLine)}
    → AnswersSessions g session old sessions all new → Continues new history → AllZip (AreReplyLines g history) sessions all
sessions_reply AnswersSessions.done into = tt
sessions_reply (AnswersSessions.next lines rest) into = (lines_reply lines (Continues_trans (sessions_continue rest) into), sessions_reply rest into)

-- no line is answered at an earlier version than the first
lines_later : {g : Ground} {session : ℕ} {old new : List SplitEntry} {lines : List (ℕ × NumberedLine)} {told : List ReplyLine}
    → AnswersLines g session old lines told new → All (λ (r : ReplyLine). length old ≤ r.version) told
lines_later {old = old} AnswersLines.done = All-nil (λ (r : ReplyLine). length old ≤ r.version)
lines_later {old = old} (AnswersLines.next {mid = mid} {r = r} {told = told} a rest) =
    All-cons (λ (r : ReplyLine). length old ≤ r.version) r told (omega (arith, a.version))
    (λ k d l. let later : All (λ (r : ReplyLine). length mid ≤ r.version) told = lines_later rest in
    omega (arith, later k d l, Continues-length (after_continues a.after)))

-- so lines follow one another
lines_rise : {g : Ground} {session : ℕ} {old new : List SplitEntry} {lines : List (ℕ × NumberedLine)} {told : List ReplyLine}
    → AnswersLines g session old lines told new → AllPairs Follows told
lines_rise AnswersLines.done = λ i j d before within. absurd (omega (arith, within))
lines_rise (AnswersLines.next {mid = mid} {r = r} {told = told} a rest) = AllPairs-cons Follows r told
    (λ k d l. let later : All (λ (r : ReplyLine). length mid ≤ r.version) told = lines_later rest in
    record {
      no_earlier = omega (arith, a.version, later k d l, Continues-length (after_continues a.after));
      after_split = λ accepted. omega (arith, a.version, later k d l, after_accepted a.after accepted);
    })
    (lines_rise rest)

-- in each session
sessions_rise : {g : Ground} {session : ℕ} {old new : List SplitEntry} {sessions : List (List NumberedLine)} {all : List (List ReplyLine)}
    → AnswersSessions g session old sessions all new → All (AllPairs Follows) all
sessions_rise AnswersSessions.done = All-nil (AllPairs Follows)
sessions_rise (AnswersSessions.next {told = told} {all = all} lines rest) =
    All-cons (AllPairs Follows) told all (lines_rise lines) (sessions_rise rest)

-- what stands at a place of a session was answered after a beginning of the history
record AnsweredAt (g : Ground) (session : ℕ) (line : ℕ × NumberedLine) (r : ReplyLine) (history : List SplitEntry) : Type 0 where
  old : List SplitEntry
  mid : List SplitEntry
  answers : Answers g session old line r mid
  into : Continues mid history

line_at : {g : Ground} {session : ℕ} {old new history : List SplitEntry} {lines : List (ℕ × NumberedLine)} {told : List ReplyLine}
    → AnswersLines g session old lines told new → Continues new history → (c : ℕ) (line : ℕ × NumberedLine) (r : ReplyLine)
    → slice_get lines c ≡ Some line → slice_get told c ≡ Some r
    → AnsweredAt g session line r history
line_at AnswersLines.done into c line r at told_at = absurd cc
line_at {g} {session} (AnswersLines.next {old = old} {mid = mid} {line = first} {r = s} a rest) into zero line r at told_at = record {
  old = old;
  mid = mid;
  answers = subst (λ x. Answers g session old x r mid) (same_Some first line at)
      (subst (λ y. Answers g session old first y mid) (same_Some s r told_at) a);
  into = Continues_trans (lines_continue rest) into;
}
line_at (AnswersLines.next a rest) into (suc c) line r at told_at = line_at rest into c line r at told_at

-- and so was a session
record SessionAt (g : Ground) (session : ℕ) (lines : List NumberedLine) (told : List ReplyLine) (history : List SplitEntry) : Type 0 where
  old : List SplitEntry
  mid : List SplitEntry
  answers : AnswersLines g session old (enumerate_from 1 lines) told mid
  into : Continues mid history

session_at : {g : Ground} (session : ℕ) {old new history : List SplitEntry} {sessions : List (List NumberedLine)} {all : List (List ReplyLine)}
    → AnswersSessions g session old sessions all new → Continues new history → (k : ℕ) (lines : List NumberedLine) (told : List ReplyLine)
    → slice_get sessions k ≡ Some lines → slice_get all k ≡ Some told
    → SessionAt g (session + k) lines told history
session_at session AnswersSessions.done into k lines told at told_at = absurd cc
session_at {g} session (AnswersSessions.next {old = old} {mid = mid} {lines = first} {told = some} a rest) into zero lines told at told_at =
    let same : session ≡ session + 0 = omega arith in
    record {
      old = old;
      mid = mid;
      answers = subst (λ n. AnswersLines g n old (enumerate_from 1 lines) told mid) same
          (subst (λ ls. AnswersLines g session old (enumerate_from 1 ls) told mid) (same_Some first lines at)
          (subst (λ rs. AnswersLines g session old (enumerate_from 1 first) rs mid) (same_Some some told told_at) a));
      into = Continues_trans (sessions_continue rest) into;
    }
session_at {g} session {history = history} (AnswersSessions.next a rest) into (suc k) lines told at told_at =
    let same : session + 1 + k ≡ session + suc k = omega arith in
    subst (λ n. SessionAt g n lines told history) same (session_at (session + 1) rest into k lines told at told_at)

-- an accepted split stands in the history at its version
enters : {g : Ground} {session : ℕ} {text : List ℕ} {old mid history : List SplitEntry} (r : ReplyLine) → IsHistoryAfter g session text r old mid
    → Continues mid history → r.version ≡ length old → IsAccepted r.reply
    → EntersHistory g history session text r
enters {old = old} {history = history} r (grown {e = e} h) into version accepted = record {
  entry = e;
  at_version = ap (slice_get history) version
      ∙ ap (λ (es : List SplitEntry). slice_get es (length old)) (into.whole ∙ append_assoc old (e ∷ []) into.rest)
      ∙ get-append_seam old into.rest e;
  is_entry = h;
}
enters r (unchanged none) into version accepted = absurd (none accepted)

-- an entry of the history after a reply line that was none before it is that of an accepted split
new_entry : {g : Ground} {session : ℕ} {text : List ℕ} {old mid : List SplitEntry} (r : ReplyLine) (w : ℕ) (e : SplitEntry)
    → IsHistoryAfter g session text r old mid → length old ≤ w → slice_get mid w ≡ Some e
    → (w ≡ length old) × IsEntry g session text r e
new_entry {g} {session} {text} {old} r w e (grown {e = last} h) past at =
    let within : w < length (old ++ last ∷ []) = slice_get_within (old ++ last ∷ []) w e at in
    let here : w ≡ length old = omega (arith, length-append old (last ∷ [])) in (
      here,
      subst (IsEntry g session text r)
          (same_Some last e (sym (get-append_seam old [] last) ∙ ap (slice_get (old ++ last ∷ [])) (sym here) ∙ at)) h,
    )
new_entry {old = old} r w e (unchanged none) past at =
    let within : w < length old = slice_get_within old w e at in
    absurd (omega arith)

-- an entry of the history that lines made is that of one of them
record EnteredBy (g : Ground) (session : ℕ) (lines : List (ℕ × NumberedLine)) (told : List ReplyLine) (w : ℕ) (e : SplitEntry) : Type 0 where
  place : ℕ
  line : ℕ × NumberedLine
  r : ReplyLine
  command : slice_get lines place ≡ Some line
  command_told : slice_get told place ≡ Some r
  version : r.version ≡ w
  is_entry : IsEntry g session line.1.text r e

entered_by : {g : Ground} {session : ℕ} {old new : List SplitEntry} {lines : List (ℕ × NumberedLine)} {told : List ReplyLine}
    → AnswersLines g session old lines told new → (w : ℕ) (e : SplitEntry) → length old ≤ w → slice_get new w ≡ Some e
    → EnteredBy g session lines told w e
entered_by {old = old} AnswersLines.done w e past at = let within : w < length old = slice_get_within old w e at in absurd (omega arith)
entered_by {g} {session} {new = new} (AnswersLines.next {old = old} {mid = mid} {line = line} {lines = lines} {r = r} {told = told} a rest)
    w e past at =
    by_place (cases_lt w (length mid)) (entered_by rest w e)
  where
    by_place : (w < length mid) ⊎ (length mid ≤ w) → (length mid ≤ w → slice_get new w ≡ Some e → EnteredBy g session lines told w e)
        → EnteredBy g session (line ∷ lines) (r ∷ told) w e
    by_place (inl within) later =
        let more = lines_continue rest in
        let (here, entry) = new_entry r w e a.after past
        (sym (ap (λ (es : List SplitEntry). slice_get es w) more.whole ∙ get-append_left mid more.rest w within) ∙ at) in
        record {
          place = 0;
          line = line;
          r = r;
          command = refl;
          command_told = refl;
          version = a.version ∙ sym here;
          is_entry = entry;
        }
    by_place (inr beyond) later =
        let x = later beyond at in
        record {
          place = suc x.place;
          line = x.line;
          r = x.r;
          command = x.command;
          command_told = x.command_told;
          version = x.version;
          is_entry = x.is_entry;
        }

-- and one of the history that sessions made is that of one of their lines
record EnteredIn (g : Ground) (start : ℕ) (sessions : List (List NumberedLine)) (all : List (List ReplyLine)) (w : ℕ) (e : SplitEntry) : Type 0 where
  place : ℕ
  lines : List NumberedLine
  told : List ReplyLine
  session : slice_get sessions place ≡ Some lines
  session_told : slice_get all place ≡ Some told
  by_line : EnteredBy g (start + place) (enumerate_from 1 lines) told w e

entered_in : {g : Ground} (start : ℕ) {old new : List SplitEntry} {sessions : List (List NumberedLine)} {all : List (List ReplyLine)}
    → AnswersSessions g start old sessions all new → (w : ℕ) (e : SplitEntry) → length old ≤ w → slice_get new w ≡ Some e
    → EnteredIn g start sessions all w e
entered_in start {old = old} AnswersSessions.done w e past at = let within : w < length old = slice_get_within old w e at in absurd (omega arith)
entered_in {g} start {new = new} (AnswersSessions.next {mid = mid} {lines = lines} {sessions = sessions} {told = told} {all = all} a rest)
    w e past at =
    by_place (cases_lt w (length mid)) (entered_in (start + 1) rest w e)
  where
    first : start ≡ start + 0
    first = omega arith

    after : (k : ℕ) → start + 1 + k ≡ start + suc k
    after k = omega arith

    by_place : (w < length mid) ⊎ (length mid ≤ w) → (length mid ≤ w → slice_get new w ≡ Some e → EnteredIn g (start + 1) sessions all w e)
        → EnteredIn g start (lines ∷ sessions) (told ∷ all) w e
    by_place (inl within) later =
        let more = sessions_continue rest in
        record {
          place = 0;
          lines = lines;
          told = told;
          session = refl;
          session_told = refl;
          by_line = subst (λ n. EnteredBy g n (enumerate_from 1 lines) told w e) first (entered_by a w e past
              (sym (ap (λ (es : List SplitEntry). slice_get es w) more.whole ∙ get-append_left mid more.rest w within) ∙ at));
        }
    by_place (inr beyond) later =
        let x = later beyond at in
        record {
          place = suc x.place;
          lines = x.lines;
          told = x.told;
          session = x.session;
          session_told = x.session_told;
          by_line = subst (λ n. EnteredBy g n (enumerate_from 1 x.lines) x.told w e) (after x.place) x.by_line;
        }

-- a split that nothing refuses finds room in the history
pub split_has_room : (g : Ground) (v count : ℕ) (text : List ℕ) (op : OpName) (coefficients : List ℤ)
    → command_of text ≡ Ok (commands.Split op coefficients) → line_refusal g v count text ≡ None → v < MAX_VERSIONS
split_has_room g v count text op coefficients read none =
    room (nat_lt v MAX_VERSIONS) (ltb-true v MAX_VERSIONS) (room_of g v count (commands.Split op coefficients)
    (subst (λ reading. reading_refusal g v count reading ≡ None) read none))
  where
    room : (b : Bool) → (b ≡ true → v < MAX_VERSIONS) → ◌≡◌ {A = Option Refusal} (if b then None else Some VersionsFull) None → v < MAX_VERSIONS
    room true below e = below refl
    room false below e = absurd cc

-- so a history that has few entries has few after a line
pub line_few : {g : Ground} {session : ℕ} {old new : List SplitEntry} (line : ℕ × NumberedLine) (r : ReplyLine)
    → Answers g session old line r new → length old ≤ MAX_VERSIONS → length new ≤ MAX_VERSIONS
line_few {g} {session} {old} {new} line r a few = by_history a.after
  where
    refused : (o : Option Refusal) (A : Type 0) → UnlessRefused o A r.reply → IsAccepted r.reply → o ≡ None
    refused None A reply accepted = refl
    refused (Some refusal) A reply accepted = absurd (subst IsAccepted reply accepted)

    unrefused : IsReply g old line.1.text r.reply ⊎ (r.reply ≡ replies.Memory) → IsAccepted r.reply
        → (count : ℕ) × (line_refusal g (length old) count line.1.text ≡ None)
    unrefused (inl reply) accepted = (
      length reply.splitting.parts,
      refused (line_refusal g (length old) (length reply.splitting.parts) line.1.text)
          (IsAnswerTo g (length old) reply.splitting (command_of line.1.text) r.reply) reply.reply_at accepted,
    )
    unrefused (inr memory) accepted = absurd (subst IsAccepted memory accepted)

    by_history : {next : List SplitEntry} → IsHistoryAfter g session line.1.text r old next → length next ≤ MAX_VERSIONS
    by_history (grown {e = e} h) =
        let (count, none) = unrefused a.reply h.accepted in
        omega (arith, length-append old (e ∷ []), split_has_room g (length old) count line.1.text e.op h.coefficients h.split none)
    by_history (unchanged still) = few

lines_few : {g : Ground} {session : ℕ} {old new : List SplitEntry} {lines : List (ℕ × NumberedLine)} {told : List ReplyLine}
    → AnswersLines g session old lines told new → length old ≤ MAX_VERSIONS → length new ≤ MAX_VERSIONS
lines_few AnswersLines.done few = few
lines_few (AnswersLines.next {line = line} {r = r} a rest) few = lines_few rest (line_few line r a few)

-- and after all sessions
pub sessions_few : {g : Ground} {session : ℕ} {old new : List SplitEntry} {sessions : List (List NumberedLine)} {all : List (List ReplyLine)}
    → AnswersSessions g session old sessions all new → length old ≤ MAX_VERSIONS → length new ≤ MAX_VERSIONS
sessions_few AnswersSessions.done few = few
sessions_few (AnswersSessions.next lines rest) few = sessions_few rest (lines_few lines few)

-- what makes a transcript legal
legal_of : (script : ScriptText) (t : Transcript) → IsSoloRun script t → IsLegalTranscript script t
legal_of script t run = record {
  modulus = run.modulus;
  characteristic = run.characteristic;
  symbol_count = run.symbol_count;
  sessions = sessions_reply run.answers (Continues_refl t.history);
  few = sessions_few run.answers (omega arith);
  rising = sessions_rise run.answers;
  entered = λ s c line r answered accepted.
      let there = session_at 1 run.answers (Continues_refl t.history) s answered.lines answered.told answered.session answered.session_told in
      let here = line_at there.answers there.into c (1 + c, line) r (get-enumerate_from 1 answered.lines c line answered.command)
      answered.command_told in
      subst (λ n. EntersHistory (script_ground script) t.history n line.text r) (after_first s)
      (enters r here.answers.after here.into here.answers.version accepted);
  entries = λ w e at.
      let x = entered_in 1 run.answers w e (omega arith) at in (
        x.place,
        x.by_line.place,
        x.by_line.line.1,
        x.by_line.r,
        record {
          lines = x.lines;
          told = x.told;
          session = x.session;
          session_told = x.session_told;
          command = get-from_enumerate 1 x.lines x.by_line.place x.by_line.line x.by_line.command;
          command_told = x.by_line.command_told;
        },
        x.by_line.version,
        subst (λ n. IsEntry (script_ground script) n x.by_line.line.1.text x.by_line.r e) (after_first x.place) x.by_line.is_entry,
      );
}
  where
    after_first : (s : ℕ) → 1 + s ≡ s + 1
    after_first s = omega arith

-- no split finds a history full that has fewer entries than the most
pub full_none : (v : ℕ) → v < MAX_VERSIONS → (command : Command) → full v command ≡ None
full_none v few (commands.Split op coefficients) =
    ap {B = Option Refusal} (λ (b : Bool). if b then None else Some VersionsFull) (lt-ltb v MAX_VERSIONS few)
full_none v few command = refl

-- a version asks of a line at most what another asks that refuses no split as full
pub demand_within : (g : Ground) (v w : ℕ) (text : List ℕ) → w < MAX_VERSIONS → (q : ℕ × ℕ) → Has (line_demand g v text) q
    → Has (line_demand g w text) q
demand_within g v w text few q h = by_reading (command_of text) h
  where
    unrefused : (o : Option Refusal) (command : Command) → Has (reading_demand o g (Ok command)) q → Has (demand g command) q
    unrefused None command h = h
    unrefused (Some refusal) command h = absurd (Has-nil q h)

    by_refusals : (a b c d x y : Option Refusal) (command : Command) → y ≡ None
        → Has (reading_demand (first_of a (first_of b (first_of c (first_of d x)))) g (Ok command)) q
        → Has (reading_demand (first_of a (first_of b (first_of c (first_of d y)))) g (Ok command)) q
    by_refusals (Some refusal) b c d x y command none h = absurd (Has-nil q h)
    by_refusals None (Some refusal) c d x y command none h = absurd (Has-nil q h)
    by_refusals None None (Some refusal) d x y command none h = absurd (Has-nil q h)
    by_refusals None None None (Some refusal) x y command none h = absurd (Has-nil q h)
    by_refusals None None None None x y command none h =
        subst (λ o. Has (reading_demand o g (Ok command)) q) (sym none) (unrefused x command h)

    by_reading : (reading : Result Command CommandFault) → Has (reading_demand (reading_refusal g v 0 reading) g reading) q
        → Has (reading_demand (reading_refusal g w 0 reading) g reading) q
    by_reading (Err faults.OutOfMemory) h = absurd (Has-nil q h)
    by_reading (Err (faults.Grammar token)) h = absurd (Has-nil q h)
    by_reading (Err (faults.Limit what)) h = absurd (Has-nil q h)
    by_reading (Ok command) h =
        by_refusals (unnamed (first_unnamed g.level (terms_of command))) (uncoprime g.level (determinant_of command))
        (mislength (dimension g.level g.characteristic) (coordinate_count command)) (no_part 0 (part_number command))
        (full v command) (full w command) command (full_none w few command) h

-- so lines demand at their versions at most what they demand at version 0
told_within : (g : Ground) (lines : List NumberedLine) (told : List ReplyLine) (q : ℕ × ℕ) → Has (told_demand g lines told) q
    → Has (session_demand g lines) q
told_within g [] told q h = absurd (Has-nil q h)
told_within g (l ∷ lines) [] q h = absurd (Has-nil q h)
told_within g (l ∷ lines) (r ∷ told) q h = elim (Has-from_append (line_demand g r.version l.text) (told_demand g lines told) q h) [
  | inl here ↦ Has-append_left (line_demand g 0 l.text) (session_demand g lines) q (demand_within g r.version 0 l.text (omega arith) q here)
  | inr later ↦ Has-append_right (line_demand g 0 l.text) (session_demand g lines) q (told_within g lines told q later)
]

all_within : (g : Ground) (sessions : List (List NumberedLine)) (all : List (List ReplyLine)) (q : ℕ × ℕ) → Has (told_demands g sessions all) q
    → Has (script_demand g sessions) q
all_within g [] all q h = absurd (Has-nil q h)
all_within g (lines ∷ sessions) [] q h = absurd (Has-nil q h)
all_within g (lines ∷ sessions) (told ∷ all) q h = elim (Has-from_append (told_demand g lines told) (told_demands g sessions all) q h) [
  | inl here ↦ Has-append_left (session_demand g lines) (script_demand g sessions) q (told_within g lines told q here)
  | inr later ↦ Has-append_right (session_demand g lines) (script_demand g sessions) q (all_within g sessions all q later)
]

-- lines that are answered one after another make a legal run
pub solo_legal : (script : ScriptText) (t : Transcript) → IsSoloRun script t → IsLegalRun script t
solo_legal script t run = record {
  legal = legal_of script t run;
  columns = record {
    pairs = run.columns.pairs;
    distinct = run.columns.distinct;
    counted = run.columns.counted;
    only = λ q has. all_within (script_ground script) script.sessions t.sessions q (run.columns.only q has);
    held = run.columns.held;
  };
}
