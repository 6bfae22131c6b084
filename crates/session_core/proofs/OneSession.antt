-- A legal run of a script of one session is a run of one thread: each version is the number of accepted splits before it.
use Rattle.std.proofs.Common.{◌≡◌, ◌⊎◌, inl, inr, ℕ, zero, suc, ◌+◌, ◌<◌, ◌≤◌, List, [], ◌∷◌, length, take, get_or, All, AllPairs, Some, slice_get, refl, sym, ◌∙◌, ap, subst, arith}
use Rattle.std.specs.List.{AllZip, enumerate_from}
use Rattle.std.proofs.lemmas.Bool.{cases_lt}
use Rattle.std.proofs.lemmas.List.{length-take-le, take_all}
use Rattle.std.proofs.lemmas.List.Elements.{All-head, All-tail}
use Rattle.std.proofs.lemmas.Option.{get_or_from_slice_get, same_Some, slice_get_within}
use Rattle.field_table.specs.Table.{IsListed}
use Rattle.quotient_coords.specs.Quotient.{Ground}
use Rattle.op_polynomials.specs.declared.entry.SplitEntry.{SplitEntry}
use Rattle.script_text.specs.Numbered.{NumberedLine}
use Rattle.script_text.specs.Valid.{ScriptText}
use Rattle.reply_text.specs.declared.limits.TheConstants.{MAX_VERSIONS}
use Rattle.reply_text.specs.declared.reply.Reply.{Reply}
use Rattle.reply_text.specs.declared.reply.Reply.TheVariants as replies
use Rattle.reply_text.specs.declared.transcript.ReplyLine.{ReplyLine}
use Rattle.reply_text.specs.declared.transcript.Transcript.{Transcript}
use Rattle.session_core.specs.Replies.{IsAccepted, IsReply}
use Rattle.session_core.specs.Transcripts.{AreReplyLines, EntersHistory, Follows, HasNoMemory, IsEntry, IsLegalRun, IsLegalTranscript, IsReplyLine, script_ground}
use Rattle.session_core.specs.SoloRuns.{Answers, AnswersLines, AnswersSessions, IsHistoryAfter, IsSoloRun, grown, unchanged}
use Rattle.session_core.proofs.HistoryVersions.{taken}
use Rattle.session_core.proofs.RunsOnce.{sessions_demand_all, sessions_once, solo_once}

-- a reply is that of an accepted split or it is not
accepted_or_not : (reply : Reply) → IsAccepted reply ⊎ (IsAccepted reply → ⊥)
accepted_or_not (replies.Version number dims) = inl tt
accepted_or_not reply = inr (λ accepted. accepted)

-- what holds of all holds of what stands at a place
all_at : {A : Type 0} (P : A → Type 0) (xs : List A) (k : ℕ) (x : A) → All P xs → slice_get xs k ≡ Some x → P x
all_at P xs k x all at = subst P (get_or_from_slice_get xs k x x at) (all k x (slice_get_within xs k x at))

-- lines that follow one another
pairs_head : (r : ReplyLine) (told : List ReplyLine) → AllPairs Follows (r ∷ told) → All (Follows r) told
pairs_head r told h = λ j d within. h 0 (suc j) d (omega arith) (omega arith)

pairs_tail : (r : ReplyLine) (told : List ReplyLine) → AllPairs Follows (r ∷ told) → AllPairs Follows told
pairs_tail r told h = λ i j d before within. h (suc i) (suc j) d (omega arith) (omega arith)

-- the entry w of the history is that of an accepted split among these lines
record EnteredAmong (g : Ground) (lines : List NumberedLine) (told : List ReplyLine) (w : ℕ) (e : SplitEntry) : Type 0 where
  place : ℕ
  line : NumberedLine
  r : ReplyLine
  command : slice_get lines place ≡ Some line
  command_told : slice_get told place ≡ Some r
  version : r.version ≡ w
  is_entry : IsEntry g 1 line.text r e

-- the lines that are left, numbered from n on, make the history that is left: its entries from k on
record Remains (g : Ground) (history : List SplitEntry) (n k : ℕ) (lines : List NumberedLine) (told : List ReplyLine) : Type 0 where
  replies : AllZip (IsReplyLine g history) (enumerate_from n lines) told
  rising : AllPairs Follows told
  later : All (λ (r : ReplyLine). k ≤ r.version) told
  entered : (c : ℕ) (line : NumberedLine) (r : ReplyLine) → slice_get lines c ≡ Some line → slice_get told c ≡ Some r → IsAccepted r.reply
      → EntersHistory g history 1 line.text r
  entries : (w : ℕ) (e : SplitEntry) → k ≤ w → slice_get history w ≡ Some e → EnteredAmong g lines told w e

-- the entries that are left come from later lines, where the first has an earlier version or is not accepted
later_entries : (g : Ground) (line : NumberedLine) (lines : List NumberedLine) (r : ReplyLine) (told : List ReplyLine) (w : ℕ) (e : SplitEntry)
    → (r.version ≡ w → IsAccepted r.reply → ⊥) → EnteredAmong g (line ∷ lines) (r ∷ told) w e → EnteredAmong g lines told w e
later_entries g line lines r told w e first x = at x.place x.command x.command_told
  where
    at : (c : ℕ) → slice_get (line ∷ lines) c ≡ Some x.line → slice_get (r ∷ told) c ≡ Some x.r → EnteredAmong g lines told w e
    at zero command command_told =
        let same : x.r ≡ r = sym (same_Some r x.r command_told) in
        absurd (first (sym (ap (λ (s : ReplyLine). s.version) same) ∙ x.version)
        (subst (λ (s : ReplyLine). IsAccepted s.reply) same x.is_entry.accepted))
    at (suc c) command command_told = record {
      place = c;
      line = x.line;
      r = x.r;
      command = command;
      command_told = command_told;
      version = x.version;
      is_entry = x.is_entry;
    }

-- so the next line is answered at the number of the entries before it
version_here : (g : Ground) (history : List SplitEntry) (n k : ℕ) (line : NumberedLine) (lines : List NumberedLine) (r : ReplyLine)
    (told : List ReplyLine) → Remains g history n k (line ∷ lines) (r ∷ told) → r.version ≡ k
version_here g history n k line lines r told h = by_case (cases_lt k r.version)
  where
    reached : k ≤ r.version
    reached = All-head (λ (s : ReplyLine). k ≤ s.version) r told h.later

    by_case : (k < r.version) ⊎ (r.version ≤ k) → r.version ≡ k
    by_case (inr within) = omega (arith, reached)
    by_case (inl past) =
        let (e, at, more) = taken history k (omega (arith, h.replies.0.version)) in
        let x = later_entries g line lines r told k e (λ same accepted. omega arith) (h.entries k e (omega arith) at) in
        let follows : Follows r x.r = all_at (Follows r) told x.place x.r (pairs_head r told h.rising) x.command_told in
        absurd (omega (arith, x.version, follows.no_earlier))

-- what is left after a line
after_line : (g : Ground) (history : List SplitEntry) (n k m : ℕ) (line : NumberedLine) (lines : List NumberedLine) (r : ReplyLine)
    (told : List ReplyLine) → Remains g history n k (line ∷ lines) (r ∷ told) → k ≤ m → All (λ (s : ReplyLine). m ≤ s.version) told
    → ((w : ℕ) → m ≤ w → r.version ≡ w → IsAccepted r.reply → ⊥) → Remains g history (n + 1) m lines told
after_line g history n k m line lines r told h more later first = record {
  replies = h.replies.1;
  rising = pairs_tail r told h.rising;
  later = later;
  entered = λ c x s at told_at accepted. h.entered (suc c) x s at told_at accepted;
  entries = λ w e from at. later_entries g line lines r told w e (first w from) (h.entries w e (omega arith) at);
}

-- one line more
next_line : (g : Ground) (history : List SplitEntry) (n k : ℕ) (line : NumberedLine) (lines : List NumberedLine) (r : ReplyLine)
    (told : List ReplyLine) → Remains g history n k (line ∷ lines) (r ∷ told)
    → ((m : ℕ) → Remains g history (n + 1) m lines told → AnswersLines g 1 (take m history) (enumerate_from (n + 1) lines) told history)
    → AnswersLines g 1 (take k history) ((n, line) ∷ enumerate_from (n + 1) lines) (r ∷ told) history
next_line g history n k line lines r told h rest = by_reply (accepted_or_not r.reply)
  where
    here : r.version ≡ k
    here = version_here g history n k line lines r told h

    within : r.version ≤ length history
    within = h.replies.0.version

    answers : (new : List SplitEntry) → IsHistoryAfter g 1 line.text r (take k history) new → Answers g 1 (take k history) (n, line) r new
    answers new after = record {
      numbered = h.replies.0.numbered;
      version = here ∙ sym (length-take-le k history (omega (arith, here, within)));
      reply = subst (λ v. IsReply g (take v history) line.text r.reply ⊎ (r.reply ≡ replies.Memory)) here h.replies.0.reply;
      after = after;
    }

    by_reply : IsAccepted r.reply ⊎ (IsAccepted r.reply → ⊥)
        → AnswersLines g 1 (take k history) ((n, line) ∷ enumerate_from (n + 1) lines) (r ∷ told) history
    by_reply (inl accepted) =
        let enters = h.entered 0 line r refl refl accepted in
        let at : slice_get history k ≡ Some enters.entry = ap (slice_get history) (sym here) ∙ enters.at_version in
        let (e, there, more) = taken history k (slice_get_within history k enters.entry at) in
        let entry : IsEntry g 1 line.text r e =
        subst (IsEntry g 1 line.text r) (same_Some enters.entry e (sym at ∙ there)) enters.is_entry in
        let later : All (λ (s : ReplyLine). suc k ≤ s.version) told =
        λ j d inside. let follows : Follows r (get_or told j d) = pairs_head r told h.rising j d inside in
        omega (arith, here, follows.after_split accepted) in
        AnswersLines.next
        (answers (take (suc k) history)
        (subst (IsHistoryAfter g 1 line.text r (take k history)) (sym more) (grown entry)))
        (rest (suc k) (after_line g history n k (suc k) line lines r told h (omega arith) later (λ w from same is. omega (arith, here))))
    by_reply (inr not_accepted) = AnswersLines.next (answers (take k history) (unchanged not_accepted))
        (rest k (after_line g history n k k line lines r told h (omega arith)
        (All-tail (λ (s : ReplyLine). k ≤ s.version) r told h.later) (λ w from same. not_accepted)))

-- all lines that are left
lines_left : (g : Ground) (history : List SplitEntry) (n k : ℕ) (lines : List NumberedLine) (told : List ReplyLine)
    → Remains g history n k lines told → AnswersLines g 1 (take k history) (enumerate_from n lines) told history
lines_left g history n k [] [] h = by_case (cases_lt k (length history))
  where
    by_case : (k < length history) ⊎ (length history ≤ k) → AnswersLines g 1 (take k history) [] [] history
    by_case (inl before) =
        let (e, at, more) = taken history k before in
        let x = h.entries k e (omega arith) at in
        let none : slice_get [] x.place ≡ Some x.line = x.command in
        absurd cc
    by_case (inr past) = subst (λ es. AnswersLines g 1 es [] [] history) (sym (take_all k history past)) AnswersLines.done
lines_left g history n k [] (r ∷ told) h = absurd h.replies
lines_left g history n k (line ∷ lines) [] h = absurd h.replies
lines_left g history n k (line ∷ lines) (r ∷ told) h =
    next_line g history n k line lines r told h (λ m left. lines_left g history (n + 1) m lines told left)

-- the answers of a legal transcript of one session are those of one thread
pub one_answers : (script : ScriptText) (t : Transcript) → length script.sessions ≡ 1 → IsLegalTranscript script t
    → AnswersSessions (script_ground script) 1 [] script.sessions t.sessions t.history
one_answers script t one legal = by_lists script.sessions t.sessions refl refl one legal.sessions
  where
    g : Ground
    g = script_ground script

    all_lines : (lines : List NumberedLine) (told : List ReplyLine) → script.sessions ≡ lines ∷ [] → t.sessions ≡ told ∷ []
        → AreReplyLines g t.history lines told → AnswersLines g 1 [] (enumerate_from 1 lines) told t.history
    all_lines lines told is is_told replies =
        let first : slice_get script.sessions 0 ≡ Some lines = ap (λ (ss : List (List NumberedLine)). slice_get ss 0) is in
        let first_told : slice_get t.sessions 0 ≡ Some told = ap (λ (ss : List (List ReplyLine)). slice_get ss 0) is_told in
        lines_left g t.history 1 0 lines told (record {
          replies = replies;
          rising = all_at (AllPairs Follows) t.sessions 0 told legal.rising first_told;
          later = λ k d inside. omega arith;
          entered = λ c line r at told_at accepted. legal.entered 0 c line r
              (record { lines = lines; told = told; session = first; session_told = first_told; command = at; command_told = told_at }) accepted;
          entries = λ w e from at.
              let (s, c, line, r, answered, version, entry) = legal.entries w e at in
              let zeroth : s ≡ 0 = omega (arith, slice_get_within script.sessions s answered.lines answered.session) in
              let same : answered.lines ≡ lines =
              same_Some answered.lines lines (sym answered.session ∙ ap (slice_get script.sessions) zeroth ∙ first) in
              let same_told : answered.told ≡ told =
              same_Some answered.told told (sym answered.session_told ∙ ap (slice_get t.sessions) zeroth ∙ first_told) in
              record {
                place = c;
                line = line;
                r = r;
                command = ap (λ (ls : List NumberedLine). slice_get ls c) (sym same) ∙ answered.command;
                command_told = ap (λ (rs : List ReplyLine). slice_get rs c) (sym same_told) ∙ answered.command_told;
                version = version;
                is_entry = subst (λ i. IsEntry g (i + 1) line.text r e) zeroth entry;
              };
        })

    by_lists : (sessions : List (List NumberedLine)) (all : List (List ReplyLine)) → script.sessions ≡ sessions → t.sessions ≡ all
        → length sessions ≡ 1 → AllZip (AreReplyLines g t.history) sessions all → AnswersSessions g 1 [] sessions all t.history
    by_lists [] all is is_told one replies = absurd (omega arith)
    by_lists (lines ∷ []) [] is is_told one replies = absurd replies
    by_lists (lines ∷ []) (told ∷ []) is is_told one replies =
        AnswersSessions.next (all_lines lines told is is_told replies.0) AnswersSessions.done
    by_lists (lines ∷ []) (told ∷ more ∷ all) is is_told one replies = absurd replies.1
    by_lists (lines ∷ more ∷ sessions) all is is_told one replies = absurd (omega arith)

-- so is the run, where the history is not full
pub one_session_solo : (script : ScriptText) (t : Transcript) → length script.sessions ≡ 1 → length t.history < MAX_VERSIONS → IsLegalRun script t
    → IsSoloRun script t
one_session_solo script t one few run = record {
  modulus = run.legal.modulus;
  characteristic = run.legal.characteristic;
  symbol_count = run.legal.symbol_count;
  few = run.legal.few;
  answers = one_answers script t one run.legal;
  columns = record {
    pairs = run.columns.pairs;
    distinct = run.columns.distinct;
    counted = run.columns.counted;
    only = λ q has. sessions_demand_all (script_ground script) t.history few script.sessions t.sessions run.legal.sessions q (run.columns.only q has);
    held = run.columns.held;
  };
}

-- and a script of one session has one legal run
pub one_session_once : (script : ScriptText) (s t : Transcript) → IsListed script.space.characteristic → length script.sessions ≡ 1
    → IsLegalRun script s → IsLegalRun script t → HasNoMemory s → HasNoMemory t → length s.history < MAX_VERSIONS → s ≡ t
one_session_once script s t listed one h k some other few =
    let (sessions, history) = sessions_once listed (one_answers script s one h.legal) (one_answers script t one k.legal) some other in
    solo_once script s t listed (one_session_solo script s one few h)
    (one_session_solo script t one (omega (arith, few, ap (λ (es : List SplitEntry). length es) history)) k) some other
