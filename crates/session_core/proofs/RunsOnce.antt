-- A script has one run of one thread, where no reply is want of memory, and a run counts the columns that its commands demand.
use Rattle.std.proofs.Common.{◌≡◌, ◌≢◌, ◌⊎◌, inl, inr, ℕ, ◌+◌, ◌<◌, ◌≤◌, Bool, true, false, List, [], ◌∷◌, length, All, refl, sym, ◌∙◌, ap, subst, arith}
use Rattle.std.specs.List.{AllZip, IsDistinct, enumerate_from}
use Rattle.std.specs.Set.{is_member, distinct_count}
use Rattle.std.proofs.lemmas.List.Elements.{All-head, All-tail}
use Rattle.std.proofs.lemmas.Map.Made.{length-from_keys}
use Rattle.field_table.specs.Table.{IsListed}
use Rattle.quotient_coords.specs.Quotient.{Ground}
use Rattle.op_polynomials.specs.declared.entry.SplitEntry.{SplitEntry}
use Rattle.script_text.specs.Numbered.{NumberedLine}
use Rattle.script_text.specs.Valid.{ScriptText}
use Rattle.reply_text.specs.declared.limits.TheConstants.{MAX_VERSIONS}
use Rattle.reply_text.specs.declared.reply.Reply.TheVariants as replies
use Rattle.reply_text.specs.declared.transcript.ReplyLine.{ReplyLine}
use Rattle.reply_text.specs.declared.transcript.Transcript.{Transcript}
use Rattle.session_core.specs.Demands.{is_pair, HasAll, line_demand, session_demand, script_demand, told_demand, told_demands}
use Rattle.session_core.specs.Replies.{IsReply}
use Rattle.session_core.specs.Transcripts.{script_ground, IsReplyLine, AreReplyLines, HoldsDemand, IsLegalRun, HasNoMemory}
use Rattle.session_core.specs.SoloRuns.{IsHistoryAfter, Answers, AnswersLines, AnswersSessions, IsSoloRun}
use Rattle.session_core.proofs.PairLemmas.{Has-nil, Has-append_left, Has-append_right, Has-from_append, is_pair-equivalence}
use Rattle.session_core.proofs.AnswersOnce.{reply_once, after_once}
use Rattle.session_core.proofs.LegalRuns.{demand_within}

abbrev IsAnswered : ReplyLine → Type 0
IsAnswered line = line.reply ≢ replies.Memory

-- where all lines are answered, all that they demand at their versions is there
lines_held : (g : Ground) (pairs : List (ℕ × ℕ)) (lines : List NumberedLine) (told : List ReplyLine)
    → AllZip (HoldsDemand g pairs) lines told → All IsAnswered told → HasAll pairs (told_demand g lines told)
lines_held g pairs [] told h some q a = absurd (Has-nil q a)
lines_held g pairs (l ∷ lines) [] h some q a = absurd h
lines_held g pairs (l ∷ lines) (r ∷ told) h some q a = elim (Has-from_append (line_demand g r.version l.text) (told_demand g lines told) q a) [
  | inl here ↦ h.0 (All-head IsAnswered r told some) q here
  | inr later ↦ lines_held g pairs lines told h.1 (All-tail IsAnswered r told some) q later
]

sessions_held : (g : Ground) (pairs : List (ℕ × ℕ)) (sessions : List (List NumberedLine)) (all : List (List ReplyLine))
    → AllZip (AllZip (HoldsDemand g pairs)) sessions all → All (All IsAnswered) all
    → HasAll pairs (told_demands g sessions all)
sessions_held g pairs [] all h some q a = absurd (Has-nil q a)
sessions_held g pairs (lines ∷ sessions) [] h some q a = absurd h
sessions_held g pairs (lines ∷ sessions) (told ∷ all) h some q a =
    elim (Has-from_append (told_demand g lines told) (told_demands g sessions all) q a) [
      | inl here ↦ lines_held g pairs lines told h.0 (All-head (All IsAnswered) told all some) q here
      | inr later ↦ sessions_held g pairs sessions all h.1 (All-tail (All IsAnswered) told all some) q later
    ]

-- tests that pass for each other are the same
same_tests : (a b : Bool) → (a ≡ true → b ≡ true) → (b ≡ true → a ≡ true) → a ≡ b
same_tests true b f g = sym (f refl)
same_tests false true f g = g refl
same_tests false false f g = refl

-- distinct pairs that are those of a list are as many as the list has distinct ones
length-distinct : (pairs demanded : List (ℕ × ℕ)) → IsDistinct is_pair pairs → HasAll demanded pairs → HasAll pairs demanded
    → length pairs ≡ distinct_count is_pair demanded
length-distinct pairs demanded distinct only held = length-from_keys is_pair-equivalence pairs demanded distinct
    (λ q. same_tests (is_member is_pair pairs q) (is_member is_pair demanded q) (only q) (held q))

-- the columns of one thread are those that its commands demand at their versions
pub solo_counted : (script : ScriptText) (t : Transcript) → IsSoloRun script t → HasNoMemory t
    → t.columns ≡ distinct_count is_pair (told_demands (script_ground script) script.sessions t.sessions)
solo_counted script t run some =
    run.columns.counted
    ∙ length-distinct run.columns.pairs (told_demands (script_ground script) script.sessions t.sessions) run.columns.distinct run.columns.only
    (sessions_held (script_ground script) run.columns.pairs script.sessions t.sessions run.columns.held some)

-- where the history is not full, lines demand at their versions all that they demand at version 0
lines_demand_all : (g : Ground) (history : List SplitEntry) → length history < MAX_VERSIONS → (n : ℕ) (lines : List NumberedLine)
    (told : List ReplyLine)
    → AllZip (IsReplyLine g history) (enumerate_from n lines) told → HasAll (told_demand g lines told) (session_demand g lines)
lines_demand_all g history few n [] told h q a = absurd (Has-nil q a)
lines_demand_all g history few n (l ∷ lines) [] h q a = absurd h
lines_demand_all g history few n (l ∷ lines) (r ∷ told) h q a = elim (Has-from_append (line_demand g 0 l.text) (session_demand g lines) q a) [
  | inl here ↦ Has-append_left (line_demand g r.version l.text) (told_demand g lines told) q
      (demand_within g 0 r.version l.text (let before : r.version ≤ length history = h.0.version in omega (arith, few)) q here)
  | inr later ↦ Has-append_right (line_demand g r.version l.text) (told_demand g lines told) q
      (lines_demand_all g history few (n + 1) lines told h.1 q later)
]

pub sessions_demand_all : (g : Ground) (history : List SplitEntry) → length history < MAX_VERSIONS → (sessions : List (List NumberedLine))
    (all : List (List ReplyLine))
    → AllZip (AreReplyLines g history) sessions all → HasAll (told_demands g sessions all) (script_demand g sessions)
sessions_demand_all g history few [] all h q a = absurd (Has-nil q a)
sessions_demand_all g history few (lines ∷ sessions) [] h q a = absurd h
sessions_demand_all g history few (lines ∷ sessions) (told ∷ all) h q a =
    elim (Has-from_append (session_demand g lines) (script_demand g sessions) q a) [
      | inl here ↦ Has-append_left (told_demand g lines told) (told_demands g sessions all) q (lines_demand_all g history few 1 lines told h.0 q here)
      | inr later ↦ Has-append_right (told_demand g lines told) (told_demands g sessions all) q
          (sessions_demand_all g history few sessions all h.1 q later)
    ]

-- so the columns of any legal run are those that its commands demand
pub columns_counted : (script : ScriptText) (t : Transcript) → IsLegalRun script t → HasNoMemory t → length t.history < MAX_VERSIONS
    → t.columns ≡ distinct_count is_pair (script_demand (script_ground script) script.sessions)
columns_counted script t run some few =
    run.columns.counted
    ∙ length-distinct run.columns.pairs (script_demand (script_ground script) script.sessions) run.columns.distinct run.columns.only
    (λ q a. sessions_held (script_ground script) run.columns.pairs script.sessions t.sessions run.columns.held some q
    (sessions_demand_all (script_ground script) t.history few script.sessions t.sessions run.legal.sessions q a))

-- lines with the same parts are the same
same_line : (r s : ReplyLine) → r.number ≡ s.number → r.version ≡ s.version → r.reply ≡ s.reply → r ≡ s
same_line r s number version reply = λ i. record { number = number i; version = version i; reply = reply i }

-- after a history a command line has one reply line, and one history after it
answers_once : {g : Ground} {session : ℕ} {old mid new : List SplitEntry} {line : ℕ × NumberedLine} → IsListed g.characteristic → (r s : ReplyLine)
    → Answers g session old line r mid → Answers g session old line s new → IsAnswered r → IsAnswered s → (r ≡ s) × (mid ≡ new)
answers_once {g} {session} {old} {mid} {new} {line} listed r s a b some other =
    let same : r ≡ s = same_line r s (a.numbered ∙ sym b.numbered) (a.version ∙ sym b.version) (by_case a.reply b.reply) in
    (same, after_once a.after (subst (λ x. IsHistoryAfter g session line.1.text x old new) (sym same) b.after))
  where
    by_case : IsReply g old line.1.text r.reply ⊎ (r.reply ≡ replies.Memory) → IsReply g old line.1.text s.reply ⊎ (s.reply ≡ replies.Memory)
        → r.reply ≡ s.reply
    by_case (inl x) (inl y) = reply_once g old listed line.1.text r.reply s.reply x y
    by_case (inl x) (inr none) = absurd (other none)
    by_case (inr none) y = absurd (some none)

-- so lines have
lines_once : {g : Ground} {session : ℕ} {old mid new : List SplitEntry} {lines : List (ℕ × NumberedLine)} {told again : List ReplyLine}
    → IsListed g.characteristic → AnswersLines g session old lines told mid → AnswersLines g session old lines again new
    → All IsAnswered told → All IsAnswered again → (told ≡ again) × (mid ≡ new)
lines_once listed AnswersLines.done AnswersLines.done some other = (refl, refl)
lines_once {g} {session} {new = new} listed (AnswersLines.next {line = line} {lines = lines} {r = r} {told = told} a rest)
    (AnswersLines.next {r = s} {told = again} b more) some other =
    let (same, history) = answers_once listed r s a b (All-head IsAnswered r told some) (All-head IsAnswered s again other) in
    let (others, last) = lines_once listed rest (subst (λ es. AnswersLines g session es lines again new) (sym history) more)
    (All-tail IsAnswered r told some) (All-tail IsAnswered s again other) in
    (λ i. same i ∷ others i, last)

-- and sessions
pub sessions_once : {g : Ground} {session : ℕ} {old mid new : List SplitEntry} {sessions : List (List NumberedLine)} {all again : List (List ReplyLine)}
    → IsListed g.characteristic → AnswersSessions g session old sessions all mid → AnswersSessions g session old sessions again new
    → All (All IsAnswered) all → All (All IsAnswered) again → (all ≡ again) × (mid ≡ new)
sessions_once listed AnswersSessions.done AnswersSessions.done some other = (refl, refl)
sessions_once {g} {session} {new = new} listed (AnswersSessions.next {sessions = sessions} {told = told} {all = all} a rest)
    (AnswersSessions.next {told = retold} {all = again} b more) some other =
    let (same, history) = lines_once listed a b (All-head (All IsAnswered) told all some) (All-head (All IsAnswered) retold again other) in
    let (others, last) = sessions_once listed rest (subst (λ es. AnswersSessions g (session + 1) es sessions again new) (sym history) more)
    (All-tail (All IsAnswered) told all some) (All-tail (All IsAnswered) retold again other) in
    (λ i. same i ∷ others i, last)

-- transcripts with the same parts are the same
same_transcript : (s t : Transcript) → s.modulus ≡ t.modulus → s.characteristic ≡ t.characteristic → s.symbols ≡ t.symbols → s.sessions ≡ t.sessions
    → s.history ≡ t.history → s.columns ≡ t.columns → s ≡ t
same_transcript s t modulus characteristic count sessions history columns =
    λ i. record {
      modulus = modulus i;
      characteristic = characteristic i;
      symbols = count i;
      sessions = sessions i;
      history = history i;
      columns = columns i;
    }

-- a script has one run of one thread
pub solo_once : (script : ScriptText) (s t : Transcript) → IsListed script.space.characteristic → IsSoloRun script s → IsSoloRun script t
    → HasNoMemory s → HasNoMemory t → s ≡ t
solo_once script s t listed h k some other =
    let (sessions, history) = sessions_once listed h.answers k.answers some other in
    same_transcript s t (h.modulus ∙ sym k.modulus) (h.characteristic ∙ sym k.characteristic) (h.symbol_count ∙ sym k.symbol_count) sessions history
    (solo_counted script s h some
    ∙ ap (λ all. distinct_count is_pair (told_demands (script_ground script) script.sessions all)) sessions
    ∙ sym (solo_counted script t k other))
