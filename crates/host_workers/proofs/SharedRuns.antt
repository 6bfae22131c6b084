-- The works of all sessions over the closed lists make a legal run.
use Rattle.std.proofs.Common.{◌≡◌, ◌⊎◌, ℕ, zero, suc, ◌+◌, ◌-◌, ◌<◌, List, [], ◌∷◌, length, All, AllPairs, Some, slice_get, refl, sym, subst, ◌∙◌, arith}
use Rattle.std.specs.List.{AllZip, enumerate_from}
use Rattle.std.proofs.lemmas.List.Elements.{All-nil, All-cons}
use Rattle.std.proofs.lemmas.Option.{same_Some, slice_get_within}
use mathlib.Core.List.{IsPrefix}
use Rattle.quotient_coords.specs.Quotient.{Ground}
use Rattle.op_polynomials.specs.declared.entry.SplitEntry.{SplitEntry}
use Rattle.script_text.specs.Numbered.{NumberedLine}
use Rattle.script_text.specs.Valid.{ScriptText}
use Rattle.reply_text.specs.declared.reply.Reply.TheVariants as replies
use Rattle.reply_text.specs.declared.transcript.ReplyLine.{ReplyLine}
use Rattle.reply_text.specs.declared.transcript.Transcript.{Transcript}
use Rattle.column_flight.specs.declared.event.FlightEvent.{FlightEvent}
use Rattle.column_flight.specs.Flights.{maker_of}
use Rattle.turn_board.proofs.Prefixes.{prefix_length}
use Rattle.session_core.specs.Demands.{Has, script_demand, session_demand}
use Rattle.session_core.specs.Replies.{IsAccepted, IsReply}
use Rattle.session_core.specs.Transcripts.{AreReplyLines, EntersHistory, Follows, HoldsDemand, IsAnsweredBy, IsEntry, IsLegalRun, IsReplyLine, script_ground}
use Rattle.session_core.proofs.PairLemmas.{Has-append_left, Has-append_right}
use Rattle.session_core.proofs.RunLemmas.{lines_hold_more, zip_weaken}
use Rattle.host_workers.specs.Workers.{AreWorks, IsWork, published_pairs}
use Rattle.host_workers.proofs.Prefixes.{prefix_get, prefix_take}
use Rattle.host_workers.proofs.PublishedPairs.{own_has, published_at, published_count, published_distinct, published_grow}

-- a reply at a version of a beginning of the history is one at that version of the history
reply_line : (g : Ground) (seen history : List SplitEntry) → IsPrefix seen history → (line : ℕ × NumberedLine) (r : ReplyLine)
    → IsReplyLine g seen line r → IsReplyLine g history line r
reply_line g seen history begins line r h = record {
  numbered = h.numbered;
  version = omega (arith, h.version, prefix_length seen history begins);
  reply = subst (λ es. IsReply g es line.1.text r.reply ⊎ (r.reply ≡ replies.Memory))
      (sym (prefix_take seen history r.version begins h.version)) h.reply;
}

-- so are those of a session
reply_lines : (g : Ground) (seen history : List SplitEntry) → IsPrefix seen history → (lines : List NumberedLine) (told : List ReplyLine)
    → AreReplyLines g seen lines told → AreReplyLines g history lines told
reply_lines g seen history begins lines told h =
    zip_weaken (IsReplyLine g seen) (IsReplyLine g history) (reply_line g seen history begins) (enumerate_from 1 lines) told h

-- an entry of a beginning of the history is one of the history
enters : (g : Ground) (seen history : List SplitEntry) → IsPrefix seen history → (s : ℕ) (text : List ℕ) (r : ReplyLine)
    → EntersHistory g seen s text r → EntersHistory g history s text r
enters g seen history begins s text r h = record {
  entry = h.entry;
  at_version = prefix_get seen history r.version h.entry begins h.at_version;
  is_entry = h.is_entry;
}

-- the demand of a session is part of that of the script
in_script : (g : Ground) (sessions : List (List NumberedLine)) (k : ℕ) (lines : List NumberedLine) (q : ℕ × ℕ) → slice_get sessions k ≡ Some lines
    → Has (session_demand g lines) q → Has (script_demand g sessions) q
in_script g [] k lines q at h = absurd cc
in_script g (first ∷ sessions) zero lines q at h =
    Has-append_left (session_demand g first) (script_demand g sessions) q
    (subst (λ (ls : List NumberedLine). Has (session_demand g ls) q) (sym (same_Some first lines at)) h)
in_script g (first ∷ sessions) (suc k) lines q at h =
    Has-append_right (session_demand g first) (script_demand g sessions) q (in_script g sessions k lines q at h)

module _ (g : Ground) (history : List SplitEntry) (events : List FlightEvent) where
  -- the works of sessions numbered from n on
  abbrev Works : ℕ → List (List NumberedLine) → List (List ReplyLine) → Type 0
  Works n sessions all =
      AllZip (λ (work : ℕ × List NumberedLine) told. IsWork g work.0 work.1 told history events) (enumerate_from n sessions) all

  -- what follows from each work holds of all
  works_zip : (R : List NumberedLine → List ReplyLine → Type 0)
      → ((s : ℕ) (lines : List NumberedLine) (told : List ReplyLine) → IsWork g s lines told history events → R lines told)
      → (n : ℕ) (sessions : List (List NumberedLine)) (all : List (List ReplyLine)) → Works n sessions all → AllZip R sessions all
  works_zip R each n [] [] h = tt
  works_zip R each n [] (told ∷ all) h = absurd h
  works_zip R each n (lines ∷ sessions) [] h = absurd h
  works_zip R each n (lines ∷ sessions) (told ∷ all) h = (each n lines told h.0, works_zip R each (n + 1) sessions all h.1)

  works_all : (Q : List ReplyLine → Type 0)
      → ((s : ℕ) (lines : List NumberedLine) (told : List ReplyLine) → IsWork g s lines told history events → Q told)
      → (n : ℕ) (sessions : List (List NumberedLine)) (all : List (List ReplyLine)) → Works n sessions all → All Q all
  works_all Q each n [] [] h = All-nil Q
  works_all Q each n [] (told ∷ all) h = absurd h
  works_all Q each n (lines ∷ sessions) [] h = absurd h
  works_all Q each n (lines ∷ sessions) (told ∷ all) h = All-cons Q told all (each n lines told h.0) (works_all Q each (n + 1) sessions all h.1)

  -- the work of the session at a place
  record WorkAt (s k : ℕ) (sessions : List (List NumberedLine)) (all : List (List ReplyLine)) : Type 0 where
    lines : List NumberedLine
    told : List ReplyLine
    session : slice_get sessions k ≡ Some lines
    session_told : slice_get all k ≡ Some told
    work : IsWork g s lines told history events

  work_at : (n : ℕ) (sessions : List (List NumberedLine)) (all : List (List ReplyLine)) → Works n sessions all → (k s : ℕ) → k < length sessions
      → s ≡ n + k → WorkAt s k sessions all
  work_at n [] all h k s within number = absurd (omega arith)
  work_at n (lines ∷ sessions) [] h k s within number = absurd h
  work_at n (lines ∷ sessions) (told ∷ all) h zero s within number = record {
    lines = lines;
    told = told;
    session = refl;
    session_told = refl;
    work = subst (λ i. IsWork g i lines told history events) (let first : n ≡ s = omega arith in first) h.0;
  }
  work_at n (lines ∷ sessions) (told ∷ all) h (suc k) s within number =
      let w = work_at (n + 1) sessions all h.1 k s (omega arith) (omega arith) in
      record { lines = w.lines; told = w.told; session = w.session; session_told = w.session_told; work = w.work }

  -- the same, where its lines and its replies are known
  work_of : (sessions : List (List NumberedLine)) (all : List (List ReplyLine)) → Works 1 sessions all → (k : ℕ) (lines : List NumberedLine)
      (told : List ReplyLine) → slice_get sessions k ≡ Some lines → slice_get all k ≡ Some told → IsWork g (k + 1) lines told history events
  work_of sessions all h k lines told session session_told =
      let w = work_at 1 sessions all h k (k + 1) (slice_get_within sessions k lines session) (omega arith) in
      let same : w.lines ≡ lines = same_Some w.lines lines (sym w.session ∙ session) in
      let same_told : w.told ≡ told = same_Some w.told told (sym w.session_told ∙ session_told) in
      subst (λ (ls : List NumberedLine). IsWork g (k + 1) ls told history events) same
      (subst (λ (rs : List ReplyLine). IsWork g (k + 1) w.lines rs history events) same_told w.work)

-- each accepted split is an entry of the history
entered : (script : ScriptText) (t : Transcript) (events : List FlightEvent) → AreWorks script t events → (s c : ℕ) (line : NumberedLine)
    (r : ReplyLine) → IsAnsweredBy script t s c line r → IsAccepted r.reply → EntersHistory (script_ground script) t.history (s + 1) line.text r
entered script t events h s c line r answered accepted =
    let g = script_ground script in
    let w : IsWork g (s + 1) answered.lines answered.told t.history events =
    work_of g t.history events script.sessions t.sessions h.works s answered.lines answered.told answered.session answered.session_told in
    enters g w.seen_entries t.history w.entries_begin (s + 1) line.text r
    (w.answers.entered c line r answered.command answered.command_told accepted)

-- each entry of the history is that of an accepted split
entries : (script : ScriptText) (t : Transcript) (events : List FlightEvent) → AreWorks script t events → (w : ℕ) (e : SplitEntry)
    → slice_get t.history w ≡ Some e
    → (s : ℕ) × (c : ℕ) × (line : NumberedLine) × (r : ReplyLine) × IsAnsweredBy script t s c line r
    × (r.version ≡ w) × IsEntry (script_ground script) (s + 1) line.text r e
entries script t events h w e at =
    let g = script_ground script in
    let makers = h.entry_makers w e at in
    let k : ℕ = e.session - 1 in
    let number : e.session ≡ k + 1 = omega arith in
    let x = work_at g t.history events 1 script.sessions t.sessions h.works k (k + 1) (omega arith) (omega arith) in
    let (c, line, r, command, command_told, version, is_entry) =
    x.work.answers.own w e (x.work.own_entries w e at number) number in (
      k,
      c,
      line,
      r,
      record {
        lines = x.lines;
        told = x.told;
        session = x.session;
        session_told = x.session_told;
        command = command;
        command_told = command_told;
      },
      version,
      is_entry,
    )

-- each column that was published is demanded by a line
demanded : (script : ScriptText) (t : Transcript) (events : List FlightEvent) → AreWorks script t events → (q : ℕ × ℕ)
    → Has (published_pairs events) q → Has (script_demand (script_ground script) script.sessions) q
demanded script t events h q has =
    let g = script_ground script in
    let p = published_at events q has in
    let makers = h.event_makers p.place p.event p.at_place in
    let k : ℕ = maker_of p.event - 1 in
    let number : maker_of p.event ≡ k + 1 = omega arith in
    let x = work_at g t.history events 1 script.sessions t.sessions h.works k (k + 1) (omega arith) (omega arith) in
    let seen = x.work.own_events p.place p.event p.at_place number in
    let own = own_has (k + 1) x.work.seen_events q p.place p.event seen number p.publication p.pair in
    in_script g script.sessions k x.lines q x.session (x.work.flies.only q own)

-- the works of all sessions make a legal run
pub shared_legal : (script : ScriptText) (t : Transcript) (events : List FlightEvent) → AreWorks script t events → IsLegalRun script t
shared_legal script t events h = record {
  legal = record {
    modulus = h.modulus;
    characteristic = h.characteristic;
    symbol_count = h.symbol_count;
    sessions = works_zip g t.history events (AreReplyLines g t.history)
        (λ s lines told w. reply_lines g w.seen_entries t.history w.entries_begin lines told w.answers.replies) 1 script.sessions t.sessions h.works;
    few = h.few;
    rising = works_all g t.history events (AllPairs Follows) (λ s lines told w. w.answers.rising) 1 script.sessions t.sessions h.works;
    entered = entered script t events h;
    entries = entries script t events h;
  };
  columns = record {
    pairs = published_pairs events;
    distinct = published_distinct events h.legal;
    counted = h.counted ∙ published_count events;
    only = demanded script t events h;
    held = works_zip g t.history events (AllZip (HoldsDemand g (published_pairs events)))
        (λ s lines told w. lines_hold_more g (published_pairs w.seen_events) (published_pairs events)
        (published_grow w.seen_events events w.events_begin) lines told w.flies.held) 1 script.sessions t.sessions h.works;
  };
}
  where
    g : Ground
    g = script_ground script
