-- What the worker of one session leaves, told over the lists that its passes have seen, and how the works of all sessions make a run.
-- g is a ground (a level and a characteristic), and s the number of the session, from 1.
--   pair_of key                   the pair (n, symbol) of the key of a column
--   published_pairs events        the pairs of the columns that were published among these events, in their order
--   own_pairs s events            those of the publications that name the session
--   AnswersSession g s lines told entries
--                                 told are the reply lines of the command lines of the session, over these accepted splits:
--     replies                     each is the reply line of its command line
--     rising                      versions do not fall, and they grow after an accepted split
--     entered                     each accepted split is the entry after its version
--     own                         each entry that names the session is that of an accepted split
--   FliesSession g s lines told events
--                                 the columns that these took:
--     held                        the pairs that a line demands were published, where its reply is not want of memory
--     only                        the session published no pair but those that its lines demand
--     settled                     no claim of the session is unsettled
--   IsWork g s lines told entries events
--                                 the same, over the first of these entries and events, past which none names the session
--   AreWorks script t events      t is a transcript of the works of all sessions of the script, over its history and these events, which are
--                                 legal; each entry and each event names a session, and the columns are those that were published
--   SharedRunsAreLegal            such a transcript is a legal run of the script
use Rattle.std.specs.Prelude.{◌≡◌, ◌≢◌, ℕ, ◌≤◌, nat_eq, List, length, map, filter, Some, slice_get}
use Rattle.std.specs.List.{AllPairs, AllZip, enumerate_from}
use mathlib.Core.List.{IsPrefix}
use Rattle.p1_normal.specs.Points.{symbols}
use Rattle.quotient_coords.specs.Quotient.{Ground}
use Rattle.op_polynomials.specs.declared.entry.SplitEntry.{SplitEntry}
use Rattle.script_text.specs.Numbered.{NumberedLine}
use Rattle.script_text.specs.Valid.{ScriptText}
use Rattle.reply_text.specs.declared.limits.TheConstants.{MAX_VERSIONS}
use Rattle.reply_text.specs.declared.transcript.ReplyLine.{ReplyLine}
use Rattle.reply_text.specs.declared.transcript.Transcript.{Transcript}
use Rattle.column_flight.specs.declared.event.FlightKey.{FlightKey}
use Rattle.column_flight.specs.declared.event.FlightEvent.{FlightEvent}
use Rattle.column_flight.specs.Flights.{IsLegalFlights, claimer, is_publication, key_of, maker_of, publications}
use Rattle.session_core.specs.Demands.{Has, session_demand}
use Rattle.session_core.specs.Replies.{IsAccepted}
use Rattle.session_core.specs.Transcripts.{AreReplyLines, EntersHistory, Follows, HoldsDemand, IsEntry, IsLegalRun, script_ground}

abbrev pub pair_of : FlightKey → ℕ × ℕ
pair_of key = (key.n, key.symbol)

abbrev pub published_pairs : List FlightEvent → List (ℕ × ℕ)
published_pairs events = map (λ e. pair_of (key_of e)) (filter is_publication events)

abbrev pub own_pairs : ℕ → List FlightEvent → List (ℕ × ℕ)
own_pairs s events = published_pairs (filter (λ e. nat_eq (maker_of e) s) events)

pub record AnswersSession (g : Ground) (s : ℕ) (lines : List NumberedLine) (told : List ReplyLine) (entries : List SplitEntry) : Type 0 where
  pub replies : AreReplyLines g entries lines told
  pub rising : AllPairs Follows told
  pub entered : (c : ℕ) (line : NumberedLine) (r : ReplyLine) → slice_get lines c ≡ Some line → slice_get told c ≡ Some r → IsAccepted r.reply
      → EntersHistory g entries s line.text r
  pub own : (w : ℕ) (e : SplitEntry) → slice_get entries w ≡ Some e → e.session ≡ s
      → (c : ℕ) × (line : NumberedLine) × (r : ReplyLine) × (slice_get lines c ≡ Some line) × (slice_get told c ≡ Some r)
      × (r.version ≡ w) × IsEntry g s line.text r e

pub record FliesSession (g : Ground) (s : ℕ) (lines : List NumberedLine) (told : List ReplyLine) (events : List FlightEvent) : Type 0 where
  pub held : AllZip (HoldsDemand g (published_pairs events)) lines told
  pub only : (q : ℕ × ℕ) → Has (own_pairs s events) q → Has (session_demand g lines) q
  pub settled : (key : FlightKey) → claimer events key ≢ Some s

pub record IsWork (g : Ground) (s : ℕ) (lines : List NumberedLine) (told : List ReplyLine) (entries : List SplitEntry)
    (events : List FlightEvent) : Type 0 where
  pub seen_entries : List SplitEntry
  pub seen_events : List FlightEvent
  pub entries_begin : IsPrefix seen_entries entries
  pub events_begin : IsPrefix seen_events events
  pub answers : AnswersSession g s lines told seen_entries
  pub flies : FliesSession g s lines told seen_events
  pub own_entries : (w : ℕ) (e : SplitEntry) → slice_get entries w ≡ Some e → e.session ≡ s → slice_get seen_entries w ≡ Some e
  pub own_events : (k : ℕ) (e : FlightEvent) → slice_get events k ≡ Some e → maker_of e ≡ s → slice_get seen_events k ≡ Some e

pub record AreWorks (script : ScriptText) (t : Transcript) (events : List FlightEvent) : Type 0 where
  pub modulus : t.modulus ≡ script.space.modulus
  pub characteristic : t.characteristic ≡ script.space.characteristic
  pub symbol_count : t.symbols ≡ length (symbols script.space.modulus)
  pub few : length t.history ≤ MAX_VERSIONS
  pub works : AllZip (λ (work : ℕ × List NumberedLine) told. IsWork (script_ground script) work.0 work.1 told t.history events)
      (enumerate_from 1 script.sessions) t.sessions
  pub entry_makers : (w : ℕ) (e : SplitEntry) → slice_get t.history w ≡ Some e → (1 ≤ e.session) × (e.session ≤ length script.sessions)
  pub event_makers : (k : ℕ) (e : FlightEvent) → slice_get events k ≡ Some e → (1 ≤ maker_of e) × (maker_of e ≤ length script.sessions)
  pub legal : IsLegalFlights events
  pub counted : t.columns ≡ publications events

abbrev pub SharedRunsAreLegal : Type 0
SharedRunsAreLegal = (script : ScriptText) (t : Transcript) (events : List FlightEvent) → AreWorks script t events → IsLegalRun script t
