-- What one command of a session leaves, told over the lists that its passes have seen before and after it.
-- g is a ground (a level and a characteristic), and s the number of the session, from 1.
--   GoesOn maker s old new        the list goes on, and nothing that it gained names the session
--   AnswersLine g s line known old r reached new
--                                 r is the reply line of a numbered command line of the session, which had learnt or committed so many
--                                 accepted splits (known) and has then (reached):
--     before, after               the splits at the version of the reply, and these with that of the line, where it is accepted
--     answers                     the reply is that after the splits `before`
--     begins, into                the list goes on, and has these splits first
--     no_earlier .. within        the version is no less than `known`; `reached` is no less than the splits `after`, and the list no shorter
--     own                         each entry that names the session was there, or is that of the line
--   Flies pairs s old new         what the session did on the flights for the columns of these pairs:
--     begins                      the list goes on
--     own                         each event that names the session was there, or is of one of the pairs
--     settled                     a claim of the session that is unsettled was so before
--   IsWanting finish              what a line comes to is want of memory
--   HasFlown pairs s finish old new
--                                 the same for a line that came to this: the pairs were published, but where it is want of memory
--   FliesLine g s line old r new  what a command line with this reply line did on the flights: it asked for the columns that it demands, and
--                                 they were published, where its reply is no want of memory
--   IsAcceptedAt g s line v list  at the first v splits of the list the line is answered by an accepted split
--   IsStale g s line known old reached new
--                                 the split of a line was stale: the session learnt the list, of fewer splits than the most (reached), at
--                                 which the line is an accepted split, and the list went on before its commit; nothing that it gained names
--                                 the session
--   TriesLine g s line known old o reached new
--                                 the reply line of a line, or none where its split was stale
--   FliesTry g s line old o new   what this did on the flights
--   TriesSplit s entry old joined new
--                                 the entry of a split joined the list, or the list went on meanwhile
--   MayFly flights g pass         the pass is one of the flights' board, which was opened for the ground; it does not have the turn, and
--                                 no claim of it is unsettled
--   MayCommit versions g pass     the pass is one of the versions' board, which was opened for the ground; it does not have the turn
use Rattle.std.specs.Prelude.{◌≡◌, ◌≢◌, ◌⊎◌, ℕ, ◌+◌, ◌<◌, ◌≤◌, Bool, true, false, List, [], ◌∷◌, ◌++◌, length, Option, Some, None, slice_get}
use Rattle.std.specs.declared.cmp.PartialEq.{Ghosts as Equality}
use mathlib.Core.List.{IsPrefix}
use Rattle.turn_board.specs.declared.kept.Kept.{Ghosts}
use Rattle.turn_board.specs.declared.pass.Pass.{Pass}
use Rattle.turn_board.specs.Passes.{IsOf, view}
use Rattle.quotient_coords.specs.Quotient.{Ground}
use Rattle.op_polynomials.specs.declared.entry.SplitEntry.{SplitEntry}
use Rattle.script_text.specs.Numbered.{NumberedLine}
use Rattle.reply_text.specs.declared.limits.TheConstants.{MAX_VERSIONS}
use Rattle.reply_text.specs.declared.reply.Reply.TheVariants.{Memory}
use Rattle.reply_text.specs.declared.transcript.ReplyLine.{ReplyLine}
use Rattle.column_flight.specs.declared.event.FlightKey.{FlightKey}
use Rattle.column_flight.specs.declared.event.FlightEvent.{FlightEvent}
use Rattle.column_flight.specs.declared.flights.Flights.{Flights}
use Rattle.column_flight.specs.Flights.{FlightHistory, claimer, key_of, maker_of}
use Rattle.column_flight.specs.Shared.{board_of as flight_board, setting_of as flight_setting}
use Rattle.split_versions.specs.declared.versions.Versions.{Versions}
use Rattle.split_versions.specs.Histories.{VersionHistory, maker_of as session_of}
use Rattle.split_versions.specs.Shared.{board_of, setting_of}
use Rattle.session_core.specs.declared.outcome.Finish.{Finish}
use Rattle.session_core.specs.declared.outcome.Finish.TheVariants as outcomes
use Rattle.session_core.specs.Demands.{Has, HasAll, line_demand}
use Rattle.session_core.specs.Replies.{IsAccepted}
use Rattle.session_core.specs.SoloRuns.{Answers}
use Rattle.session_core.specs.Transcripts.{HoldsDemand}
use Rattle.host_workers.specs.Workers.{pair_of, published_pairs}

pub record GoesOn {E : Type 0} (maker : E → ℕ) (s : ℕ) (old new : List E) : Type 0 where
  pub begins : IsPrefix old new
  pub own : (w : ℕ) (e : E) → slice_get new w ≡ Some e → maker e ≡ s → slice_get old w ≡ Some e

pub record AnswersLine (g : Ground) (s : ℕ) (line : ℕ × NumberedLine) (known : ℕ) (old : List SplitEntry) (r : ReplyLine) (reached : ℕ)
    (new : List SplitEntry) : Type 0 where
  pub before : List SplitEntry
  pub after : List SplitEntry
  pub answers : Answers g s before line r after
  pub begins : IsPrefix old new
  pub into : IsPrefix after new
  pub no_earlier : known ≤ length before
  pub no_later : length after ≤ reached
  pub within : reached ≤ length new
  pub own : (w : ℕ) (e : SplitEntry) → slice_get new w ≡ Some e → e.session ≡ s
      → (slice_get old w ≡ Some e) ⊎ ((length before ≤ w) × (slice_get after w ≡ Some e))

pub record Flies (pairs : List (ℕ × ℕ)) (s : ℕ) (old new : List FlightEvent) : Type 0 where
  pub begins : IsPrefix old new
  pub own : (k : ℕ) (e : FlightEvent) → slice_get new k ≡ Some e → maker_of e ≡ s
      → (slice_get old k ≡ Some e) ⊎ Has pairs (pair_of (key_of e))
  pub settled : (key : FlightKey) → claimer old key ≢ Some s → claimer new key ≢ Some s

abbrev pub IsWanting : Finish → Type 0
IsWanting (outcomes.Reply reply) = reply ≡ Memory
IsWanting finish = ⊥

pub record HasFlown (pairs : List (ℕ × ℕ)) (s : ℕ) (finish : Finish) (old new : List FlightEvent) : Type 0 where
  pub flies : Flies pairs s old new
  pub held : (IsWanting finish → ⊥) → HasAll (published_pairs new) pairs

pub record FliesLine (g : Ground) (s : ℕ) (line : NumberedLine) (old : List FlightEvent) (r : ReplyLine) (new : List FlightEvent) : Type 0 where
  pub flies : Flies (line_demand g 0 line.text) s old new
  pub held : HoldsDemand g (published_pairs new) line r

pub record IsAcceptedAt (g : Ground) (s : ℕ) (line : ℕ × NumberedLine) (v : ℕ) (list : List SplitEntry) : Type 0 where
  pub before : List SplitEntry
  pub reply : ReplyLine
  pub after : List SplitEntry
  pub into : IsPrefix before list
  pub count : length before ≡ v
  pub answers : Answers g s before line reply after
  pub accepted : IsAccepted reply.reply

pub record IsStale (g : Ground) (s : ℕ) (line : ℕ × NumberedLine) (known : ℕ) (old : List SplitEntry) (reached : ℕ) (new : List SplitEntry)
    : Type 0 where
  pub goes : GoesOn session_of s old new
  pub learnt : length old ≤ reached
  pub longer : reached < length new
  pub room : reached < MAX_VERSIONS
  pub no_earlier : known ≤ reached
  pub accepted : IsAcceptedAt g s line reached new

abbrev pub TriesLine : Ground → ℕ → ℕ × NumberedLine → ℕ → List SplitEntry → Option ReplyLine → ℕ → List SplitEntry → Type 0
TriesLine g s line known old (Some r) reached new = AnswersLine g s line known old r reached new
TriesLine g s line known old None reached new = IsStale g s line known old reached new

abbrev pub FliesTry : Ground → ℕ → NumberedLine → List FlightEvent → Option ReplyLine → List FlightEvent → Type 0
FliesTry g s line old (Some r) new = FliesLine g s line old r new
FliesTry g s line old None new = Flies (line_demand g 0 line.text) s old new

abbrev pub TriesSplit : ℕ → SplitEntry → List SplitEntry → Bool → List SplitEntry → Type 0
TriesSplit s entry old true new = new ≡ old ++ entry ∷ []
TriesSplit s entry old false new = GoesOn session_of s old new × (length old < length new)

module _ {gs : Ghosts FlightHistory FlightEvent} {q : Equality FlightEvent} where
  pub record MayFly (flights : Flights) (g : Ground) (pass : Pass FlightHistory FlightEvent gs q) : Type 0 where
    pub board : IsOf (flight_board flights) pass
    pub idle : (view pass).has_turn ≡ false
    pub setting : g ≡ flight_setting flights
    pub unclaimed : (key : FlightKey) → claimer (view pass).seen key ≢ Some ((view pass).number + 1)

module _ {gs : Ghosts VersionHistory SplitEntry} {q : Equality SplitEntry} where
  pub record MayCommit (versions : Versions) (g : Ground) (pass : Pass VersionHistory SplitEntry gs q) : Type 0 where
    pub board : IsOf (board_of versions) pass
    pub idle : (view pass).has_turn ≡ false
    pub setting : g ≡ setting_of versions
