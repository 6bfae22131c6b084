-- How a transcript is read from its lines.
--   empty n p m           the transcript of a space, before its first session
--   entry s c o fs        an accepted split
--   last_length ss        the number of replies of the session begun last
--   add_reply ss r        the sessions with one reply more in the one begun last
--   takes_session t k     the line of session k may follow
--   takes_reply t r       the reply may follow
--   takes_entry t h w e   the w-th of h entries may follow
--   step s l              what is read after the line l, from what was read before
--   HasField s            where entries are read the characteristic is one of the table
--   finish s              the transcript, where all lines are read
use Rattle.std.specs.Prelude.{◌≡◌, ℕ, ◌+◌, Bool, true, List, [], ◌∷◌, ◌++◌, length, Option, Some, None, ◌==◌, ◌&&◌, nat_le, nat_lt, ◌^◌}
use Rattle.field_table.specs.Table.{is_listed}
use Rattle.op_polynomials.specs.declared.name.OpName.{OpName}
use Rattle.op_polynomials.specs.declared.entry.SplitEntry.{SplitEntry}
use Rattle.script_text.specs.declared.limits.TheConstants.{MAX_SESSIONS, MAX_COMMANDS}
use Rattle.reply_text.specs.declared.limits.TheConstants.{MAX_VERSIONS}
use Rattle.reply_text.specs.declared.transcript.ReplyLine.{ReplyLine}
use Rattle.reply_text.specs.declared.transcript.Transcript.{Transcript}
use Rattle.reply_text.specs.declared.line.Line.{Line}
use Rattle.reply_text.specs.declared.line.Line.TheVariants as lines
use Rattle.reply_text.specs.declared.state.State.{State}
use Rattle.reply_text.specs.declared.state.State.TheVariants as states
use Rattle.reply_text.specs.Lexemes.{where_true}
use Rattle.reply_text.specs.Rules.{is_space, is_written, is_entry, replies_of}

abbrev pub empty : ℕ → ℕ → ℕ → Transcript
empty n p m = record { modulus = n; characteristic = p; symbols = m; sessions = []; history = []; columns = 0 }

abbrev pub entry : ℕ → ℕ → OpName → List ℕ → SplitEntry
entry s c o fs = record { session = s; command = c; op = o; poly = fs }

abbrev pub last_length : List (List ReplyLine) → ℕ
last_length [] = 0
last_length (replies ∷ []) = length replies
last_length (replies ∷ next ∷ sessions) = last_length (next ∷ sessions)

abbrev pub add_reply : List (List ReplyLine) → ReplyLine → List (List ReplyLine)
add_reply [] r = []
add_reply (replies ∷ []) r = (replies ++ r ∷ []) ∷ []
add_reply (replies ∷ next ∷ sessions) r = replies ∷ add_reply (next ∷ sessions) r

abbrev pub takes_session : Transcript → ℕ → Bool
takes_session t k = (k == length t.sessions + 1) && nat_lt (length t.sessions) MAX_SESSIONS

abbrev pub takes_reply : Transcript → ReplyLine → Bool
takes_reply t r =
    nat_lt 0 (length t.sessions) && (r.number == last_length t.sessions + 1) && nat_le r.version MAX_VERSIONS && nat_lt
    (replies_of t.sessions) MAX_COMMANDS

abbrev pub takes_entry : Transcript → ℕ → ℕ → SplitEntry → Bool
takes_entry t h w e = (w == length t.history + 1) && nat_lt (length t.history) h && is_entry t.characteristic e

abbrev pub step : State → Line → Option State
step states.Start lines.Heading = Some states.Opened
step states.Opened (lines.Space n p m) = where_true (is_space n p m) (states.InSessions (empty n p m))
step (states.InSessions t) (lines.Session k) = where_true (takes_session t k) (states.InSessions (record t { sessions = t.sessions ++ [] ∷ [] }))
step (states.InSessions t) (lines.Reply r) =
    where_true (takes_reply t r && is_written r.reply) (states.InSessions (record t { sessions = add_reply t.sessions r }))
step (states.InSessions t) (lines.History h) = where_true (nat_le h MAX_VERSIONS) (states.InHistory t h)
step (states.InHistory t h) (lines.Entry w s c o fs) =
    where_true (takes_entry t h w (entry s c o fs)) (states.InHistory (record t { history = t.history ++ entry s c o fs ∷ [] }) h)
step (states.InHistory t h) (lines.Columns k) = where_true ((length t.history == h) && nat_lt k (2 ^ 64)) (states.Counted (record t { columns = k }))
step (states.Counted t) lines.End = Some (states.Done t)
step s l = None

abbrev pub HasField : State → Type 0
HasField (states.InHistory t h) = is_listed t.characteristic ≡ true
HasField s = Unit {0}

abbrev pub finish : State → Option Transcript
finish (states.Done t) = Some t
finish s = None
