-- The legal transcripts of a script, whatever wrote them; g is a ground: a level and a characteristic.
--   script_ground script        the ground that a script's header names
--   IsReplyLine g history l r   r is the reply line of a numbered command line l: its number, a version of the history, and the reply
--                               after the history up to that version, or want of memory
--   AreReplyLines g history ls rs
--                               the reply lines of the command lines of a session, which are numbered from 1
--   Follows r s                 the reply line s can stand after r in a session: versions do not fall, and they grow after an accepted split
--   IsAnsweredBy script t s c l r
--                               in the transcript r is the reply line of the command line l, which is number c of session s, both from 0
--   IsEntry g s text r e        e is the entry of the accepted split r: session s, its command, and the operator and the polynomial of the text
--   EntersHistory g history s text r
--                               the history has the entry of the accepted split r at its version
--   IsLegalTranscript script t  a transcript of the script:
--     modulus .. symbol_count   its level, its characteristic and the number of symbols
--     sessions                  the reply lines of each session
--     few                       the history has at most MAX_VERSIONS entries
--     rising                    versions in each session
--     entered                   each accepted split is an entry of the history
--     entries                   each entry of the history is that of an accepted split
--   HoldsDemand g pairs l r     the pairs that a command line demands at the version of its reply line are among these pairs, where its reply
--                               is not want of memory
--   CountsColumns script t      its number of columns is that of some distinct pairs: each is demanded by a line, and each that is
--                               demanded by a line whose reply is not want of memory is there
--   IsLegalRun script t         a legal transcript that counts its columns
--   HasNoMemory t               no reply is want of memory
--   ColumnsAreDemanded          then a legal run whose history has fewer than MAX_VERSIONS entries counts the distinct pairs that its
--                               commands demand
use Rattle.std.specs.Prelude.{◌≡◌, ◌≢◌, ℕ, ℤ, ◌+◌, ◌<◌, ◌≤◌, ◌⊎◌, List, length, map, take, All, Some, Ok, slice_get}
use Rattle.std.specs.List.{AllPairs, AllZip, IsDistinct, enumerate_from}
use Rattle.std.specs.Set.{distinct_count}
use Rattle.linear_algebra.specs.Integers.{residue_of}
use Rattle.p1_normal.specs.Points.{symbols}
use Rattle.quotient_coords.specs.Quotient.{Ground, ground_of}
use Rattle.op_polynomials.specs.declared.entry.SplitEntry.{SplitEntry}
use Rattle.script_text.specs.declared.command.Command.TheVariants.{Split}
use Rattle.script_text.specs.Commands.{command_of}
use Rattle.script_text.specs.Numbered.{NumberedLine}
use Rattle.script_text.specs.Valid.{ScriptText}
use Rattle.reply_text.specs.declared.reply.Reply.TheVariants as replies
use Rattle.reply_text.specs.declared.transcript.ReplyLine.{ReplyLine}
use Rattle.reply_text.specs.declared.transcript.Transcript.{Transcript}
use Rattle.reply_text.specs.declared.limits.TheConstants.{MAX_VERSIONS}
use Rattle.session_core.specs.Replies.{IsReply, IsAccepted}
use Rattle.session_core.specs.Demands.{is_pair, Has, HasAll, line_demand, script_demand}

abbrev pub script_ground : ScriptText → Ground
script_ground script = ground_of script.space.modulus script.space.characteristic

pub record IsReplyLine (g : Ground) (history : List SplitEntry) (line : ℕ × NumberedLine) (r : ReplyLine) : Type 0 where
  pub numbered : r.number ≡ line.0
  pub version : r.version ≤ length history
  pub reply : IsReply g (take r.version history) line.1.text r.reply ⊎ (r.reply ≡ replies.Memory)

abbrev pub AreReplyLines : Ground → List SplitEntry → List NumberedLine → List ReplyLine → Type 0
AreReplyLines g history lines told = AllZip (IsReplyLine g history) (enumerate_from 1 lines) told

pub record Follows (r s : ReplyLine) : Type 0 where
  pub no_earlier : r.version ≤ s.version
  pub after_split : IsAccepted r.reply → r.version < s.version

pub record IsAnsweredBy (script : ScriptText) (t : Transcript) (s c : ℕ) (line : NumberedLine) (r : ReplyLine) : Type 0 where
  pub lines : List NumberedLine
  pub told : List ReplyLine
  pub session : slice_get script.sessions s ≡ Some lines
  pub session_told : slice_get t.sessions s ≡ Some told
  pub command : slice_get lines c ≡ Some line
  pub command_told : slice_get told c ≡ Some r

pub record IsEntry (g : Ground) (s : ℕ) (text : List ℕ) (r : ReplyLine) (e : SplitEntry) : Type 0 where
  pub accepted : IsAccepted r.reply
  pub session : e.session ≡ s
  pub command : e.command ≡ r.number
  pub coefficients : List ℤ
  pub split : command_of text ≡ Ok (Split e.op coefficients)
  pub polynomial : e.poly ≡ map (residue_of g.characteristic) coefficients

pub record EntersHistory (g : Ground) (history : List SplitEntry) (s : ℕ) (text : List ℕ) (r : ReplyLine) : Type 0 where
  pub entry : SplitEntry
  pub at_version : slice_get history r.version ≡ Some entry
  pub is_entry : IsEntry g s text r entry

pub record IsLegalTranscript (script : ScriptText) (t : Transcript) : Type 0 where
  pub modulus : t.modulus ≡ script.space.modulus
  pub characteristic : t.characteristic ≡ script.space.characteristic
  pub symbol_count : t.symbols ≡ length (symbols script.space.modulus)
  pub sessions : AllZip (AreReplyLines (script_ground script) t.history) script.sessions t.sessions
  pub few : length t.history ≤ MAX_VERSIONS
  pub rising : All (AllPairs Follows) t.sessions
  pub entered : (s c : ℕ) (line : NumberedLine) (r : ReplyLine) → IsAnsweredBy script t s c line r → IsAccepted r.reply →
      EntersHistory (script_ground script) t.history (s + 1) line.text r
  pub entries : (w : ℕ) (e : SplitEntry) → slice_get t.history w ≡ Some e →
      (s : ℕ) × (c : ℕ) × (line : NumberedLine) × (r : ReplyLine) × IsAnsweredBy script t s c line r
      × (r.version ≡ w) × IsEntry (script_ground script) (s + 1) line.text r e

abbrev pub HoldsDemand : Ground → List (ℕ × ℕ) → NumberedLine → ReplyLine → Type 0
HoldsDemand g pairs line r = r.reply ≢ replies.Memory → HasAll pairs (line_demand g r.version line.text)

pub record CountsColumns (script : ScriptText) (t : Transcript) : Type 0 where
  pub pairs : List (ℕ × ℕ)
  pub distinct : IsDistinct is_pair pairs
  pub counted : t.columns ≡ length pairs
  pub only : (q : ℕ × ℕ) → Has pairs q → Has (script_demand (script_ground script) script.sessions) q
  pub held : AllZip (AllZip (HoldsDemand (script_ground script) pairs)) script.sessions t.sessions

pub record IsLegalRun (script : ScriptText) (t : Transcript) : Type 0 where
  pub legal : IsLegalTranscript script t
  pub columns : CountsColumns script t

abbrev pub HasNoMemory : Transcript → Type 0
HasNoMemory t = All (λ told. All (λ r. r.reply ≢ replies.Memory) told) t.sessions

abbrev pub ColumnsAreDemanded : Type 0
ColumnsAreDemanded = (script : ScriptText) (t : Transcript) → IsLegalRun script t → HasNoMemory t → length t.history < MAX_VERSIONS
    → t.columns ≡ distinct_count is_pair (script_demand (script_ground script) script.sessions)
