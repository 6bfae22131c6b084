-- What a run leaves behind; R tells which transcripts are a run of a script.
--   are_word words w   the words of the command line are the one word w
--   is_seed digits     1 to 20 digits, leading zeros allowed, of a number below 2 to the 64
--   seed_of words      the number that follows the word gen, where the words are these two
--   Stream             the bytes that a source has left or that a sink has taken, where it tells them
--   KeepsCounts ..     the input's count of faults stands unless the status is ReadFault, and the output's unless it is WriteFault
--   Writes R bytes P   the bytes are a script, and P holds of the text of a run of it, in whose history each version is a stable direct sum of the whole
--                      space that refines the one before it
--   ReadsScript ..     the script of an input or the status of a run without one, from the stream and its count of faults before and after:
--     script           the bytes that were left are that script, and the input was read to its end
--     status           it is one of ReadFault, TooLong, BadScript and OutOfMemory, with what `LeavesRun` says of each
--     faultless        with each end but ReadFault the count of faults stands
--   WritesTranscript ..  a text was appended and the count of faults stands (Done), or a part of it and the count rose (WriteFault)
--   LeavesRun R ..     what a run leaves, from the streams and their counts of faults before and after, and its status:
--     done             the text of a run of the script that was left was appended
--     ended            the input was read to its end, also where it is no script
--     write_fault      the output's count rose, and a part of such a text was appended
--     read_fault       the input's count rose
--     too_long         more bytes than MAX_INPUT were taken, exactly
--     bad_script       the bytes that were left are no script: the first line that breaks a rule, and why
--     nothing          nothing is written with another status
--     words            the status is not that of other words
--     reads, writes    no count of faults falls
--     faultless        each stands unless the status tells of its fault
--   LeavesUnread ..    the streams as they were
--   Sums seed P        P holds of the summary of a run of the script that is made from the seed, in whose history each version is a stable direct sum
--                      as above
--   LeavesSummary ..   what a run of that script leaves, from the stream that it is told to and its count of faults before and after, and its status:
--     done             the summary of a run was appended
--     part             a part of such a summary was appended
--     write_fault      the count rose
--     nothing          nothing is written for want of memory
--     outcome          there is no other status
--     writes           the count does not fall
--     faultless        it stands unless the status is WriteFault
use Rattle.std.specs.Prelude.{◌≡◌, ◌≢◌, ◌⊎◌, ℕ, ◌^◌, ◌≤◌, Bool, false, ◌&&◌, if◌then◌else◌, nat_le, nat_lt, codes, List, [], ◌∷◌, length, Option, Some, None, IfSome, Result, Ok, Err, OnOk, IfOk, IfErr, string_bytes, String}
use Rattle.std.specs.Global.{Global}
use Rattle.std.specs.Io.KnownBytes.{Appends, Keeps, IsAtEnd}
use Rattle.std.specs.Str.{bytes_eq}
use Rattle.text_lines.specs.Numbers.{is_natural, natural_of}
use Rattle.sym_io.specs.Causes.{Rose}
use Rattle.sym_io.specs.Reading.{TakesWithin}
use Rattle.sym_io.specs.Writing.{AppendsPart}
use Rattle.script_text.specs.declared.script_fault.ScriptCause.{ScriptCause}
use Rattle.script_text.specs.declared.script_fault.ScriptFault.TheVariants as faults
use Rattle.script_text.specs.Draws.{generated}
use Rattle.script_text.specs.Scripts.{script_of}
use Rattle.script_text.specs.Valid.{ScriptText}
use Rattle.reply_text.specs.declared.transcript.Transcript.{Transcript}
use Rattle.reply_text.specs.Summaries.{summary_text}
use Rattle.reply_text.specs.Transcripts.{transcript_text}
use Rattle.session_core.specs.Histories.{VersionsAreSplittings}
use Rattle.session_core.specs.Transcripts.{IsLegalRun, script_ground}
use Rattle.host_workers.specs.declared.status.Status.{Status}
use Rattle.host_workers.specs.declared.status.Status.TheVariants.{Done, Usage, ReadFault, WriteFault, TooLong, BadScript, OutOfMemory}
use Rattle.host_workers.specs.declared.status.TheConstants.{MAX_INPUT}

abbrev pub Stream : Type 0
Stream = Option (List ℕ)

pub record KeepsCounts (read_before read_after write_before write_after : ℕ) (status : Status) : Type 0 where
  pub reads : status ≢ ReadFault → read_after ≡ read_before
  pub writes : status ≢ WriteFault → write_after ≡ write_before

pub record Writes (IsRun : ScriptText → Transcript → Type 0) (bytes : List ℕ) (P : List ℕ → Type 0) : Type 0 where
  pub script : ScriptText
  pub is_script : script_of bytes ≡ Ok script
  pub transcript : Transcript
  pub is_run : IsRun script transcript
  pub versions : VersionsAreSplittings (script_ground script) transcript.history
  pub text : P (transcript_text transcript)

pub record ReadsScript (left_before left_after : Stream) (read_before read_after : ℕ) (result : Result ScriptText Status) : Type 0 where
  pub script : IfOk result (λ script. IfSome left_before (λ bytes. script_of bytes ≡ Ok script))
  pub ended : OnOk result (IsAtEnd left_after)
  pub bad_ended : (line : ℕ) (cause : ScriptCause) → result ≡ Err (BadScript line cause) → IsAtEnd left_after
  pub read_fault : result ≡ Err ReadFault → Rose read_before read_after
  pub too_long : TakesWithin left_before left_after MAX_INPUT (result ≡ Err TooLong)
  pub bad_script : (line : ℕ) (cause : ScriptCause) → result ≡ Err (BadScript line cause)
      → IfSome left_before (λ bytes. script_of bytes ≡ Err (faults.BadScript line cause))
  pub status : IfErr result (λ status. (status ≢ Done) × (status ≢ WriteFault) × (status ≢ Usage))
  pub reads : read_before ≤ read_after
  pub faultless : result ≢ Err ReadFault → read_after ≡ read_before

pub record WritesTranscript (written_before written_after : Stream) (write_before write_after : ℕ) (transcript : Transcript) (status : Status) : Type 0 where
  pub done : status ≡ Done → Appends written_before written_after (transcript_text transcript)
  pub part : status ≡ WriteFault → AppendsPart written_before written_after (transcript_text transcript)
  pub write_fault : status ≡ WriteFault → Rose write_before write_after
  pub outcome : (status ≡ Done) ⊎ (status ≡ WriteFault)
  pub writes : write_before ≤ write_after
  pub faultless : status ≢ WriteFault → write_after ≡ write_before

pub record LeavesUnread (left_before left_after written_before written_after : Stream) (read_before read_after write_before write_after : ℕ) : Type 0 where
  pub left : left_after ≡ left_before
  pub written : written_after ≡ written_before
  pub reads : read_after ≡ read_before
  pub writes : write_after ≡ write_before

pub record LeavesRun (IsRun : ScriptText → Transcript → Type 0) (left_before left_after written_before written_after : Stream)
    (read_before read_after write_before write_after : ℕ) (status : Status) : Type 0 where
  pub done : status ≡ Done → IfSome left_before (λ bytes. Writes IsRun bytes (λ text. Appends written_before written_after text))
  pub ended : status ≡ Done → IsAtEnd left_after
  pub bad_ended : (line : ℕ) (cause : ScriptCause) → status ≡ BadScript line cause → IsAtEnd left_after
  pub write_fault : status ≡ WriteFault → Rose write_before write_after
  pub part : status ≡ WriteFault → IfSome left_before (λ bytes. Writes IsRun bytes (λ text. AppendsPart written_before written_after text))
  pub read_fault : status ≡ ReadFault → Rose read_before read_after
  pub too_long : TakesWithin left_before left_after MAX_INPUT (status ≡ TooLong)
  pub bad_script : (line : ℕ) (cause : ScriptCause) → status ≡ BadScript line cause
      → IfSome left_before (λ bytes. script_of bytes ≡ Err (faults.BadScript line cause))
  pub words : status ≢ Usage
  pub nothing : status ≢ Done → status ≢ WriteFault → Keeps written_before written_after
  pub reads : read_before ≤ read_after
  pub writes : write_before ≤ write_after
  pub faultless : KeepsCounts read_before read_after write_before write_after status

abbrev pub are_word : List (String Global) → List ℕ → Bool
are_word [] w = false
are_word (word ∷ []) w = bytes_eq (string_bytes word) w
are_word (word ∷ next ∷ words) w = false

abbrev pub is_seed : List ℕ → Bool
is_seed digits = is_natural digits && nat_le (length digits) 20 && nat_lt (natural_of digits) (2 ^ 64)

abbrev pub seed_of : List (String Global) → Option ℕ
seed_of [] = None
seed_of (word ∷ []) = None
seed_of (word ∷ number ∷ []) =
    if bytes_eq (string_bytes word) (codes "gen") && is_seed (string_bytes number) then Some (natural_of (string_bytes number)) else None
seed_of (word ∷ number ∷ next ∷ words) = None

pub record Sums (seed : ℕ) (P : List ℕ → Type 0) : Type 0 where
  pub transcript : Transcript
  pub is_run : IsLegalRun (generated seed) transcript
  pub versions : VersionsAreSplittings (script_ground (generated seed)) transcript.history
  pub text : P (summary_text seed transcript)

pub record LeavesSummary (seed : ℕ) (written_before written_after : Stream) (write_before write_after : ℕ) (status : Status) : Type 0 where
  pub done : status ≡ Done → Sums seed (λ text. Appends written_before written_after text)
  pub part : status ≡ WriteFault → Sums seed (λ text. AppendsPart written_before written_after text)
  pub write_fault : status ≡ WriteFault → Rose write_before write_after
  pub nothing : status ≡ OutOfMemory → Keeps written_before written_after
  pub outcome : (status ≡ Done) ⊎ ((status ≡ WriteFault) ⊎ (status ≡ OutOfMemory))
  pub writes : write_before ≤ write_after
  pub faultless : status ≢ WriteFault → write_after ≡ write_before
