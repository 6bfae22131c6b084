-- What the program leaves, from its arguments to its exit status.
--   Arguments               the arguments with the program's own name first, or why they can't be had
--   HasWords arguments ws   ws are the words after the name
--   fault_status arguments  the status where there are no words: Usage where an argument is no text, OutOfMemory for want of memory
--   RunsAs words ..         what `run` says of the words, of the streams with their counts of faults before and after, and of the status
--   HasRun arguments ..     the words after the name were run, or there are none and nothing is read or written
--   Tells ..                the line of a status was appended, or a part of it and the count of faults rose
--   EndsWith arguments ..   a run of the words, or the status for the want of them, was told, and the exit status is its number:
--     status                the status
--     ran                   it is that of a run of the words, or of the want of them
--     told                  its line was written to the stream for errors
--     number_is             the exit status is its number
use Rattle.std.specs.Prelude.{◌≡◌, ◌⊎◌, ◌↔◌, ◌≤◌, ℕ, List, codes, true, false, None, Some, Result, Ok, Err, drop, String}
use Rattle.std.specs.Global.{Global}
use Rattle.std.specs.Io.KnownBytes.{Appends}
use Rattle.std.specs.IoError.{error_kind}
use Rattle.std.specs.Vec.Iter.{into_iter_items}
use Rattle.std.specs.declared.io.Error.{Error}
use Rattle.std.specs.declared.io.ErrorKind.{ErrorKind}
use Rattle.std.specs.declared.io.ErrorKind.TheVariants as kinds
use Rattle.std.specs.declared.vec.IntoIter.{IntoIter}
use Rattle.sym_io.specs.Causes.{Rose}
use Rattle.sym_io.specs.Writing.{AppendsPart}
use Rattle.session_core.specs.SoloRuns.{IsSoloRun}
use Rattle.session_core.specs.Transcripts.{IsLegalRun}
use Rattle.host_workers.specs.Runs.{Stream, KeepsCounts, LeavesRun, LeavesSummary, LeavesUnread, are_word, seed_of}
use Rattle.host_workers.specs.Statuses.{exit_number, status_line}
use Rattle.host_workers.specs.declared.status.Status.{Status}
use Rattle.host_workers.specs.declared.status.Status.TheVariants.{Usage, OutOfMemory}

abbrev pub Arguments : Type 0
Arguments = Result (IntoIter (String Global) Global) Error

abbrev pub HasWords : Arguments → List (String Global) → Type 0
HasWords (Ok all) words = words ≡ drop 1 (into_iter_items all)
HasWords (Err fault) words = ⊥

abbrev pub status_of : ErrorKind → Status
status_of kinds.OutOfMemory = OutOfMemory
status_of kind = Usage

abbrev pub fault_status : Arguments → Status
fault_status (Ok all) = OutOfMemory
fault_status (Err fault) = status_of (error_kind fault)

pub record RunsAs (words : List (String Global)) (left_before left_after written_before written_after : Stream)
    (read_before read_after write_before write_after : ℕ) (status : Status) : Type 0 where
  pub usage : status ≡ Usage ↔ ((are_word words (codes "solo") ≡ false) × (are_word words (codes "serve") ≡ false) × (seed_of words ≡ None))
  pub unread : status ≡ Usage
      → LeavesUnread left_before left_after written_before written_after read_before read_after write_before write_after
  pub solo : are_word words (codes "solo") ≡ true
      → LeavesRun IsSoloRun left_before left_after written_before written_after read_before read_after write_before write_after status
  pub serve : are_word words (codes "serve") ≡ true
      → LeavesRun IsLegalRun left_before left_after written_before written_after read_before read_after write_before write_after status
  pub generated : (seed : ℕ) → seed_of words ≡ Some seed → (left_after ≡ left_before) × (read_after ≡ read_before)
      × LeavesSummary seed written_before written_after write_before write_after status
  pub faultless : KeepsCounts read_before read_after write_before write_after status

abbrev pub HasRun : Arguments → Stream → Stream → Stream → Stream → ℕ → ℕ → ℕ → ℕ → Status → Type 0
HasRun arguments left_before left_after written_before written_after read_before read_after write_before write_after status =
    ((words : List (String Global)) × HasWords arguments words
    × RunsAs words left_before left_after written_before written_after read_before read_after write_before write_after status)
    ⊎ ((status ≡ fault_status arguments)
    × LeavesUnread left_before left_after written_before written_after read_before read_after write_before write_after)

pub record Tells (line : List ℕ) (told_before told_after : Stream) (faults_before faults_after : ℕ) : Type 0 where
  pub line_or_fault : Appends told_before told_after line ⊎ Rose faults_before faults_after
  pub part : AppendsPart told_before told_after line
  pub later : faults_before ≤ faults_after

pub record EndsWith (arguments : Arguments) (left_before left_after written_before written_after told_before told_after : Stream)
    (read_before read_after write_before write_after tell_before tell_after : ℕ) (number : ℕ) : Type 0 where
  pub status : Status
  pub ran : HasRun arguments left_before left_after written_before written_after read_before read_after write_before write_after status
  pub told : Tells (status_line status) told_before told_after tell_before tell_after
  pub number_is : number ≡ exit_number status
