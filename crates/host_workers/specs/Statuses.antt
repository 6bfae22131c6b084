-- How a run ends.
--   cause_word c     the word of a cause for which a script is refused
--   exit_number s    the exit status of the program
--   IsPlain s        the status is no BadScript: its line has no numbers
--   status_line s    the line that tells the user of it, with its line end; none for Done
use Rattle.std.specs.Prelude.{ℕ, List, [], ◌∷◌, ◌++◌, codes, decimal}
use Rattle.script_text.specs.declared.script_fault.ScriptCause.{ScriptCause}
use Rattle.script_text.specs.declared.script_fault.ScriptCause.TheVariants as causes
use Rattle.host_workers.specs.declared.status.Status.{Status}
use Rattle.host_workers.specs.declared.status.Status.TheVariants as statuses

abbrev pub cause_word : ScriptCause → List ℕ
cause_word causes.Byte = codes "Byte"
cause_word causes.Header = codes "Header"
cause_word causes.Level = codes "Level"
cause_word causes.Characteristic = codes "Characteristic"
cause_word causes.Session = codes "Session"
cause_word causes.Sessions = codes "Sessions"
cause_word causes.NoSession = codes "NoSession"
cause_word causes.Commands = codes "Commands"

abbrev pub exit_number : Status → ℕ
exit_number statuses.Done = 0
exit_number statuses.Usage = 2
exit_number statuses.ReadFault = 3
exit_number statuses.WriteFault = 4
exit_number (statuses.BadScript line cause) = 5
exit_number statuses.TooLong = 6
exit_number statuses.OutOfMemory = 7

abbrev pub status_line : Status → List ℕ
status_line statuses.Done = []
status_line statuses.Usage = codes "usage: symbol_cli solo, serve, or gen and a number" ++ 10 ∷ []
status_line statuses.ReadFault = codes "read fault" ++ 10 ∷ []
status_line statuses.WriteFault = codes "write fault" ++ 10 ∷ []
status_line (statuses.BadScript line cause) = codes "bad script at line " ++ decimal line ++ codes ": " ++ cause_word cause ++ 10 ∷ []
status_line statuses.TooLong = codes "input too long" ++ 10 ∷ []
status_line statuses.OutOfMemory = codes "out of memory" ++ 10 ∷ []

abbrev pub IsPlain : Status → Type 0
IsPlain (statuses.BadScript line cause) = ⊥
IsPlain status = Unit {0}
