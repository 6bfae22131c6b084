-- Which texts are scripts, what a script is read as, and the first line that breaks a rule.
--   numbered n ls          the lines ls with the numbers from n on, each without its carriage return
--   is_comment word        the word begins with #
--   is_skipped line        the line is blank, or its first token is a comment's; is_skipped_text ws of its tokens ws
--   significant text       the lines of a text that aren't skipped, with their numbers in it
--   significant_from n ls  the same of the lines ls, of which the first has the number n
--   is_plain b             b is a tab, or a byte from the space to the tilde
--   header ws              the space of the first significant line, or why it is none; ws are its tokens
--   is_session line        the line's first token is `session`; begins_session ws of its tokens ws
--   sessions_of ls         the lists of the lines between session lines and after the last of them
--   later_cause s c ws     why a later line is refused, after s session lines and c command lines; ws are its tokens
--   cause_of h             why a header is refused, if it is
--   cause_by_tokens ls ws  why a line of plain bytes with the tokens ws is refused, after the significant lines ls
--   cause_after ls line    why a significant line is refused, after the significant lines ls
--   fault_or line c f      the fault of the line, if it has the cause c, else the fault f of the lines after it
--   first_fault ls ms      the fault of the first of the lines ms that breaks a rule after those before it, which begin with ls
--   with_sessions h ss     the script of a header and sessions
--   unless_fault f s       the fault, if there is one, else the script
--   script_from n ls       what the significant lines ls of a text of n lines are read as
--   script_of text         the script that the text is, or the fault of its first line that breaks a rule
--   AnswersScript result read   the result is what is read, but where memory ran out
use Rattle.std.specs.Prelude.{◌≡◌, ℕ, suc, ◌+◌, Bool, true, false, not, List, [], ◌∷◌, ◌++◌, length, filter, count_by, drop, Option, Some, None, Result, Ok, Err, codes, ◌==◌, ◌&&◌, ◌||◌, nat_le, nat_lt, if◌then◌else◌}
use Rattle.std.specs.List.{list_all, slice_split}
use Rattle.std.specs.Str.{bytes_eq}
use Rattle.text_lines.specs.Lines.{lines, tokens, without_return}
use Rattle.text_lines.specs.Numbers.{is_natural, natural_of}
use Rattle.field_table.specs.Table.{is_listed}
use Rattle.p1_normal.specs.declared.level.TheConstants.{MAX_LEVEL}
use Rattle.script_text.specs.declared.limits.TheConstants.{MAX_SESSIONS, MAX_COMMANDS}
use Rattle.script_text.specs.declared.space.SpaceLine.{SpaceLine}
use Rattle.script_text.specs.declared.script_fault.ScriptCause.{ScriptCause}
use Rattle.script_text.specs.declared.script_fault.ScriptCause.TheVariants as causes
use Rattle.script_text.specs.declared.script_fault.ScriptFault.{ScriptFault}
use Rattle.script_text.specs.declared.script_fault.ScriptFault.TheVariants as faults
use Rattle.script_text.specs.Numbered.{NumberedLine}
use Rattle.script_text.specs.Valid.{ScriptText}

abbrev pub numbered : ℕ → List (List ℕ) → List NumberedLine
numbered n [] = []
numbered n (text ∷ texts) = record { line = n; text = without_return text } ∷ numbered (suc n) texts

abbrev pub is_comment : List ℕ → Bool
is_comment [] = false
is_comment (b ∷ word) = b == 35

abbrev pub is_skipped_text : List (List ℕ) → Bool
is_skipped_text [] = true
is_skipped_text (word ∷ words) = is_comment word

abbrev pub is_skipped : NumberedLine → Bool
is_skipped line = is_skipped_text (tokens line.text)

abbrev pub significant_from : ℕ → List (List ℕ) → List NumberedLine
significant_from n texts = filter (λ line. not (is_skipped line)) (numbered n texts)

abbrev pub significant : List ℕ → List NumberedLine
significant text = significant_from 1 (lines text)

abbrev pub is_plain : ℕ → Bool
is_plain b = (b == 9) || (nat_le 32 b && nat_le b 126)

abbrev pub header : List (List ℕ) → Result SpaceLine ScriptCause
header [] = Err causes.Header
header (a ∷ []) = Err causes.Header
header (a ∷ b ∷ []) = Err causes.Header
header (word ∷ n ∷ p ∷ []) =
    if not (bytes_eq word (codes "space") && is_natural n && is_natural p) then Err causes.Header
    else if not (nat_le 1 (natural_of n) && nat_le (natural_of n) MAX_LEVEL) then Err causes.Level
    else if not (is_listed (natural_of p)) then Err causes.Characteristic
    else Ok (record { modulus = natural_of n; characteristic = natural_of p })
header (a ∷ b ∷ c ∷ d ∷ more) = Err causes.Header

abbrev pub begins_session : List (List ℕ) → Bool
begins_session [] = false
begins_session (word ∷ words) = bytes_eq word (codes "session")

abbrev pub is_session : NumberedLine → Bool
is_session line = begins_session (tokens line.text)

abbrev pub sessions_of : List NumberedLine → List (List NumberedLine)
sessions_of later = drop 1 (slice_split is_session later)

abbrev pub later_cause : ℕ → ℕ → List (List ℕ) → Option ScriptCause
later_cause sessions commands words =
    if begins_session words then
    (if nat_lt 1 (length words) then Some causes.Session
    else if nat_le MAX_SESSIONS sessions then Some causes.Sessions
    else None)
    else if sessions == 0 then Some causes.NoSession
    else if nat_le MAX_COMMANDS commands then Some causes.Commands
    else None

abbrev pub cause_of : Result SpaceLine ScriptCause → Option ScriptCause
cause_of (Ok space) = None
cause_of (Err cause) = Some cause

abbrev pub cause_by_tokens : List NumberedLine → List (List ℕ) → Option ScriptCause
cause_by_tokens [] words = cause_of (header words)
cause_by_tokens (first ∷ later) words = later_cause (count_by is_session later) (count_by (λ line. not (is_session line)) later) words

abbrev pub cause_after : List NumberedLine → NumberedLine → Option ScriptCause
cause_after before line = if list_all is_plain line.text then cause_by_tokens before (tokens line.text) else Some causes.Byte

abbrev pub fault_or : NumberedLine → Option ScriptCause → Option ScriptFault → Option ScriptFault
fault_or line None others = others
fault_or line (Some cause) others = Some (faults.BadScript line.line cause)

abbrev pub first_fault : List NumberedLine → List NumberedLine → Option ScriptFault
first_fault before [] = None
first_fault before (line ∷ later) = fault_or line (cause_after before line) (first_fault (before ++ line ∷ []) later)

abbrev pub with_sessions : Result SpaceLine ScriptCause → List (List NumberedLine) → ScriptText
with_sessions (Ok space) sessions = record { space = space; sessions = sessions }
with_sessions (Err cause) sessions = record { space = record { modulus = 0; characteristic = 0 }; sessions = sessions }

abbrev pub unless_fault : Option ScriptFault → ScriptText → Result ScriptText ScriptFault
unless_fault None script = Ok script
unless_fault (Some fault) script = Err fault

abbrev pub script_from : ℕ → List NumberedLine → Result ScriptText ScriptFault
script_from n [] = Err (faults.BadScript (n + 1) causes.Header)
script_from n (first ∷ later) = unless_fault (first_fault [] (first ∷ later)) (with_sessions (header (tokens first.text)) (sessions_of later))

unfoldable pub script_of : List ℕ → Result ScriptText ScriptFault
script_of text = script_from (length (lines text)) (significant text)

abbrev pub AnswersScript : Result ScriptText ScriptFault → Result ScriptText ScriptFault → Type 0
AnswersScript (Ok script) read = read ≡ Ok script
AnswersScript (Err faults.OutOfMemory) read = Unit {0}
AnswersScript (Err (faults.BadScript line cause)) read = read ≡ Err (faults.BadScript line cause)
