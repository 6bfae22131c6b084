-- The reading of the lines of a script, one line more.
use Rattle.std.proofs.Common.{◌≡◌, ℕ, None, ◌+◌, ◌<◌, Bool, true, false, cond, not, List, [], ◌∷◌, ◌++◌, length, Ok, refl, sym, ap, ◌∙◌, arith, length-append}
use Rattle.std.specs.List.{list_all, count_by}
use Rattle.std.proofs.lemmas.List.Sums.{sum_by-append}
use Rattle.text_lines.specs.Lines.{tokens}
use Rattle.script_text.specs.declared.reading.Begun.{Begun}
use Rattle.script_text.specs.declared.limits.TheConstants.{MAX_SESSIONS, MAX_COMMANDS}
use Rattle.script_text.specs.Numbered.{NumberedLine}
use Rattle.script_text.specs.Scripts.{is_plain, is_session, later_cause, cause_after}
use Rattle.script_text.specs.Reading.{IsBegun, with_line}
use Rattle.script_text.proofs.SessionLemmas.{sessions_of-session, sessions_of-line, length-with_line, command_count-with_line, command_count-session}

-- one line more that passes the test, and one that doesn't
count_by-yes : (p : NumberedLine → Bool) (lines : List NumberedLine) (line : NumberedLine) → p line ≡ true
    → count_by p (lines ++ line ∷ []) ≡ count_by p lines + 1
count_by-yes p lines line passes = sum_by-append (λ l. cond (p l) 1 0) lines (line ∷ []) ∙ rw passes (omega arith)

count_by-no : (p : NumberedLine → Bool) (lines : List NumberedLine) (line : NumberedLine) → p line ≡ false
    → count_by p (lines ++ line ∷ []) ≡ count_by p lines
count_by-no p lines line fails = sum_by-append (λ l. cond (p l) 1 0) lines (line ∷ []) ∙ rw fails (omega arith)

-- why a line after the header is refused hangs on the counts alone
pub cause_after-begun : (begun : Begun) (before : List NumberedLine) (line : NumberedLine) → list_all is_plain line.text ≡ true → IsBegun begun before
    → cause_after before line ≡ later_cause (length begun.sessions.items) begun.commands (tokens line.text)
cause_after-begun begun before line plain is = rw (is.are, plain, is.session_count, is.command_lines) refl

-- the same of the number of sessions as it was counted, and of the tokens as they were split
pub later_cause-begun : (begun : Begun) (count : ℕ) (words split : List (List ℕ)) → count ≡ length begun.sessions.items → words ≡ split
    → later_cause count begun.commands split ≡ None → later_cause (length begun.sessions.items) begun.commands words ≡ None
later_cause-begun begun count words split counted is none = rw (is, ← counted) none

pub begun-session : (old new : Begun) (before : List NumberedLine) (line : NumberedLine) → IsBegun old before → is_session line ≡ true
    → length old.sessions.items < MAX_SESSIONS
    → new.space ≡ old.space → new.sessions.items ≡ old.sessions.items ++ [] ∷ [] → new.commands ≡ old.commands → IsBegun new (before ++ line ∷ [])
begun-session old new before line is begins few space sessions commands = record {
  first = is.first;
  later = is.later ++ line ∷ [];
  are = ap (λ ls. ls ++ line ∷ []) is.are;
  space = is.space ∙ ap (λ s. Ok s) (sym space);
  sessions = sessions ∙ rw is.sessions (sym (sessions_of-session is.later line begins));
  session_count = rw sessions
      (omega (arith, length-append old.sessions.items ([] ∷ []), count_by-yes is_session is.later line begins, is.session_count));
  command_lines = commands ∙ is.command_lines ∙ sym (count_by-no (λ l. not (is_session l)) is.later line (ap not begins));
  commands = rw (sessions, commands) (command_count-session old.sessions.items ∙ is.commands);
  few_sessions = rw sessions (omega (arith, length-append old.sessions.items ([] ∷ []), few));
  few_commands = rw commands is.few_commands;
}

pub begun-line : (old new : Begun) (before : List NumberedLine) (line : NumberedLine) → IsBegun old before → is_session line ≡ false
    → 0 < length old.sessions.items → old.commands < MAX_COMMANDS
    → new.space ≡ old.space → new.sessions.items ≡ with_line old.sessions.items line → new.commands ≡ old.commands + 1
    → IsBegun new (before ++ line ∷ [])
begun-line old new before line is begins some few space sessions commands = record {
  first = is.first;
  later = is.later ++ line ∷ [];
  are = ap (λ ls. ls ++ line ∷ []) is.are;
  space = is.space ∙ ap (λ s. Ok s) (sym space);
  sessions = sessions ∙ rw is.sessions (sym (sessions_of-line is.later line begins (rw is.sessions at some)));
  session_count = rw (sessions, length-with_line) (is.session_count ∙ sym (count_by-no is_session is.later line begins));
  command_lines = commands ∙ ap (λ n. n + 1) is.command_lines ∙ sym (count_by-yes (λ l. not (is_session l)) is.later line (ap not begins));
  commands = rw (sessions, commands) (command_count-with_line old.sessions.items line some ∙ ap (λ n. n + 1) is.commands);
  few_sessions = rw (sessions, length-with_line) is.few_sessions;
  few_commands = rw commands (omega (arith, few));
}
