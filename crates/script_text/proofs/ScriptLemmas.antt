-- Reading the lines of a text, one after the other.
use Rattle.std.proofs.Common.{◌≡◌, ℕ, suc, ◌+◌, ◌<◌, ◌≤◌, Bool, true, false, not, ◌&&◌, if◌then◌else◌, List, [], ◌∷◌, ◌++◌, length, Some, None, Ok, Err, refl, sym, ap, subst, ◌∙◌, arith, add-one, append_assoc, append-nil, nat_le}
use Rattle.std.specs.Prelude.{codes}
use Rattle.std.specs.Str.{bytes_eq}
use Rattle.std.proofs.lemmas.Bool.Decides.{nat_tests}
use Rattle.text_lines.specs.Lines.{lines, tokens, without_return}
use Rattle.text_lines.specs.Numbers.{is_natural, natural_of}
use Rattle.field_table.specs.Table.{is_listed}
use Rattle.p1_normal.specs.declared.level.TheConstants.{MAX_LEVEL}
use Rattle.script_text.specs.declared.space.SpaceLine.{SpaceLine}
use Rattle.script_text.specs.declared.script_fault.ScriptCause.{ScriptCause}
use Rattle.script_text.specs.declared.script_fault.ScriptCause.TheVariants as causes
use Rattle.script_text.specs.declared.script_fault.ScriptFault.{ScriptFault}
use Rattle.script_text.specs.declared.script_fault.ScriptFault.TheVariants as faults
use Rattle.script_text.specs.declared.reading.Begun.{Begun}
use Rattle.script_text.specs.declared.reading.Reading.{Reading}
use Rattle.script_text.specs.declared.reading.Reading.TheVariants as readings
use Rattle.script_text.specs.Numbered.{NumberedLine}
use Rattle.script_text.specs.Valid.{IsSpace, IsScript}
use Rattle.script_text.specs.Scripts.{is_skipped_text, significant_from, significant, first_fault, fault_or, script_from, script_of, header, AnswersScript}
use Rattle.script_text.specs.Reading.{IsBegun, Follows, Reads, Takes}
use Rattle.script_text.proofs.TestLemmas.{both}

-- What is so after some lines: number is that of the next line, and rest are the bytes from it on.
pub record SoFar (reading : Reading) (number : ℕ) (rest bytes : List ℕ) : Type 0 where
  pub before : List NumberedLine
  pub follows : Follows reading before
  pub whole : before ++ significant_from number (lines rest) ≡ significant bytes
  pub fault : first_fault before (significant_from number (lines rest)) ≡ first_fault [] (significant bytes)
  pub counted : number + length (lines rest) ≡ length (lines bytes) + 1
  pub room : number + length rest ≤ length bytes + 1
  pub least : 1 ≤ number

pub at_start : (bytes : List ℕ) → SoFar readings.Start 1 bytes bytes
at_start bytes = record { before = []; follows = refl; whole = refl; fault = refl; counted = omega arith; room = omega arith; least = omega arith }

significant_from-skipped : (n : ℕ) (line : List ℕ) (ls : List (List ℕ)) → is_skipped_text (tokens (without_return line)) ≡ true
    → significant_from n (line ∷ ls) ≡ significant_from (suc n) ls
significant_from-skipped n line ls skipped = rw skipped refl

significant_from-line : (n : ℕ) (line : List ℕ) (ls : List (List ℕ)) → is_skipped_text (tokens (without_return line)) ≡ false
    → significant_from n (line ∷ ls) ≡ record { line = n; text = without_return line } ∷ significant_from (suc n) ls
significant_from-line n line ls kept = rw kept refl

pub skipped : (reading next : Reading) (number : ℕ) (line rest after bytes : List ℕ) → (so : SoFar reading number rest bytes)
    → lines rest ≡ line ∷ lines after → length after < length rest
    → is_skipped_text (tokens (without_return line)) ≡ true → Follows next so.before → SoFar next (number + 1) after bytes
skipped reading next number line rest after bytes so split shorter is follows =
    let same : significant_from number (lines rest) ≡ significant_from (number + 1) (lines after) =
    ap (significant_from number) split ∙ rw add-one (significant_from-skipped number line (lines after) is) in
    record {
      before = so.before;
      follows = follows;
      whole = rw (sym same) so.whole;
      fault = rw (sym same) so.fault;
      counted = omega (arith, so.counted, ap length split);
      room = omega (arith, so.room);
      least = omega arith;
    }

pub kept : (reading next : Reading) (number : ℕ) (line rest after bytes : List ℕ) → (so : SoFar reading number rest bytes)
    → lines rest ≡ line ∷ lines after → length after < length rest
    → is_skipped_text (tokens (without_return line)) ≡ false → Reads so.before (record { line = number; text = without_return line }) (Ok next)
    → SoFar next (number + 1) after bytes
kept reading next number line rest after bytes so split shorter is read =
    let here : NumberedLine = record { line = number; text = without_return line } in
    let same : significant_from number (lines rest) ≡ here ∷ significant_from (number + 1) (lines after) =
    ap (significant_from number) split ∙ rw add-one (significant_from-line number line (lines after) is) in
    let none : first_fault so.before (here ∷ significant_from (number + 1) (lines after))
    ≡ first_fault (so.before ++ here ∷ []) (significant_from (number + 1) (lines after)) =
    ap (λ cause. fault_or here cause (first_fault (so.before ++ here ∷ []) (significant_from (number + 1) (lines after)))) read.0 in
    record {
      before = so.before ++ here ∷ [];
      follows = read.1;
      whole = append_assoc so.before (here ∷ []) (significant_from (number + 1) (lines after)) ∙ ap (λ ls. so.before ++ ls) (sym same) ∙ so.whole;
      fault = sym none ∙ ap (first_fault so.before) (sym same) ∙ so.fault;
      counted = omega (arith, so.counted, ap length split);
      room = omega (arith, so.room);
      least = omega arith;
    }

takes_one : (skips : Bool) (reading next : Reading) (number : ℕ) (line rest after bytes : List ℕ)
    → is_skipped_text (tokens (without_return line)) ≡ skips → (so : SoFar reading number rest bytes)
    → lines rest ≡ line ∷ lines after → length after < length rest
    → Takes skips so.before (record { line = number; text = without_return line }) (Ok next) → SoFar next (number + 1) after bytes
takes_one true reading next number line rest after bytes is so split shorter took =
    skipped reading next number line rest after bytes so split shorter is took
takes_one false reading next number line rest after bytes is so split shorter took =
    kept reading next number line rest after bytes so split shorter is took

-- one line more was read
pub taken : (reading next : Reading) (number : ℕ) (line text rest after bytes : List ℕ) → SoFar reading number rest bytes
    → lines rest ≡ line ∷ lines after → length after < length rest → text ≡ without_return line
    → ((before : List NumberedLine) → Follows reading before
    → Takes (is_skipped_text (tokens text)) before (record { line = number; text = text }) (Ok next)) → SoFar next (number + 1) after bytes
taken reading next number line text rest after bytes so split shorter is took =
    let here =
    subst (λ t. Takes (is_skipped_text (tokens t)) so.before (record { line = number; text = t }) (Ok next)) is (took so.before so.follows) in
    takes_one (is_skipped_text (tokens (without_return line))) reading next number line rest after bytes refl so split shorter here

script_from-fault : (n : ℕ) (ls : List NumberedLine) (fault : ScriptFault) → first_fault [] ls ≡ Some fault → script_from n ls ≡ Err fault
script_from-fault n [] fault is = absurd cc
script_from-fault n (first ∷ later) fault is = rw is refl

stops : (skips : Bool) (reading : Reading) (number n : ℕ) (cause : ScriptCause) (line rest after bytes : List ℕ)
    → is_skipped_text (tokens (without_return line)) ≡ skips → (so : SoFar reading number rest bytes)
    → lines rest ≡ line ∷ lines after → Takes skips so.before (record { line = number; text = without_return line }) (Err (faults.BadScript n cause))
    → script_of bytes ≡ Err (faults.BadScript n cause)
unfolding script_of
stops true reading number n cause line rest after bytes is so split took = absurd took
stops false reading number n cause line rest after bytes is so split took =
    let here : NumberedLine = record { line = number; text = without_return line } in
    let same : significant_from number (lines rest) ≡ here ∷ significant_from (number + 1) (lines after) =
    ap (significant_from number) split ∙ rw add-one (significant_from-line number line (lines after) is) in
    let fault : first_fault so.before (here ∷ significant_from (number + 1) (lines after)) ≡ Some (faults.BadScript n cause) =
    ap (λ why. fault_or here why (first_fault (so.before ++ here ∷ []) (significant_from (number + 1) (lines after)))) took.1
    ∙ ap (λ k. Some (faults.BadScript k cause)) (sym took.0) in
    script_from-fault (length (lines bytes)) (significant bytes) (faults.BadScript n cause) (sym so.fault ∙ ap (first_fault so.before) same ∙ fault)

-- a line was refused
pub refused : (fault : ScriptFault) (reading : Reading) (number : ℕ) (line text rest after bytes : List ℕ) → SoFar reading number rest bytes
    → lines rest ≡ line ∷ lines after → text ≡ without_return line
    → ((before : List NumberedLine) → Follows reading before
    → Takes (is_skipped_text (tokens text)) before (record { line = number; text = text }) (Err fault)) → AnswersScript (Err fault) (script_of bytes)
refused faults.OutOfMemory reading number line text rest after bytes so split is took = tt
refused (faults.BadScript n cause) reading number line text rest after bytes so split is took =
    let here =
    subst (λ t. Takes (is_skipped_text (tokens t)) so.before (record { line = number; text = t }) (Err (faults.BadScript n cause))) is
    (took so.before so.follows) in
    stops (is_skipped_text (tokens (without_return line))) reading number n cause line rest after bytes refl so split here

all_read : (reading : Reading) (number : ℕ) (rest bytes : List ℕ) → (so : SoFar reading number rest bytes) → lines rest ≡ []
    → (so.before ≡ significant bytes) × (first_fault [] (significant bytes) ≡ None)
all_read reading number rest bytes so end =
    let none : significant_from number (lines rest) ≡ [] = ap (significant_from number) end in
    (sym (append-nil so.before) ∙ ap (λ ls. so.before ++ ls) (sym none) ∙ so.whole, sym so.fault ∙ ap (first_fault so.before) none)

-- no line was significant
pub nothing_read : (number : ℕ) (rest bytes : List ℕ) → SoFar readings.Start number rest bytes → lines rest ≡ []
    → script_of bytes ≡ Err (faults.BadScript number causes.Header)
unfolding script_of
nothing_read number rest bytes so end =
    let empty : significant bytes ≡ [] = sym (all_read readings.Start number rest bytes so end).0 ∙ so.follows in
    let count : length (lines bytes) + 1 ≡ number = omega (arith, so.counted, ap length end) in
    ap (script_from (length (lines bytes))) empty ∙ ap (λ n. Err (faults.BadScript n causes.Header)) count

-- all lines were read
pub script_read : (begun : Begun) (number : ℕ) (rest bytes : List ℕ) → SoFar (readings.Begun begun) number rest bytes → lines rest ≡ []
    → script_of bytes ≡ Ok (record { space = begun.space; sessions = begun.sessions.items })
unfolding script_of
script_read begun number rest bytes so end =
    let is = so.follows in
    let all = all_read (readings.Begun begun) number rest bytes so end in
    let lines_are : significant bytes ≡ is.first ∷ is.later = sym all.0 ∙ is.are in
    let none : first_fault [] (is.first ∷ is.later) ≡ None = ap (first_fault []) (sym lines_are) ∙ all.1 in
    ap (script_from (length (lines bytes))) lines_are ∙ rw (none, is.space, is.sessions) refl

-- what the tests of a header say where it is one
within_table : (is_header in_range is_in : Bool) (space found : SpaceLine)
    → (if not is_header then Err causes.Header else if not in_range then Err causes.Level
    else if not is_in then Err causes.Characteristic else Ok space) ≡ Ok found
    → (in_range ≡ true) × (is_in ≡ true) × (space ≡ found)
within_table true true true space found is = (refl, refl, cc)
within_table false in_range is_in space found is = absurd cc
within_table true false is_in space found is = absurd cc
within_table true true false space found is = absurd cc

-- a header's space is one
pub header-space : (words : List (List ℕ)) (space : SpaceLine) → header words ≡ Ok space → IsSpace space
header-space [] space is = absurd cc
header-space (a ∷ []) space is = absurd cc
header-space (a ∷ b ∷ []) space is = absurd cc
header-space (word ∷ n ∷ p ∷ []) space is =
    let tests =
    within_table (bytes_eq word (codes "space") && is_natural n && is_natural p) (nat_le 1 (natural_of n) && nat_le (natural_of n) MAX_LEVEL)
    (is_listed (natural_of p)) (record { modulus = natural_of n; characteristic = natural_of p }) space is in
    let range = both (nat_le 1 (natural_of n)) (nat_le (natural_of n) MAX_LEVEL) tests.0 in
    rw (← tests.2) (record { least = grind (arith, nat_tests, range.0); most = grind (arith, nat_tests, range.1); listed = tests.1 })
header-space (a ∷ b ∷ c ∷ d ∷ more) space is = absurd cc

pub begun-script : (begun : Begun) (before : List NumberedLine) → IsBegun begun before → IsScript begun.space begun.sessions.items
begun-script begun before is = record {
  is_space = header-space (tokens is.first.text) begun.space is.space;
  few_sessions = is.few_sessions;
  few_commands = omega (arith, is.commands, is.few_commands);
}
