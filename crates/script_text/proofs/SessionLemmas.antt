-- Sessions with one line more.
use Rattle.std.proofs.Common.{◌≡◌, ℕ, zero, suc, get_or, slice_set, ◌+◌, ◌<◌, Bool, true, false, List, [], ◌∷◌, ◌++◌, length, refl, ap, ◌∙◌, arith, inl, inr, length-append}
use Rattle.std.specs.List.{slice_split, onto_first, count_by}
use Rattle.std.proofs.lemmas.Bool.{cases_Bool}
use Rattle.std.proofs.lemmas.List.Sums.{sum_by-append, sum_by-cons}
use Rattle.std.proofs.lemmas.List.Splits.{slice_split-cons_yes, slice_split-cons_no, length-slice_split}
use Rattle.script_text.specs.Numbered.{NumberedLine}
use Rattle.script_text.specs.Valid.{command_count}
use Rattle.script_text.specs.Scripts.{is_session, sessions_of}
use Rattle.script_text.specs.Reading.{with_line}

-- the pieces of a list: there is a first
pub record Pieces (p : NumberedLine → Bool) (xs : List NumberedLine) : Type 0 where
  pub first : List NumberedLine
  pub others : List (List NumberedLine)
  pub are : slice_split p xs ≡ first ∷ others

pub pieces : (p : NumberedLine → Bool) (xs : List NumberedLine) → Pieces p xs
pieces p [] = record { first = []; others = []; are = refl }
pieces p (x ∷ xs) =
    let rest = pieces p xs in
    elim (cases_Bool (p x)) [
      | inl passes ↦ record { first = []; others = slice_split p xs; are = slice_split-cons_yes p x xs passes }
      | inr none ↦ record { first = x ∷ rest.first; others = rest.others; are = slice_split-cons_no p x xs none ∙ rw rest.are refl }
    ]

onto_first-append : (x : NumberedLine) (first last : List NumberedLine) (others : List (List NumberedLine))
    → onto_first x ((first ∷ others) ++ last ∷ []) ≡ onto_first x (first ∷ others) ++ last ∷ []
onto_first-append x first last others = refl

onto_first-with_line : (x line : NumberedLine) (first : List NumberedLine) (others : List (List NumberedLine))
    → onto_first x (with_line (first ∷ others) line) ≡ with_line (onto_first x (first ∷ others)) line
onto_first-with_line x line first [] = refl
onto_first-with_line x line first (next ∷ others) = refl

with_line-cons : (session : List NumberedLine) (sessions : List (List NumberedLine)) (line : NumberedLine) → 0 < length sessions
    → with_line (session ∷ sessions) line ≡ session ∷ with_line sessions line
with_line-cons session [] line some = absurd (omega arith)
with_line-cons session (next ∷ sessions) line some = refl

-- a line that passes the test begins a piece
pub split-session : (p : NumberedLine → Bool) (xs : List NumberedLine) (line : NumberedLine) → p line ≡ true
    → slice_split p (xs ++ line ∷ []) ≡ slice_split p xs ++ [] ∷ []
split-session p [] line is = slice_split-cons_yes p line [] is
split-session p (x ∷ xs) line is =
    let rest = pieces p xs in
    elim (cases_Bool (p x)) [
      | inl passes ↦ slice_split-cons_yes p x (xs ++ line ∷ []) passes ∙ rw (split-session p xs line is, slice_split-cons_yes p x xs passes) refl
      | inr none ↦ slice_split-cons_no p x (xs ++ line ∷ []) none ∙ rw (split-session p xs line is, slice_split-cons_no p x xs none, rest.are) refl
    ]

-- every other line goes to the last piece
pub split-line : (p : NumberedLine → Bool) (xs : List NumberedLine) (line : NumberedLine) → p line ≡ false
    → slice_split p (xs ++ line ∷ []) ≡ with_line (slice_split p xs) line
split-line p [] line is = slice_split-cons_no p line [] is
split-line p (x ∷ xs) line is =
    let rest = pieces p xs in
    elim (cases_Bool (p x)) [
      | inl passes ↦ slice_split-cons_yes p x (xs ++ line ∷ []) passes
          ∙ rw (split-line p xs line is, slice_split-cons_yes p x xs passes, rest.are) refl
      | inr none ↦ slice_split-cons_no p x (xs ++ line ∷ []) none
          ∙ rw (split-line p xs line is, slice_split-cons_no p x xs none, rest.are) (onto_first-with_line x line rest.first rest.others)
    ]

pub sessions_of-session : (later : List NumberedLine) (line : NumberedLine) → is_session line ≡ true
    → sessions_of (later ++ line ∷ []) ≡ sessions_of later ++ [] ∷ []
sessions_of-session later line is =
    let old = pieces is_session later in
    rw (split-session is_session later line is, old.are) refl

pub sessions_of-line : (later : List NumberedLine) (line : NumberedLine) → is_session line ≡ false → 0 < length (sessions_of later)
    → sessions_of (later ++ line ∷ []) ≡ with_line (sessions_of later) line
sessions_of-line later line is some =
    let old = pieces is_session later in
    let more : 0 < length old.others = rw old.are at some in
    rw (split-line is_session later line is, old.are, with_line-cons old.first old.others line more) refl

pub length-sessions_of : (later : List NumberedLine) → length (sessions_of later) ≡ count_by is_session later
length-sessions_of later =
    let old = pieces is_session later in
    let all : suc (length old.others) ≡ count_by is_session later + 1 = rw old.are at (length-slice_split is_session later) in
    rw old.are (omega (arith, all))

pub length-with_line : (sessions : List (List NumberedLine)) (line : NumberedLine) → length (with_line sessions line) ≡ length sessions
length-with_line [] line = refl
length-with_line (session ∷ []) line = refl
length-with_line (session ∷ next ∷ sessions) line = ap suc (length-with_line (next ∷ sessions) line)

pub command_count-with_line : (sessions : List (List NumberedLine)) (line : NumberedLine) → 0 < length sessions
    → command_count (with_line sessions line) ≡ command_count sessions + 1
command_count-with_line [] line some = absurd (omega arith)
command_count-with_line (session ∷ []) line some = omega (arith, length-append session (line ∷ []))
command_count-with_line (session ∷ next ∷ sessions) line some =
    sum_by-cons (λ (s : List NumberedLine). length s) session (with_line (next ∷ sessions) line)
    ∙ ap (λ n. length session + n) (command_count-with_line (next ∷ sessions) line (omega arith))
    ∙ omega (arith, sum_by-cons (λ (s : List NumberedLine). length s) session (next ∷ sessions))

pub command_count-session : (sessions : List (List NumberedLine)) → command_count (sessions ++ [] ∷ []) ≡ command_count sessions
command_count-session sessions = omega (arith, sum_by-append (λ (session : List NumberedLine). length session) sessions ([] ∷ []))

-- the last session, set to one with a line more
pub with_line-set : (sessions : List (List NumberedLine)) (line : NumberedLine) (session longer : List NumberedLine) (k : ℕ) → length sessions ≡ k + 1
    → session ≡ get_or sessions k session → longer ≡ session ++ line ∷ [] → slice_set sessions k longer ≡ with_line sessions line
with_line-set [] line session longer k are last is = absurd (omega arith)
with_line-set (s ∷ []) line session longer zero are last is = rw (is, last) refl
with_line-set (s ∷ []) line session longer (suc k) are last is = absurd (omega arith)
with_line-set (s ∷ t ∷ sessions) line session longer zero are last is = absurd (omega arith)
with_line-set (s ∷ t ∷ sessions) line session longer (suc k) are last is =
    ap (λ ss. s ∷ ss) (with_line-set (t ∷ sessions) line session longer k (omega arith) last is)
