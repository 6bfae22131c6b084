-- Where reading the tokens stops is the fault of the line's grammar, and what it gives is the command.
use Rattle.std.proofs.Common.{◌≡◌, ℕ, zero, suc, ◌+◌, ◌<◌, ◌≤◌, true, false, not, ◌&&◌, nat_lt, List, [], ◌∷◌, length, take, Option, Some, None, Result, Ok, Err, refl, sym, ap, subst, ◌∙◌, arith, inl, inr}
use Rattle.std.specs.Prelude.{unwrap_or}
use Rattle.std.specs.Str.{bytes_eq}
use Rattle.std.proofs.lemmas.Bool.{cases_lt}
use Rattle.std.proofs.lemmas.Bool.Decides.{nat_tests}
use Rattle.std.proofs.lemmas.List.{take_all}
use Rattle.std.proofs.lemmas.Slice.Eq.{bytes_eq-Decides}
use Rattle.text_lines.specs.Lines.{tokens}
use Rattle.text_lines.proofs.SplitLemmas.{not_true}
use Rattle.script_text.specs.declared.kind.Kind.{Kind}
use Rattle.script_text.specs.declared.word.Word.{Word}
use Rattle.script_text.specs.declared.command.Command.{Command}
use Rattle.script_text.specs.declared.command_fault.LimitWord.{LimitWord}
use Rattle.script_text.specs.declared.command_fault.CommandFault.{CommandFault}
use Rattle.script_text.specs.declared.command_fault.CommandFault.TheVariants as faults
use Rattle.script_text.specs.Tokens.{Given, nothing}
use Rattle.script_text.specs.Rows.{row}
use Rattle.script_text.specs.Grammar.{next_kind, rest, fits, follows, begins, is_form, form_of, begins_none, grammar_fault, given_by}
use Rattle.script_text.specs.Limits.{limit_of}
use Rattle.script_text.specs.Commands.{command, unless_limit, command_by_form, command_of, AnswersCommand}
use Rattle.script_text.specs.Walk.{given, walk, Carries}
use Rattle.script_text.proofs.TestLemmas.{both, together}
use Rattle.script_text.proofs.TableLemmas.{any-word, no-word, find-word, find-no_word, find-least, find-nowhere, words-apart}
use Rattle.script_text.proofs.WalkLemmas.{Stops, Stopped, stopped-at, read-all}

-- what a line is read as, by its tokens
abbrev pub by_tokens : List (List ℕ) → Result Command CommandFault
by_tokens line = command_by_form line (form_of line)

-- ---- tokens that begin a form

pub follows-shorter : (kinds : List Kind) (repeated : Option Kind) (ts : List (List ℕ)) (j m : ℕ) → j ≤ m → follows kinds repeated (take m ts) ≡ true
    → follows kinds repeated (take j ts) ≡ true
follows-shorter kinds repeated ts zero m le h = refl
follows-shorter kinds repeated [] (suc j) m le h = refl
follows-shorter kinds repeated (t ∷ ts) (suc j) zero le h = absurd (omega arith)
follows-shorter kinds repeated (t ∷ ts) (suc j) (suc m) le h =
    let parts = both (fits (next_kind kinds repeated) t) (follows (rest kinds) repeated (take m ts)) h in
    rw parts.0 (follows-shorter (rest kinds) repeated ts j m (omega arith) parts.1)

follows-front : (kinds : List Kind) (repeated : Option Kind) (ts : List (List ℕ)) (j : ℕ) → j ≤ length ts → follows kinds repeated ts ≡ true
    → follows kinds repeated (take j ts) ≡ true
follows-front kinds repeated ts j le h =
    follows-shorter kinds repeated ts j (length ts) le (rw (take_all (length ts) ts (omega arith)) h)

-- the row of the first token is the only one that a line can begin
begins-row : (v w : Word) (first : List ℕ) (ts : List (List ℕ)) → first ≡ (row w).word → begins (row v) (first ∷ ts) ≡ true
    → (v ≡ w) × (follows (row w).kinds (row w).repeated ts ≡ true)
begins-row v w first ts is begun =
    let parts = both (bytes_eq first (row v).word) (follows (row v).kinds (row v).repeated ts) begun in
    let word : first ≡ (row v).word = (bytes_eq-Decides first (row v).word).0 parts.0 in
    let same : v ≡ w = words-apart v w (sym word ∙ is) in
    (same, subst (λ u. follows (row u).kinds (row u).repeated ts ≡ true) same parts.1)

begins-first : (w : Word) (first : List ℕ) (ts : List (List ℕ)) → first ≡ (row w).word → follows (row w).kinds (row w).repeated ts ≡ true
    → begins (row w) (first ∷ ts) ≡ true
begins-first w first ts is all =
    together (bytes_eq first (row w).word) (follows (row w).kinds (row w).repeated ts) ((bytes_eq-Decides first (row w).word).1 is) all

-- ---- the fault of a line

fault-at : (line : List (List ℕ)) (t : ℕ) → 1 ≤ t → t ≤ length line → ((k : ℕ) → 1 ≤ k → k < t → begins_none (take k line) ≡ false)
    → begins_none (take t line) ≡ true → grammar_fault line ≡ t
fault-at line t low high before at =
    ap (λ found. unwrap_or found (length line + 1)) (find-least (λ k. begins_none (take k line)) 1 (length line) t low (omega arith) before at)

fault-end : (line : List (List ℕ)) → ((k : ℕ) → 1 ≤ k → k ≤ length line → begins_none (take k line) ≡ false) → grammar_fault line ≡ length line + 1
fault-end line before =
    ap (λ found. unwrap_or found (length line + 1))
    (find-nowhere (λ k. begins_none (take k line)) 1 (length line) (λ k low below. before k low (omega arith)))

-- a line without a token
pub empty-line : by_tokens [] ≡ Err (faults.Grammar 1)
empty-line = refl

no_word : (first : List ℕ) (ts : List (List ℕ)) → ((w : Word) → first ≡ (row w).word → ⊥) → (v : Word) → begins (row v) (first ∷ ts) ≡ false
no_word first ts none v =
    not_true _ (λ begun. none v
    ((bytes_eq-Decides first (row v).word).0 (both (bytes_eq first (row v).word) (follows (row v).kinds (row v).repeated ts) begun).0))

-- a line whose first token is no command's word
pub unknown-word : (first : List ℕ) (ts : List (List ℕ)) → ((w : Word) → first ≡ (row w).word → ⊥) → by_tokens (first ∷ ts) ≡ Err (faults.Grammar 1)
unknown-word first ts none =
    let form : form_of (first ∷ ts) ≡ None =
    find-no_word (λ w. is_form (row w) (first ∷ ts))
    (λ v. ap (λ b. b && nat_lt (length (row v).kinds) (length (first ∷ ts))) (no_word first ts none v)) in
    let fault : grammar_fault (first ∷ ts) ≡ 1 =
    fault-at (first ∷ ts) 1 (omega arith) (omega arith) (λ k low below. absurd (omega arith))
    (ap not (no-word (λ w. begins (row w) (first ∷ [])) (no_word first [] none))) in
    rw form (ap (λ t. Err (faults.Grammar t)) fault)

-- ---- a line whose tokens after the word stop being of their kinds, or end too early

no_form : (v w : Word) (first : List ℕ) (ts : List (List ℕ)) (m : ℕ) → first ≡ (row w).word → Stops (row w).kinds (row w).repeated ts m
    → is_form (row v) (first ∷ ts) ≡ false
no_form v w first ts m is stops = not_true _ (λ form.
    let parts = both (begins (row v) (first ∷ ts)) (nat_lt (length (row v).kinds) (suc (length ts))) form in
    let begun = begins-row v w first ts is parts.0 in
    elim (cases_lt m (length ts)) [
      | inl more ↦
          let fit = follows-front (row w).kinds (row w).repeated ts (suc m) (omega arith) begun.1 in
          let unfit = stops.next more in
          absurd cc
      | inr end ↦
          let long : nat_lt (length (row w).kinds) (suc (length ts)) ≡ true =
          subst (λ u. nat_lt (length (row u).kinds) (suc (length ts)) ≡ true) begun.0 parts.1 in
          let short : length ts < length (row w).kinds = stops.unfinished (omega (arith, stops.within)) in
          absurd (grind (arith, nat_tests, long, short))
    ])

first-begins : (w : Word) (first : List ℕ) (ts : List (List ℕ)) (m k : ℕ) → first ≡ (row w).word → Stops (row w).kinds (row w).repeated ts m → 1 ≤ k
    → k < suc (suc m) → begins_none (take k (first ∷ ts)) ≡ false
first-begins w first ts m zero is stops low high = absurd (omega arith)
first-begins w first ts m (suc j) is stops low high =
    ap not (any-word (λ v. begins (row v) (first ∷ take j ts)) w
    (begins-first w first (take j ts) is (follows-shorter (row w).kinds (row w).repeated ts j m (omega arith) stops.front)))

next-begins_none : (w : Word) (first : List ℕ) (ts : List (List ℕ)) (m : ℕ) → first ≡ (row w).word → Stops (row w).kinds (row w).repeated ts m
    → m < length ts → begins_none (take (suc (suc m)) (first ∷ ts)) ≡ true
next-begins_none w first ts m is stops more =
    ap not (no-word (λ v. begins (row v) (first ∷ take (suc m) ts)) (λ v. not_true _ (λ begun.
    let fit = (begins-row v w first (take (suc m) ts) is begun).1 in
    let unfit = stops.next more in
    absurd cc)))

stopped-fault : (w : Word) (first : List ℕ) (ts : List (List ℕ)) (t : ℕ) → first ≡ (row w).word → Stopped (row w).kinds (row w).repeated 2 ts t
    → grammar_fault (first ∷ ts) ≡ t
stopped-fault w first ts t is stopped =
    let m = stopped.read in
    let there : t ≡ suc (suc m) = omega (arith, stopped.place) in
    elim (cases_lt m (length ts)) [
      | inl more ↦
          rw there (fault-at (first ∷ ts) (suc (suc m)) (omega arith) (omega arith)
          (λ k low high. first-begins w first ts m k is stopped.stops low high) (next-begins_none w first ts m is stopped.stops more))
      | inr end ↦
          let last : suc (length ts) + 1 ≡ t = omega (arith, stopped.stops.within) in
          fault-end (first ∷ ts) (λ k low high. first-begins w first ts m k is stopped.stops low (omega arith)) ∙ last
    ]

unfinished : (w : Word) (first : List ℕ) (ts : List (List ℕ)) (t : ℕ) → first ≡ (row w).word
    → walk (row w).kinds (row w).repeated 2 nothing ts ≡ Err t → by_tokens (first ∷ ts) ≡ Err (faults.Grammar t)
unfinished w first ts t is stop =
    let stopped = stopped-at (row w).kinds (row w).repeated 2 nothing ts t stop in
    let none : form_of (first ∷ ts) ≡ None =
    find-no_word (λ v. is_form (row v) (first ∷ ts)) (λ v. no_form v w first ts stopped.read is stopped.stops) in
    rw none (ap (λ n. Err (faults.Grammar n)) (stopped-fault w first ts t is stopped))

pub refused : (w : Word) (first : List ℕ) (ts : List (List ℕ)) (e : CommandFault) → first ≡ (row w).word
    → Carries given (Err e) (walk (row w).kinds (row w).repeated 2 nothing ts) → AnswersCommand (Err e) (by_tokens (first ∷ ts))
refused w first ts faults.OutOfMemory is read = tt
refused w first ts (faults.Grammar t) is read = unfinished w first ts t is read
refused w first ts (faults.Limit what) is read = absurd read

-- ---- a line of a form

whole_form : (w : Word) (first : List ℕ) (ts : List (List ℕ)) (g : Given) → first ≡ (row w).word
    → walk (row w).kinds (row w).repeated 2 nothing ts ≡ Ok g → (form_of (first ∷ ts) ≡ Some w) × (g ≡ given_by w (first ∷ ts))
whole_form w first ts g is read =
    let all = read-all (row w).kinds (row w).repeated 2 nothing g ts read in
    let long : nat_lt (length (row w).kinds) (suc (length ts)) ≡ true = grind (arith, nat_tests, all.whole) in
    let form : is_form (row w) (first ∷ ts) ≡ true =
    together (begins (row w) (first ∷ ts)) (nat_lt (length (row w).kinds) (suc (length ts))) (begins-first w first ts is all.all) long in (
      find-word (λ v. is_form (row v) (first ∷ ts)) w form
          (λ v passes.
          (begins-row v w first ts is (both (begins (row v) (first ∷ ts)) (nat_lt (length (row v).kinds) (suc (length ts))) passes).0).0),
      all.value,
    )

pub past_limit : (w : Word) (first : List ℕ) (ts : List (List ℕ)) (g : Given) (what : LimitWord) → first ≡ (row w).word
    → walk (row w).kinds (row w).repeated 2 nothing ts ≡ Ok g → Some what ≡ limit_of g → by_tokens (first ∷ ts) ≡ Err (faults.Limit what)
past_limit w first ts g what is read limit =
    let form = whole_form w first ts g is read in
    ap (command_by_form (first ∷ ts)) form.0 ∙ ap (λ l. unless_limit l (command w (given_by w (first ∷ ts)))) (ap limit_of (sym form.1) ∙ sym limit)

pub accepted : (w : Word) (first : List ℕ) (ts : List (List ℕ)) (g : Given) → first ≡ (row w).word
    → walk (row w).kinds (row w).repeated 2 nothing ts ≡ Ok g → None ≡ limit_of g → by_tokens (first ∷ ts) ≡ Ok (command w g)
accepted w first ts g is read limit =
    let form = whole_form w first ts g is read in
    ap (command_by_form (first ∷ ts)) form.0
    ∙ ap (λ l. unless_limit l (command w (given_by w (first ∷ ts)))) (ap limit_of (sym form.1) ∙ sym limit)
    ∙ ap (λ x. Ok (command w x)) (sym form.1)

pub command_of-tokens : (text slice : List ℕ) (line : List (List ℕ)) → slice ≡ text → tokens slice ≡ line → command_of text ≡ by_tokens line
unfolding command_of
command_of-tokens text slice line same are = ap by_tokens (ap tokens (sym same) ∙ are)
