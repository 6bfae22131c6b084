-- A text that is read as a script keeps the limits of scripts, and none of its lines is longer than the text.
use Rattle.std.proofs.Common.{◌≡◌, ◌+◌, ◌-◌, ◌<◌, ◌≤◌, ◌++◌, ◌==◌, ℕ, suc, Bool, true, false, not, cond, List, [], ◌∷◌, length, take, drop}
use Rattle.std.proofs.Common.{All, append_assoc, count_by, sum_by, nat_le, nat_lt, leb-false, Option, Some, None, Result, Ok, Err, refl}
use Rattle.std.proofs.Common.{sym, ap, subst, arith}
use Rattle.std.specs.List.{list_all, onto_first, slice_split}
use Rattle.std.specs.Prelude.{slice_index}
use Rattle.std.proofs.lemmas.Bool.{cond_both}
use Rattle.std.proofs.lemmas.List.{append-nil, length-take}
use Rattle.std.proofs.lemmas.List.Elements.{All-cons, All-drop, All-filter, All-head, All-nil, All-tail}
use Rattle.std.proofs.lemmas.List.Sums.{sum_by-append, sum_by-cons}
use Rattle.text_lines.specs.Lines.{lines, parts, tokens, without_empty_last, without_return}
use Rattle.script_text.specs.declared.limits.TheConstants.{MAX_SESSIONS, MAX_COMMANDS}
use Rattle.script_text.specs.declared.script_fault.ScriptCause.{ScriptCause}
use Rattle.script_text.specs.declared.script_fault.ScriptCause.TheVariants as causes
use Rattle.script_text.specs.declared.script_fault.ScriptFault.{ScriptFault}
use Rattle.script_text.specs.declared.space.SpaceLine.{SpaceLine}
use Rattle.script_text.specs.Numbered.{NumberedLine}
use Rattle.script_text.specs.Valid.{ScriptText, IsScript, IsSpace}
use Rattle.script_text.specs.Scripts.{numbered, is_skipped, significant, is_plain, header, is_session, sessions_of, later_cause, cause_of}
use Rattle.script_text.specs.Scripts.{cause_by_tokens, cause_after, fault_or, first_fault, with_sessions, unless_fault, script_from}
use Rattle.script_text.specs.Scripts.{script_of}
use Rattle.script_text.proofs.ScriptLemmas.{header-space}
use Rattle.script_text.proofs.SessionLemmas.{length-sessions_of}

-- ---- no line is longer than the text

abbrev IsWithin : ℕ → List ℕ → Type 0
IsWithin n line = length line ≤ n

abbrev pub IsLineWithin : ℕ → NumberedLine → Type 0
IsLineWithin n line = length line.text ≤ n

longer : (n : ℕ) (ps : List (List ℕ)) → All (IsWithin n) ps → All (IsWithin (suc n)) ps
longer n ps h = λ k d l. omega (arith, h k d l)

onto_within : (n x : ℕ) (ps : List (List ℕ)) → All (IsWithin n) ps → All (IsWithin (suc n)) (onto_first x ps)
onto_within n x [] h = All-cons (IsWithin (suc n)) (x ∷ []) [] (omega arith) (All-nil (IsWithin (suc n)))
onto_within n x (part ∷ ps) h =
    let first : length part ≤ n = All-head (IsWithin n) part ps h in
    All-cons (IsWithin (suc n)) (x ∷ part) ps (omega (arith, first)) (longer n ps (All-tail (IsWithin n) part ps h))

parts_within : (test : ℕ → Bool) (text : List ℕ) → All (IsWithin (length text)) (slice_split test text)
parts_within test [] = All-cons (IsWithin 0) [] [] (omega arith) (All-nil (IsWithin 0))
parts_within test (x ∷ text) =
    let rest = parts_within test text in
    cond_both (test x) ([] ∷ slice_split test text) (onto_first x (slice_split test text)) (All (IsWithin (suc (length text))))
    (λ e. All-cons (IsWithin (suc (length text))) [] (slice_split test text) (omega arith) (longer (length text) (slice_split test text) rest))
    (λ e. onto_within (length text) x (slice_split test text) rest)

but_last : (P : List ℕ → Type 0) (ps : List (List ℕ)) → All P ps → All P (without_empty_last ps)
but_last P [] h = h
but_last P ([] ∷ []) h = All-nil P
but_last P ([] ∷ q ∷ ps) h =
    All-cons P [] (without_empty_last (q ∷ ps)) (All-head P [] (q ∷ ps) h) (but_last P (q ∷ ps) (All-tail P [] (q ∷ ps) h))
but_last P ((b ∷ piece) ∷ ps) h =
    All-cons P (b ∷ piece) (without_empty_last ps) (All-head P (b ∷ piece) ps h) (but_last P ps (All-tail P (b ∷ piece) ps h))

return_within : (line : List ℕ) → length (without_return line) ≤ length line
return_within line =
    cond_both (slice_index line (length line - 1) == 13) (take (length line - 1) line) line (λ l. length l ≤ length line)
    (λ e. omega (arith, length-take (length line - 1) line)) (λ e. omega arith)

numbered_within : (m n : ℕ) (texts : List (List ℕ)) → All (IsWithin m) texts → All (IsLineWithin m) (numbered n texts)
numbered_within m n [] h = All-nil (IsLineWithin m)
numbered_within m n (text ∷ texts) h =
    let first : length text ≤ m = All-head (IsWithin m) text texts h in
    All-cons (IsLineWithin m) (record { line = n; text = without_return text }) (numbered (suc n) texts) (omega (arith, return_within text, first))
    (numbered_within m (suc n) texts (All-tail (IsWithin m) text texts h))

significant_within : (text : List ℕ) → All (IsLineWithin (length text)) (significant text)
significant_within text =
    All-filter (λ line. not (is_skipped line)) (IsLineWithin (length text)) (numbered 1 (lines text))
    (numbered_within (length text) 1 (lines text) (but_last (IsWithin (length text)) (parts 10 text) (parts_within (λ b. b == 10) text)))

onto_all : (P : NumberedLine → Type 0) (x : NumberedLine) (ps : List (List NumberedLine)) → P x → All (All P) ps → All (All P) (onto_first x ps)
onto_all P x [] h k = All-cons (All P) (x ∷ []) [] (All-cons P x [] h (All-nil P)) (All-nil (All P))
onto_all P x (part ∷ ps) h k =
    All-cons (All P) (x ∷ part) ps (All-cons P x part h (All-head (All P) part ps k)) (All-tail (All P) part ps k)

split_all : (P : NumberedLine → Type 0) (test : NumberedLine → Bool) (xs : List NumberedLine) → All P xs → All (All P) (slice_split test xs)
split_all P test [] h = All-cons (All P) [] [] (All-nil P) (All-nil (All P))
split_all P test (x ∷ xs) h =
    let rest = split_all P test xs (All-tail P x xs h) in
    cond_both (test x) ([] ∷ slice_split test xs) (onto_first x (slice_split test xs)) (All (All P))
    (λ e. All-cons (All P) [] (slice_split test xs) (All-nil P) rest)
    (λ e. onto_all P x (slice_split test xs) (All-head P x xs h) rest)

-- ---- as many command lines as lines that begin no session

abbrev pub size : List NumberedLine → ℕ
size session = length session

onto_sum : (x : NumberedLine) (ps : List (List NumberedLine)) → sum_by size (onto_first x ps) ≡ 1 + sum_by size ps
onto_sum x [] = refl
onto_sum x (part ∷ ps) = omega (arith, sum_by-cons size (x ∷ part) ps, sum_by-cons size part ps)

abbrev pub one_if : (NumberedLine → Bool) → NumberedLine → ℕ
one_if test x = cond (test x) 1 0

pub split_sum : (test : NumberedLine → Bool) (xs : List NumberedLine) → sum_by size (slice_split test xs) ≡ count_by (λ x. not (test x)) xs
split_sum test [] = refl
split_sum test (x ∷ xs) =
    let rest : sum_by size (slice_split test xs) ≡ count_by (λ y. not (test y)) xs = split_sum test xs in
    let more = sum_by-cons (one_if (λ y. not (test y))) x xs in
    cond_both (test x) ([] ∷ slice_split test xs) (onto_first x (slice_split test xs))
    (λ ps. sum_by size ps ≡ count_by (λ y. not (test y)) (x ∷ xs))
    (λ e. let none : one_if (λ y. not (test y)) x ≡ 0 = ap (λ b. cond (not b) 1 0) e in
    omega (arith, sum_by-cons size [] (slice_split test xs), rest, more, none))
    (λ e. let one : one_if (λ y. not (test y)) x ≡ 1 = ap (λ b. cond (not b) 1 0) e in
    omega (arith, onto_sum x (slice_split test xs), rest, more, one))

drop_sum : (ps : List (List NumberedLine)) → sum_by size (drop 1 ps) ≤ sum_by size ps
drop_sum [] = omega arith
drop_sum (part ∷ ps) = omega (arith, sum_by-cons size part ps)

-- ---- limits

record IsWithinLimits (later : List NumberedLine) : Type 0 where
  sessions : count_by is_session later ≤ MAX_SESSIONS
  commands : count_by (λ line. not (is_session line)) later ≤ MAX_COMMANDS

fault_none : (line : NumberedLine) (c : Option ScriptCause) (others : Option ScriptFault) → fault_or line c others ≡ None → (c ≡ None) × (others ≡ None)
fault_none line None others e = (refl, e)
fault_none line (Some cause) others e = absurd cc

if_none : (b : Bool) (c : Option ScriptCause) (cause : ScriptCause) → cond b c (Some cause) ≡ None → c ≡ None
if_none true c cause e = e
if_none false c cause e = absurd cc

unless_none : (b : Bool) (cause : ScriptCause) (c : Option ScriptCause) → cond b (Some cause) c ≡ None → (b ≡ false) × (c ≡ None)
unless_none true cause c e = absurd cc
unless_none false cause c e = (refl, e)

one_more : (test : NumberedLine → Bool) (xs : List NumberedLine) (x : NumberedLine) (b : Bool) → test x ≡ b
    → count_by test (xs ++ x ∷ []) ≡ count_by test xs + cond b 1 0
one_more test xs x b is =
    let all = sum_by-append (one_if test) xs (x ∷ []) in
    let one = sum_by-cons (one_if test) x [] in
    let same : one_if test x ≡ cond b 1 0 = ap (λ c. cond c 1 0) is in
    omega (arith, all, one, same)

limits_next : (done : List NumberedLine) (m : NumberedLine) → IsWithinLimits done
    → later_cause (count_by is_session done) (count_by (λ line. not (is_session line)) done) (tokens m.text) ≡ None → IsWithinLimits (done ++ m ∷ [])
limits_next done m h e = by (is_session m) refl e
  where
    s : ℕ
    s = count_by is_session done

    c : ℕ
    c = count_by (λ line. not (is_session line)) done

    by : (b : Bool) → is_session m ≡ b
        → cond b (cond (nat_lt 1 (length (tokens m.text))) (Some causes.Session) (cond (nat_le MAX_SESSIONS s) (Some causes.Sessions) None))
        (cond (s == 0) (Some causes.NoSession) (cond (nat_le MAX_COMMANDS c) (Some causes.Commands) None)) ≡ None
        → IsWithinLimits (done ++ m ∷ [])
    by true is none =
        let first = unless_none (nat_lt 1 (length (tokens m.text))) causes.Session (cond (nat_le MAX_SESSIONS s) (Some causes.Sessions) None) none in
        let second = unless_none (nat_le MAX_SESSIONS s) causes.Sessions None first.1 in
        let below : s < MAX_SESSIONS = leb-false MAX_SESSIONS s second.0 in
        record {
          sessions = omega (arith, one_more is_session done m true is, below);
          commands = omega (arith, one_more (λ line. not (is_session line)) done m false (ap not is), h.commands);
        }
    by false is none =
        let first = unless_none (s == 0) causes.NoSession (cond (nat_le MAX_COMMANDS c) (Some causes.Commands) None) none in
        let second = unless_none (nat_le MAX_COMMANDS c) causes.Commands None first.1 in
        let below : c < MAX_COMMANDS = leb-false MAX_COMMANDS c second.0 in
        record {
          sessions = omega (arith, one_more is_session done m false is, h.sessions);
          commands = omega (arith, one_more (λ line. not (is_session line)) done m true (ap not is), below);
        }

limits_kept : (first : NumberedLine) (done ms : List NumberedLine) → IsWithinLimits done → first_fault (first ∷ done) ms ≡ None
    → IsWithinLimits (done ++ ms)
limits_kept first done [] h e = subst IsWithinLimits (sym (append-nil done)) h
limits_kept first done (m ∷ ms) h e =
    let both = fault_none m (cause_after (first ∷ done) m) (first_fault (first ∷ (done ++ m ∷ [])) ms) e in
    subst IsWithinLimits (append_assoc done (m ∷ []) ms)
    (limits_kept first (done ++ m ∷ []) ms
    (limits_next done m h (if_none (list_all is_plain m.text) (cause_by_tokens (first ∷ done) (tokens m.text)) causes.Byte both.0)) both.1)

-- ---- a script

pub record IsReadScript (text : List ℕ) (script : ScriptText) : Type 0 where
  pub limits : IsScript script.space script.sessions
  pub within : All (All (IsLineWithin (length text))) script.sessions

made : (text : List ℕ) (space : SpaceLine) (later : List NumberedLine) → IsSpace space → IsWithinLimits later
    → All (IsLineWithin (length text)) later → IsReadScript text (record { space = space; sessions = sessions_of later })
made text space later is limits within = record {
  limits = record {
    is_space = is;
    few_sessions = omega (arith, length-sessions_of later, limits.sessions);
    few_commands = omega (arith, drop_sum (slice_split is_session later), split_sum is_session later, limits.commands);
  };
  within = All-drop (All (IsLineWithin (length text))) 1 (slice_split is_session later)
      (split_all (IsLineWithin (length text)) is_session later within);
}

read_from : (text : List ℕ) (n : ℕ) (ls : List NumberedLine) (script : ScriptText) → All (IsLineWithin (length text)) ls → script_from n ls ≡ Ok script
    → IsReadScript text script
read_from text n [] script within e = absurd cc
read_from text n (first ∷ later) script within e = at (first_fault [] (first ∷ later)) refl e
  where
    head : (r : Result SpaceLine ScriptCause) → header (tokens first.text) ≡ r → cause_of r ≡ None → IsWithinLimits later
        → with_sessions r (sessions_of later) ≡ script → IsReadScript text script
    head (Ok space) is none limits same = subst (IsReadScript text) same
        (made text space later (header-space (tokens first.text) space is) limits (All-tail (IsLineWithin (length text)) first later within))
    head (Err cause) is none limits same = absurd cc

    at : (o : Option ScriptFault) → first_fault [] (first ∷ later) ≡ o
        → unless_fault o (with_sessions (header (tokens first.text)) (sessions_of later)) ≡ Ok script → IsReadScript text script
    at None is same =
        let both = fault_none first (cause_after [] first) (first_fault (first ∷ []) later) is in
        head (header (tokens first.text)) refl (if_none (list_all is_plain first.text) (cause_of (header (tokens first.text))) causes.Byte both.0)
        (limits_kept first [] later (record { sessions = omega arith; commands = omega arith }) both.1) cc
    at (Some fault) is same = absurd cc

pub read_script : (text : List ℕ) (script : ScriptText) → script_of text ≡ Ok script → IsReadScript text script
unfolding script_of
read_script text script e = read_from text (length (lines text)) (significant text) script (significant_within text) e
