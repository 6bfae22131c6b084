-- The text of the script of a number is read as that script.
use Rattle.std.proofs.Common.{◌≡◌, ◌≢◌, ◌+◌, ◌-◌, ◌<◌, ◌≤◌, ◌==◌, ◌++◌, ℕ, suc, Bool, true, false, not, cond, List, [], ◌∷◌, length}
use Rattle.std.proofs.Common.{take, filter, map, get_or, All, append_assoc, append-nil, count_by, nat_le, nat_lt, decimal, Some}
use Rattle.std.proofs.Common.{None, Ok, refl, sym, ◌∙◌, ap, subst, arith}
use Rattle.std.specs.Prelude.{codes, slice_index}
use Rattle.std.specs.List.{flat_map, onto_first, slice_split}
use Rattle.std.specs.Str.{bytes_eq}
use Rattle.std.proofs.lemmas.Bool.Decides.{nat_tests}
use Rattle.std.proofs.lemmas.List.{length-map}
use Rattle.std.proofs.lemmas.List.Elements.{All-append, All-cons, All-head, All-nil, All-tail}
use Rattle.std.proofs.lemmas.List.Sums.{AllPass-from_list_all, sum_by-append, sum_by-cons}
use Rattle.text_lines.specs.Lines.{ended, lines, tokens, without_return, Lacks}
use Rattle.text_lines.specs.Numbers.{is_natural, natural_of}
use Rattle.text_lines.proofs.LineLemmas.{lines-ended}
use Rattle.text_lines.proofs.NumeralLemmas.{is_natural-decimal, natural_of-decimal}
use Rattle.field_table.specs.Table.{IsListed, is_listed}
use Rattle.field_table.proofs.TableFacts.{listed_small}
use Rattle.p1_normal.specs.declared.level.TheConstants.{MAX_LEVEL}
use Rattle.script_text.specs.declared.drawn.DrawnCommand.{DrawnCommand}
use Rattle.script_text.specs.declared.limits.TheConstants.{MAX_SESSIONS, MAX_COMMANDS}
use Rattle.script_text.specs.declared.script_fault.ScriptCause.TheVariants as causes
use Rattle.script_text.specs.declared.space.SpaceLine.{SpaceLine}
use Rattle.script_text.specs.Numbered.{NumberedLine}
use Rattle.script_text.specs.Valid.{command_count}
use Rattle.script_text.specs.Draws.{Drawing, blocks_from, drawing, drawn_text, generated, numbered_from, script_of_drawing}
use Rattle.script_text.specs.DrawnCommands.{IsDrawnAt, IsDrawnScript}
use Rattle.script_text.specs.Scripts.{numbered, is_skipped, is_skipped_text, is_plain, significant_from, header, begins_session, is_session}
use Rattle.script_text.specs.Scripts.{sessions_of, later_cause, cause_of, first_fault, with_sessions, unless_fault}
use Rattle.script_text.specs.Scripts.{script_from, script_of}
use Rattle.script_text.proofs.DrawnFits.{drawings-drawn}
use Rattle.script_text.proofs.DrawnTexts.{numeral-word, tokens-end, tokens-more}
use Rattle.script_text.proofs.SessionLemmas.{length-sessions_of}
use Rattle.generated_runs.specs.Unrefused.{Fits}
use Rattle.generated_runs.proofs.Summaries.{generated_fits}
use Rattle.legal_runs.specs.GeneratedTexts.{header_text, session_texts, drawing_texts, GeneratedTextsAreRead}
use Rattle.legal_runs.proofs.DrawnTexts.{IsPlain, IsScriptLine, IsCommandLine, joined_plain, decimal_plain, session_line, drawn_line, numeral}
use Rattle.legal_runs.proofs.ScriptLimits.{one_if, size, split_sum}

-- ---- the lines of a text of such lines

not_feed : (b : ℕ) → is_plain b ≡ true → b ≢ 10
not_feed b plain same = let clash : false ≡ true = sym (ap is_plain same) ∙ plain in absurd cc

not_return : (b : ℕ) → is_plain b ≡ true → (b == 13) ≡ false
not_return b plain = grind (arith, nat_tests)

lacks_feed : (text : List ℕ) → IsPlain text → Lacks 10 text
lacks_feed text plain = λ k d within. not_feed (get_or text k d) (AllPass-from_list_all is_plain text plain k d within)

no_return : (text : List ℕ) → IsPlain text → without_return text ≡ text
no_return [] plain = refl
no_return (b ∷ text) plain =
    let last = slice_index (b ∷ text) (length (b ∷ text) - 1) in
    let there : is_plain last ≡ true = AllPass-from_list_all is_plain (b ∷ text) plain (length (b ∷ text) - 1) 0 (omega arith) in
    ap (λ t. cond t (take (length (b ∷ text) - 1) (b ∷ text)) (b ∷ text)) (not_return last there)

-- they are numbered
numbered-plain : (n : ℕ) (texts : List (List ℕ)) → All IsPlain texts → numbered n texts ≡ numbered_from n texts
numbered-plain n [] h = refl
numbered-plain n (text ∷ texts) h =
    let first : without_return text ≡ text = no_return text (All-head IsPlain text texts h) in
    let next : suc n ≡ n + 1 = omega arith in
    let rest : numbered (suc n) texts ≡ numbered_from (n + 1) texts =
    numbered-plain (suc n) texts (All-tail IsPlain text texts h) ∙ ap (λ m. numbered_from m texts) next in
    ap (λ (t : List ℕ). let line : NumberedLine = record { line = n; text = t } in line ∷ numbered (suc n) texts) first
    ∙ ap (λ (ls : List NumberedLine). let line : NumberedLine = record { line = n; text = text } in line ∷ ls) rest

-- what holds of texts holds of those of their numbered lines
all_numbered : (P : List ℕ → Type 0) (n : ℕ) (texts : List (List ℕ)) → All P texts → All (λ (line : NumberedLine). P line.text) (numbered_from n texts)
all_numbered P n [] h = All-nil (λ (line : NumberedLine). P line.text)
all_numbered P n (text ∷ texts) h =
    All-cons (λ (line : NumberedLine). P line.text) (record { line = n; text = text }) (numbered_from (n + 1) texts) (All-head P text texts h)
    (all_numbered P (n + 1) texts (All-tail P text texts h))

-- and none is skipped
abbrev IsShown : NumberedLine → Type 0
IsShown line = is_skipped line ≡ false

none_skipped : (ls : List NumberedLine) → All IsShown ls → filter (λ line. not (is_skipped line)) ls ≡ ls
none_skipped [] h = refl
none_skipped (line ∷ ls) h =
    let first : not (is_skipped line) ≡ true = ap not (All-head IsShown line ls h) in
    ap (λ t. cond t (line ∷ filter (λ l. not (is_skipped l)) ls) (filter (λ l. not (is_skipped l)) ls)) first
    ∙ ap (λ (rest : List NumberedLine). line ∷ rest) (none_skipped ls (All-tail IsShown line ls h))

-- ---- sessions

numbered_from-append : (n : ℕ) (xs ys : List (List ℕ)) → numbered_from n (xs ++ ys) ≡ numbered_from n xs ++ numbered_from (n + length xs) ys
numbered_from-append n [] ys = let same : n ≡ n + 0 = omega arith in ap (λ m. numbered_from m ys) same
numbered_from-append n (x ∷ xs) ys =
    let place : n + 1 + length xs ≡ n + suc (length xs) = omega arith in
    ap (λ (ls : List NumberedLine). let line : NumberedLine = record { line = n; text = x } in line ∷ ls)
    (numbered_from-append (n + 1) xs ys ∙ ap (λ m. numbered_from (n + 1) xs ++ numbered_from m ys) place)

-- lines that begin no session stand before the first line of what follows them
abbrev IsInside : NumberedLine → Type 0
IsInside line = is_session line ≡ false

split_front : (xs ys first : List NumberedLine) (others : List (List NumberedLine)) → All IsInside xs → slice_split is_session ys ≡ first ∷ others
    → slice_split is_session (xs ++ ys) ≡ (xs ++ first) ∷ others
split_front [] ys first others h are = are
split_front (x ∷ xs) ys first others h are =
    ap (λ t. cond t ([] ∷ slice_split is_session (xs ++ ys)) (onto_first x (slice_split is_session (xs ++ ys)))) (All-head IsInside x xs h)
    ∙ ap (onto_first x) (split_front xs ys first others (All-tail IsInside x xs h) are)

drawn_lines : (N : ℕ) (session : List DrawnCommand) → N ≤ 1000 → All (IsDrawnAt N) session → All IsCommandLine (map drawn_text session)
drawn_lines N [] few h = All-nil IsCommandLine
drawn_lines N (d ∷ session) few h =
    All-cons IsCommandLine (drawn_text d) (map drawn_text session) (drawn_line N d few (All-head (IsDrawnAt N) d session h))
    (drawn_lines N session few (All-tail (IsDrawnAt N) d session h))

-- the lines of sessions, between those that begin one
split_sessions : (N n : ℕ) (sessions : List (List DrawnCommand)) → N ≤ 1000 → All (All (IsDrawnAt N)) sessions
    → slice_split is_session (numbered_from n (flat_map session_texts sessions)) ≡ [] ∷ blocks_from n (map (map drawn_text) sessions)
split_sessions N n [] few h = refl
split_sessions N n (session ∷ sessions) few h =
    let texts = map drawn_text session in
    let later = flat_map session_texts sessions in
    let commands = drawn_lines N session few (All-head (All (IsDrawnAt N)) session sessions h) in
    let inside : All IsInside (numbered_from (n + 1) texts) = λ k d within.
    (all_numbered IsCommandLine (n + 1) texts commands k d within).command in
    let rest = split_sessions N (n + 1 + length texts) sessions few (All-tail (All (IsDrawnAt N)) session sessions h) in
    ap (λ (ls : List NumberedLine). [] ∷ slice_split is_session ls) (numbered_from-append (n + 1) texts later)
    ∙ ap (λ (ps : List (List NumberedLine)). [] ∷ ps)
    (split_front (numbered_from (n + 1) texts) (numbered_from (n + 1 + length texts) later) []
    (blocks_from (n + 1 + length texts) (map (map drawn_text) sessions)) inside rest)
    ∙ ap (λ (front : List NumberedLine). [] ∷ front ∷ blocks_from (n + 1 + length texts) (map (map drawn_text) sessions))
    (append-nil (numbered_from (n + 1) texts))

session_lines : (N : ℕ) (sessions : List (List DrawnCommand)) → N ≤ 1000 → All (All (IsDrawnAt N)) sessions
    → All IsScriptLine (flat_map session_texts sessions)
session_lines N [] few h = All-nil IsScriptLine
session_lines N (session ∷ sessions) few h =
    let commands = drawn_lines N session few (All-head (All (IsDrawnAt N)) session sessions h) in
    All-append IsScriptLine (session_texts session) (flat_map session_texts sessions)
    (All-cons IsScriptLine (codes "session") (map drawn_text session) session_line (λ k d within. (commands k d within).line))
    (session_lines N sessions few (All-tail (All (IsDrawnAt N)) session sessions h))

-- ---- no line breaks a rule

abbrev IsLater : NumberedLine → Type 0
IsLater line = IsScriptLine line.text

-- a line of a command comes after one that begins a session
abbrev IsBegun : List NumberedLine → List NumberedLine → Type 0
IsBegun done [] = Unit {0}
IsBegun done (line ∷ later) = is_session line ≡ false → 0 < count_by is_session done

no_cause : (s c : ℕ) (words : List (List ℕ)) → (begins_session words ≡ true → nat_lt 1 (length words) ≡ false)
    → (begins_session words ≡ true → s < MAX_SESSIONS) → (begins_session words ≡ false → 0 < s) → (begins_session words ≡ false → c < MAX_COMMANDS)
    → later_cause s c words ≡ None
no_cause s c words alone few begun within = by (begins_session words) alone few begun within
  where
    by : (t : Bool) → (t ≡ true → nat_lt 1 (length words) ≡ false) → (t ≡ true → s < MAX_SESSIONS) → (t ≡ false → 0 < s)
        → (t ≡ false → c < MAX_COMMANDS)
        → cond t (cond (nat_lt 1 (length words)) (Some causes.Session) (cond (nat_le MAX_SESSIONS s) (Some causes.Sessions) None))
        (cond (s == 0) (Some causes.NoSession) (cond (nat_le MAX_COMMANDS c) (Some causes.Commands) None)) ≡ None
    by true alone few begun within =
        let room : nat_le MAX_SESSIONS s ≡ false = let l : s < MAX_SESSIONS = few refl in grind (arith, nat_tests) in
        rw (alone refl, room) refl
    by false alone few begun within =
        let some : (s == 0) ≡ false = let l : 0 < s = begun refl in grind (arith, nat_tests) in
        let room : nat_le MAX_COMMANDS c ≡ false = let l : c < MAX_COMMANDS = within refl in grind (arith, nat_tests) in
        rw (some, room) refl

-- counts go on
count_on : (test : NumberedLine → Bool) (done : List NumberedLine) (m : NumberedLine) (ms : List NumberedLine)
    → count_by test (done ++ m ∷ []) + count_by test ms ≡ count_by test done + count_by test (m ∷ ms)
count_on test done m ms =
    omega (arith, sum_by-append (one_if test) done (m ∷ []), sum_by-cons (one_if test) m [], sum_by-cons (one_if test) m ms)

one_counted : (test : NumberedLine → Bool) (m : NumberedLine) (ms : List NumberedLine) → test m ≡ true → 1 ≤ count_by test (m ∷ ms)
one_counted test m ms is =
    let one : one_if test m ≡ 1 = ap (λ b. cond b 1 0) is in
    omega (arith, sum_by-cons (one_if test) m ms, one)

last_counted : (test : NumberedLine → Bool) (done : List NumberedLine) (m : NumberedLine) → test m ≡ true → 1 ≤ count_by test (done ++ m ∷ [])
last_counted test done m is =
    let one : one_if test m ≡ 1 = ap (λ b. cond b 1 0) is in
    omega (arith, sum_by-append (one_if test) done (m ∷ []), sum_by-cons (one_if test) m [], one)

more_counted : (test : NumberedLine → Bool) (done : List NumberedLine) (m : NumberedLine) → count_by test done ≤ count_by test (done ++ m ∷ [])
more_counted test done m = omega (arith, sum_by-append (one_if test) done (m ∷ []))

abbrev is_inside : NumberedLine → Bool
is_inside line = not (is_session line)

still_begun : (done : List NumberedLine) (m : NumberedLine) (ms : List NumberedLine) → IsBegun done (m ∷ ms) → IsBegun (done ++ m ∷ []) ms
still_begun done m [] begun = tt
still_begun done m (next ∷ ms) begun = λ e. by (is_session m) refl begun
  where
    by : (t : Bool) → is_session m ≡ t → (is_session m ≡ false → 0 < count_by is_session done) → 0 < count_by is_session (done ++ m ∷ [])
    by true is begun = omega (arith, last_counted is_session done m is)
    by false is begun = omega (arith, begun is, more_counted is_session done m)

no_fault : (first : NumberedLine) (done ms : List NumberedLine) → All IsLater ms → IsBegun done ms
    → count_by is_session done + count_by is_session ms ≤ MAX_SESSIONS → count_by is_inside done + count_by is_inside ms ≤ MAX_COMMANDS
    → first_fault (first ∷ done) ms ≡ None
no_fault first done [] lines begun few within = refl
no_fault first done (m ∷ ms) lines begun few within =
    let line : IsScriptLine m.text = All-head IsLater m ms lines in
    let cause : later_cause (count_by is_session done) (count_by is_inside done) (tokens m.text) ≡ None =
    no_cause (count_by is_session done) (count_by is_inside done) (tokens m.text) line.alone
    (λ is. omega (arith, few, one_counted is_session m ms is)) begun
    (λ is. omega (arith, within, one_counted is_inside m ms (ap not is))) in
    let rest : first_fault (first ∷ (done ++ m ∷ [])) ms ≡ None =
    no_fault first (done ++ m ∷ []) ms (All-tail IsLater m ms lines) (still_begun done m ms begun)
    (omega (arith, few, count_on is_session done m ms)) (omega (arith, within, count_on is_inside done m ms)) in
    rw (line.plain, cause, rest) refl

-- ---- the header

reads_space : (word a b : List ℕ) (n p : ℕ) → bytes_eq word (codes "space") ≡ true → is_natural a ≡ true → is_natural b ≡ true → natural_of a ≡ n
    → natural_of b ≡ p → 1 ≤ n → n ≤ MAX_LEVEL → IsListed p
    → header (word ∷ a ∷ b ∷ []) ≡ Ok (record { modulus = n; characteristic = p })
reads_space word a b n p named first second is other least most listed =
    let low : nat_le 1 n ≡ true = grind (arith, nat_tests) in
    let high : nat_le n MAX_LEVEL ≡ true = grind (arith, nat_tests) in
    let known : is_listed p ≡ true = listed in
    rw (named, first, second, is, other, low, high, known) refl

record IsDrawnHeader (d : Drawing) : Type 0 where
  least : 100 ≤ d.level
  most : d.level ≤ 200
  listed : IsListed d.characteristic

header_tokens : (d : Drawing) → IsDrawnHeader d → tokens (header_text d) ≡ codes "space" ∷ decimal d.level ∷ decimal d.characteristic ∷ []
header_tokens d is =
    let n = decimal d.level in
    let p = decimal d.characteristic in
    let few : d.characteristic ≤ 4000000000 = omega (arith, listed_small d.characteristic is.listed) in
    let level = numeral-word d.level n (numeral d.level (omega (arith, is.most))) in
    let characteristic = numeral-word d.characteristic p (numeral d.characteristic few) in
    ap tokens (append_assoc (codes "space " ++ n) (codes " ") p)
    ∙ (ap (λ (ts : List (List ℕ)). codes "space" ∷ ts)
    (tokens-more n p level ∙ ap (λ (ts : List (List ℕ)). n ∷ ts) (tokens-end p characteristic)))

header_plain : (d : Drawing) → IsDrawnHeader d → IsPlain (header_text d)
header_plain d is =
    joined_plain (codes "space " ++ decimal d.level ++ codes " ") (decimal d.characteristic)
    (joined_plain (codes "space " ++ decimal d.level) (codes " ")
    (joined_plain (codes "space ") (decimal d.level) refl (decimal_plain d.level (omega (arith, is.most)))) refl)
    (decimal_plain d.characteristic (omega (arith, listed_small d.characteristic is.listed)))

header_read : (d : Drawing) → IsDrawnHeader d → header (tokens (header_text d)) ≡ Ok (record { modulus = d.level; characteristic = d.characteristic })
header_read d is =
    ap header (header_tokens d is)
    ∙ reads_space (codes "space") (decimal d.level) (decimal d.characteristic) d.level d.characteristic refl
    (is_natural-decimal d.level (omega (arith, is.most)))
    (is_natural-decimal d.characteristic (omega (arith, listed_small d.characteristic is.listed)))
    (natural_of-decimal d.level (omega (arith, is.most)))
    (natural_of-decimal d.characteristic (omega (arith, listed_small d.characteristic is.listed)))
    (omega (arith, is.least)) (omega (arith, is.most)) is.listed

-- ---- the whole text

record IsDrawing (d : Drawing) : Type 0 where
  header : IsDrawnHeader d
  drawn : All (All (IsDrawnAt d.level)) d.sessions
  few_sessions : length d.sessions ≤ MAX_SESSIONS
  few_commands : command_count (script_of_drawing d).sessions ≤ MAX_COMMANDS

length-blocks : (n : ℕ) (sessions : List (List (List ℕ))) → length (blocks_from n sessions) ≡ length sessions
length-blocks n [] = refl
length-blocks n (texts ∷ sessions) = ap suc (length-blocks (n + 1 + length texts) sessions)

begun_first : (n : ℕ) (sessions : List (List DrawnCommand)) → IsBegun [] (numbered_from n (flat_map session_texts sessions))
begun_first n [] = tt
begun_first n (session ∷ sessions) = λ none. absurd (let clash : true ≡ false = none in cc)

module _ (d : Drawing) (is : IsDrawing d) where
  few_level : d.level ≤ 1000
  few_level = omega (arith, is.header.most)

  abbrev first_line : NumberedLine
  first_line = record { line = 1; text = header_text d }

  abbrev later_lines : List NumberedLine
  later_lines = numbered_from 2 (flat_map session_texts d.sessions)

  abbrev blocks : List (List NumberedLine)
  blocks = blocks_from 2 (map (map drawn_text) d.sessions)

  texts_shown : All IsScriptLine (flat_map session_texts d.sessions)
  texts_shown = session_lines d.level d.sessions few_level is.drawn

  texts_plain : All IsPlain (drawing_texts d)
  texts_plain = All-cons IsPlain (header_text d) (flat_map session_texts d.sessions) (header_plain d is.header)
      (λ k e within. (texts_shown k e within).plain)

  lines_are : lines (ended (drawing_texts d)) ≡ drawing_texts d
  lines_are = lines-ended (drawing_texts d) (λ k e within. lacks_feed (get_or (drawing_texts d) k e) (texts_plain k e within))

  lines_shown : All IsShown (first_line ∷ later_lines)
  lines_shown = All-cons IsShown first_line later_lines (ap is_skipped_text (header_tokens d is.header))
      (λ k e within. (all_numbered IsScriptLine 2 (flat_map session_texts d.sessions) texts_shown k e within).shown)

  significant_are : significant_from 1 (lines (ended (drawing_texts d))) ≡ first_line ∷ later_lines
  significant_are =
      ap (significant_from 1) lines_are
      ∙ ap (λ (ls : List NumberedLine). filter (λ line. not (is_skipped line)) ls) (numbered-plain 1 (drawing_texts d) texts_plain)
      ∙ none_skipped (first_line ∷ later_lines) lines_shown

  split_are : slice_split is_session later_lines ≡ [] ∷ blocks
  split_are = split_sessions d.level 2 d.sessions few_level is.drawn

  sessions_are : sessions_of later_lines ≡ blocks
  sessions_are = rw split_are refl

  sessions_few : count_by is_session later_lines ≤ MAX_SESSIONS
  sessions_few = omega (
    arith,
    length-sessions_of later_lines,
    ap (λ (ps : List (List NumberedLine)). length ps) sessions_are,
    length-blocks 2 (map (map drawn_text) d.sessions),
    length-map d.sessions (map drawn_text),
    is.few_sessions,
  )

  commands_few : count_by is_inside later_lines ≤ MAX_COMMANDS
  commands_few = omega (
    arith,
    split_sum is_session later_lines,
    ap (λ (ps : List (List NumberedLine)). command_count ps) split_are,
    sum_by-cons size [] blocks,
    is.few_commands,
  )

  later_fault : first_fault (first_line ∷ []) later_lines ≡ None
  later_fault =
      no_fault first_line [] later_lines (all_numbered IsScriptLine 2 (flat_map session_texts d.sessions) texts_shown) (begun_first 2 d.sessions)
      (omega (arith, sessions_few)) (omega (arith, commands_few))

  abbrev space : SpaceLine
  space = record { modulus = d.level; characteristic = d.characteristic }

  header_cause : cause_of (header (tokens (header_text d))) ≡ None
  header_cause = ap cause_of (header_read d is.header)

  fault_none : first_fault [] (first_line ∷ later_lines) ≡ None
  fault_none = rw (header_plain d is.header, header_cause, later_fault) refl

  read_lines : (n : ℕ) → script_from n (first_line ∷ later_lines) ≡ Ok (script_of_drawing d)
  read_lines n =
      ap (λ o. unless_fault o (with_sessions (header (tokens (header_text d))) (sessions_of later_lines))) fault_none
      ∙ ap (λ h. Ok (with_sessions h (sessions_of later_lines))) (header_read d is.header)
      ∙ ap (λ (ss : List (List NumberedLine)). Ok (with_sessions (Ok space) ss)) sessions_are

  drawing_read : script_of (ended (drawing_texts d)) ≡ Ok (script_of_drawing d)
  unfolding script_of
  drawing_read =
      ap (script_from (length (lines (ended (drawing_texts d))))) significant_are ∙ read_lines (length (lines (ended (drawing_texts d))))

generated_is : (seed : ℕ) → generated seed ≡ script_of_drawing (drawing seed)
unfolding generated
generated_is seed = refl

drawing_is : (seed : ℕ) → IsDrawing (drawing seed)
drawing_is seed =
    let is : IsDrawnScript seed = drawings-drawn seed in
    let fits : Fits (script_of_drawing (drawing seed)) = subst Fits (generated_is seed) (generated_fits seed) in
    record {
      header = record { least = is.four_sessions.least; most = is.four_sessions.most; listed = is.four_sessions.listed };
      drawn = is.drawn;
      few_sessions = omega (arith, is.four_sessions.sessions);
      few_commands = omega (arith, fits.few);
    }

pub texts_read : GeneratedTextsAreRead
texts_read seed = drawing_read (drawing seed) (drawing_is seed) ∙ ap Ok (sym (generated_is seed))
