-- The states of the reader spell what they have read, each can be completed, and what a transcript spells is read.
use Rattle.std.proofs.Common.{◌≡◌, ℕ, zero, suc, ◌+◌, ◌-◌, ◌^◌, ◌<◌, ◌≤◌, true, ◌&&◌, eqb, leb, ltb, List, [], ◌∷◌, ◌++◌, length, map, replicate, Some, Ok, refl, sym, ap, subst, ◌∙◌, append_assoc, add-zero, length-append, arith}
use Rattle.std.specs.List.{AllByRecursion}
use Rattle.std.proofs.lemmas.Bool.{eqb-true, ltb-true, leb-true, eq-eqb, lt-ltb, le-leb, and_parts}
use Rattle.std.proofs.lemmas.List.{append-nil, map-append}
use Rattle.std.proofs.lemmas.List.Sums.{sum_by-append, sum_by-cons}
use Rattle.std.proofs.lemmas.List.{length-replicate}
use Rattle.field_table.specs.Table.{is_listed}
use Rattle.field_table.proofs.TableFacts.{listed_above_one}
use Rattle.p1_normal.specs.Points.{symbols}
use Rattle.p1_normal.specs.declared.level.TheConstants.{MAX_LEVEL}
use Rattle.script_text.specs.declared.limits.TheConstants.{MAX_SESSIONS, MAX_COMMANDS}
use Rattle.op_polynomials.specs.declared.name.OpName.TheVariants as ops
use Rattle.op_polynomials.specs.declared.entry.SplitEntry.{SplitEntry}
use Rattle.reply_text.specs.declared.limits.TheConstants.{MAX_VERSIONS}
use Rattle.reply_text.specs.declared.transcript.ReplyLine.{ReplyLine}
use Rattle.reply_text.specs.declared.transcript.Transcript.{Transcript}
use Rattle.reply_text.specs.declared.line.Line.{Line}
use Rattle.reply_text.specs.declared.line.Line.TheVariants as lines
use Rattle.reply_text.specs.declared.state.State.{State}
use Rattle.reply_text.specs.declared.state.State.TheVariants as states
use Rattle.reply_text.specs.Rules.{is_space, is_written, AreNumbered, replies_of, is_entry, IsTranscript}
use Rattle.reply_text.specs.Steps.{empty, entry, last_length, add_reply, takes_session, takes_reply, takes_entry, step, finish}
use Rattle.reply_text.proofs.NumberTexts.{taken}
use Rattle.reply_text.proofs.Machine.{Format, read_lines}

-- ---- the lines of a transcript

abbrev pub session_blocks : ℕ → List (List ReplyLine) → List Line
session_blocks n [] = []
session_blocks n (answers ∷ sessions) = (lines.Session n ∷ map (λ r. lines.Reply r) answers) ++ session_blocks (suc n) sessions

abbrev pub split_line : ℕ → SplitEntry → Line
split_line w e = lines.Entry w e.session e.command e.op e.poly

abbrev pub split_lines : ℕ → List SplitEntry → List Line
split_lines w [] = []
split_lines w (e ∷ entries) = split_line w e ∷ split_lines (suc w) entries

abbrev pub opening : Transcript → Line
opening r = lines.Space r.modulus r.characteristic r.symbols

abbrev pub typed_lines : Transcript → List Line
typed_lines r =
    ((lines.Heading ∷ opening r ∷ session_blocks 1 r.sessions) ++ lines.History (length r.history) ∷ split_lines 1 r.history)
    ++ lines.Columns r.columns ∷ lines.End ∷ []

abbrev pub front : Transcript → List Line
front r = lines.Heading ∷ opening r ∷ session_blocks 1 r.sessions

abbrev pub spelled : State → List Line
spelled states.Start = []
spelled states.Opened = lines.Heading ∷ []
spelled (states.InSessions r) = front r
spelled (states.InHistory r h) = front r ++ lines.History h ∷ split_lines 1 r.history
spelled (states.Counted r) = (front r ++ lines.History (length r.history) ∷ split_lines 1 r.history) ++ lines.Columns r.columns ∷ []
spelled (states.Done r) = typed_lines r

-- a report whose history has h entries at most
pub record Begun (r : Transcript) (h : ℕ) : Type 0 where
  pub report : IsTranscript r
  pub history : length r.history ≤ h
  pub limit : h ≤ MAX_VERSIONS

abbrev pub Holds : State → Type 0
Holds states.Start = Unit {0}
Holds states.Opened = Unit {0}
Holds (states.InSessions r) = IsTranscript r × (r.history ≡ [])
Holds (states.InHistory r h) = Begun r h
Holds (states.Counted r) = IsTranscript r
Holds (states.Done r) = IsTranscript r

-- ---- lists of sessions and of entries

all-append : {A : Type 0} (P : A → Type 0) (xs ys : List A) → AllByRecursion P xs → AllByRecursion P ys → AllByRecursion P (xs ++ ys)
all-append P [] ys h k = k
all-append P (x ∷ xs) ys h k = (h.0, all-append P xs ys h.1 k)

session_blocks-append : (n : ℕ) (xs ys : List (List ReplyLine))
    → session_blocks n (xs ++ ys) ≡ session_blocks n xs ++ session_blocks (n + length xs) ys
session_blocks-append n [] ys = rw (add-zero n) refl
session_blocks-append n (said ∷ xs) ys =
    let on : suc n + length xs ≡ n + suc (length xs) = omega arith in
    rw (session_blocks-append (suc n) xs ys, on)
    (ap (λ ls. lines.Session n ∷ ls)
    (sym (append_assoc (map (λ r. lines.Reply r) said) (session_blocks (suc n) xs) (session_blocks (n + suc (length xs)) ys))))

split_lines-append : (w : ℕ) (xs ys : List SplitEntry) → split_lines w (xs ++ ys) ≡ split_lines w xs ++ split_lines (w + length xs) ys
split_lines-append w [] ys = rw (add-zero w) refl
split_lines-append w (e ∷ xs) ys =
    let on : suc w + length xs ≡ w + suc (length xs) = omega arith in
    rw (split_lines-append (suc w) xs ys, on) refl

session_blocks-reply : (n : ℕ) (ss : List (List ReplyLine)) (a : ReplyLine) → 0 < length ss
    → session_blocks n (add_reply ss a) ≡ session_blocks n ss ++ lines.Reply a ∷ []
session_blocks-reply n [] a some = absurd (omega arith)
session_blocks-reply n (said ∷ []) a some =
    ap (λ ls. lines.Session n ∷ ls) (append-nil (map (λ r. lines.Reply r) (said ++ a ∷ [])) ∙ map-append (λ r. lines.Reply r) said (a ∷ [])
    ∙ ap (λ ls. ls ++ lines.Reply a ∷ []) (sym (append-nil (map (λ r. lines.Reply r) said))))
session_blocks-reply n (said ∷ next ∷ ss) a some =
    rw (session_blocks-reply (suc n) (next ∷ ss) a (omega arith))
    (ap (λ ls. lines.Session n ∷ ls)
    (sym (append_assoc (map (λ r. lines.Reply r) said) (session_blocks (suc n) (next ∷ ss)) (lines.Reply a ∷ []))))

length-add_reply : (ss : List (List ReplyLine)) (a : ReplyLine) → length (add_reply ss a) ≡ length ss
length-add_reply [] a = refl
length-add_reply (said ∷ []) a = refl
length-add_reply (said ∷ next ∷ ss) a = ap suc (length-add_reply (next ∷ ss) a)

replies_of-add_reply : (ss : List (List ReplyLine)) (a : ReplyLine) → 0 < length ss → replies_of (add_reply ss a) ≡ replies_of ss + 1
replies_of-add_reply [] a some = absurd (omega arith)
replies_of-add_reply (said ∷ []) a some = omega (arith, length-append said (a ∷ []))
replies_of-add_reply (said ∷ next ∷ ss) a some =
    omega (
      arith,
      replies_of-add_reply (next ∷ ss) a (omega arith),
      sum_by-cons (λ xs. length xs) said (add_reply (next ∷ ss) a),
      sum_by-cons
          (λ xs. length xs) said (next ∷ ss),
    )

numbered-push : (n : ℕ) (said : List ReplyLine) (a : ReplyLine) → AreNumbered n said → a.number ≡ length said + n → a.version ≤ MAX_VERSIONS
    → is_written a.reply ≡ true → AreNumbered n (said ++ a ∷ [])
numbered-push n [] a all number version written = (omega (arith, number), version, written, tt)
numbered-push n (b ∷ said) a all number version written =
    (all.0, all.1, all.2, numbered-push (suc n) said a all.3 (omega (arith, number)) version written)

all_numbered-push : (ss : List (List ReplyLine)) (a : ReplyLine) → AllByRecursion (AreNumbered 1) ss → a.number ≡ last_length ss + 1
    → a.version ≤ MAX_VERSIONS → is_written a.reply ≡ true → AllByRecursion (AreNumbered 1) (add_reply ss a)
all_numbered-push [] a all number version written = tt
all_numbered-push (said ∷ []) a all number version written = (numbered-push 1 said a all.0 number version written, tt)
all_numbered-push (said ∷ next ∷ ss) a all number version written = (all.0, all_numbered-push (next ∷ ss) a all.1 number version written)

-- ---- each step spells one line more

pub record Steps (s : State) (l : Line) (t : State) : Type 0 where
  pub holds : Holds t
  pub line : spelled t ≡ spelled s ++ l ∷ []

to : (s t u : State) (l : Line) → u ≡ t → Holds u → spelled u ≡ spelled s ++ l ∷ [] → Steps s l t
to s t u l e holds same = subst (λ v. Steps s l v) e (record { holds = holds; line = same })

opens : (t : State) (n p m : ℕ) → step states.Opened (lines.Space n p m) ≡ Some t → Steps states.Opened (lines.Space n p m) t
opens t n p m e =
    let take = taken (is_space n p m) (states.InSessions (empty n p m)) t e in
    to states.Opened t (states.InSessions (empty n p m)) (lines.Space n p m) take.1 (
      record {
        space = take.0;
        sessions = omega arith;
        replies = omega arith;
        numbered = tt;
        history = omega arith;
        entries = tt;
        columns = omega arith;
      },
      refl,
    ) refl

session-begins : (r : Transcript) (t : State) (n : ℕ) → Holds (states.InSessions r) → step (states.InSessions r) (lines.Session n) ≡ Some t
    → Steps (states.InSessions r) (lines.Session n) t
session-begins r t n holds e =
    let ss = r.sessions ++ [] ∷ [] in
    let u = record r { sessions = ss } in
    let take = taken (takes_session r n) (states.InSessions u) t e in
    let parts = and_parts (eqb n (length r.sessions + 1)) (ltb (length r.sessions) MAX_SESSIONS) take.0 in
    let number : n ≡ 1 + length r.sessions = omega (arith, eqb-true n (length r.sessions + 1) parts.0) in
    let few = ltb-true (length r.sessions) MAX_SESSIONS parts.1 in
    let fit : replies_of ss ≤ MAX_COMMANDS = omega (arith, sum_by-append (λ xs. length xs) r.sessions ([] ∷ []), holds.0.replies) in
    to (states.InSessions r) t (states.InSessions u) (lines.Session n) take.1 (
      record {
        space = holds.0.space;
        sessions = omega (arith, length-append r.sessions ([] ∷ []), few);
        replies = fit;
        numbered = all-append (AreNumbered 1) r.sessions ([] ∷ []) holds.0.numbered (tt, tt);
        history = holds.0.history;
        entries = holds.0.entries;
        columns = holds.0.columns;
      },
      holds.1,
    )
    (rw (number) (ap (λ ls. lines.Heading ∷ opening r ∷ ls) (session_blocks-append 1 r.sessions ([] ∷ []))))

answers : (r : Transcript) (t : State) (a : ReplyLine) → Holds (states.InSessions r) → step (states.InSessions r) (lines.Reply a) ≡ Some t
    → Steps (states.InSessions r) (lines.Reply a) t
answers r t a holds e =
    let ss = add_reply r.sessions a in
    let u = record r { sessions = ss } in
    let take = taken (takes_reply r a && is_written a.reply) (states.InSessions u) t e in
    let w = and_parts (takes_reply r a) (is_written a.reply) take.0 in
    let p = and_parts (ltb 0 (length r.sessions) && eqb a.number (last_length r.sessions + 1) && leb a.version MAX_VERSIONS)
    (ltb (replies_of r.sessions) MAX_COMMANDS) w.0 in
    let q = and_parts (ltb 0 (length r.sessions) && eqb a.number (last_length r.sessions + 1)) (leb a.version MAX_VERSIONS) p.0 in
    let o = and_parts (ltb 0 (length r.sessions)) (eqb a.number (last_length r.sessions + 1)) q.0 in
    let some = ltb-true 0 (length r.sessions) o.0 in
    let number = eqb-true a.number (last_length r.sessions + 1) o.1 in
    let version = leb-true a.version MAX_VERSIONS q.1 in
    let fit : replies_of ss ≤ MAX_COMMANDS =
    omega (arith, replies_of-add_reply r.sessions a some, ltb-true (replies_of r.sessions) MAX_COMMANDS p.1) in
    to (states.InSessions r) t (states.InSessions u) (lines.Reply a) take.1 (
      record {
        space = holds.0.space;
        sessions = omega (arith, length-add_reply r.sessions a, holds.0.sessions);
        replies = fit;
        numbered = all_numbered-push r.sessions a holds.0.numbered number version w.1;
        history = holds.0.history;
        entries = holds.0.entries;
        columns = holds.0.columns;
      },
      holds.1,
    )
    (ap (λ ls. lines.Heading ∷ opening r ∷ ls) (session_blocks-reply 1 r.sessions a some))

history-begins : (r : Transcript) (t : State) (h : ℕ) → Holds (states.InSessions r) → step (states.InSessions r) (lines.History h) ≡ Some t
    → Steps (states.InSessions r) (lines.History h) t
history-begins r t h holds e =
    let take = taken (leb h MAX_VERSIONS) (states.InHistory r h) t e in
    to (states.InSessions r) t (states.InHistory r h) (lines.History h) take.1
    (record { report = holds.0; history = rw holds.1 (omega arith); limit = leb-true h MAX_VERSIONS take.0 })
    (ap (λ hs. front r ++ lines.History h ∷ split_lines 1 hs) holds.1)

entry-comes : (r : Transcript) (h : ℕ) (t : State) (w : ℕ) (x : SplitEntry) → Holds (states.InHistory r h)
    → step (states.InHistory r h) (split_line w x) ≡ Some t → Steps (states.InHistory r h) (split_line w x) t
entry-comes r h t w x holds e =
    let hs = r.history ++ x ∷ [] in
    let u = record r { history = hs } in
    let take = taken (takes_entry r h w x) (states.InHistory u h) t e in
    let p = and_parts (eqb w (length r.history + 1) && ltb (length r.history) h) (is_entry r.characteristic x) take.0 in
    let q = and_parts (eqb w (length r.history + 1)) (ltb (length r.history) h) p.0 in
    let number : w ≡ 1 + length r.history = omega (arith, eqb-true w (length r.history + 1) q.0) in
    let few : length hs ≤ h = omega (arith, ltb-true (length r.history) h q.1, length-append r.history (x ∷ [])) in
    let limit : length hs ≤ MAX_VERSIONS = omega (arith, few, holds.limit) in
    let report = holds.report in
    to (states.InHistory r h) t (states.InHistory u h) (split_line w x) take.1
    (record {
      report = record {
        space = report.space;
        sessions = report.sessions;
        replies = report.replies;
        numbered = report.numbered;
        history = limit;
        entries = all-append (λ y. is_entry r.characteristic y ≡ true) r.history (x ∷ []) report.entries (p.1, tt);
        columns = report.columns;
      };
      history = few;
      limit = holds.limit;
    })
    (rw number (ap (λ ls. front r ++ lines.History h ∷ ls) (split_lines-append 1 r.history (x ∷ [])) ∙ sym
    (append_assoc (front r) (lines.History h ∷ split_lines 1 r.history) (split_line (1 + length r.history) x ∷ []))))

columns-come : (r : Transcript) (h : ℕ) (t : State) (k : ℕ) → Holds (states.InHistory r h) → step (states.InHistory r h) (lines.Columns k) ≡ Some t
    → Steps (states.InHistory r h) (lines.Columns k) t
columns-come r h t k holds e =
    let u = record r { columns = k } in
    let take = taken (eqb (length r.history) h && ltb k (2 ^ 64)) (states.Counted u) t e in
    let p = and_parts (eqb (length r.history) h) (ltb k (2 ^ 64)) take.0 in
    let all = eqb-true (length r.history) h p.0 in
    let report = holds.report in
    to (states.InHistory r h) t (states.Counted u) (lines.Columns k) take.1
    (record {
      space = report.space;
      sessions = report.sessions;
      replies = report.replies;
      numbered = report.numbered;
      history = report.history;
      entries = report.entries;
      columns = ltb-true k (2 ^ 64) p.1;
    })
    (ap (λ n. (front r ++ lines.History n ∷ split_lines 1 r.history) ++ lines.Columns k ∷ []) all)

some_is : (s t : State) → Some s ≡ Some t → s ≡ t
some_is s t e = cc

pub steps : (s t : State) (l : Line) → Holds s → step s l ≡ Some t → Steps s l t
steps states.Start t lines.Heading holds e = to states.Start t states.Opened lines.Heading (some_is states.Opened t e) tt refl
steps states.Start t l holds e = absurd cc
steps states.Opened t (lines.Space n p m) holds e = opens t n p m e
steps states.Opened t l holds e = absurd cc
steps (states.InSessions r) t (lines.Session n) holds e = session-begins r t n holds e
steps (states.InSessions r) t (lines.Reply a) holds e = answers r t a holds e
steps (states.InSessions r) t (lines.History h) holds e = history-begins r t h holds e
steps (states.InSessions r) t l holds e = absurd cc
steps (states.InHistory r h) t (lines.Entry w s c o fs) holds e = entry-comes r h t w (entry s c o fs) holds e
steps (states.InHistory r h) t (lines.Columns k) holds e = columns-come r h t k holds e
steps (states.InHistory r h) t l holds e = absurd cc
steps (states.Counted r) t lines.End holds e = to (states.Counted r) t (states.Done r) lines.End (some_is (states.Done r) t e) holds
    (sym (append_assoc (front r ++ lines.History (length r.history) ∷ split_lines 1 r.history) (lines.Columns r.columns ∷ []) (lines.End ∷ [])))
steps (states.Counted r) t l holds e = absurd cc
steps (states.Done r) t l holds e = absurd cc

report_is : (r x : Transcript) → Some r ≡ Some x → r ≡ x
report_is r x e = cc

pub finishes : (s : State) (x : Transcript) → Holds s → finish s ≡ Some x → IsTranscript x × (typed_lines x ≡ spelled s)
finishes (states.Done r) x holds e = subst (λ y. IsTranscript y × (typed_lines y ≡ typed_lines r)) (report_is r x e) (holds, refl)
finishes states.Start x holds e = absurd cc
finishes states.Opened x holds e = absurd cc
finishes (states.InSessions r) x holds e = absurd cc
finishes (states.InHistory r h) x holds e = absurd cc
finishes (states.Counted r) x holds e = absurd cc

-- ---- each state can be completed

filler : SplitEntry
filler = record { session = 1; command = 1; op = ops.Star; poly = 0 ∷ [] }

filled : (p : ℕ) → ltb 0 p ≡ true → is_entry p filler ≡ true
unfolding filler
filled p e = rw e refl

fills : (p k : ℕ) → ltb 0 p ≡ true → AllByRecursion (λ e. is_entry p e ≡ true) (replicate k filler)
fills p zero e = tt
fills p (suc k) e = (filled p e, fills p k e)

-- a characteristic is no 0
above_zero : (n p m : ℕ) → is_space n p m ≡ true → ltb 0 p ≡ true
above_zero n p m space =
    let parts = and_parts (leb 1 n && leb n MAX_LEVEL && is_listed p) (eqb m (length (symbols n))) space in
    let listed = (and_parts (leb 1 n && leb n MAX_LEVEL) (is_listed p) parts.0).1 in
    lt-ltb 0 p (omega (arith, listed_above_one p listed))

least : Transcript
least = empty 1 2 (length (symbols 1))

least-good : IsTranscript least
unfolding least
least-good =
    let same = eq-eqb (length (symbols 1)) (length (symbols 1)) refl in
    record {
      space = rw same refl;
      sessions = omega arith;
      replies = omega arith;
      numbered = tt;
      history = omega arith;
      entries = tt;
      columns = omega arith;
    }

pub completes : (s : State) → Holds s → (x : Transcript) × (more : List Line) × IsTranscript x × (typed_lines x ≡ spelled s ++ more)
unfolding least
completes states.Start holds = (least, typed_lines least, least-good, refl)
completes states.Opened holds = (least, opening least ∷ lines.History 0 ∷ lines.Columns 0 ∷ lines.End ∷ [], least-good, refl)
completes (states.InSessions r) holds = (
  r,
  (lines.History (length r.history) ∷ split_lines 1 r.history) ++ lines.Columns r.columns ∷ lines.End ∷ [],
  holds.0,
  append_assoc (front r)
      (lines.History (length r.history) ∷ split_lines 1 r.history) (lines.Columns r.columns ∷ lines.End ∷ []),
)
completes (states.InHistory r h) holds =
    let report = holds.report in
    let k = h - length r.history in
    let hs = r.history ++ replicate k filler in
    let u = record r { history = hs } in
    let full : length hs ≡ h = omega (arith, length-append r.history (replicate k filler), length-replicate k filler, holds.history) in
    let rest = split_lines (1 + length r.history) (replicate k filler) in
    let same : lines.History (length hs) ∷ split_lines 1 hs ≡ (lines.History h ∷ split_lines 1 r.history) ++ rest =
    rw full (ap (λ ls. lines.History h ∷ ls) (split_lines-append 1 r.history (replicate k filler))) in (
      u,
      rest ++ lines.Columns r.columns ∷ lines.End ∷ [],
      record {
        space = report.space;
        sessions = report.sessions;
        replies = report.replies;
        numbered = report.numbered;
        history = omega (arith, full, holds.limit);
        entries = all-append (λ y. is_entry r.characteristic y ≡ true) r.history (replicate k filler) report.entries
            (fills r.characteristic k (above_zero r.modulus r.characteristic r.symbols report.space));
        columns = report.columns;
      },
      ap (λ ls. (front r ++ ls) ++ lines.Columns r.columns ∷ lines.End ∷ []) same
          ∙ regroup (front r) (lines.History h ∷ split_lines 1 r.history) rest (lines.Columns r.columns ∷ lines.End ∷ []),
    )
  where
    regroup : (a b c d : List Line) → (a ++ (b ++ c)) ++ d ≡ (a ++ b) ++ (c ++ d)
    regroup a b c d = simp append_assoc
completes (states.Counted r) holds = (
  r,
  lines.End ∷ [],
  holds,
  sym
      (append_assoc (front r ++ lines.History (length r.history) ∷ split_lines 1 r.history) (lines.Columns r.columns ∷ []) (lines.End ∷ [])),
)
completes (states.Done r) holds = (r, [], holds, sym (append-nil (typed_lines r)))

-- ---- what a report spells is read again

Reads : State → List Line → Transcript → Type 0
Reads s ls x = (n : ℕ) → read_lines step finish s n ls ≡ Ok x

on : (s t : State) (l : Line) (ls : List Line) (x : Transcript) → step s l ≡ Some t → Reads t ls x → Reads s (l ∷ ls) x
unfolding Reads
on s t l ls x e h n = rw e (h (suc n))

pub same_session : (done : List (List ReplyLine)) (said : List ReplyLine) (a : ReplyLine)
    → add_reply (done ++ said ∷ []) a ≡ done ++ (said ++ a ∷ []) ∷ []
same_session [] said a = refl
same_session (x ∷ []) said a = refl
same_session (x ∷ y ∷ done) said a = ap (λ ss. x ∷ ss) (same_session (y ∷ done) said a)

pub last_session : (done : List (List ReplyLine)) (said : List ReplyLine) → last_length (done ++ said ∷ []) ≡ length said
last_session [] said = refl
last_session (x ∷ []) said = refl
last_session (x ∷ y ∷ done) said = last_session (y ∷ done) said

replies_of-last : (done : List (List ReplyLine)) (said : List ReplyLine) → replies_of (done ++ said ∷ []) ≡ replies_of done + length said
replies_of-last done said = omega (arith, sum_by-append (λ xs. length xs) done (said ∷ []))

answers-again : (r : Transcript) (done : List (List ReplyLine)) (said more : List ReplyLine) (ls : List Line) (x : Transcript)
    → AreNumbered (length said + 1) more → replies_of done + length said + length more ≤ MAX_COMMANDS
    → Reads (states.InSessions (record r { sessions = done ++ (said ++ more) ∷ [] })) ls x
    → Reads (states.InSessions (record r { sessions = done ++ said ∷ [] })) (map (λ r. lines.Reply r) more ++ ls) x
unfolding Reads
answers-again r done said [] ls x numbered fit h n = rw (← (append-nil said)) (h n)
answers-again r done said (a ∷ more) ls x numbered fit h n =
    let u = record r { sessions = done ++ said ∷ [] } in
    let some : ltb 0 (length u.sessions) ≡ true = lt-ltb 0 (length u.sessions) (omega (arith, length-append done (said ∷ []))) in
    let number : eqb a.number (last_length u.sessions + 1) ≡ true =
    eq-eqb a.number (last_length u.sessions + 1) (numbered.0 ∙ ap (λ k. k + 1) (sym (last_session done said))) in
    let version : leb a.version MAX_VERSIONS ≡ true = le-leb a.version MAX_VERSIONS numbered.1 in
    let few : ltb (replies_of u.sessions) MAX_COMMANDS ≡ true =
    lt-ltb (replies_of u.sessions) MAX_COMMANDS (omega (arith, replies_of-last done said, fit)) in
    let takes : (takes_reply u a && is_written a.reply) ≡ true = rw (some, number, version, few, numbered.2) refl in
    let there : step (states.InSessions u) (lines.Reply a) ≡ Some (states.InSessions (record r { sessions = done ++ (said ++ a ∷ []) ∷ [] })) =
    rw takes (ap (λ ss. Some (states.InSessions (record r { sessions = ss }))) (same_session done said a)) in
    let length-is : length (said ++ a ∷ []) ≡ length said + 1 = length-append said (a ∷ []) in
    let rest : AreNumbered (length (said ++ a ∷ []) + 1) more = subst (λ k. AreNumbered k more) (omega (arith, length-is)) numbered.3 in
    let later = answers-again r done (said ++ a ∷ []) more ls x rest (omega (arith, fit, length-is))
    (λ k. rw (append_assoc said (a ∷ []) more) (h k)) in
    on (states.InSessions u) (states.InSessions (record r { sessions = done ++ (said ++ a ∷ []) ∷ [] })) (lines.Reply a)
    (map (λ r. lines.Reply r) more ++ ls) x there later n

sessions-again : (r : Transcript) (done ss : List (List ReplyLine)) (ls : List Line) (x : Transcript) → AllByRecursion (AreNumbered 1) ss
    → length done + length ss ≤ MAX_SESSIONS → replies_of done + replies_of ss ≤ MAX_COMMANDS
    → Reads (states.InSessions (record r { sessions = done ++ ss })) ls x
    → Reads (states.InSessions (record r { sessions = done })) (session_blocks (1 + length done) ss ++ ls) x
unfolding Reads
sessions-again r done [] ls x numbered few fit h n = rw (← (append-nil done)) (h n)
sessions-again r done (said ∷ ss) ls x numbered few fit h n =
    let u = record r { sessions = done } in
    let number : eqb (1 + length done) (length done + 1) ≡ true = eq-eqb (1 + length done) (length done + 1) (omega arith) in
    let room : ltb (length done) MAX_SESSIONS ≡ true = lt-ltb (length done) MAX_SESSIONS (omega (arith, few)) in
    let there : step (states.InSessions u) (lines.Session (1 + length done)) ≡ Some (states.InSessions (record r { sessions = done ++ [] ∷ [] })) =
    rw (number, room) refl in
    let sum = sum_by-cons (λ xs. length xs) said ss in
    let last = replies_of-last done said in
    let len : length (done ++ said ∷ []) ≡ length done + 1 = length-append done (said ∷ []) in
    let later : Reads (states.InSessions (record r { sessions = done ++ said ∷ [] })) (session_blocks (1 + length (done ++ said ∷ [])) ss ++ ls) x =
    sessions-again r (done ++ said ∷ []) ss ls x numbered.1 (omega (arith, few, len)) (omega (arith, fit, sum, last))
    (λ k. rw (append_assoc done (said ∷ []) ss) (h k)) in
    let index : 1 + length (done ++ said ∷ []) ≡ suc (1 + length done) = omega (arith, len) in
    let tail = session_blocks (suc (1 + length done)) ss in
    let spoken = answers-again r done [] said (tail ++ ls) x numbered.0 (omega (arith, fit, sum))
    (subst (λ i. Reads (states.InSessions (record r { sessions = done ++ said ∷ [] })) (session_blocks i ss ++ ls) x) index later) in
    on (states.InSessions u) (states.InSessions (record r { sessions = done ++ [] ∷ [] })) (lines.Session (1 + length done))
    ((map (λ r. lines.Reply r) said ++ tail) ++ ls) x there
    (λ k. rw (append_assoc (map (λ r. lines.Reply r) said) tail ls) (spoken k)) n

entries-again : (r : Transcript) (h : ℕ) (done es : List SplitEntry) (ls : List Line) (x : Transcript)
    → AllByRecursion (λ e. is_entry r.characteristic e ≡ true) es → length done + length es ≤ h
    → Reads (states.InHistory (record r { history = done ++ es }) h) ls x
    → Reads (states.InHistory (record r { history = done }) h) (split_lines (1 + length done) es ++ ls) x
unfolding Reads
entries-again r h done [] ls x good few k n = rw (← (append-nil done)) (k n)
entries-again r h done (e ∷ es) ls x good few k n =
    let u = record r { history = done } in
    let number : eqb (1 + length done) (length done + 1) ≡ true = eq-eqb (1 + length done) (length done + 1) (omega arith) in
    let room : ltb (length done) h ≡ true = lt-ltb (length done) h (omega (arith, few)) in
    let there : step (states.InHistory u h) (split_line (1 + length done) e) ≡ Some (states.InHistory (record r { history = done ++ e ∷ [] }) h) =
    rw (number, room, good.0) refl in
    let len : length (done ++ e ∷ []) ≡ length done + 1 = length-append done (e ∷ []) in
    let index : 1 + length (done ++ e ∷ []) ≡ suc (1 + length done) = omega (arith, len) in
    let later : Reads (states.InHistory (record r { history = done ++ e ∷ [] }) h) (split_lines (1 + length (done ++ e ∷ [])) es ++ ls) x =
    entries-again r h (done ++ e ∷ []) es ls x good.1 (omega (arith, few, len)) (λ i. rw (append_assoc done (e ∷ []) es) (k i)) in
    on (states.InHistory u h) (states.InHistory (record r { history = done ++ e ∷ [] }) h) (split_line (1 + length done) e)
    (split_lines (suc (1 + length done)) es ++ ls) x there
    (subst (λ i. Reads (states.InHistory (record r { history = done ++ e ∷ [] }) h) (split_lines i es ++ ls) x) index later) n

pub again : (x : Transcript) → IsTranscript x → read_lines step finish states.Start 1 (typed_lines x) ≡ Ok x
unfolding Reads
again x good =
    let h = length x.history in
    let opened = record x { sessions = []; history = []; columns = 0 } in
    let heard = record x { history = []; columns = 0 } in
    let split = record x { columns = 0 } in
    let last = lines.Columns x.columns ∷ lines.End ∷ [] in
    let end : Reads (states.Counted x) (lines.End ∷ []) x = on (states.Counted x) (states.Done x) lines.End [] x refl (λ n. refl) in
    let all : eqb h h ≡ true = eq-eqb h h refl in
    let word : ltb x.columns (2 ^ 64) ≡ true = lt-ltb x.columns (2 ^ 64) good.columns in
    let counted_symbols : step (states.InHistory split h) (lines.Columns x.columns) ≡ Some (states.Counted x) = rw (all, word) refl in
    let columns : Reads (states.InHistory split h) last x =
    on (states.InHistory split h) (states.Counted x) (lines.Columns x.columns) (lines.End ∷ []) x counted_symbols end in
    let entries : Reads (states.InHistory heard h) (split_lines 1 x.history ++ last) x =
    entries-again heard h [] x.history last x good.entries (omega arith) columns in
    let room : leb h MAX_VERSIONS ≡ true = le-leb h MAX_VERSIONS good.history in
    let begun : step (states.InSessions heard) (lines.History h) ≡ Some (states.InHistory heard h) = rw room refl in
    let history : Reads (states.InSessions heard) (lines.History h ∷ (split_lines 1 x.history ++ last)) x =
    on (states.InSessions heard) (states.InHistory heard h) (lines.History h) (split_lines 1 x.history ++ last) x begun entries in
    let sessions : Reads (states.InSessions opened) (session_blocks 1 x.sessions ++ (lines.History h ∷ (split_lines 1 x.history ++ last))) x =
    sessions-again opened [] x.sessions (lines.History h ∷ (split_lines 1 x.history ++ last)) x good.numbered (omega (arith, good.sessions))
    (omega (arith, good.replies)) history in
    let known : step states.Opened (opening x) ≡ Some (states.InSessions opened) = rw good.space refl in
    let space : Reads states.Opened (opening x ∷ (session_blocks 1 x.sessions ++ (lines.History h ∷ (split_lines 1 x.history ++ last)))) x =
    on states.Opened (states.InSessions opened) (opening x)
    (session_blocks 1 x.sessions ++ (lines.History h ∷ (split_lines 1 x.history ++ last))) x known sessions in
    let heading : Reads states.Start
    (lines.Heading ∷ opening x ∷ (session_blocks 1 x.sessions ++ (lines.History h ∷ (split_lines 1 x.history ++ last)))) x =
    on states.Start states.Opened lines.Heading
    (opening x ∷ (session_blocks 1 x.sessions ++ (lines.History h ∷ (split_lines 1 x.history ++ last)))) x refl space in
    let same : typed_lines x ≡ lines.Heading ∷ opening x ∷ (session_blocks 1 x.sessions ++ (lines.History h ∷ (split_lines 1 x.history ++ last))) =
    append_assoc (lines.Heading ∷ opening x ∷ session_blocks 1 x.sessions) (lines.History h ∷ split_lines 1 x.history) last in
    ap (λ ls. read_lines step finish states.Start 1 ls) same ∙ heading 1

unfoldable pub reports : Format State Line Transcript
reports = record {
  IsGood = IsTranscript;
  lines_of = typed_lines;
  start = states.Start;
  step = step;
  finish = finish;
  Holds = Holds;
  spelled = spelled;
  starts = (tt, refl);
  steps = λ s t l holds e. let x = steps s t l holds e in (x.holds, x.line);
  finishes = finishes;
  completes = completes;
  again = again;
}
