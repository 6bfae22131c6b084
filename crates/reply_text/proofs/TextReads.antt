-- Reading the lines of a text, and the text of a transcript.
use Rattle.std.proofs.Common.{◌≡◌, ℕ, suc, ◌+◌, ◌^◌, ◌<◌, ◌≤◌, true, ◌&&◌, eqb, leb, ltb, List, [], ◌∷◌, ◌++◌, length, map, decimal, codes, refl, sym, ap, ◌∙◌, append_assoc, add-one, arith}
use Rattle.std.specs.List.{list_all, AllByRecursion}
use Rattle.std.proofs.lemmas.Bool.{eqb-true, ltb-true, leb-true, lt-ltb, and_parts, and_from}
use Rattle.std.proofs.lemmas.List.{map-append}
use Rattle.std.proofs.lemmas.List.Sums.{sum_by-cons}
use Rattle.field_table.specs.Table.{is_listed}
use Rattle.field_table.proofs.TableFacts.{listed_small}
use Rattle.p1_normal.specs.Points.{symbols}
use Rattle.p1_normal.specs.declared.level.TheConstants.{MAX_LEVEL}
use Rattle.p1_normal.proofs.Marking.{length-symbols, small_square}
use Rattle.op_polynomials.specs.declared.entry.SplitEntry.{SplitEntry}
use Rattle.op_polynomials.specs.declared.poly.TheConstants.{MAX_COEFFICIENTS}
use Rattle.script_text.specs.declared.limits.TheConstants.{MAX_SESSIONS, MAX_COMMANDS}
use Rattle.reply_text.specs.declared.limits.TheConstants.{MAX_VERSIONS}
use Rattle.reply_text.specs.Transcripts.{reply_line, session_lines, entry_line, entry_lines, space_line, opening_lines, history_lines, closing_lines, transcript_lines}
use Rattle.reply_text.specs.declared.transcript.ReplyLine.{ReplyLine}
use Rattle.reply_text.specs.declared.transcript.Transcript.{Transcript}
use Rattle.reply_text.specs.declared.line.Line.{Line}
use Rattle.reply_text.specs.declared.line.Line.TheVariants as lines
use Rattle.reply_text.specs.Lexemes.{is_small, is_lexeme}
use Rattle.reply_text.specs.Wordings.{operator_lexeme, reply_lexemes, is_some_row, has_rows}
use Rattle.reply_text.specs.LineForms.{line_text, is_reply, is_line}
use Rattle.reply_text.specs.Rules.{is_space, AreNumbered, replies_of, is_polynomial, is_entry, IsTranscript}
use Rattle.reply_text.proofs.States.{session_blocks, split_line, split_lines, opening, typed_lines, front}

-- ---- the lines of a transcript are the texts of its typed lines

map-texts : (xs ys : List Line) → map line_text (xs ++ ys) ≡ map line_text xs ++ map line_text ys
map-texts xs ys = map-append line_text xs ys

reply-texts : (rs : List ReplyLine) → map line_text (map (λ r. lines.Reply r) rs) ≡ map reply_line rs
reply-texts [] = refl
reply-texts (r ∷ rs) = ap (λ ls. reply_line r ∷ ls) (reply-texts rs)

session-texts : (n : ℕ) (ss : List (List ReplyLine)) → map line_text (session_blocks n ss) ≡ session_lines n ss
session-texts n [] = refl
session-texts n (rs ∷ ss) =
    ap (λ ls. (codes "session " ++ decimal n) ∷ ls) (
    map-texts (map (λ r. lines.Reply r) rs) (session_blocks (suc n) ss)
    ∙ ap (λ ls. ls ++ map line_text (session_blocks (suc n) ss)) (reply-texts rs)
    ∙ ap (λ ls. map reply_line rs ++ ls) (session-texts (suc n) ss ∙ ap (λ k. session_lines k ss) (sym (add-one n))))

entry-texts : (w : ℕ) (es : List SplitEntry) → map line_text (split_lines w es) ≡ entry_lines w es
entry-texts w [] = refl
entry-texts w (e ∷ es) = ap (λ ls. entry_line w e ∷ ls) (entry-texts (suc w) es ∙ ap (λ k. entry_lines k es) (sym (add-one w)))

pub transcript-texts : (t : Transcript) → map line_text (typed_lines t) ≡ transcript_lines t
transcript-texts t =
    let history = lines.History (length t.history) ∷ split_lines 1 t.history in
    let last = lines.Columns t.columns ∷ lines.End ∷ [] in
    map-texts (front t ++ history) last
    ∙ ap (λ ls. ls ++ map line_text last) (map-texts (front t) history)
    ∙ append_assoc (map line_text (front t)) (map line_text history) (map line_text last)
    ∙ ap (λ ls. (codes "transcript 1" ∷ space_line t ∷ ls) ++ (map line_text history ++ map line_text last)) (session-texts 1 t.sessions)
    ∙ ap (λ ls. opening_lines t ++ (((codes "history " ++ decimal (length t.history)) ∷ ls) ++ map line_text last)) (entry-texts 1 t.history)
    ∙ sym (append_assoc (opening_lines t) (history_lines t.history) (closing_lines t.columns))

-- ---- the typed lines of a transcript that keeps the rules have their ranges

good-append : (xs ys : List Line) → list_all is_line xs ≡ true → list_all is_line ys ≡ true → list_all is_line (xs ++ ys) ≡ true
good-append [] ys h k = k
good-append (x ∷ xs) ys h k =
    let q = and_parts (is_line x) (list_all is_line xs) h in
    and_from (is_line x) (list_all is_line (xs ++ ys)) q.0 (good-append xs ys q.1 k)

small : (n : ℕ) → n < 2 ^ 32 → is_small n ≡ true
small n lt = lt-ltb n (2 ^ 32) lt

good-replies : (n : ℕ) (rs : List ReplyLine) → AreNumbered n rs → n + length rs ≤ MAX_COMMANDS + 1
    → list_all is_line (map (λ r. lines.Reply r) rs) ≡ true
good-replies n [] h few = refl
good-replies n (r ∷ rs) h few =
    let number : is_small r.number ≡ true = small r.number (omega (arith, h.0, few)) in
    let version : is_small r.version ≡ true = small r.version (omega (arith, h.1)) in
    let w = and_parts (list_all is_lexeme (reply_lexemes r.reply)) (has_rows r.reply) h.2 in
    let here : is_reply r ≡ true = and_from (is_small r.number && is_small r.version && list_all is_lexeme (reply_lexemes r.reply)) (has_rows r.reply)
    (and_from (is_small r.number && is_small r.version) (list_all is_lexeme (reply_lexemes r.reply))
    (and_from (is_small r.number) (is_small r.version) number version) w.0) w.1 in
    and_from (is_reply r) (list_all is_line (map (λ r. lines.Reply r) rs)) here (good-replies (suc n) rs h.3 (omega (arith, few)))

good-sessions : (n : ℕ) (ss : List (List ReplyLine)) → AllByRecursion (AreNumbered 1) ss → n + length ss ≤ MAX_SESSIONS + 1
    → replies_of ss ≤ MAX_COMMANDS → list_all is_line (session_blocks n ss) ≡ true
good-sessions n [] h few fit = refl
good-sessions n (rs ∷ ss) h few fit =
    let sum = sum_by-cons (λ xs. length xs) rs ss in
    let head = good-replies 1 rs h.0 (omega (arith, fit, sum)) in
    let tail = good-sessions (suc n) ss h.1 (omega (arith, few)) (omega (arith, fit, sum)) in
    and_from (is_small n) (list_all is_line (map (λ r. lines.Reply r) rs ++ session_blocks (suc n) ss)) (small n (omega (arith, few)))
    (good-append (map (λ r. lines.Reply r) rs) (session_blocks (suc n) ss) head tail)

small_residues : (p : ℕ) (xs : List ℕ) → p < 2 ^ 24 → list_all (λ x. ltb x p) xs ≡ true → list_all is_small xs ≡ true
small_residues p [] lt e = refl
small_residues p (x ∷ xs) lt e =
    let q = and_parts (ltb x p) (list_all (λ x. ltb x p) xs) e in
    and_from (is_small x) (list_all is_small xs) (small x (omega (arith, ltb-true x p q.0))) (small_residues p xs lt q.1)

some_row : (xs : List ℕ) → leb 1 (length xs) ≡ true → is_some_row xs ≡ true
some_row [] e = absurd (omega (arith, leb-true 1 0 e))
some_row (x ∷ xs) e = refl

good-entries : (p w : ℕ) (es : List SplitEntry) → p < 2 ^ 24 → AllByRecursion (λ e. is_entry p e ≡ true) es → w + length es ≤ MAX_VERSIONS + 1
    → list_all is_line (split_lines w es) ≡ true
good-entries p w [] lt h few = refl
good-entries p w (e ∷ es) lt h few =
    let a = and_parts (is_small e.session && is_small e.command && is_lexeme (operator_lexeme e.op)) (is_polynomial p e.poly) h.0 in
    let b = and_parts (is_small e.session && is_small e.command) (is_lexeme (operator_lexeme e.op)) a.0 in
    let c = and_parts (is_small e.session) (is_small e.command) b.0 in
    let d = and_parts (leb 1 (length e.poly) && leb (length e.poly) MAX_COEFFICIENTS) (list_all (λ x. ltb x p) e.poly) a.1 in
    let f = and_parts (leb 1 (length e.poly)) (leb (length e.poly) MAX_COEFFICIENTS) d.0 in
    let here : is_line (split_line w e) ≡ true =
    rw (small w (omega (arith, few)), c.0, c.1, b.1, small_residues p e.poly lt d.1, some_row e.poly f.0) refl in
    and_from (is_line (split_line w e)) (list_all is_line (split_lines (suc w) es)) here (good-entries p (suc w) es lt h.1 (omega (arith, few)))

good-opening : (n p m : ℕ) → is_space n p m ≡ true → (is_line (lines.Space n p m) ≡ true) × (p < 2 ^ 24)
good-opening n p m e =
    let a = and_parts (leb 1 n && leb n MAX_LEVEL && is_listed p) (eqb m (length (symbols n))) e in
    let b = and_parts (leb 1 n && leb n MAX_LEVEL) (is_listed p) a.0 in
    let c = and_parts (leb 1 n) (leb n MAX_LEVEL) b.0 in
    let limit = leb-true n MAX_LEVEL c.1 in
    let lt = listed_small p b.1 in
    let count : m < 2 ^ 32 = omega (arith, eqb-true m (length (symbols n)) a.1, length-symbols n, small_square n limit) in
    (rw (small n (omega (arith, limit)), small p (omega (arith, lt)), small m count) refl, lt)

pub good-lines : (t : Transcript) → IsTranscript t → list_all is_line (typed_lines t) ≡ true
good-lines t h =
    let history = lines.History (length t.history) ∷ split_lines 1 t.history in
    let last = lines.Columns t.columns ∷ lines.End ∷ [] in
    let space = good-opening t.modulus t.characteristic t.symbols h.space in
    let sessions = good-sessions 1 t.sessions h.numbered (omega (arith, h.sessions)) h.replies in
    let begin : list_all is_line (front t) ≡ true =
    and_from (is_line (opening t)) (list_all is_line (session_blocks 1 t.sessions)) space.0 sessions in
    let entries = good-entries t.characteristic 1 t.history space.1 h.entries (omega (arith, h.history)) in
    let middle : list_all is_line history ≡ true =
    and_from (is_small (length t.history)) (list_all is_line (split_lines 1 t.history))
    (small (length t.history) (omega (arith, h.history))) entries in
    let end : list_all is_line last ≡ true = and_from (ltb t.columns (2 ^ 64)) true (lt-ltb t.columns (2 ^ 64) h.columns) refl in
    good-append (front t ++ history) last (good-append (front t) history begin middle) end
