-- What the reader of transcripts answers.
use Rattle.std.proofs.Common.{◌≡◌, ℕ, suc, ◌+◌, ◌<◌, true, ◌&&◌, eqb, leb, List, [], ◌∷◌, length, Some, None, Result, Ok, Err, refl, sym, ap, ◌∙◌, add-one, arith}
use Rattle.std.proofs.lemmas.Bool.{and_parts}
use Rattle.std.proofs.lemmas.List.Splits.{join_with_byte-slice_split}
use Rattle.text_lines.specs.Lines.{parts, joined}
use Rattle.text_lines.proofs.PartLemmas.{parts-cons}
use Rattle.field_table.specs.Table.{is_listed}
use Rattle.p1_normal.specs.Points.{symbols}
use Rattle.p1_normal.specs.declared.level.TheConstants.{MAX_LEVEL}
use Rattle.reply_text.specs.declared.transcript.Transcript.{Transcript}
use Rattle.reply_text.specs.declared.line.Line.{Line}
use Rattle.reply_text.specs.declared.state.State.{State}
use Rattle.reply_text.specs.declared.state.State.TheVariants as states
use Rattle.reply_text.specs.Lexemes.{then_option}
use Rattle.reply_text.specs.LineForms.{is_line, line_of}
use Rattle.reply_text.specs.Rules.{last_line, with_ends, text_lines, IsTranscript, IsFaultyLine}
use Rattle.reply_text.specs.Transcripts.{transcript_text}
use Rattle.reply_text.specs.Steps.{HasField, step, finish}
use Rattle.reply_text.proofs.LineReads.{line_of-is}
use Rattle.reply_text.proofs.Machine.{or_line, read_lines}
use Rattle.reply_text.proofs.States.{Holds}
use Rattle.reply_text.proofs.TextFormat.{text_step, text-steps, reading, reading-found, reading-faulty}

-- a line that is read has its ranges
pub good_line : (t : List ℕ) (l : Line) → Some l ≡ line_of t → is_line l ≡ true
good_line t l e = (line_of-is t l (sym e)).1

-- where entries are read the characteristic is listed
pub holds_field : (s : State) → Holds s → HasField s
holds_field states.Start h = tt
holds_field states.Opened h = tt
holds_field (states.InSessions t) h = tt
holds_field (states.InHistory t n) h =
    let a = and_parts (leb 1 t.modulus && leb t.modulus MAX_LEVEL && is_listed t.characteristic)
    (eqb t.symbols (length (symbols t.modulus))) h.report.space in
    (and_parts (leb 1 t.modulus && leb t.modulus MAX_LEVEL) (is_listed t.characteristic) a.0).1
holds_field (states.Counted t) h = tt
holds_field (states.Done t) h = tt

-- reading from a state and a line's number on
abbrev pub reading_from : State → ℕ → List ℕ → Result Transcript ℕ
reading_from s n text = read_lines text_step finish s n (text_lines text)

more_lines : (text line after : List ℕ) → parts 10 text ≡ line ∷ parts 10 after → text_lines text ≡ (line, true) ∷ text_lines after
more_lines text line after e =
    let p = parts-cons 10 after in
    ap with_ends e ∙ rw p.2 refl

pub reads_none : (s : State) (n : ℕ) (text line after : List ℕ) → parts 10 text ≡ line ∷ parts 10 after → None ≡ then_option (line_of line) (step s)
    → reading_from s n text ≡ Err n
reads_none s n text line after e f =
    ap (λ ls. read_lines text_step finish s n ls) (more_lines text line after e) ∙ ap (λ o. or_line n o (λ t. reading_from t (suc n) after)) (sym f)

pub reads_more : (s t : State) (n : ℕ) (text line after : List ℕ) → parts 10 text ≡ line ∷ parts 10 after
    → Some t ≡ then_option (line_of line) (step s) → reading_from s n text ≡ reading_from t (suc n) after
reads_more s t n text line after e f =
    ap (λ ls. read_lines text_step finish s n ls) (more_lines text line after e) ∙ ap (λ o. or_line n o (λ t. reading_from t (suc n) after)) (sym f)

pub holds_next : (s t : State) (line : List ℕ) → Holds s → Some t ≡ then_option (line_of line) (step s) → Holds t
holds_next s t line h f = (text-steps s t line true h (sym f)).holds

-- the only part is the text
only_is : (text p : List ℕ) → parts 10 text ≡ p ∷ [] → p ≡ text
only_is text p e = ap (joined 10) (sym e) ∙ join_with_byte-slice_split 10 text

pub only_part : (text p : List ℕ) → parts 10 text ≡ p ∷ [] → parts 10 text ≡ text ∷ []
only_part text p e = e ∙ ap (λ q. q ∷ []) (only_is text p e)

last_lines : (text p : List ℕ) → parts 10 text ≡ p ∷ [] → text_lines text ≡ last_line text
last_lines text p e = ap with_ends e ∙ ap last_line (only_is text p e)

pub reads_end : (s : State) (n : ℕ) (text p : List ℕ) → parts 10 text ≡ p ∷ [] → length text ≡ 0
    → reading_from s n text ≡ or_line n (finish s) (λ x. Ok x)
reads_end s n text p e none = ap (λ ls. read_lines text_step finish s n ls) (last_lines text p e ∙ ap last_line (nothing text none))
  where
    nothing : (xs : List ℕ) → length xs ≡ 0 → xs ≡ []
    nothing [] e = refl
    nothing (x ∷ xs) e = absurd (omega (arith, e))

pub reads_cut : (s : State) (n : ℕ) (text p : List ℕ) → parts 10 text ≡ p ∷ [] → 0 < length text → reading_from s n text ≡ Err n
reads_cut s n text p e some = ap (λ ls. read_lines text_step finish s n ls) (last_lines text p e) ∙ cut text some
  where
    cut : (xs : List ℕ) → 0 < length xs → read_lines text_step finish s n (last_line xs) ≡ Err n
    cut [] some = absurd (omega arith)
    cut (x ∷ xs) some = refl

-- ---- what the reader answers

pub faulty_none : (bytes : List ℕ) (s : State) (n : ℕ) (text line after : List ℕ) → reading_from s n text ≡ reading bytes
    → parts 10 text ≡ line ∷ parts 10 after
    → None ≡ then_option (line_of line) (step s) → IsFaultyLine bytes n
faulty_none bytes s n text line after inv e f = reading-faulty bytes n (sym inv ∙ reads_none s n text line after e f)

pub reads_next : (bytes : List ℕ) (s t : State) (n : ℕ) (text line after : List ℕ) → reading_from s n text ≡ reading bytes
    → parts 10 text ≡ line ∷ parts 10 after
    → Some t ≡ then_option (line_of line) (step s) → reading_from t (n + 1) after ≡ reading bytes
reads_next bytes s t n text line after inv e f = rw add-one (sym (reads_more s t n text line after e f) ∙ inv)

pub faulty_end : (bytes : List ℕ) (s : State) (n : ℕ) (text : List ℕ) → reading_from s n text ≡ reading bytes → parts 10 text ≡ text ∷ []
    → None ≡ finish s → IsFaultyLine bytes n
faulty_end bytes s n text inv e f = reading-faulty bytes n (sym inv ∙ at text refl)
  where
    at : (xs : List ℕ) → text ≡ xs → reading_from s n text ≡ Err n
    at [] is = reads_end s n text text e (ap length is) ∙ ap (λ o. or_line n o (λ x. Ok x)) (sym f)
    at (x ∷ xs) is = reads_cut s n text text e (omega (arith, ap length is))

pub faulty_cut : (bytes : List ℕ) (s : State) (n : ℕ) (text : List ℕ) → reading_from s n text ≡ reading bytes → parts 10 text ≡ text ∷ []
    → 0 < length text → IsFaultyLine bytes n
faulty_cut bytes s n text inv e some = reading-faulty bytes n (sym inv ∙ reads_cut s n text text e some)

pub found_end : (bytes : List ℕ) (s : State) (n : ℕ) (text : List ℕ) (t : Transcript) → reading_from s n text ≡ reading bytes
    → parts 10 text ≡ text ∷ [] → Some t ≡ finish s → length text ≡ 0
    → IsTranscript t × (transcript_text t ≡ bytes)
found_end bytes s n text t inv e f none = reading-found bytes t (sym inv ∙ reads_end s n text text e none ∙ ap (λ o. or_line n o (λ x. Ok x)) (sym f))
