-- Texts of transcripts are read line by line: what is read, and the first line that no transcript has.
use Rattle.std.proofs.Common.{◌≡◌, ℕ, suc, Bool, true, false, List, [], ◌∷◌, ◌++◌, map, Option, Some, None, Result, Ok, Err, refl, sym, ap, subst, ◌∙◌, append_assoc, append-nil}
use Rattle.std.specs.List.{list_all}
use Rattle.std.proofs.lemmas.Bool.{and_parts}
use Rattle.std.proofs.lemmas.List.{map-append}
use Rattle.std.proofs.lemmas.List.Splits.{join_with_byte-slice_split}
use Rattle.text_lines.specs.Lines.{parts, joined, ended}
use Rattle.text_lines.proofs.PartLemmas.{parts-cons, parts-ended}
use Rattle.reply_text.specs.Transcripts.{transcript_lines, transcript_text}
use Rattle.reply_text.specs.declared.transcript.Transcript.{Transcript}
use Rattle.reply_text.specs.declared.line.Line.{Line}
use Rattle.reply_text.specs.declared.state.State.{State}
use Rattle.reply_text.specs.declared.state.State.TheVariants as states
use Rattle.reply_text.specs.Lexemes.{then_option}
use Rattle.reply_text.specs.LineForms.{line_text, is_line, line_of}
use Rattle.reply_text.specs.FirstBad.{IsFirstBad}
use Rattle.reply_text.specs.Rules.{IsTranscript, last_line, with_ends, text_lines, whole, IsFaultyLine}
use Rattle.reply_text.specs.Steps.{step, finish}
use Rattle.reply_text.proofs.NumberTexts.{then_taken, lacks-Lacks}
use Rattle.reply_text.proofs.LineReads.{line_of-text, line_of-is, line-lacks}
use Rattle.reply_text.proofs.TextReads.{transcript-texts, good-lines}
use Rattle.reply_text.proofs.Machine.{Format, or_line, read_lines, found, first_bad}
use Rattle.reply_text.proofs.States.{typed_lines, spelled, Holds, reports}

-- ---- reading lines with their ends

abbrev pub step_at : Bool → State → List ℕ → Option State
step_at true s t = then_option (line_of t) (step s)
step_at false s t = None

abbrev pub text_step : State → List ℕ × Bool → Option State
text_step s line = step_at line.1 s line.0

abbrev pub texts_of : List Line → List (List ℕ × Bool)
texts_of ls = whole (map line_text ls)

texts-append : (xs ys : List Line) → texts_of (xs ++ ys) ≡ texts_of xs ++ texts_of ys
texts-append xs ys = ap whole (map-append line_text xs ys) ∙ map-append (λ line. (line, true)) (map line_text xs) (map line_text ys)

pub record TextSteps (s : State) (line : List ℕ × Bool) (t : State) : Type 0 where
  pub holds : Holds t
  pub spells : texts_of (spelled t) ≡ texts_of (spelled s) ++ line ∷ []

pub text-steps : (s t : State) (text : List ℕ) (end : Bool) → Holds s → step_at end s text ≡ Some t → TextSteps s (text, end) t
unfolding reports
text-steps s t text true holds e =
    let a = then_taken (line_of text) (step s) t e in
    let is = line_of-is text a.0 a.1 in
    let next = reports.steps s t a.0 holds a.2 in
    record {
      holds = next.0;
      spells = ap texts_of next.1 ∙ texts-append (spelled s) (a.0 ∷ []) ∙ ap (λ (u : List ℕ). texts_of (spelled s) ++ (u, true) ∷ []) is.0;
    }
text-steps s t text false holds e = absurd cc

reads-texts : (s : State) (n : ℕ) (ls : List Line) → list_all is_line ls ≡ true
    → read_lines text_step finish s n (texts_of ls) ≡ read_lines step finish s n ls
reads-texts s n [] good = refl
reads-texts s n (l ∷ ls) good =
    let q = and_parts (is_line l) (list_all is_line ls) good in
    let here : text_step s (line_text l, true) ≡ step s l = ap (λ o. then_option o (step s)) (line_of-text l q.0) in
    ap (λ o. or_line n o (λ t. read_lines text_step finish t (suc n) (texts_of ls))) here ∙ at (step s l) (λ t. reads-texts t (suc n) ls q.1)
  where
    at : (o : Option State) → ((t : State) → read_lines text_step finish t (suc n) (texts_of ls) ≡ read_lines step finish t (suc n) ls)
        → or_line n o (λ t. read_lines text_step finish t (suc n) (texts_of ls)) ≡ or_line n o (λ t. read_lines step finish t (suc n) ls)
    at None h = refl
    at (Some t) h = h t

pub texts : Format State (List ℕ × Bool) Transcript
unfolding reports
texts = record {
  IsGood = IsTranscript;
  lines_of = λ x. texts_of (typed_lines x);
  start = states.Start;
  step = text_step;
  finish = finish;
  Holds = Holds;
  spelled = λ s. texts_of (spelled s);
  starts = (tt, refl);
  steps = λ s t line holds e. let x = text-steps s t line.0 line.1 holds e in (x.holds, x.spells);
  finishes = λ s x holds e. let is = reports.finishes s x holds e in (is.0, ap texts_of is.1);
  completes = λ s holds. let c = reports.completes s holds in (c.0, texts_of c.1, c.2, ap texts_of c.3 ∙ texts-append (spelled s) c.1);
  again = λ x good. reads-texts states.Start 1 (typed_lines x) (good-lines x good) ∙ reports.again x good;
}

-- ---- the lines of a text

abbrev pub closed : List (List ℕ) → List (List ℕ)
closed ls = ls ++ [] ∷ []

joined-closed : (ls : List (List ℕ)) → joined 10 (closed ls) ≡ ended ls
joined-closed [] = refl
joined-closed (l ∷ []) = sym (append-nil (l ++ 10 ∷ []))
joined-closed (l ∷ m ∷ ls) = ap (λ t. l ++ (10 ∷ t)) (joined-closed (m ∷ ls)) ∙ sym (append_assoc l (10 ∷ []) (ended (m ∷ ls)))

ends-whole : (ls : List (List ℕ)) → with_ends (closed ls) ≡ whole ls
ends-whole [] = refl
ends-whole (l ∷ []) = refl
ends-whole (l ∷ m ∷ ls) = ap (λ more. (l, true) ∷ more) (ends-whole (m ∷ ls))

whole-last : (p : List ℕ) (ls : List (List ℕ)) → last_line p ≡ whole ls → p ∷ [] ≡ closed ls
whole-last [] [] e = refl
whole-last [] (l ∷ ls) e = absurd cc
whole-last (b ∷ p) [] e = absurd cc
whole-last (b ∷ p) (l ∷ ls) e = absurd (let ends : false ≡ true = ap end_of e in cc)
  where
    end_of : List (List ℕ × Bool) → Bool
    end_of [] = true
    end_of (x ∷ xs) = x.1

whole-ends : (p : List ℕ) (ps ls : List (List ℕ)) → with_ends (p ∷ ps) ≡ whole ls → p ∷ ps ≡ closed ls
whole-ends p [] ls e = whole-last p ls e
whole-ends p (q ∷ ps) [] e = absurd cc
whole-ends p (q ∷ ps) (l ∷ ls) e =
    let first : p ≡ l = ap first_text e in
    rw first (ap (λ more. l ∷ more) (whole-ends q ps ls (ap rest_of e)))
  where
    first_text : List (List ℕ × Bool) → List ℕ
    first_text [] = []
    first_text (x ∷ xs) = x.0

    rest_of : List (List ℕ × Bool) → List (List ℕ × Bool)
    rest_of [] = []
    rest_of (x ∷ xs) = xs

-- a text with these lines, all whole
pub text-is : (bytes : List ℕ) (ls : List (List ℕ)) → text_lines bytes ≡ whole ls → ended ls ≡ bytes
text-is bytes ls e =
    let p = parts-cons 10 bytes in
    let all = whole-ends p.0 p.1 ls (subst (λ ps. with_ends ps ≡ whole ls) p.2 e) in
    sym (joined-closed ls) ∙ ap (joined 10) (sym all) ∙ ap (joined 10) (sym p.2) ∙ join_with_byte-slice_split 10 bytes

parts-closed : (ls : List Line) → list_all is_line ls ≡ true → parts 10 (ended (map line_text ls)) ≡ closed (map line_text ls)
parts-closed [] e = refl
parts-closed (l ∷ ls) e =
    let q = and_parts (is_line l) (list_all is_line ls) e in
    ap (parts 10) (append_assoc (line_text l) (10 ∷ []) (ended (map line_text ls)))
    ∙ parts-ended 10 (line_text l) (ended (map line_text ls)) (lacks-Lacks 10 (line_text l) (line-lacks l q.0))
    ∙ ap (λ more. line_text l ∷ more) (parts-closed ls q.1)

-- the lines of the text of a transcript
pub lines-of-text : (x : Transcript) → IsTranscript x → text_lines (transcript_text x) ≡ whole (transcript_lines x)
unfolding transcript_text
lines-of-text x good =
    let e = transcript-texts x in
    subst (λ ls. with_ends (parts 10 (ended ls)) ≡ whole ls) e (ap with_ends (parts-closed (typed_lines x) (good-lines x good))
    ∙ ends-whole (map line_text (typed_lines x)))

-- ---- what a reader of a text answers

abbrev pub reading : List ℕ → Result Transcript ℕ
reading bytes = read_lines text_step finish states.Start 1 (text_lines bytes)

pub reading-found : (bytes : List ℕ) (x : Transcript) → reading bytes ≡ Ok x → IsTranscript x × (transcript_text x ≡ bytes)
unfolding transcript_text texts
reading-found bytes x e =
    let is = found texts (text_lines bytes) x e in
    (is.0, text-is bytes (transcript_lines x) (sym is.1 ∙ ap whole (transcript-texts x)))

pub reading-faulty : (bytes : List ℕ) (t : ℕ) → reading bytes ≡ Err t → IsFaultyLine bytes t
unfolding texts
reading-faulty bytes t e =
    subst (λ (f : Transcript → List (List ℕ × Bool)). IsFirstBad IsTranscript f (text_lines bytes) t) (λ i x. whole (transcript-texts x i))
    (first_bad texts (text_lines bytes) t e)

pub reading-text : (x : Transcript) → IsTranscript x → reading (transcript_text x) ≡ Ok x
unfolding texts
reading-text x good =
    ap (λ ls. read_lines text_step finish states.Start 1 ls) (lines-of-text x good ∙ ap whole (sym (transcript-texts x))) ∙ texts.again x good

done : Transcript → Result Transcript ℕ
done x = Ok x

ok_is : (x y : Transcript) → done x ≡ done y → x ≡ y
unfolding done
ok_is x y e = cc

-- a text is that of one transcript at most
pub one_text : (x y : Transcript) → IsTranscript x → IsTranscript y → transcript_text x ≡ transcript_text y → x ≡ y
unfolding done
one_text x y good other e = ok_is x y (sym (reading-text x good) ∙ ap reading e ∙ reading-text y other)
