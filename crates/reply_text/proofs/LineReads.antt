-- What a line spells is read, and what is read spells the line.
use Rattle.std.proofs.Common.{◌≡◌, ℕ, ◌^◌, ◌<◌, true, false, ◌&&◌, cond, eqb, ltb, List, [], ◌∷◌, ◌++◌, map, decimal, codes, Some, refl, sym, ap, subst, ◌∙◌, append_assoc, append-nil, arith}
use Rattle.std.specs.List.{list_all}
use Rattle.std.specs.Fmt.{digits}
use Rattle.std.proofs.lemmas.Bool.{eqb-true, ltb-true, lt-ltb, and_parts, and_from}
use Rattle.std.proofs.lemmas.List.Splits.{join_with_byte-slice_split}
use Rattle.text_lines.specs.Lines.{parts, joined}
use Rattle.text_lines.proofs.PartLemmas.{parts-joined, parts-cons}
use Rattle.op_polynomials.specs.declared.name.OpName.{OpName}
use Rattle.op_polynomials.specs.declared.name.OpName.TheVariants as ops
use Rattle.script_text.specs.Draws.{operator_text}
use Rattle.reply_text.specs.Texts.{coefficients_text, reply_text}
use Rattle.reply_text.specs.Transcripts.{reply_line}
use Rattle.reply_text.specs.declared.transcript.ReplyLine.{ReplyLine}
use Rattle.reply_text.specs.declared.word.Word.{Word}
use Rattle.reply_text.specs.declared.word.Word.TheVariants as words
use Rattle.reply_text.specs.declared.lexeme.Lexeme.{Lexeme}
use Rattle.reply_text.specs.declared.lexeme.Lexeme.TheVariants as lexs
use Rattle.reply_text.specs.declared.line.Line.{Line}
use Rattle.reply_text.specs.declared.line.Line.TheVariants as lines
use Rattle.reply_text.specs.Lexemes.{word_text, spell, is_small, is_lexeme, where_true, then_option, lexeme_of}
use Rattle.reply_text.specs.Wordings.{operator_lexeme, reply_lexemes, spaced_text, is_some_row, has_rows, number_item, operator_item, first, only, after, reply_of}
use Rattle.reply_text.specs.LineForms.{line_text, is_reply, is_line, coefficients_of, large_item, command_item, space_of, word_line, numbered_reply, entry_of, numbered_by, numbered_line, line_by_lexeme, line_from, line_of}
use Rattle.reply_text.proofs.NumberTexts.{taken, then_taken, is_small-lt, lacks, lacks-append, decimal_lacks}
use Rattle.reply_text.proofs.LexemeLemmas.{lexeme_of-spell, lexeme_of-word}
use Rattle.reply_text.proofs.WordingLemmas.{number-item, operator-item, first-is, only-is, after-is, reply_of-is, no_more}
use Rattle.reply_text.proofs.WordingsRead.{reply_of-lexemes}
use Rattle.reply_text.proofs.WordingTexts.{operator-spelled, reply-spaced_text}
use Rattle.reply_text.proofs.LineTexts.{is_known, known-reply, IsParting, spaces_part, feeds_part, spaced_text-lacks, spell-lacks, all-lack, joined-spaced_text, pieces-spelled, lexemes-spelled, one-spelled, pieces-are, coefficients_of-text, coefficients_of-is, coefficients-lack}

heading : word_text words.Transcript ++ spaced_text (lexs.Number 1 ∷ []) ≡ line_text lines.Heading
unfolding digits
heading = refl

-- ---- what is spelled is read

word-read : (w : Word) (ls : List Lexeme) → list_all is_lexeme ls ≡ true → line_of (word_text w ++ spaced_text ls) ≡ word_line w ls
word-read w ls e =
    ap line_from (pieces-spelled (lexs.Word w) ls e)
    ∙ ap (λ l. line_by_lexeme l (map spell ls)) (lexeme_of-word w)
    ∙ ap (word_line w) (lexemes-spelled ls e)

large-lexeme : ℕ → Lexeme
large-lexeme k = cond (is_small k) (lexs.Number k) (lexs.Large k)

large-spelled : (k : ℕ) → spell (large-lexeme k) ≡ decimal k
unfolding large-lexeme
large-spelled k = elim (is_small k) as (λ b. spell (cond b (lexs.Number k) (lexs.Large k)) ≡ decimal k) [ true ↦ refl | false ↦ refl ]

large-good : (k : ℕ) → ltb k (2 ^ 64) ≡ true → is_lexeme (large-lexeme k) ≡ true
unfolding large-lexeme
large-good k e = elim (is_small k) as (λ b. is_small k ≡ b → is_lexeme (cond b (lexs.Number k) (lexs.Large k)) ≡ true) [
  | true ↦ λ small. small
  | false ↦ λ large. rw (large, e) refl
] refl

large-given : (k : ℕ) → large_item (large-lexeme k) ≡ Some k
unfolding large-lexeme
large-given k = elim (is_small k) as (λ b. large_item (cond b (lexs.Number k) (lexs.Large k)) ≡ Some k) [ true ↦ refl | false ↦ refl ]

pub reply-line-spaced_text : (r : ReplyLine) → reply_line r ≡ decimal r.number ++ spaced_text (lexs.At r.version ∷ reply_lexemes r.reply)
reply-line-spaced_text r =
    let n = decimal r.number in
    let v = decimal r.version in
    let text = reply_text r.reply in
    append_assoc (n ++ codes " @" ++ v) (codes " ") text
    ∙ append_assoc (n ++ codes " @") v (32 ∷ text)
    ∙ append_assoc n (codes " @") (v ++ (32 ∷ text))
    ∙ ap (λ t. n ++ (32 ∷ 64 ∷ (v ++ t))) (reply-spaced_text r.reply)

reply-read : (r : ReplyLine) → is_reply r ≡ true → line_of (reply_line r) ≡ Some (lines.Reply r)
reply-read r e =
    let a = and_parts (is_small r.number && is_small r.version && list_all is_lexeme (reply_lexemes r.reply)) (has_rows r.reply) e in
    let b = and_parts (is_small r.number && is_small r.version) (list_all is_lexeme (reply_lexemes r.reply)) a.0 in
    let c = and_parts (is_small r.number) (is_small r.version) b.0 in
    let rest = and_from (is_small r.version) (list_all is_lexeme (reply_lexemes r.reply)) c.1 b.1 in
    let ls = lexs.At r.version ∷ reply_lexemes r.reply in
    ap line_of (reply-line-spaced_text r)
    ∙ ap line_from (pieces-spelled (lexs.Number r.number) ls (and_from (is_small r.number) (list_all is_lexeme ls) c.0 rest))
    ∙ ap (λ l. line_by_lexeme l (map spell ls)) (lexeme_of-spell (lexs.Number r.number) c.0)
    ∙ ap (λ l. numbered_by r.number l (map spell (reply_lexemes r.reply))) (lexeme_of-spell (lexs.At r.version) c.1)
    ∙ ap (λ rl. then_option (reply_of rl) (λ x. Some (lines.Reply (numbered_reply r.number r.version x))))
    (lexemes-spelled (reply_lexemes r.reply) b.1)
    ∙ ap (λ o. then_option o (λ x. Some (lines.Reply (numbered_reply r.number r.version x)))) (reply_of-lexemes r.reply a.1)

-- the pieces of the line of an entry
abbrev pub entry_pieces : ℕ → ℕ → ℕ → OpName → List ℕ → List (List ℕ)
entry_pieces w s c o fs =
    spell (lexs.Number w) ∷ spell (lexs.InSession s) ∷ spell (lexs.AtCommand c) ∷ spell (operator_lexeme o) ∷ coefficients_text fs ∷ []

pub entry-joined : (w s c : ℕ) (o : OpName) (fs : List ℕ) → line_text (lines.Entry w s c o fs) ≡ joined 32 (entry_pieces w s c o fs)
entry-joined w s c o fs =
    let a = decimal w in
    let b = decimal s in
    let d = decimal c in
    let e = operator_text o in
    let f = coefficients_text fs in
    append_assoc ((((((a ++ codes " s") ++ b) ++ codes " c") ++ d) ++ codes " ") ++ e) (codes " ") f
    ∙ append_assoc (((((a ++ codes " s") ++ b) ++ codes " c") ++ d) ++ codes " ") e (32 ∷ f)
    ∙ append_assoc ((((a ++ codes " s") ++ b) ++ codes " c") ++ d) (codes " ") (e ++ (32 ∷ f))
    ∙ append_assoc (((a ++ codes " s") ++ b) ++ codes " c") d (32 ∷ (e ++ (32 ∷ f)))
    ∙ append_assoc ((a ++ codes " s") ++ b) (codes " c") (d ++ (32 ∷ (e ++ (32 ∷ f))))
    ∙ append_assoc (a ++ codes " s") b (32 ∷ 99 ∷ (d ++ (32 ∷ (e ++ (32 ∷ f)))))
    ∙ append_assoc a (codes " s") (b ++ (32 ∷ 99 ∷ (d ++ (32 ∷ (e ++ (32 ∷ f))))))
    ∙ ap (λ t. a ++ (32 ∷ 115 ∷ (b ++ (32 ∷ 99 ∷ (d ++ (32 ∷ (t ++ (32 ∷ f)))))))) (operator-spelled o)

pub pieces-lack : (part : ℕ) → IsParting part → (w s c : ℕ) (o : OpName) (fs : List ℕ) → is_line (lines.Entry w s c o fs) ≡ true
    → list_all (lacks part) (entry_pieces w s c o fs) ≡ true
pieces-lack part h w s c o fs e =
    let p1 = and_parts (is_small w && is_small s && is_small c && is_lexeme (operator_lexeme o) && list_all is_small fs) (is_some_row fs) e in
    let p2 = and_parts (is_small w && is_small s && is_small c && is_lexeme (operator_lexeme o)) (list_all is_small fs) p1.0 in
    let p3 = and_parts (is_small w && is_small s && is_small c) (is_lexeme (operator_lexeme o)) p2.0 in
    let p4 = and_parts (is_small w && is_small s) (is_small c) p3.0 in
    let p5 = and_parts (is_small w) (is_small s) p4.0 in
    all (spell (lexs.Number w)) (spell (lexs.InSession s)) (spell (lexs.AtCommand c)) (spell (operator_lexeme o)) (coefficients_text fs)
    (spell-lacks part h (lexs.Number w) p5.0) (spell-lacks part h (lexs.InSession s) p5.1) (spell-lacks part h (lexs.AtCommand c) p4.1)
    (spell-lacks part h (operator_lexeme o) p3.1) (coefficients-lack part h fs p1.1 p2.1)
  where
    all : (a b d e f : List ℕ) → lacks part a ≡ true → lacks part b ≡ true → lacks part d ≡ true → lacks part e ≡ true → lacks part f ≡ true
        → list_all (lacks part) (a ∷ b ∷ d ∷ e ∷ f ∷ []) ≡ true
    all a b d e f x y z u v = rw (x, y, z, u, v) refl

entry-read : (w s c : ℕ) (o : OpName) (fs : List ℕ) → is_line (lines.Entry w s c o fs) ≡ true
    → line_of (line_text (lines.Entry w s c o fs)) ≡ Some (lines.Entry w s c o fs)
entry-read w s c o fs e =
    let p1 = and_parts (is_small w && is_small s && is_small c && is_lexeme (operator_lexeme o) && list_all is_small fs) (is_some_row fs) e in
    let p2 = and_parts (is_small w && is_small s && is_small c && is_lexeme (operator_lexeme o)) (list_all is_small fs) p1.0 in
    let p3 = and_parts (is_small w && is_small s && is_small c) (is_lexeme (operator_lexeme o)) p2.0 in
    let p4 = and_parts (is_small w && is_small s) (is_small c) p3.0 in
    let p5 = and_parts (is_small w) (is_small s) p4.0 in
    let ps = spell (lexs.InSession s) ∷ spell (lexs.AtCommand c) ∷ spell (operator_lexeme o) ∷ coefficients_text fs ∷ [] in
    let lack : list_all (lacks 32) (entry_pieces w s c o fs) ≡ true =
    pieces-lack 32 spaces_part w s c o fs e in
    ap line_of (entry-joined w s c o fs)
    ∙ ap line_from (parts-joined 32 (spell (lexs.Number w)) ps (all-lack 32 (entry_pieces w s c o fs) lack))
    ∙ ap (λ l. line_by_lexeme l ps) (lexeme_of-spell (lexs.Number w) p5.0)
    ∙ ap (λ l. numbered_by w l (spell (lexs.AtCommand c) ∷ spell (operator_lexeme o) ∷ coefficients_text fs ∷ []))
    (lexeme_of-spell (lexs.InSession s) p5.1)
    ∙ ap (λ l. then_option (command_item l)
    (λ k. then_option (operator_item (lexeme_of (spell (operator_lexeme o))))
    (λ op. then_option (coefficients_of (coefficients_text fs)) (λ gs. Some (lines.Entry w s k op gs)))))
    (lexeme_of-spell (lexs.AtCommand c) p4.1)
    ∙ ap (λ l. then_option (operator_item l) (λ op. then_option (coefficients_of (coefficients_text fs)) (λ gs. Some (lines.Entry w s c op gs))))
    (lexeme_of-spell (operator_lexeme o) p3.1)
    ∙ ap (λ l. then_option l (λ op. then_option (coefficients_of (coefficients_text fs)) (λ gs. Some (lines.Entry w s c op gs))))
    (operator-item.gives o)
    ∙ ap (λ l. then_option l (λ gs. Some (lines.Entry w s c o gs))) (coefficients_of-text fs p1.1 p2.1)

-- what a line spells is read
pub line_of-text : (l : Line) → is_line l ≡ true → line_of (line_text l) ≡ Some l
unfolding large-lexeme
line_of-text lines.Heading e = ap line_of (sym heading) ∙ word-read words.Transcript (lexs.Number 1 ∷ []) refl
line_of-text (lines.Space n p m) e =
    let a = and_parts (is_small n && is_small p) (is_small m) e in
    let b = and_parts (is_small n) (is_small p) a.0 in
    let ls = lexs.Number n ∷ lexs.Number p ∷ lexs.Word words.Symbols ∷ lexs.Number m ∷ [] in
    let good : list_all is_lexeme ls ≡ true = rw (b.0, b.1, a.1) refl in
    let text : line_text (lines.Space n p m) ≡ word_text words.Space ++ spaced_text ls = simp (append_assoc, append-nil) in
    ap line_of text ∙ word-read words.Space ls good
line_of-text (lines.Session k) e =
    let text : line_text (lines.Session k) ≡ word_text words.Session ++ spaced_text (lexs.Number k ∷ []) = simp (append_assoc, append-nil) in
    ap line_of text ∙ word-read words.Session (lexs.Number k ∷ []) (rw e refl)
line_of-text (lines.Reply r) e = reply-read r e
line_of-text (lines.History h) e =
    let text : line_text (lines.History h) ≡ word_text words.History ++ spaced_text (lexs.Number h ∷ []) = simp (append_assoc, append-nil) in
    ap line_of text ∙ word-read words.History (lexs.Number h ∷ []) (rw e refl)
line_of-text (lines.Entry w s c o fs) e = entry-read w s c o fs e
line_of-text (lines.Columns k) e =
    let x = large-lexeme k in
    let text : line_text (lines.Columns k) ≡ word_text words.Columns ++ spaced_text (x ∷ []) =
    ap (λ t. codes "columns " ++ t) (sym (append-nil (decimal k)) ∙ ap (λ t. t ++ []) (sym (large-spelled k))) in
    ap line_of text ∙ word-read words.Columns (x ∷ []) (rw (large-good k e) refl) ∙ rw (large-given k) refl
line_of-text lines.End e = word-read words.End [] refl

-- ---- what is read spells the line

pub record WordLine (w : Word) (ls : List Lexeme) (l : Line) : Type 0 where
  pub known : list_all is_known ls ≡ true
  pub text : word_text w ++ spaced_text ls ≡ line_text l
  pub range : list_all is_lexeme ls ≡ true → is_line l ≡ true

line_is : (a b : Line) → Some a ≡ Some b → a ≡ b
line_is a b e = cc

one-number : (w : Word) (ls : List Lexeme) (l : Line) (make : ℕ → Line) → ((n : ℕ) → WordLine w (lexs.Number n ∷ []) (make n))
    → then_option (only number_item ls) (λ n. Some (make n)) ≡ Some l → WordLine w ls l
one-number w ls l make h e =
    let a = then_taken (only number_item ls) (λ n. Some (make n)) l e in
    subst (λ m. WordLine w m l) (only-is number_item (λ n. lexs.Number n) number-item ls a.0 a.1)
    (subst (WordLine w (lexs.Number a.0 ∷ [])) (line_is (make a.0) l a.2) (h a.0))

only_small : (n : ℕ) → list_all is_lexeme (lexs.Number n ∷ []) ≡ true → is_small n ≡ true
only_small n e = (and_parts (is_small n) true e).0

columns-is : (ls : List Lexeme) (k : ℕ) → only large_item ls ≡ Some k → WordLine words.Columns ls (lines.Columns k)
columns-is [] k e = absurd cc
columns-is (lexs.Number n ∷ []) k e =
    subst (λ m. WordLine words.Columns (lexs.Number n ∷ []) (lines.Columns m)) (number_is n k e)
    (record {
      known = refl;
      text = simp (append_assoc, append-nil);
      range = λ h. let lt = is_small-lt n (only_small n h) in lt-ltb n (2 ^ 64) (omega arith);
    })
  where
    number_is : (a b : ℕ) → Some a ≡ Some b → a ≡ b
    number_is a b e = cc
columns-is (lexs.Large n ∷ []) k e =
    subst (λ m. WordLine words.Columns (lexs.Large n ∷ []) (lines.Columns m)) (number_is n k e)
    (record { known = refl; text = simp (append_assoc, append-nil); range = λ h. large n (and_parts (is_lexeme (lexs.Large n)) true h).0 })
  where
    number_is : (a b : ℕ) → Some a ≡ Some b → a ≡ b
    number_is a b e = cc

    large : (m : ℕ) → cond (is_small m) false (ltb m (2 ^ 64)) ≡ true → ltb m (2 ^ 64) ≡ true
    large m e = elim (is_small m) as (λ b. cond b false (ltb m (2 ^ 64)) ≡ true
        → ltb m (2 ^ 64) ≡ true) [ true ↦ λ no. absurd cc | false ↦ λ range. range ] e
columns-is (lexs.Number n ∷ l ∷ ls) k e = absurd cc
columns-is (lexs.Large n ∷ l ∷ ls) k e = absurd cc
columns-is (l ∷ ls) k e = absurd cc

space-is : (ls : List Lexeme) (l : Line) → space_of ls ≡ Some l → WordLine words.Space ls l
space-is ls l e =
    let a = then_taken (first number_item ls)
    (λ n. then_option (first number_item n.1)
    (λ p. then_option (after words.Symbols p.1) (λ rest. then_option (only number_item rest) (λ m. Some (lines.Space n.0 p.0 m))))) l e in
    let b = then_taken (first number_item a.0.1)
    (λ p. then_option (after words.Symbols p.1) (λ rest. then_option (only number_item rest) (λ m. Some (lines.Space a.0.0 p.0 m)))) l a.2 in
    let c = then_taken (after words.Symbols b.0.1) (λ rest. then_option (only number_item rest) (λ m. Some (lines.Space a.0.0 b.0.0 m))) l b.2 in
    let d = then_taken (only number_item c.0) (λ m. Some (lines.Space a.0.0 b.0.0 m)) l c.2 in
    let all : lexs.Number a.0.0 ∷ lexs.Number b.0.0 ∷ lexs.Word words.Symbols ∷ lexs.Number d.0 ∷ [] ≡ ls =
    ap (λ more. lexs.Number a.0.0 ∷ lexs.Number b.0.0 ∷ lexs.Word words.Symbols ∷ more)
    (only-is number_item (λ n. lexs.Number n) number-item c.0 d.0 d.1)
    ∙ ap (λ more. lexs.Number a.0.0 ∷ lexs.Number b.0.0 ∷ more) (after-is words.Symbols b.0.1 c.0 c.1)
    ∙ ap (λ more. lexs.Number a.0.0 ∷ more) (first-is number_item (λ n. lexs.Number n) number-item a.0.1 b.0 b.1)
    ∙ first-is number_item (λ n. lexs.Number n) number-item ls a.0 a.1 in
    subst (λ m. WordLine words.Space m l) all
    (subst (WordLine words.Space (lexs.Number a.0.0 ∷ lexs.Number b.0.0 ∷ lexs.Word words.Symbols ∷ lexs.Number d.0 ∷ []))
    (line_is (lines.Space a.0.0 b.0.0 d.0) l d.2) (plain a.0.0 b.0.0 d.0))
  where
    plain : (n p m : ℕ) → WordLine words.Space (lexs.Number n ∷ lexs.Number p ∷ lexs.Word words.Symbols ∷ lexs.Number m ∷ []) (lines.Space n p m)
    plain n p m = record {
      known = refl;
      text = simp (append_assoc, append-nil);
      range = λ h.
          let x = and_parts (is_small n) (is_small p && (is_small m && true)) h in
          let y = and_parts (is_small p) (is_small m && true) x.1 in
          let z = and_parts (is_small m) true y.1 in
          rw (x.0, y.0, z.0) refl;
    }

word_line-is : (w : Word) (ls : List Lexeme) (l : Line) → word_line w ls ≡ Some l → WordLine w ls l
word_line-is words.Transcript ls l e =
    let a = then_taken (only number_item ls) (λ n. where_true (eqb n 1) lines.Heading) l e in
    let took = taken (eqb a.0 1) lines.Heading l a.2 in
    let one : a.0 ≡ 1 = eqb-true a.0 1 took.0 in
    let all : lexs.Number 1 ∷ [] ≡ ls = ap (λ n. lexs.Number n ∷ []) (sym one) ∙ only-is number_item (λ n. lexs.Number n) number-item ls a.0 a.1 in
    subst (λ m. WordLine words.Transcript m l) all (subst (WordLine words.Transcript (lexs.Number 1 ∷ [])) took.1 (record {
      known = refl;
      text = heading;
      range = λ h. refl;
    }))
word_line-is words.Space ls l e = space-is ls l e
word_line-is words.Session ls l e =
    one-number words.Session ls l (λ k. lines.Session k) (λ n. record {
      known = refl;
      text = simp (append_assoc, append-nil);
      range = only_small n;
    }) e
word_line-is words.History ls l e =
    one-number words.History ls l (λ k. lines.History k) (λ n. record {
      known = refl;
      text = simp (append_assoc, append-nil);
      range = only_small n;
    }) e
word_line-is words.Columns ls l e =
    let a = then_taken (only large_item ls) (λ k. Some (lines.Columns k)) l e in
    subst (WordLine words.Columns ls) (line_is (lines.Columns a.0) l a.2) (columns-is ls a.0 a.1)
word_line-is words.End ls l e =
    let none = no_more ls lines.End l e in
    subst (λ m. WordLine words.End m l) (sym none.0) (subst (WordLine words.End []) none.1 (record { known = refl; text = refl; range = λ h. refl }))
word_line-is w ls l e = absurd cc

-- the text is its pieces with spaces between them
text-joined : (t p : List ℕ) (ps : List (List ℕ)) → parts 32 t ≡ p ∷ ps → joined 32 (p ∷ ps) ≡ t
text-joined t p ps e = ap (joined 32) (sym e) ∙ join_with_byte-slice_split 32 t

abbrev pub IsText : List ℕ → Line → Type 0
IsText t l = (line_text l ≡ t) × (is_line l ≡ true)

word-is : (t p : List ℕ) (ps : List (List ℕ)) (w : Word) (l : Line) → joined 32 (p ∷ ps) ≡ t → lexeme_of p ≡ lexs.Word w
    → word_line w (map lexeme_of ps) ≡ Some l → IsText t l
word-is t p ps w l whole first e =
    let line = word_line-is w (map lexeme_of ps) l e in
    let are = pieces-are ps (map lexeme_of ps) refl line.known in
    let begins = one-spelled p (lexs.Word w) first refl in (
      sym line.text ∙ sym (joined-spaced_text (word_text w) (map lexeme_of ps)) ∙ ap (λ q. joined 32 (q ∷ map spell (map lexeme_of ps))) begins.0
          ∙ ap (λ qs. joined 32 (p ∷ qs)) are.0 ∙ whole,
      line.range are.1,
    )

reply-is : (t p q : List ℕ) (ps : List (List ℕ)) (n v : ℕ) (l : Line) → joined 32 (p ∷ q ∷ ps) ≡ t → lexeme_of p ≡ lexs.Number n
    → lexeme_of q ≡ lexs.At v
    → then_option (reply_of (map lexeme_of ps)) (λ r. Some (lines.Reply (numbered_reply n v r))) ≡ Some l → IsText t l
reply-is t p q ps n v l whole first second e =
    let a = then_taken (reply_of (map lexeme_of ps)) (λ r. Some (lines.Reply (numbered_reply n v r))) l e in
    let r = numbered_reply n v a.0 in
    let said = reply_of-is (map lexeme_of ps) a.0 a.1 in
    let are = pieces-are ps (reply_lexemes a.0) (sym said.0) (known-reply a.0) in
    let x = one-spelled p (lexs.Number n) first refl in
    let y = one-spelled q (lexs.At v) second refl in
    let good : is_reply r ≡ true = rw (x.1, y.1, are.1, said.1) refl in
    let text : reply_line r ≡ t =
    reply-line-spaced_text r ∙ sym (joined-spaced_text (decimal n) (lexs.At v ∷ reply_lexemes a.0))
    ∙ ap (λ u. joined 32 (u ∷ (64 ∷ decimal v) ∷ map spell (reply_lexemes a.0))) x.0
    ∙ ap (λ u. joined 32 (p ∷ u ∷ map spell (reply_lexemes a.0))) y.0 ∙ ap (λ us. joined 32 (p ∷ q ∷ us)) are.0 ∙ whole in
    subst (IsText t) (line_is (lines.Reply r) l a.2) (text, good)

command-item : (l : Lexeme) (c : ℕ) → command_item l ≡ Some c → l ≡ lexs.AtCommand c
command-item (lexs.AtCommand n) c e = cc
command-item l c e = absurd cc

known-op : (o : OpName) → is_known (operator_lexeme o) ≡ true
known-op (ops.T n) = refl
known-op ops.Star = refl

entry-is : (t p q : List ℕ) (ps : List (List ℕ)) (w s : ℕ) (l : Line) → joined 32 (p ∷ q ∷ ps) ≡ t → lexeme_of p ≡ lexs.Number w
    → lexeme_of q ≡ lexs.InSession s → entry_of w s ps ≡ Some l → IsText t l
entry-is t p q [] w s l whole first second e = absurd cc
entry-is t p q (c ∷ []) w s l whole first second e = absurd cc
entry-is t p q (c ∷ o ∷ []) w s l whole first second e = absurd cc
entry-is t p q (c ∷ o ∷ f ∷ g ∷ ps) w s l whole first second e = absurd cc
entry-is t p q (c ∷ o ∷ f ∷ []) w s l whole first second e =
    let a = then_taken (command_item (lexeme_of c))
    (λ k. then_option (operator_item (lexeme_of o)) (λ op. then_option (coefficients_of f) (λ fs. Some (lines.Entry w s k op fs)))) l e in
    let b = then_taken (operator_item (lexeme_of o)) (λ op. then_option (coefficients_of f) (λ fs. Some (lines.Entry w s a.0 op fs))) l a.2 in
    let d = then_taken (coefficients_of f) (λ fs. Some (lines.Entry w s a.0 b.0 fs)) l b.2 in
    let x = one-spelled p (lexs.Number w) first refl in
    let y = one-spelled q (lexs.InSession s) second refl in
    let z = one-spelled c (lexs.AtCommand a.0) (command-item (lexeme_of c) a.0 a.1) refl in
    let u = one-spelled o (operator_lexeme b.0) (sym (operator-item.is (lexeme_of o) b.0 b.1)) (known-op b.0) in
    let fs = coefficients_of-is f d.0 d.1 in
    let good : is_line (lines.Entry w s a.0 b.0 d.0) ≡ true = rw (x.1, y.1, z.1, u.1, fs.1, fs.2) refl in
    subst (IsText t) (line_is (lines.Entry w s a.0 b.0 d.0) l d.2) (
      plain (decimal w) (115 ∷ decimal s) (99 ∷ decimal a.0) (spell (operator_lexeme b.0)) (coefficients_text d.0)
          (entry-joined w s a.0 b.0 d.0) x.0 y.0 z.0 u.0 fs.0,
      good,
    )
  where
    plain : (pt qt ct ot ft : List ℕ) → {line : List ℕ} → line ≡ joined 32 (pt ∷ qt ∷ ct ∷ ot ∷ ft ∷ []) → pt ≡ p → qt ≡ q → ct ≡ c → ot ≡ o → ft ≡ f
        → line ≡ t
    plain pt qt ct ot ft {line = line} is e1 e2 e3 e4 e5 = is ∙ rw (e1, e2, e3, e4, e5) whole

numbered-is : (t p : List ℕ) (ps : List (List ℕ)) (n : ℕ) (l : Line) → joined 32 (p ∷ ps) ≡ t → lexeme_of p ≡ lexs.Number n
    → numbered_line n ps ≡ Some l → IsText t l
numbered-is t p [] n l whole first e = absurd cc
numbered-is t p (q ∷ ps) n l whole first e = at (lexeme_of q) refl e
  where
    at : (x : Lexeme) → lexeme_of q ≡ x → numbered_by n x ps ≡ Some l → IsText t l
    at (lexs.At v) second h = reply-is t p q ps n v l whole first second h
    at (lexs.InSession s) second h = entry-is t p q ps n s l whole first second h
    at x second h = absurd cc

begun-is : (t p : List ℕ) (ps : List (List ℕ)) (l : Line) → joined 32 (p ∷ ps) ≡ t → line_from (p ∷ ps) ≡ Some l → IsText t l
begun-is t p ps l whole e = at (lexeme_of p) refl e
  where
    at : (x : Lexeme) → lexeme_of p ≡ x → line_by_lexeme x ps ≡ Some l → IsText t l
    at (lexs.Word w) first h = word-is t p ps w l whole first h
    at (lexs.Number n) first h = numbered-is t p ps n l whole first h
    at x first h = absurd cc

-- what is read spells the line
pub line_of-is : (t : List ℕ) (l : Line) → line_of t ≡ Some l → IsText t l
line_of-is t l e =
    let p = parts-cons 32 t in
    begun-is t p.0 p.1 l (text-joined t p.0 p.1 p.2) (subst (λ ps. line_from ps ≡ Some l) p.2 e)

-- ---- no line feed stands in a line

joined-lacks : (p : List ℕ) (ps : List (List ℕ)) → list_all (lacks 10) (p ∷ ps) ≡ true → lacks 10 (joined 32 (p ∷ ps)) ≡ true
joined-lacks p [] e = (and_parts (lacks 10 p) true e).0
joined-lacks p (q ∷ ps) e =
    let h = and_parts (lacks 10 p) (list_all (lacks 10) (q ∷ ps)) e in
    lacks-append 10 p (32 ∷ joined 32 (q ∷ ps)) h.0 (joined-lacks q ps h.1)

number-lacks : (t : List ℕ) (n : ℕ) → lacks 10 t ≡ true → n < 2 ^ 64 → lacks 10 (t ++ decimal n) ≡ true
number-lacks t n h lt = lacks-append 10 t (decimal n) h (decimal_lacks 10 n refl lt)

small_word : (n : ℕ) → is_small n ≡ true → n < 2 ^ 64
small_word n e = let lt = is_small-lt n e in omega arith

pub line-lacks : (l : Line) → is_line l ≡ true → lacks 10 (line_text l) ≡ true
line-lacks lines.Heading e = refl
line-lacks (lines.Space n p m) e =
    let a = and_parts (is_small n && is_small p) (is_small m) e in
    let b = and_parts (is_small n) (is_small p) a.0 in
    let x = number-lacks (codes "space ") n refl (small_word n b.0) in
    let y = lacks-append 10 (codes "space " ++ decimal n) (codes " ") x refl in
    let z = number-lacks (codes "space " ++ decimal n ++ codes " ") p y (small_word p b.1) in
    let u = lacks-append 10 (codes "space " ++ decimal n ++ codes " " ++ decimal p) (codes " symbols ") z refl in
    number-lacks (codes "space " ++ decimal n ++ codes " " ++ decimal p ++ codes " symbols ") m u (small_word m a.1)
line-lacks (lines.Session k) e = number-lacks (codes "session ") k refl (small_word k e)
line-lacks (lines.Reply r) e =
    let a = and_parts (is_small r.number && is_small r.version && list_all is_lexeme (reply_lexemes r.reply)) (has_rows r.reply) e in
    let b = and_parts (is_small r.number && is_small r.version) (list_all is_lexeme (reply_lexemes r.reply)) a.0 in
    let c = and_parts (is_small r.number) (is_small r.version) b.0 in
    let rest = spaced_text-lacks (lexs.At r.version ∷ reply_lexemes r.reply)
    (and_from (is_small r.version) (list_all is_lexeme (reply_lexemes r.reply)) c.1 b.1) in
    subst (λ t. lacks 10 t ≡ true) (sym (reply-line-spaced_text r))
    (lacks-append 10 (decimal r.number) (spaced_text (lexs.At r.version ∷ reply_lexemes r.reply))
    (decimal_lacks 10 r.number refl (small_word r.number c.0)) rest)
line-lacks (lines.History h) e = number-lacks (codes "history ") h refl (small_word h e)
line-lacks (lines.Entry w s c o fs) e =
    subst (λ t. lacks 10 t ≡ true) (sym (entry-joined w s c o fs))
    (joined-lacks (spell (lexs.Number w))
    (spell (lexs.InSession s) ∷ spell (lexs.AtCommand c) ∷ spell (operator_lexeme o) ∷ coefficients_text fs ∷ [])
    (pieces-lack 10 feeds_part w s c o fs e))
line-lacks (lines.Columns k) e = number-lacks (codes "columns ") k refl (ltb-true k (2 ^ 64) e)
line-lacks lines.End e = refl
