-- Lexemes that are spelled and read back.
use Rattle.std.proofs.Common.{◌≡◌, ℕ, zero, suc, ◌^◌, ◌<◌, Bool, true, false, not, cond, eqb, ltb, List, [], ◌∷◌, ◌++◌, get_or, decimal, Option, Some, None, refl, sym, ap, subst, ◌∙◌, arith, inl, inr, ◌⊎◌}
use Rattle.std.specs.Prelude.{All}
use Rattle.std.specs.Str.{bytes_eq}
use Rattle.std.proofs.lemmas.Bool.{eqb-true, ltb-true, lt-ltb, and_parts}
use Rattle.std.proofs.lemmas.List.Splits.{join_with_byte-slice_split}
use Rattle.text_lines.specs.Lines.{parts, joined, Lacks}
use Rattle.text_lines.specs.Numbers.{is_digit}
use Rattle.text_lines.proofs.PartLemmas.{parts-joined}
use Rattle.p1_normal.specs.declared.point.Point.{Point}
use Rattle.reply_text.specs.declared.word.Word.{Word}
use Rattle.reply_text.specs.declared.word.Word.TheVariants as words
use Rattle.reply_text.specs.declared.lexeme.Lexeme.{Lexeme}
use Rattle.reply_text.specs.declared.lexeme.Lexeme.TheVariants as lexs
use Rattle.reply_text.specs.Lexemes.{word_text, all_words, spell, is_small, is_lexeme, where_true, then_option, or_other, value_of, small_of, first_word, word_of, two, both_small, pair_of, is_nothing, before_bracket, point, symbol_of, number_lexeme, or_pair, or_word, lexeme_by_mark, lexeme_of}
use Rattle.reply_text.proofs.NumberTexts.{taken, then_taken, same_bytes, value_of-decimal, value_of-is, is_small-lt, small_of-decimal, small_of-is, lacks, lacks-Lacks, lacks-append, decimal_begins, decimal_lacks}

-- ---- words

pub word_of-text : (w : Word) → word_of (word_text w) ≡ Some w
unfolding word_of
word_of-text words.Transcript = refl
word_of-text words.Space = refl
word_of-text words.Symbols = refl
word_of-text words.Session = refl
word_of-text words.History = refl
word_of-text words.Columns = refl
word_of-text words.End = refl
word_of-text words.Ok = refl
word_of-text words.Err = refl
word_of-text words.Point = refl
word_of-text words.Basis = refl
word_of-text words.Coords = refl
word_of-text words.Certified = refl
word_of-text words.By = refl
word_of-text words.Boundary = refl
word_of-text words.Cusps = refl
word_of-text words.Operator = refl
word_of-text words.Trace = refl
word_of-text words.Version = refl
word_of-text words.Dims = refl
word_of-text words.Splitting = refl
word_of-text words.Ops = refl
word_of-text words.Rows = refl
word_of-text words.Break = refl
word_of-text words.Chains = refl
word_of-text words.Matrices = refl
word_of-text words.Memory = refl
word_of-text words.Grammar = refl
word_of-text words.Limit = refl
word_of-text words.N = refl
word_of-text words.Degree = refl
word_of-text words.Terms = refl
word_of-text words.Number = refl
word_of-text words.NotSymbol = refl
word_of-text words.NotCoprime = refl
word_of-text words.Length = refl
word_of-text words.NoPart = refl
word_of-text words.VersionsFull = refl
word_of-text words.Relation = refl
word_of-text words.Commutator = refl
word_of-text words.Star = refl

first_word-is : (ws : List Word) (t : List ℕ) (w : Word) → first_word ws t ≡ Some w → word_text w ≡ t
first_word-is [] t w e = absurd cc
first_word-is (v ∷ ws) t w e =
    elim (bytes_eq (word_text v) t) as (λ b. bytes_eq (word_text v) t ≡ b → cond b (Some v) (first_word ws t) ≡ Some w → word_text w ≡ t) [
      | true ↦ λ same found. let is : v ≡ w = some_is v w found in subst (λ u. word_text u ≡ t) is (same_bytes (word_text v) t same)
      | false ↦ λ differs later. first_word-is ws t w later
    ] refl e
  where
    some_is : (a b : Word) → Some a ≡ Some b → a ≡ b
    some_is a b e = cc

pub word_of-is : (t : List ℕ) (w : Word) → word_of t ≡ Some w → word_text w ≡ t
unfolding word_of
word_of-is t w e = first_word-is all_words t w e

-- ---- what is read is spelled so

abbrev pub IsSpelled : List ℕ → Lexeme → Type 0
IsSpelled t l = (l ≡ lexs.Other) ⊎ ((spell l ≡ t) × (is_lexeme l ≡ true))

or_other-spelled : {A : Type 0} (t : List ℕ) (o : Option A) (make : A → Lexeme)
    → ((x : A) → o ≡ Some x → (spell (make x) ≡ t) × (is_lexeme (make x) ≡ true)) → IsSpelled t (or_other o make)
or_other-spelled t None make h = inl refl
or_other-spelled t (Some x) make h = inr (h x refl)

if-spelled : (t : List ℕ) (b : Bool) (l m : Lexeme) → (b ≡ true → IsSpelled t l) → (b ≡ false → IsSpelled t m) → IsSpelled t (cond b l m)
if-spelled t true l m h k = h refl
if-spelled t false l m h k = k refl

two-is : (ps : List (List ℕ)) (a b : List ℕ) → two ps ≡ Some (a, b) → ps ≡ a ∷ b ∷ []
two-is [] a b e = absurd cc
two-is (p ∷ []) a b e = absurd cc
two-is (p ∷ q ∷ []) a b e =
    let x : List ℕ × List ℕ = (p, q) in
    let y : List ℕ × List ℕ = (a, b) in
    let same : x ≡ y = pair_is x y e in ap (λ (t : List ℕ × List ℕ). t.0 ∷ t.1 ∷ []) same
  where
    pair_is : (x y : List ℕ × List ℕ) → Some x ≡ Some y → x ≡ y
    pair_is x y e = cc
two-is (p ∷ q ∷ r ∷ ps) a b e = absurd cc

two-joined : (s : ℕ) (t : List ℕ) (r : List ℕ × List ℕ) → two (parts s t) ≡ Some r → r.0 ++ s ∷ r.1 ≡ t
two-joined s t r e =
    let is = two-is (parts s t) r.0 r.1 e in
    sym (ap (joined s) is) ∙ join_with_byte-slice_split s t

both_small-is : (a b : List ℕ) (n : ℕ × ℕ) → both_small a b ≡ Some n
    → (decimal n.0 ≡ a) × (decimal n.1 ≡ b) × (is_small n.0 ≡ true) × (is_small n.1 ≡ true)
both_small-is a b n e =
    let first = then_taken (small_of a) (λ i. then_option (small_of b) (λ j. Some (i, j))) n e in
    let second = then_taken (small_of b) (λ j. Some (first.0, j)) n first.2 in
    let x = small_of-is a first.0 first.1 in
    let y = small_of-is b second.0 second.1 in
    let same : (first.0, second.0) ≡ n = pair_is (first.0, second.0) n second.2 in
    subst (λ m. (decimal m.0 ≡ a) × (decimal m.1 ≡ b) × (is_small m.0 ≡ true) × (is_small m.1 ≡ true)) same (x.0, y.0, x.1, y.1)
  where
    pair_is : (a b : ℕ × ℕ) → Some a ≡ Some b → a ≡ b
    pair_is a b e = cc

pair_of-is : (t : List ℕ) (n : ℕ × ℕ) → pair_of t ≡ Some n → (spell (lexs.Pair n) ≡ t) × (is_lexeme (lexs.Pair n) ≡ true)
pair_of-is t n e =
    let cut = then_taken (two (parts 58 t)) (λ r. both_small r.0 r.1) n e in
    let both = both_small-is cut.0.0 cut.0.1 n cut.2 in
    let whole = two-joined 58 t cut.0 cut.1 in
    (rw (both.0, both.1) whole, rw (both.2, both.3) refl)

before_bracket-is : (t v : List ℕ) → before_bracket t ≡ Some v → v ++ 41 ∷ [] ≡ t
before_bracket-is t v e =
    let cut = then_taken (two (parts 41 t)) (λ r. where_true (is_nothing r.1) r.0) v e in
    let took = taken (is_nothing cut.0.1) cut.0.0 v cut.2 in
    let none : cut.0.1 ≡ [] = nothing_is cut.0.1 took.0 in
    let whole = two-joined 41 t cut.0 cut.1 in
    rw (← took.1) (subst (λ r. cut.0.0 ++ 41 ∷ r ≡ t) none whole)
  where
    nothing_is : (xs : List ℕ) → is_nothing xs ≡ true → xs ≡ []
    nothing_is [] e = refl
    nothing_is (x ∷ xs) e = absurd cc

symbol_of-is : (rest : List ℕ) (p : Point) → symbol_of rest ≡ Some p → (spell (lexs.Symbol p) ≡ 40 ∷ rest) × (is_lexeme (lexs.Symbol p) ≡ true)
symbol_of-is rest p e =
    let cut = then_taken (two (parts 58 rest))
    (λ t. then_option (before_bracket t.1) (λ v. then_option (both_small t.0 v) (λ n. Some (point n)))) p e in
    let close = then_taken (before_bracket cut.0.1) (λ v. then_option (both_small cut.0.0 v) (λ n. Some (point n))) p cut.2 in
    let found = then_taken (both_small cut.0.0 close.0) (λ n. Some (point n)) p close.2 in
    let both = both_small-is cut.0.0 close.0 found.0 found.1 in
    let whole = two-joined 58 rest cut.0 cut.1 in
    let end = before_bracket-is cut.0.1 close.0 close.1 in
    let text : spell (lexs.Symbol (point found.0)) ≡ 40 ∷ rest = rw (both.0, both.1, end, whole) refl in
    let range : is_lexeme (lexs.Symbol (point found.0)) ≡ true = rw (both.2, both.3) refl in
    subst (λ q. (spell (lexs.Symbol q) ≡ 40 ∷ rest) × (is_lexeme (lexs.Symbol q) ≡ true)) (point_is (point found.0) p found.2) (text, range)
  where
    point_is : (a b : Point) → Some a ≡ Some b → a ≡ b
    point_is a b e = cc

number_lexeme-spelled : (t : List ℕ) (n : ℕ) → decimal n ≡ t → n < 2 ^ 64 → IsSpelled t (number_lexeme n)
number_lexeme-spelled t n e lt = elim (is_small n) as (λ b. is_small n ≡ b → IsSpelled t (cond b (lexs.Number n) (lexs.Large n))) [
  | true ↦ λ small. inr (e, small)
  | false ↦ λ large. inr (e, let range = lt-ltb n (2 ^ 64) lt in rw (large, range) refl)
] refl

numeral-spelled : (t : List ℕ) → IsSpelled t (or_pair (value_of t) t)
numeral-spelled t = elim (value_of t) as (λ o. value_of t ≡ o → IsSpelled t (or_pair o t)) [
  | None ↦ λ e. or_other-spelled t (pair_of t) (λ n. lexs.Pair n) (pair_of-is t)
  | Some n ↦ λ e. let is = value_of-is t n e in number_lexeme-spelled t n is.0 is.1
] refl

word-spelled : (t : List ℕ) → IsSpelled t (or_other (word_of t) (λ w. lexs.Word w))
word-spelled t = or_other-spelled t (word_of t) (λ w. lexs.Word w) (λ w e. (word_of-is t w e, refl))

or_word-spelled : (o : Option ℕ) (make : ℕ → Lexeme) (t : List ℕ) → ((n : ℕ) → o ≡ Some n → (spell (make n) ≡ t) × (is_lexeme (make n) ≡ true))
    → IsSpelled t (or_word o make t)
or_word-spelled None make t h = word-spelled t
or_word-spelled (Some n) make t h = inr (h n refl)

marked-spelled : (b : ℕ) (rest : List ℕ) → IsSpelled (b ∷ rest) (lexeme_by_mark b rest)
marked-spelled b rest =
    let t = b ∷ rest in
    let word = or_other (word_of t) (λ w. lexs.Word w) in
    let command = cond (eqb b 99) (or_word (small_of rest) (λ n. lexs.AtCommand n) t) word in
    let session = cond (eqb b 115) (or_word (small_of rest) (λ n. lexs.InSession n) t) command in
    let symbol = cond (eqb b 40) (or_other (symbol_of rest) (λ p. lexs.Symbol p)) session in
    let hecke = cond (eqb b 84) (or_other (small_of rest) (λ n. lexs.Hecke n)) symbol in
    if-spelled t (eqb b 64) (or_other (small_of rest) (λ n. lexs.At n)) hecke
    (λ e. or_other-spelled t (small_of rest) (λ n. lexs.At n) (λ n h. let is = small_of-is rest n h in (rw (eqb-true b 64 e, is.0) refl, is.1)))
    (λ _. if-spelled t (eqb b 84) (or_other (small_of rest) (λ n. lexs.Hecke n)) symbol
    (λ e. or_other-spelled t (small_of rest) (λ n. lexs.Hecke n) (λ n h. let is = small_of-is rest n h in (rw (eqb-true b 84 e, is.0) refl, is.1)))
    (λ _. if-spelled t (eqb b 40) (or_other (symbol_of rest) (λ p. lexs.Symbol p)) session
    (λ e. or_other-spelled t (symbol_of rest) (λ p. lexs.Symbol p) (λ p h. let is = symbol_of-is rest p h in (rw (eqb-true b 40 e) is.0, is.1)))
    (λ _. if-spelled t (eqb b 115) (or_word (small_of rest) (λ n. lexs.InSession n) t) command
    (λ e. or_word-spelled (small_of rest) (λ n. lexs.InSession n) t
    (λ n h. let is = small_of-is rest n h in (rw (eqb-true b 115 e, is.0) refl, is.1)))
    (λ _. if-spelled t (eqb b 99) (or_word (small_of rest) (λ n. lexs.AtCommand n) t) word
    (λ e. or_word-spelled (small_of rest) (λ n. lexs.AtCommand n) t (λ n h. let is = small_of-is rest n h in (rw (eqb-true b 99 e, is.0) refl, is.1)))
    (λ _. word-spelled t)))))

pub lexeme_of-spelled : (t : List ℕ) → IsSpelled t (lexeme_of t)
unfolding lexeme_of
lexeme_of-spelled [] = inl refl
lexeme_of-spelled (b ∷ rest) =
    if-spelled (b ∷ rest) (is_digit b) (or_pair (value_of (b ∷ rest)) (b ∷ rest)) (lexeme_by_mark b rest) (λ e. numeral-spelled (b ∷ rest))
    (λ e. marked-spelled b rest)

-- ---- what is spelled is read

two_parts : (s : ℕ) (a b : List ℕ) → lacks s a ≡ true → lacks s b ≡ true → two (parts s (a ++ s ∷ b)) ≡ Some (a, b)
two_parts s a b h k = ap two (parts-joined s a (b ∷ []) (both_lack (lacks-Lacks s a h) (lacks-Lacks s b k)))
  where
    both_lack : Lacks s a → Lacks s b → All (Lacks s) (a ∷ b ∷ [])
    both_lack x y = λ i d below. at i d below x y
      where
        at : (i : ℕ) (d : List ℕ) → i < 2 → Lacks s a → Lacks s b → Lacks s (get_or (a ∷ b ∷ []) i d)
        at zero d below x y = x
        at (suc zero) d below x y = y
        at (suc (suc i)) d below x y = absurd (omega arith)

small_word : (n : ℕ) → is_small n ≡ true → n < 2 ^ 64
small_word n e = let lt = is_small-lt n e in omega arith

both_small-decimals : (n : ℕ × ℕ) → is_small n.0 ≡ true → is_small n.1 ≡ true → both_small (decimal n.0) (decimal n.1) ≡ Some n
both_small-decimals n x y = rw (small_of-decimal n.0 x, small_of-decimal n.1 y) refl

pair_of-text : (n : ℕ × ℕ) → is_small n.0 ≡ true → is_small n.1 ≡ true → pair_of (spell (lexs.Pair n)) ≡ Some n
pair_of-text n x y =
    let cut = two_parts 58 (decimal n.0) (decimal n.1) (decimal_lacks 58 n.0 refl (small_word n.0 x))
    (decimal_lacks 58 n.1 refl (small_word n.1 y)) in
    rw cut (both_small-decimals n x y)

symbol_of-text : (p : Point) → is_small p.u ≡ true → is_small p.v ≡ true → symbol_of (decimal p.u ++ (58 ∷ (decimal p.v ++ (41 ∷ [])))) ≡ Some p
symbol_of-text p x y =
    let end : lacks 58 (decimal p.v ++ 41 ∷ []) ≡ true =
    lacks-append 58 (decimal p.v) (41 ∷ []) (decimal_lacks 58 p.v refl (small_word p.v y)) refl in
    let cut = two_parts 58 (decimal p.u) (decimal p.v ++ 41 ∷ []) (decimal_lacks 58 p.u refl (small_word p.u x)) end in
    let close = two_parts 41 (decimal p.v) [] (decimal_lacks 41 p.v refl (small_word p.v y)) refl in
    rw (cut, close, both_small-decimals (p.u, p.v) x y) refl

-- the numeral of a number is no pair
value_of-pair : (n : ℕ × ℕ) → is_small n.0 ≡ true → value_of (spell (lexs.Pair n)) ≡ None
value_of-pair n x = none (value_of (spell (lexs.Pair n))) refl
  where
    none : (o : Option ℕ) → value_of (spell (lexs.Pair n)) ≡ o → o ≡ None
    none None e = refl
    none (Some m) e =
        let is = value_of-is (spell (lexs.Pair n)) m e in
        let lack : lacks 58 (spell (lexs.Pair n)) ≡ true = subst (λ t. lacks 58 t ≡ true) is.0 (decimal_lacks 58 m refl is.1) in
        absurd (no_colon (decimal n.0) lack)
      where
        no_colon : (xs : List ℕ) → lacks 58 (xs ++ 58 ∷ decimal n.1) ≡ true → ⊥
        no_colon [] e = cc
        no_colon (a ∷ xs) e = no_colon xs (and_parts (not (eqb a 58)) (lacks 58 (xs ++ 58 ∷ decimal n.1)) e).1

-- what begins with a digit is a number or a pair
digit_first : (t : List ℕ) (d : ℕ) (ds : List ℕ) → t ≡ d ∷ ds → is_digit d ≡ true → lexeme_of t ≡ or_pair (value_of t) t
unfolding lexeme_of
digit_first t d ds e digit = rw e (rw digit refl)

number-read : (n : ℕ) → n < 2 ^ 64 → lexeme_of (decimal n) ≡ number_lexeme n
number-read n lt =
    let d = decimal_begins n lt in
    digit_first (decimal n) d.0 d.1 d.2 d.3 ∙ rw (value_of-decimal n lt) refl

-- no word begins with s or c and a digit: this is used the other way, words are read as such
pub lexeme_of-word : (w : Word) → lexeme_of (word_text w) ≡ lexs.Word w
unfolding lexeme_of value_of
lexeme_of-word words.Session = ap (λ o. or_other o (λ v. lexs.Word v)) (word_of-text words.Session)
lexeme_of-word words.Space = ap (λ o. or_other o (λ v. lexs.Word v)) (word_of-text words.Space)
lexeme_of-word w = ap (λ o. or_other o (λ v. lexs.Word v)) (word_of-text w)

pub lexeme_of-spell : (l : Lexeme) → is_lexeme l ≡ true → lexeme_of (spell l) ≡ l
unfolding lexeme_of
lexeme_of-spell (lexs.Word w) e = lexeme_of-word w
lexeme_of-spell (lexs.Number n) e = number-read n (small_word n e) ∙ rw e refl
lexeme_of-spell (lexs.Large n) e = large n e
  where
    large : (m : ℕ) → cond (is_small m) false (ltb m (2 ^ 64)) ≡ true → lexeme_of (decimal m) ≡ lexs.Large m
    large m e = elim (is_small m) as (λ b. is_small m ≡ b → cond b false (ltb m (2 ^ 64)) ≡ true → lexeme_of (decimal m) ≡ lexs.Large m) [
      | true ↦ λ small no. absurd cc
      | false ↦ λ big range. number-read m (ltb-true m (2 ^ 64) range) ∙ rw big refl
    ] refl e
lexeme_of-spell (lexs.At v) e = rw (small_of-decimal v e) refl
lexeme_of-spell (lexs.Hecke n) e = rw (small_of-decimal n e) refl
lexeme_of-spell (lexs.InSession s) e = rw (small_of-decimal s e) refl
lexeme_of-spell (lexs.AtCommand c) e = rw (small_of-decimal c e) refl
lexeme_of-spell (lexs.Symbol p) e =
    let q = and_parts (is_small p.u) (is_small p.v) e in
    rw (symbol_of-text p q.0 q.1) refl
lexeme_of-spell (lexs.Pair n) e =
    let q = and_parts (is_small n.0) (is_small n.1) e in
    let d = decimal_begins n.0 (small_word n.0 q.0) in
    digit_first (spell (lexs.Pair n)) d.0 (d.1 ++ 58 ∷ decimal n.1) (ap (λ t. t ++ 58 ∷ decimal n.1) d.2) d.3
    ∙ rw (value_of-pair n q.0, pair_of-text n q.0 q.1) refl
lexeme_of-spell lexs.Other e = absurd cc
