-- Lines that are written and read back.
use Rattle.std.proofs.Common.{◌≡◌, ℕ, zero, suc, ◌^◌, ◌<◌, Bool, true, false, not, cond, eqb, ltb, List, [], ◌∷◌, ◌++◌, length, get_or, map, decimal, Some, refl, sym, ap, subst, ◌∙◌, append-nil, arith, inl, inr}
use Rattle.std.specs.Prelude.{All}
use Rattle.std.specs.List.{list_all}
use Rattle.std.proofs.lemmas.Bool.{ltb-true, and_parts, and_from}
use Rattle.std.proofs.lemmas.List.Splits.{join_with_byte-slice_split}
use Rattle.text_lines.specs.Lines.{parts, joined, Lacks}
use Rattle.text_lines.specs.Numbers.{is_digit}
use Rattle.text_lines.proofs.PartLemmas.{parts-joined, parts-cons}
use Rattle.op_polynomials.specs.declared.name.OpName.{OpName}
use Rattle.op_polynomials.specs.declared.name.OpName.TheVariants as ops
use Rattle.reply_text.specs.Texts.{coefficients_text}
use Rattle.reply_text.specs.declared.reply.Reply.{Reply}
use Rattle.reply_text.specs.declared.reply.Reply.TheVariants as replies
use Rattle.reply_text.specs.declared.refusal.Refusal.{Refusal}
use Rattle.reply_text.specs.declared.refusal.Refusal.TheVariants as refusals
use Rattle.reply_text.specs.declared.word.Word.{Word}
use Rattle.reply_text.specs.declared.word.Word.TheVariants as words
use Rattle.reply_text.specs.declared.lexeme.Lexeme.{Lexeme}
use Rattle.reply_text.specs.declared.lexeme.Lexeme.TheVariants as lexs
use Rattle.reply_text.specs.Lexemes.{word_text, spell, is_small, is_lexeme, then_option, small_of, lexeme_of}
use Rattle.reply_text.specs.Wordings.{operator_lexeme, number_lexemes, later_rows, row_lexemes, refusal_lexemes, reply_lexemes, spaced_text, is_some_row}
use Rattle.reply_text.specs.LineForms.{smalls_of, coefficients_of}
use Rattle.reply_text.proofs.NumberTexts.{then_taken, is_small-lt, small_of-decimal, small_of-is, lacks, lacks-Lacks, lacks-append, decimal_lacks}
use Rattle.reply_text.proofs.LexemeLemmas.{lexeme_of-spell, lexeme_of-spelled, IsSpelled}

-- ---- lexemes between spaces

small_word : (n : ℕ) → is_small n ≡ true → n < 2 ^ 64
small_word n e = let lt = is_small-lt n e in omega arith

word_lacks : (w : Word) → lacks 32 (word_text w) ≡ true
word_lacks words.Transcript = refl
word_lacks words.Space = refl
word_lacks words.Symbols = refl
word_lacks words.Session = refl
word_lacks words.History = refl
word_lacks words.Columns = refl
word_lacks words.End = refl
word_lacks words.Ok = refl
word_lacks words.Err = refl
word_lacks words.Point = refl
word_lacks words.Basis = refl
word_lacks words.Coords = refl
word_lacks words.Certified = refl
word_lacks words.By = refl
word_lacks words.Boundary = refl
word_lacks words.Cusps = refl
word_lacks words.Operator = refl
word_lacks words.Trace = refl
word_lacks words.Version = refl
word_lacks words.Dims = refl
word_lacks words.Splitting = refl
word_lacks words.Ops = refl
word_lacks words.Rows = refl
word_lacks words.Break = refl
word_lacks words.Chains = refl
word_lacks words.Matrices = refl
word_lacks words.Memory = refl
word_lacks words.Grammar = refl
word_lacks words.Limit = refl
word_lacks words.N = refl
word_lacks words.Degree = refl
word_lacks words.Terms = refl
word_lacks words.Number = refl
word_lacks words.NotSymbol = refl
word_lacks words.NotCoprime = refl
word_lacks words.Length = refl
word_lacks words.NoPart = refl
word_lacks words.VersionsFull = refl
word_lacks words.Relation = refl
word_lacks words.Commutator = refl
word_lacks words.Star = refl

word_lacks_feed : (w : Word) → lacks 10 (word_text w) ≡ true
word_lacks_feed words.Transcript = refl
word_lacks_feed words.Space = refl
word_lacks_feed words.Symbols = refl
word_lacks_feed words.Session = refl
word_lacks_feed words.History = refl
word_lacks_feed words.Columns = refl
word_lacks_feed words.End = refl
word_lacks_feed words.Ok = refl
word_lacks_feed words.Err = refl
word_lacks_feed words.Point = refl
word_lacks_feed words.Basis = refl
word_lacks_feed words.Coords = refl
word_lacks_feed words.Certified = refl
word_lacks_feed words.By = refl
word_lacks_feed words.Boundary = refl
word_lacks_feed words.Cusps = refl
word_lacks_feed words.Operator = refl
word_lacks_feed words.Trace = refl
word_lacks_feed words.Version = refl
word_lacks_feed words.Dims = refl
word_lacks_feed words.Splitting = refl
word_lacks_feed words.Ops = refl
word_lacks_feed words.Rows = refl
word_lacks_feed words.Break = refl
word_lacks_feed words.Chains = refl
word_lacks_feed words.Matrices = refl
word_lacks_feed words.Memory = refl
word_lacks_feed words.Grammar = refl
word_lacks_feed words.Limit = refl
word_lacks_feed words.N = refl
word_lacks_feed words.Degree = refl
word_lacks_feed words.Terms = refl
word_lacks_feed words.Number = refl
word_lacks_feed words.NotSymbol = refl
word_lacks_feed words.NotCoprime = refl
word_lacks_feed words.Length = refl
word_lacks_feed words.NoPart = refl
word_lacks_feed words.VersionsFull = refl
word_lacks_feed words.Relation = refl
word_lacks_feed words.Commutator = refl
word_lacks_feed words.Star = refl

-- a byte that parts lines or lexemes stands in no lexeme
pub record IsParting (s : ℕ) : Type 0 where
  pub mark : not (is_digit s) ≡ true
  pub word : (w : Word) → lacks s (word_text w) ≡ true
  pub opening : not (eqb 40 s) ≡ true
  pub closing : not (eqb 41 s) ≡ true
  pub colon : not (eqb 58 s) ≡ true
  pub comma : not (eqb 44 s) ≡ true
  pub at : not (eqb 64 s) ≡ true
  pub hecke : not (eqb 84 s) ≡ true
  pub session : not (eqb 115 s) ≡ true
  pub command : not (eqb 99 s) ≡ true

pub spaces_part : IsParting 32
spaces_part = record {
  mark = refl;
  word = word_lacks;
  opening = refl;
  closing = refl;
  colon = refl;
  comma = refl;
  at = refl;
  hecke = refl;
  session = refl;
  command = refl;
}

pub feeds_part : IsParting 10
feeds_part = record {
  mark = refl;
  word = word_lacks_feed;
  opening = refl;
  closing = refl;
  colon = refl;
  comma = refl;
  at = refl;
  hecke = refl;
  session = refl;
  command = refl;
}

pub small_lacks : (s : ℕ) → IsParting s → (n : ℕ) → is_small n ≡ true → lacks s (decimal n) ≡ true
small_lacks s h n e = decimal_lacks s n h.mark (small_word n e)

pub spell-lacks : (s : ℕ) → IsParting s → (l : Lexeme) → is_lexeme l ≡ true → lacks s (spell l) ≡ true
spell-lacks s h (lexs.Word w) e = h.word w
spell-lacks s h (lexs.Number n) e = small_lacks s h n e
spell-lacks s h (lexs.Large n) e = large n e
  where
    large : (m : ℕ) → cond (is_small m) false (ltb m (2 ^ 64)) ≡ true → lacks s (decimal m) ≡ true
    large m e = elim (is_small m) as (λ b. cond b false (ltb m (2 ^ 64)) ≡ true → lacks s (decimal m) ≡ true) [
      | true ↦ λ no. absurd cc
      | false ↦ λ range. decimal_lacks s m h.mark (ltb-true m (2 ^ 64) range)
    ] e
spell-lacks s h (lexs.At v) e = and_from (not (eqb 64 s)) (lacks s (decimal v)) h.at (small_lacks s h v e)
spell-lacks s h (lexs.Hecke n) e = and_from (not (eqb 84 s)) (lacks s (decimal n)) h.hecke (small_lacks s h n e)
spell-lacks s h (lexs.InSession k) e = and_from (not (eqb 115 s)) (lacks s (decimal k)) h.session (small_lacks s h k e)
spell-lacks s h (lexs.AtCommand c) e = and_from (not (eqb 99 s)) (lacks s (decimal c)) h.command (small_lacks s h c e)
spell-lacks s h (lexs.Symbol p) e =
    let q = and_parts (is_small p.u) (is_small p.v) e in
    let close : lacks s (41 ∷ []) ≡ true = and_from (not (eqb 41 s)) true h.closing refl in
    let last = lacks-append s (decimal p.v) (41 ∷ []) (small_lacks s h p.v q.1) close in
    let tail : lacks s (58 ∷ (decimal p.v ++ (41 ∷ []))) ≡ true = and_from (not (eqb 58 s)) (lacks s (decimal p.v ++ (41 ∷ []))) h.colon last in
    and_from (not (eqb 40 s)) (lacks s (decimal p.u ++ (58 ∷ (decimal p.v ++ (41 ∷ []))))) h.opening
    (lacks-append s (decimal p.u) (58 ∷ (decimal p.v ++ (41 ∷ []))) (small_lacks s h p.u q.0) tail)
spell-lacks s h (lexs.Pair t) e =
    let q = and_parts (is_small t.0) (is_small t.1) e in
    lacks-append s (decimal t.0) (58 ∷ decimal t.1) (small_lacks s h t.0 q.0)
    (and_from (not (eqb 58 s)) (lacks s (decimal t.1)) h.colon (small_lacks s h t.1 q.1))
spell-lacks s h lexs.Other e = absurd cc

pub all-lack : (s : ℕ) (ps : List (List ℕ)) → list_all (lacks s) ps ≡ true → All (Lacks s) ps
all-lack s [] e = λ k d below. absurd (omega arith)
all-lack s (p ∷ ps) e =
    let q = and_parts (lacks s p) (list_all (lacks s) ps) e in
    let rest = all-lack s ps q.1 in
    λ k d below. at k d below (lacks-Lacks s p q.0) rest
  where
    at : (k : ℕ) (d : List ℕ) → k < length (p ∷ ps) → Lacks s p → All (Lacks s) ps → Lacks s (get_or (p ∷ ps) k d)
    at zero d below here rest = here
    at (suc k) d below here rest = rest k d (omega arith)

spells-lack : (ls : List Lexeme) → list_all is_lexeme ls ≡ true → list_all (lacks 32) (map spell ls) ≡ true
spells-lack [] e = refl
spells-lack (l ∷ ls) e =
    let q = and_parts (is_lexeme l) (list_all is_lexeme ls) e in
    and_from (lacks 32 (spell l)) (list_all (lacks 32) (map spell ls)) (spell-lacks 32 spaces_part l q.0) (spells-lack ls q.1)

pub joined-spaced_text : (p : List ℕ) (ls : List Lexeme) → joined 32 (p ∷ map spell ls) ≡ p ++ spaced_text ls
joined-spaced_text p [] = sym (append-nil p)
joined-spaced_text p (l ∷ ls) = ap (λ t. p ++ (32 ∷ t)) (joined-spaced_text (spell l) ls)

-- the pieces of the text of lexemes
pub pieces-spelled : (l : Lexeme) (ls : List Lexeme) → list_all is_lexeme (l ∷ ls) ≡ true
    → parts 32 (spell l ++ spaced_text ls) ≡ spell l ∷ map spell ls
pieces-spelled l ls e =
    ap (parts 32) (sym (joined-spaced_text (spell l) ls))
    ∙ parts-joined 32 (spell l) (map spell ls) (all-lack 32 (map spell (l ∷ ls)) (spells-lack (l ∷ ls) e))

pub lexemes-spelled : (ls : List Lexeme) → list_all is_lexeme ls ≡ true → map lexeme_of (map spell ls) ≡ ls
lexemes-spelled [] e = refl
lexemes-spelled (l ∷ ls) e =
    let q = and_parts (is_lexeme l) (list_all is_lexeme ls) e in
    rw (lexeme_of-spell l q.0, lexemes-spelled ls q.1) refl

-- not Other
abbrev pub is_known : Lexeme → Bool
is_known lexs.Other = false
is_known l = true

pub one-spelled : (p : List ℕ) (l : Lexeme) → lexeme_of p ≡ l → is_known l ≡ true → (spell l ≡ p) × (is_lexeme l ≡ true)
one-spelled p l e known =
    subst (λ m. (spell m ≡ p) × (is_lexeme m ≡ true)) e (at (lexeme_of p) (lexeme_of-spelled p) (subst (λ m. is_known m ≡ true) (sym e) known))
  where
    at : (m : Lexeme) → IsSpelled p m → is_known m ≡ true → (spell m ≡ p) × (is_lexeme m ≡ true)
    at m (inl other) known = let no : is_known lexs.Other ≡ true = subst (λ x. is_known x ≡ true) other known in absurd cc
    at m (inr is) known = is

pub pieces-are : (ps : List (List ℕ)) (ls : List Lexeme) → map lexeme_of ps ≡ ls → list_all is_known ls ≡ true
    → (map spell ls ≡ ps) × (list_all is_lexeme ls ≡ true)
pieces-are ps ls e known =
    subst (λ ms. (map spell ms ≡ ps) × (list_all is_lexeme ms ≡ true)) e (all ps (subst (λ ms. list_all is_known ms ≡ true) (sym e) known))
  where
    all : (qs : List (List ℕ)) → list_all is_known (map lexeme_of qs) ≡ true
        → (map spell (map lexeme_of qs) ≡ qs) × (list_all is_lexeme (map lexeme_of qs) ≡ true)
    all [] known = (refl, refl)
    all (q ∷ qs) known =
        let k = and_parts (is_known (lexeme_of q)) (list_all is_known (map lexeme_of qs)) known in
        let here = one-spelled q (lexeme_of q) refl k.0 in
        let rest = all qs k.1 in
        (rw (here.0, rest.0) refl, and_from (is_lexeme (lexeme_of q)) (list_all is_lexeme (map lexeme_of qs)) here.1 rest.1)

-- ---- no lexeme of a reply is Other

known-append : (xs ys : List Lexeme) → list_all is_known xs ≡ true → list_all is_known ys ≡ true → list_all is_known (xs ++ ys) ≡ true
known-append [] ys h k = k
known-append (x ∷ xs) ys h k =
    let q = and_parts (is_known x) (list_all is_known xs) h in
    and_from (is_known x) (list_all is_known (xs ++ ys)) q.0 (known-append xs ys q.1 k)

known-map : {A : Type 0} (lexeme : A → Lexeme) (xs : List A) → ((x : A) → is_known (lexeme x) ≡ true) → list_all is_known (map lexeme xs) ≡ true
known-map lexeme [] h = refl
known-map lexeme (x ∷ xs) h = and_from (is_known (lexeme x)) (list_all is_known (map lexeme xs)) (h x) (known-map lexeme xs h)

known-operator : (o : OpName) → is_known (operator_lexeme o) ≡ true
known-operator (ops.T n) = refl
known-operator ops.Star = refl

known-numbers : (xs : List ℕ) → list_all is_known (number_lexemes xs) ≡ true
known-numbers xs = known-map (λ n. lexs.Number n) xs (λ x. refl)

known-later : (rows : List (List ℕ)) → list_all is_known (later_rows rows) ≡ true
known-later [] = refl
known-later (row ∷ rows) = known-append (number_lexemes row) (later_rows rows) (known-numbers row) (known-later rows)

known-rows : (rows : List (List ℕ)) → list_all is_known (row_lexemes rows) ≡ true
known-rows [] = refl
known-rows (row ∷ rows) = known-append (number_lexemes row) (later_rows rows) (known-numbers row) (known-later rows)

known-refusal : (r : Refusal) → list_all is_known (refusal_lexemes r) ≡ true
known-refusal (refusals.Grammar token) = refl
known-refusal (refusals.Limit what) = refl
known-refusal (refusals.NotSymbol term) = refl
known-refusal (refusals.NotCoprime gcd) = refl
known-refusal (refusals.Length need got) = refl
known-refusal (refusals.NoPart count) = refl
known-refusal refusals.VersionsFull = refl
known-refusal (refusals.Relation number coords) = known-numbers coords
known-refusal (refusals.Commutator other row column left right) = rw (known-operator other) refl

pub known-reply : (r : Reply) → list_all is_known (reply_lexemes r) ≡ true
known-reply (replies.Point p) = refl
known-reply (replies.Basis points) = known-map (λ p. lexs.Symbol p) points (λ x. refl)
known-reply (replies.Coords values) = known-numbers values
known-reply (replies.Certified coords trace) =
    known-append (number_lexemes coords) _ (known-numbers coords) (known-map (λ t. lexs.Pair t) trace (λ x. refl))
known-reply (replies.Boundary values) = known-numbers values
known-reply (replies.Cusps points) = known-map (λ p. lexs.Symbol p) points (λ x. refl)
known-reply (replies.Operator dim trace) = refl
known-reply (replies.Version number dims) = known-numbers dims
known-reply (replies.Splitting number dims os) =
    known-append (number_lexemes dims) _ (known-numbers dims) (known-map operator_lexeme os known-operator)
known-reply (replies.Rows rows) = known-rows rows
known-reply (replies.Chains chains matrices) = refl
known-reply (replies.Refused refusal) = known-refusal refusal
known-reply replies.Memory = refl

-- ---- coefficients

smalls_of-decimals : (ns : List ℕ) → list_all is_small ns ≡ true → smalls_of (map decimal ns) ≡ Some ns
smalls_of-decimals [] e = refl
smalls_of-decimals (n ∷ ns) e =
    let q = and_parts (is_small n) (list_all is_small ns) e in
    rw (small_of-decimal n q.0, smalls_of-decimals ns q.1) refl

smalls_of-is : (ts : List (List ℕ)) (ns : List ℕ) → smalls_of ts ≡ Some ns → (map decimal ns ≡ ts) × (list_all is_small ns ≡ true)
smalls_of-is [] [] e = (refl, refl)
smalls_of-is [] (n ∷ ns) e = absurd cc
smalls_of-is (t ∷ ts) ns e =
    let a = then_taken (small_of t) (λ n. then_option (smalls_of ts) (λ ns. Some (n ∷ ns))) ns e in
    let b = then_taken (smalls_of ts) (λ ns. Some (a.0 ∷ ns)) ns a.2 in
    let here = small_of-is t a.0 a.1 in
    let rest = smalls_of-is ts b.0 b.1 in
    subst (λ ms. (map decimal ms ≡ t ∷ ts) × (list_all is_small ms ≡ true)) (list_is (a.0 ∷ b.0) ns b.2)
    (rw (here.0, rest.0) refl, and_from (is_small a.0) (list_all is_small b.0) here.1 rest.1)
  where
    list_is : (xs ys : List ℕ) → Some xs ≡ Some ys → xs ≡ ys
    list_is xs ys e = cc

coefficients-joined : (n : ℕ) (ns : List ℕ) → coefficients_text (n ∷ ns) ≡ joined 44 (decimal n ∷ map decimal ns)
coefficients-joined n [] = append-nil (decimal n)
coefficients-joined n (m ∷ ns) = ap (λ t. decimal n ++ (44 ∷ t)) (coefficients-joined m ns)

decimals-lack : (s : ℕ) (ns : List ℕ) → (not (is_small s) ≡ not (is_small s)) → ((n : ℕ) → is_small n ≡ true → lacks s (decimal n) ≡ true)
    → list_all is_small ns ≡ true → list_all (lacks s) (map decimal ns) ≡ true
decimals-lack s [] t h e = refl
decimals-lack s (n ∷ ns) t h e =
    let q = and_parts (is_small n) (list_all is_small ns) e in
    and_from (lacks s (decimal n)) (list_all (lacks s) (map decimal ns)) (h n q.0) (decimals-lack s ns t h q.1)

pub coefficients_of-text : (ns : List ℕ) → is_some_row ns ≡ true → list_all is_small ns ≡ true → coefficients_of (coefficients_text ns) ≡ Some ns
coefficients_of-text [] some e = absurd cc
coefficients_of-text (n ∷ ns) some e =
    let lack = decimals-lack 44 (n ∷ ns) refl (λ m small. decimal_lacks 44 m refl (small_word m small)) e in
    ap (λ t. smalls_of (parts 44 t)) (coefficients-joined n ns)
    ∙ ap smalls_of (parts-joined 44 (decimal n) (map decimal ns) (all-lack 44 (map decimal (n ∷ ns)) lack))
    ∙ smalls_of-decimals (n ∷ ns) e

pub coefficients_of-is : (t : List ℕ) (ns : List ℕ) → coefficients_of t ≡ Some ns
    → (coefficients_text ns ≡ t) × (list_all is_small ns ≡ true) × (is_some_row ns ≡ true)
coefficients_of-is t ns e = let is = smalls_of-is (parts 44 t) ns e in at ns is.0 is.1
  where
    at : (ms : List ℕ) → map decimal ms ≡ parts 44 t → list_all is_small ms ≡ true
        → (coefficients_text ms ≡ t) × (list_all is_small ms ≡ true) × (is_some_row ms ≡ true)
    at [] is small =
        let p = parts-cons 44 t in
        let no : [] ≡ p.0 ∷ p.1 = is ∙ p.2 in absurd cc
    at (m ∷ ms) is small = (coefficients-joined m ms ∙ ap (joined 44) is ∙ join_with_byte-slice_split 44 t, small, refl)

-- no byte that parts stands in the text of the coefficients
lacks-joined : (s : ℕ) → IsParting s → (n : ℕ) (ns : List ℕ) → list_all is_small (n ∷ ns) ≡ true
    → lacks s (joined 44 (decimal n ∷ map decimal ns)) ≡ true
lacks-joined s h n [] e = let q = and_parts (is_small n) true e in small_lacks s h n q.0
lacks-joined s h n (m ∷ ns) e =
    let q = and_parts (is_small n) (list_all is_small (m ∷ ns)) e in
    lacks-append s (decimal n) (44 ∷ joined 44 (decimal m ∷ map decimal ns)) (small_lacks s h n q.0)
    (and_from (not (eqb 44 s)) (lacks s (joined 44 (decimal m ∷ map decimal ns))) h.comma (lacks-joined s h m ns q.1))

pub coefficients-lack : (s : ℕ) → IsParting s → (ns : List ℕ) → is_some_row ns ≡ true → list_all is_small ns ≡ true
    → lacks s (coefficients_text ns) ≡ true
coefficients-lack s h [] some e = absurd cc
coefficients-lack s h (n ∷ ns) some e = subst (λ t. lacks s t ≡ true) (sym (coefficients-joined n ns)) (lacks-joined s h n ns e)

pub spaced_text-lacks : (ls : List Lexeme) → list_all is_lexeme ls ≡ true → lacks 10 (spaced_text ls) ≡ true
spaced_text-lacks [] e = refl
spaced_text-lacks (l ∷ ls) e =
    let q = and_parts (is_lexeme l) (list_all is_lexeme ls) e in
    lacks-append 10 (spell l) (spaced_text ls) (spell-lacks 10 feeds_part l q.0) (spaced_text-lacks ls q.1)
