-- The text of a reply is that of its lexemes, with spaces between them.
use Rattle.std.proofs.Common.{◌≡◌, ℕ, List, [], ◌∷◌, ◌++◌, length, flat_map, decimal, codes, refl, sym, ap, ◌∙◌, append_assoc, append-nil}
use Rattle.std.proofs.lemmas.Grind.{flat_map-append}
use Rattle.std.proofs.lemmas.List.Folds.{flat_map-map}
use Rattle.p1_normal.specs.declared.point.Point.{Point}
use Rattle.op_polynomials.specs.declared.name.OpName.{OpName}
use Rattle.op_polynomials.specs.declared.name.OpName.TheVariants as ops
use Rattle.script_text.specs.declared.command_fault.LimitWord.{LimitWord}
use Rattle.script_text.specs.declared.command_fault.LimitWord.TheVariants as limits
use Rattle.reply_text.specs.declared.reply.Reply.{Reply}
use Rattle.reply_text.specs.declared.reply.Reply.TheVariants as replies
use Rattle.reply_text.specs.declared.refusal.Refusal.{Refusal}
use Rattle.reply_text.specs.declared.refusal.Refusal.TheVariants as refusals
use Rattle.reply_text.specs.declared.word.Word.{Word}
use Rattle.reply_text.specs.declared.word.Word.TheVariants as words
use Rattle.reply_text.specs.declared.lexeme.Lexeme.{Lexeme}
use Rattle.reply_text.specs.declared.lexeme.Lexeme.TheVariants as lexs
use Rattle.script_text.specs.Draws.{operator_text}
use Rattle.reply_text.specs.Texts.{numbers, symbol_text, symbols, pair_text, pairs, operators, rows_text, refusal_text, reply_text}
use Rattle.reply_text.specs.Lexemes.{word_text, spell}
use Rattle.reply_text.specs.Wordings.{operator_lexeme, number_lexemes, symbol_lexemes, pair_lexemes, operator_lexemes, later_rows, row_lexemes, refusal_lexemes, reply_lexemes, spaced_text}

spaced_text-numbers : (xs : List ℕ) → numbers xs ≡ spaced_text (number_lexemes xs)
spaced_text-numbers xs = sym (flat_map-map (λ l. 32 ∷ spell l) (λ n. lexs.Number n) xs)

symbol-spelled : (p : Point) → symbol_text p ≡ spell (lexs.Symbol p)
symbol-spelled p = simp append_assoc

spaced_text-symbols : (ps : List Point) → symbols ps ≡ spaced_text (symbol_lexemes ps)
spaced_text-symbols [] = refl
spaced_text-symbols (p ∷ ps) = ap (λ t. 32 ∷ t ++ symbols ps) (symbol-spelled p) ∙ ap (λ t. 32 ∷ spell (lexs.Symbol p) ++ t) (spaced_text-symbols ps)

pair-spelled : (t : ℕ × ℕ) → pair_text t ≡ spell (lexs.Pair t)
pair-spelled t = simp append_assoc

spaced_text-pairs : (ts : List (ℕ × ℕ)) → pairs ts ≡ spaced_text (pair_lexemes ts)
spaced_text-pairs [] = refl
spaced_text-pairs (t ∷ ts) = ap (λ x. 32 ∷ x ++ pairs ts) (pair-spelled t) ∙ ap (λ x. 32 ∷ spell (lexs.Pair t) ++ x) (spaced_text-pairs ts)

pub operator-spelled : (o : OpName) → operator_text o ≡ spell (operator_lexeme o)
operator-spelled (ops.T n) = refl
operator-spelled ops.Star = refl

spaced_text-operators : (os : List OpName) → operators os ≡ spaced_text (operator_lexemes os)
spaced_text-operators [] = refl
spaced_text-operators (o ∷ os) =
    ap (λ x. 32 ∷ x ++ operators os) (operator-spelled o) ∙ ap (λ x. 32 ∷ spell (operator_lexeme o) ++ x) (spaced_text-operators os)

pub spaced_text-append : (xs ys : List Lexeme) → spaced_text (xs ++ ys) ≡ spaced_text xs ++ spaced_text ys
spaced_text-append xs ys = flat_map-append (λ l. 32 ∷ spell l) xs ys

spaced_text-later : (rows : List (List ℕ)) → flat_map (λ row. codes " ;" ++ numbers row) rows ≡ spaced_text (later_rows rows)
spaced_text-later [] = refl
spaced_text-later (row ∷ rows) =
    let rest = spaced_text-later rows in
    simp (append_assoc, spaced_text-append, spaced_text-numbers, rest)

spaced_text-rows : (rows : List (List ℕ)) → rows_text rows ≡ spaced_text (row_lexemes rows)
spaced_text-rows [] = refl
spaced_text-rows (row ∷ rows) = rw (spaced_text-numbers row, spaced_text-later rows) (sym (spaced_text-append (number_lexemes row) (later_rows rows)))

refusal-spaced_text : (r : Refusal) → 32 ∷ refusal_text r ≡ spaced_text (lexs.Word words.Err ∷ refusal_lexemes r)
refusal-spaced_text (refusals.Grammar token) = simp (append_assoc, append-nil)
refusal-spaced_text (refusals.Limit what) = at what
  where
    at : (w : LimitWord) → 32 ∷ refusal_text (refusals.Limit w) ≡ spaced_text (lexs.Word words.Err ∷ refusal_lexemes (refusals.Limit w))
    at limits.N = refl
    at limits.Degree = refl
    at limits.Terms = refl
    at limits.Number = refl
refusal-spaced_text (refusals.NotSymbol term) = simp (append_assoc, append-nil)
refusal-spaced_text (refusals.NotCoprime gcd) = simp (append_assoc, append-nil)
refusal-spaced_text (refusals.Length need got) = simp (append_assoc, append-nil)
refusal-spaced_text (refusals.NoPart count) = simp (append_assoc, append-nil)
refusal-spaced_text refusals.VersionsFull = refl
refusal-spaced_text (refusals.Relation number coords) = simp (append_assoc, append-nil, spaced_text-numbers)
refusal-spaced_text (refusals.Commutator other row column left right) = simp (append_assoc, append-nil, operator-spelled)

-- two lists with a word between them
two-lists : (w : Word) (a b : List ℕ) (xs ys : List Lexeme) → a ≡ spaced_text xs → b ≡ spaced_text ys
    → a ++ ((32 ∷ word_text w) ++ b) ≡ spaced_text (xs ++ (lexs.Word w ∷ ys))
two-lists w a b xs ys x y = rw (x, y) (sym (spaced_text-append xs (lexs.Word w ∷ ys)))

pub reply-spaced_text : (r : Reply) → 32 ∷ reply_text r ≡ spaced_text (reply_lexemes r)
reply-spaced_text (replies.Point p) = simp (append_assoc, append-nil)
reply-spaced_text (replies.Basis points) =
    ap (λ t. 32 ∷ codes "ok basis " ++ decimal (length points) ++ t) (spaced_text-symbols points) ∙ simp (append_assoc, append-nil)
reply-spaced_text (replies.Coords values) = simp (append_assoc, append-nil, spaced_text-numbers)
reply-spaced_text (replies.Certified coords trace) =
    ap (λ t. 32 ∷ t) (append_assoc (codes "ok certified" ++ numbers coords) (codes " by") (pairs trace)
    ∙ append_assoc (codes "ok certified") (numbers coords) (codes " by" ++ pairs trace))
    ∙ ap (λ t. 32 ∷ codes "ok certified" ++ t)
    (two-lists words.By (numbers coords) (pairs trace) (number_lexemes coords) (pair_lexemes trace) (spaced_text-numbers coords)
    (spaced_text-pairs trace))
reply-spaced_text (replies.Boundary values) = simp (append_assoc, append-nil, spaced_text-numbers)
reply-spaced_text (replies.Cusps points) =
    ap (λ t. 32 ∷ codes "ok cusps " ++ decimal (length points) ++ t) (spaced_text-symbols points) ∙ simp (append_assoc, append-nil)
reply-spaced_text (replies.Operator dim trace) = simp (append_assoc, append-nil)
reply-spaced_text (replies.Version number dims) =
    ap (λ t. 32 ∷ t) (append_assoc (codes "ok version " ++ decimal number) (codes " dims") (numbers dims)
    ∙ append_assoc (codes "ok version ") (decimal number) (codes " dims" ++ numbers dims))
    ∙ ap (λ t. 32 ∷ codes "ok version " ++ (decimal number ++ (codes " dims" ++ t))) (spaced_text-numbers dims)
reply-spaced_text (replies.Splitting number dims os) =
    let start = codes "ok splitting " in
    ap (λ t. 32 ∷ t) (
    append_assoc (((start ++ decimal number) ++ codes " dims") ++ numbers dims) (codes " ops") (operators os)
    ∙ append_assoc ((start ++ decimal number) ++ codes " dims") (numbers dims) (codes " ops" ++ operators os)
    ∙ append_assoc (start ++ decimal number) (codes " dims") (numbers dims ++ (codes " ops" ++ operators os))
    ∙ append_assoc start (decimal number) (codes " dims" ++ (numbers dims ++ (codes " ops" ++ operators os))))
    ∙ ap (λ t. 32 ∷ codes "ok splitting " ++ (decimal number ++ (codes " dims" ++ t)))
    (two-lists words.Ops (numbers dims) (operators os) (number_lexemes dims) (operator_lexemes os) (spaced_text-numbers dims)
    (spaced_text-operators os))
reply-spaced_text (replies.Rows rows) = simp (append_assoc, append-nil, spaced_text-rows)
reply-spaced_text (replies.Chains chains matrices) = simp (append_assoc, append-nil)
reply-spaced_text (replies.Refused refusal) = refusal-spaced_text refusal
reply-spaced_text replies.Memory = refl
