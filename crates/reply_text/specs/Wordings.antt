-- Replies as the lexemes of their lines, and back.
--   operator_lexeme o         an operator's name
--   number_lexemes xs         numbers; symbol_lexemes of symbols, pair_lexemes of pairs, operator_lexemes of operators' names
--   later_rows rs             rows, each after a break
--   row_lexemes rs            rows, with a break between each two
--   limit_word what           the word of a limit
--   refusal_lexemes r         what is said of a refusal, after its first word
--   reply_lexemes r           what is said in reply to a command
--   spaced_text ls            the spellings of these lexemes, with a space before each
--   is_some_row row           the row has a number
--   are_rows rs               there is a row, and each has a number
--   has_rows r                where the reply gives rows, they are rows
--   onto x next               the item x before those that follow
--   word_item l               the word that a lexeme is; number_item, symbol_item, pair_item, operator_item and limit_item alike
--   star_of w                 the operator that a word names; limit_of_word w the limit
--   onto_item o ls next       the item o, if it is one, before those that follow; else none, and ls is left
--   items_in item ls          the items that the lexemes begin with, and the lexemes that follow
--   is_end ls                 no lexeme is left
--   where_none ls x           x, where no lexeme is left
--   all_of item ls            the items of all lexemes
--   first item ls             the item of the first lexeme, and the lexemes that follow
--   only item ls              the item of the one lexeme
--   after w ls                the lexemes that follow this word
--   until item w ls           the items before this word, and the lexemes that follow it
--   counted_symbols ls        a number, and so many symbols
--   numbers_by w ls           two numbers with this word between them
--   number_by w ls            a number with this word after it, and the lexemes that follow
--   is_break w                the word is a break
--   rows_of rs row ls         the rows rs, the one that begins with row, and those that follow in ls
--   ok_of w ls                the reply of ok and this word
--   commutator_of ls          the refusal of a commutator
--   refusal_of w ls           the refusal of this word
--   err_of w ls               the reply of err and this word
--   reply_by_verdict v w ls   the reply of ok or err, v, and this word
--   reply_of ls               the reply that has these lexemes
use Rattle.std.specs.Prelude.{ℕ, Bool, true, false, List, [], ◌∷◌, ◌++◌, map, flat_map, length, Option, Some, None, ◌==◌, ◌&&◌, if◌then◌else◌}
use Rattle.std.specs.Str.{bytes_eq}
use Rattle.std.specs.List.{list_all}
use Rattle.p1_normal.specs.declared.point.Point.{Point}
use Rattle.op_polynomials.specs.declared.name.OpName.{OpName}
use Rattle.op_polynomials.specs.declared.name.OpName.TheVariants as ops
use Rattle.script_text.specs.declared.command_fault.LimitWord.{LimitWord}
use Rattle.script_text.specs.declared.command_fault.LimitWord.TheVariants as limits
use Rattle.reply_text.specs.declared.reply.Reply.{Reply}
use Rattle.reply_text.specs.declared.reply.Reply.TheVariants as replies
use Rattle.reply_text.specs.declared.refusal.Refusal.{Refusal}
use Rattle.reply_text.specs.declared.refusal.Refusal.TheVariants as refusals
use Rattle.reply_text.specs.declared.word.Word.{Word}
use Rattle.reply_text.specs.declared.word.Word.TheVariants as words
use Rattle.reply_text.specs.declared.lexeme.Lexeme.{Lexeme}
use Rattle.reply_text.specs.declared.lexeme.Lexeme.TheVariants as lexs
use Rattle.reply_text.specs.Lexemes.{word_text, spell, where_true, then_option}

abbrev pub operator_lexeme : OpName → Lexeme
operator_lexeme (ops.T n) = lexs.Hecke n
operator_lexeme ops.Star = lexs.Word words.Star

abbrev pub number_lexemes : List ℕ → List Lexeme
number_lexemes xs = map (λ x. lexs.Number x) xs

abbrev pub symbol_lexemes : List Point → List Lexeme
symbol_lexemes ps = map (λ p. lexs.Symbol p) ps

abbrev pub pair_lexemes : List (ℕ × ℕ) → List Lexeme
pair_lexemes ts = map (λ t. lexs.Pair t) ts

abbrev pub operator_lexemes : List OpName → List Lexeme
operator_lexemes os = map operator_lexeme os

abbrev pub later_rows : List (List ℕ) → List Lexeme
later_rows rows = flat_map (λ row. lexs.Word words.Break ∷ number_lexemes row) rows

abbrev pub row_lexemes : List (List ℕ) → List Lexeme
row_lexemes [] = []
row_lexemes (row ∷ rows) = number_lexemes row ++ later_rows rows

abbrev pub limit_word : LimitWord → Word
limit_word limits.N = words.N
limit_word limits.Degree = words.Degree
limit_word limits.Terms = words.Terms
limit_word limits.Number = words.Number

abbrev pub refusal_lexemes : Refusal → List Lexeme
refusal_lexemes (refusals.Grammar token) = lexs.Word words.Grammar ∷ lexs.Number token ∷ []
refusal_lexemes (refusals.Limit what) = lexs.Word words.Limit ∷ lexs.Word (limit_word what) ∷ []
refusal_lexemes (refusals.NotSymbol term) = lexs.Word words.NotSymbol ∷ lexs.Number term ∷ []
refusal_lexemes (refusals.NotCoprime gcd) = lexs.Word words.NotCoprime ∷ lexs.Number gcd ∷ []
refusal_lexemes (refusals.Length need got) = lexs.Word words.Length ∷ lexs.Number need ∷ lexs.Number got ∷ []
refusal_lexemes (refusals.NoPart count) = lexs.Word words.NoPart ∷ lexs.Number count ∷ []
refusal_lexemes refusals.VersionsFull = lexs.Word words.VersionsFull ∷ []
refusal_lexemes (refusals.Relation number coords) = lexs.Word words.Relation ∷ lexs.Number number ∷ number_lexemes coords
refusal_lexemes (refusals.Commutator other row column left right) =
    lexs.Word words.Commutator ∷ operator_lexeme other ∷ lexs.Number row ∷ lexs.Number column ∷ lexs.Number left ∷ lexs.Number right ∷ []

abbrev pub reply_lexemes : Reply → List Lexeme
reply_lexemes (replies.Point p) = lexs.Word words.Ok ∷ lexs.Word words.Point ∷ lexs.Symbol p ∷ []
reply_lexemes (replies.Basis points) = lexs.Word words.Ok ∷ lexs.Word words.Basis ∷ lexs.Number (length points) ∷ symbol_lexemes points
reply_lexemes (replies.Coords values) = lexs.Word words.Ok ∷ lexs.Word words.Coords ∷ number_lexemes values
reply_lexemes (replies.Certified coords trace) =
    lexs.Word words.Ok ∷ lexs.Word words.Certified ∷ number_lexemes coords ++ lexs.Word words.By ∷ pair_lexemes trace
reply_lexemes (replies.Boundary values) = lexs.Word words.Ok ∷ lexs.Word words.Boundary ∷ number_lexemes values
reply_lexemes (replies.Cusps points) = lexs.Word words.Ok ∷ lexs.Word words.Cusps ∷ lexs.Number (length points) ∷ symbol_lexemes points
reply_lexemes (replies.Operator dim trace) =
    lexs.Word words.Ok ∷ lexs.Word words.Operator ∷ lexs.Number dim ∷ lexs.Word words.Trace ∷ lexs.Number trace ∷ []
reply_lexemes (replies.Version number dims) =
    lexs.Word words.Ok ∷ lexs.Word words.Version ∷ lexs.Number number ∷ lexs.Word words.Dims ∷ number_lexemes dims
reply_lexemes (replies.Splitting number dims os) =
    lexs.Word words.Ok ∷ lexs.Word words.Splitting ∷ lexs.Number number ∷ lexs.Word words.Dims ∷ number_lexemes dims ++ lexs.Word words.Ops
    ∷ operator_lexemes os
reply_lexemes (replies.Rows rows) = lexs.Word words.Ok ∷ lexs.Word words.Rows ∷ row_lexemes rows
reply_lexemes (replies.Chains chains matrices) =
    lexs.Word words.Ok ∷ lexs.Word words.Chains ∷ lexs.Number chains ∷ lexs.Word words.Matrices ∷ lexs.Number matrices ∷ []
reply_lexemes (replies.Refused refusal) = lexs.Word words.Err ∷ refusal_lexemes refusal
reply_lexemes replies.Memory = lexs.Word words.Err ∷ lexs.Word words.Memory ∷ []

abbrev pub spaced_text : List Lexeme → List ℕ
spaced_text ls = flat_map (λ l. 32 ∷ spell l) ls

-- ---- back

abbrev pub is_some_row : List ℕ → Bool
is_some_row [] = false
is_some_row (x ∷ row) = true

abbrev pub are_rows : List (List ℕ) → Bool
are_rows [] = false
are_rows (row ∷ rows) = is_some_row row && list_all is_some_row rows

abbrev pub has_rows : Reply → Bool
has_rows (replies.Rows rows) = are_rows rows
has_rows reply = true

abbrev pub onto : {A B : Type 0} → A → List A × B → List A × B
onto x next = (x ∷ next.0, next.1)

-- the items that lexemes give

abbrev pub word_item : Lexeme → Option Word
word_item (lexs.Word w) = Some w
word_item l = None

abbrev pub number_item : Lexeme → Option ℕ
number_item (lexs.Number n) = Some n
number_item l = None

abbrev pub symbol_item : Lexeme → Option Point
symbol_item (lexs.Symbol p) = Some p
symbol_item l = None

abbrev pub pair_item : Lexeme → Option (ℕ × ℕ)
pair_item (lexs.Pair t) = Some t
pair_item l = None

abbrev pub star_of : Word → Option OpName
star_of words.Star = Some ops.Star
star_of w = None

abbrev pub operator_item : Lexeme → Option OpName
operator_item (lexs.Hecke n) = Some (ops.T n)
operator_item (lexs.Word w) = star_of w
operator_item l = None

abbrev pub limit_of_word : Word → Option LimitWord
limit_of_word words.N = Some limits.N
limit_of_word words.Degree = Some limits.Degree
limit_of_word words.Terms = Some limits.Terms
limit_of_word words.Number = Some limits.Number
limit_of_word w = None

abbrev pub limit_item : Lexeme → Option LimitWord
limit_item (lexs.Word w) = limit_of_word w
limit_item l = None

abbrev pub onto_item : {A : Type 0} → Option A → List Lexeme → List A × List Lexeme → List A × List Lexeme
onto_item (Some x) ls next = onto x next
onto_item None ls next = ([], ls)

abbrev pub items_in : {A : Type 0} → (Lexeme → Option A) → List Lexeme → List A × List Lexeme
items_in item [] = ([], [])
items_in item (l ∷ ls) = onto_item (item l) (l ∷ ls) (items_in item ls)

abbrev pub is_end : List Lexeme → Bool
is_end [] = true
is_end (l ∷ ls) = false

abbrev pub where_none : {A : Type 0} → List Lexeme → A → Option A
where_none [] x = Some x
where_none (l ∷ ls) x = None

abbrev pub all_of : {A : Type 0} → (Lexeme → Option A) → List Lexeme → Option (List A)
all_of item ls = where_none (items_in item ls).1 (items_in item ls).0

abbrev pub first : {A : Type 0} → (Lexeme → Option A) → List Lexeme → Option (A × List Lexeme)
first item [] = None
first item (l ∷ ls) = then_option (item l) (λ x. Some (x, ls))

abbrev pub only : {A : Type 0} → (Lexeme → Option A) → List Lexeme → Option A
only item ls = then_option (first item ls) (λ t. where_none t.1 t.0)

abbrev pub after : Word → List Lexeme → Option (List Lexeme)
after w ls = then_option (first word_item ls) (λ t. where_true (bytes_eq (word_text t.0) (word_text w)) t.1)

abbrev pub until : {A : Type 0} → (Lexeme → Option A) → Word → List Lexeme → Option (List A × List Lexeme)
until item w ls = then_option (after w (items_in item ls).1) (λ rest. Some ((items_in item ls).0, rest))

abbrev pub counted_symbols : List Lexeme → Option (List Point)
counted_symbols ls = then_option (first number_item ls) (λ t. then_option (all_of symbol_item t.1) (λ ps. where_true (t.0 == length ps) ps))

abbrev pub numbers_by : Word → List Lexeme → Option (ℕ × ℕ)
numbers_by w ls =
    then_option (first number_item ls) (λ t. then_option (after w t.1) (λ rest. then_option (only number_item rest) (λ n. Some (t.0, n))))

abbrev pub number_by : Word → List Lexeme → Option (ℕ × List Lexeme)
number_by w ls = then_option (first number_item ls) (λ t. then_option (after w t.1) (λ rest. Some (t.0, rest)))

abbrev pub is_break : Word → Bool
is_break words.Break = true
is_break w = false

abbrev pub rows_of : List (List ℕ) → List ℕ → List Lexeme → Option (List (List ℕ))
rows_of rows row [] = where_true (is_some_row row) (rows ++ row ∷ [])
rows_of rows row (lexs.Number n ∷ ls) = rows_of rows (row ++ n ∷ []) ls
rows_of rows row (lexs.Word w ∷ ls) = if is_break w && is_some_row row then rows_of (rows ++ row ∷ []) [] ls else None
rows_of rows row (l ∷ ls) = None

abbrev pub ok_of : Word → List Lexeme → Option Reply
ok_of words.Point ls = then_option (only symbol_item ls) (λ p. Some (replies.Point p))
ok_of words.Basis ls = then_option (counted_symbols ls) (λ ps. Some (replies.Basis ps))
ok_of words.Coords ls = then_option (all_of number_item ls) (λ xs. Some (replies.Coords xs))
ok_of words.Certified ls =
    then_option (until number_item words.By ls) (λ t. then_option (all_of pair_item t.1) (λ ts. Some (replies.Certified t.0 ts)))
ok_of words.Boundary ls = then_option (all_of number_item ls) (λ xs. Some (replies.Boundary xs))
ok_of words.Cusps ls = then_option (counted_symbols ls) (λ ps. Some (replies.Cusps ps))
ok_of words.Operator ls = then_option (numbers_by words.Trace ls) (λ t. Some (replies.Operator t.0 t.1))
ok_of words.Version ls = then_option (number_by words.Dims ls) (λ t. then_option (all_of number_item t.1) (λ xs. Some (replies.Version t.0 xs)))
ok_of words.Splitting ls =
    then_option (number_by words.Dims ls)
    (λ t. then_option (until number_item words.Ops t.1) (λ u. then_option (all_of operator_item u.1) (λ os. Some (replies.Splitting t.0 u.0 os))))
ok_of words.Rows ls = then_option (rows_of [] [] ls) (λ rows. Some (replies.Rows rows))
ok_of words.Chains ls = then_option (numbers_by words.Matrices ls) (λ t. Some (replies.Chains t.0 t.1))
ok_of w ls = None

abbrev pub commutator_of : List Lexeme → Option Refusal
commutator_of ls =
    then_option (first operator_item ls)
    (λ o. then_option (first number_item o.1)
    (λ a. then_option (first number_item a.1) (λ b. then_option (first number_item b.1) (λ c. then_option (only number_item c.1) (λ d.
    Some (refusals.Commutator o.0 a.0 b.0 c.0 d))))))

abbrev pub refusal_of : Word → List Lexeme → Option Refusal
refusal_of words.Grammar ls = then_option (only number_item ls) (λ n. Some (refusals.Grammar n))
refusal_of words.Limit ls = then_option (only limit_item ls) (λ what. Some (refusals.Limit what))
refusal_of words.NotSymbol ls = then_option (only number_item ls) (λ n. Some (refusals.NotSymbol n))
refusal_of words.NotCoprime ls = then_option (only number_item ls) (λ n. Some (refusals.NotCoprime n))
refusal_of words.Length ls = then_option (first number_item ls) (λ t. then_option (only number_item t.1) (λ n. Some (refusals.Length t.0 n)))
refusal_of words.NoPart ls = then_option (only number_item ls) (λ n. Some (refusals.NoPart n))
refusal_of words.VersionsFull ls = where_none ls refusals.VersionsFull
refusal_of words.Relation ls = then_option (first number_item ls) (λ t. then_option (all_of number_item t.1) (λ xs. Some (refusals.Relation t.0 xs)))
refusal_of words.Commutator ls = commutator_of ls
refusal_of w ls = None

abbrev pub err_of : Word → List Lexeme → Option Reply
err_of words.Memory ls = where_none ls replies.Memory
err_of w ls = then_option (refusal_of w ls) (λ r. Some (replies.Refused r))

abbrev pub reply_by_verdict : Word → Word → List Lexeme → Option Reply
reply_by_verdict words.Ok w ls = ok_of w ls
reply_by_verdict words.Err w ls = err_of w ls
reply_by_verdict v w ls = None

abbrev pub reply_of : List Lexeme → Option Reply
reply_of ls = then_option (first word_item ls) (λ t. then_option (first word_item t.1) (λ u. reply_by_verdict t.0 u.0 u.1))
