-- Lexemes: what stands between the spaces of a line.
--   word_text w          how a word is spelled
--   all_words            the words
--   spell l              how a lexeme is spelled; Other has no spelling of its own
--   is_small n           the number is below 2^32
--   is_lexeme l          each number of the lexeme has its range, and the lexeme isn't Other
--   where_true b x       x, where b is true
--   then_option o f      what f makes of the value of o, if there is one
--   or_other o make      the lexeme that is made of the value of o, or Other
--   value_of t           the number below 2^64 whose decimal is t
--   small_of t           the number below 2^32 whose decimal is t
--   first_word ws t      the first of the words ws that is spelled t
--   word_of t            the word that is spelled t
--   two ps               the two parts, where there are two
--   both_small a b       the two numbers below 2^32 whose decimals are a and b
--   pair_of t            the pair of numbers that is spelled t
--   is_nothing t         the text is empty
--   before_bracket t     what stands before the one closing bracket, which ends the text
--   point t              the point of two numbers
--   symbol_of t          the symbol, of which t stands after its opening bracket
--   number_lexeme n      the lexeme of a number
--   or_pair o t          the lexeme of the number o, or else of the pair that is spelled t
--   or_word o make t     the lexeme that is made of the number o, or else of the word that is spelled t
--   lexeme_by_mark b t   the lexeme with the first byte b, which is no digit, and t after it
--   lexeme_of t          the lexeme that is spelled t, or Other
--   pieces more t        the pieces of the text between spaces, where more is true, and none where it is false
--   lexemes more t       the lexemes of these pieces
--   pieces_left rest     the pieces that are left of a line
--   lexemes_left rest    the lexemes that are left of a line
use Rattle.std.specs.Prelude.{ℕ, ◌^◌, Bool, true, false, List, [], ◌∷◌, ◌++◌, map, codes, decimal, Option, Some, None, ◌==◌, ◌&&◌, nat_lt, if◌then◌else◌}
use Rattle.std.specs.Str.{bytes_eq}
use Rattle.text_lines.specs.Lines.{parts}
use Rattle.text_lines.specs.Numbers.{is_digit, is_natural, natural_of}
use Rattle.p1_normal.specs.declared.point.Point.{Point}
use Rattle.reply_text.specs.declared.word.Word.{Word}
use Rattle.reply_text.specs.declared.word.Word.TheVariants as words
use Rattle.reply_text.specs.declared.lexeme.Lexeme.{Lexeme}
use Rattle.reply_text.specs.declared.lexeme.Lexeme.TheVariants as lexs
use Rattle.reply_text.specs.declared.lexeme.Rest.{Rest}

abbrev pub word_text : Word → List ℕ
word_text words.Transcript = codes "transcript"
word_text words.Space = codes "space"
word_text words.Symbols = codes "symbols"
word_text words.Session = codes "session"
word_text words.History = codes "history"
word_text words.Columns = codes "columns"
word_text words.End = codes "end"
word_text words.Ok = codes "ok"
word_text words.Err = codes "err"
word_text words.Point = codes "point"
word_text words.Basis = codes "basis"
word_text words.Coords = codes "coords"
word_text words.Certified = codes "certified"
word_text words.By = codes "by"
word_text words.Boundary = codes "boundary"
word_text words.Cusps = codes "cusps"
word_text words.Operator = codes "operator"
word_text words.Trace = codes "trace"
word_text words.Version = codes "version"
word_text words.Dims = codes "dims"
word_text words.Splitting = codes "splitting"
word_text words.Ops = codes "ops"
word_text words.Rows = codes "rows"
word_text words.Break = codes ";"
word_text words.Chains = codes "chains"
word_text words.Matrices = codes "matrices"
word_text words.Memory = codes "memory"
word_text words.Grammar = codes "grammar"
word_text words.Limit = codes "limit"
word_text words.N = codes "n"
word_text words.Degree = codes "degree"
word_text words.Terms = codes "terms"
word_text words.Number = codes "number"
word_text words.NotSymbol = codes "not_symbol"
word_text words.NotCoprime = codes "not_coprime"
word_text words.Length = codes "length"
word_text words.NoPart = codes "no_part"
word_text words.VersionsFull = codes "versions_full"
word_text words.Relation = codes "relation"
word_text words.Commutator = codes "commutator"
word_text words.Star = codes "star"

abbrev pub all_words : List Word
all_words = words.Transcript ∷ words.Space ∷ words.Symbols ∷ words.Session ∷ words.History ∷ words.Columns ∷ words.End ∷ words.Ok ∷ words.Err
    ∷ words.Point ∷ words.Basis ∷ words.Coords ∷ words.Certified ∷ words.By ∷ words.Boundary ∷ words.Cusps ∷ words.Operator ∷ words.Trace
    ∷ words.Version ∷ words.Dims ∷ words.Splitting ∷ words.Ops ∷ words.Rows ∷ words.Break ∷ words.Chains ∷ words.Matrices ∷ words.Memory
    ∷ words.Grammar ∷ words.Limit ∷ words.N ∷ words.Degree ∷ words.Terms ∷ words.Number ∷ words.NotSymbol ∷ words.NotCoprime ∷ words.Length
    ∷ words.NoPart ∷ words.VersionsFull ∷ words.Relation ∷ words.Commutator ∷ words.Star ∷ []

abbrev pub spell : Lexeme → List ℕ
spell (lexs.Word w) = word_text w
spell (lexs.Number n) = decimal n
spell (lexs.Large n) = decimal n
spell (lexs.At v) = 64 ∷ decimal v
spell (lexs.Hecke n) = 84 ∷ decimal n
spell (lexs.InSession s) = 115 ∷ decimal s
spell (lexs.AtCommand c) = 99 ∷ decimal c
spell (lexs.Symbol p) = 40 ∷ decimal p.u ++ (58 ∷ (decimal p.v ++ (41 ∷ [])))
spell (lexs.Pair t) = decimal t.0 ++ 58 ∷ decimal t.1
spell lexs.Other = []

abbrev pub is_small : ℕ → Bool
is_small n = nat_lt n (2 ^ 32)

abbrev pub is_lexeme : Lexeme → Bool
is_lexeme (lexs.Word w) = true
is_lexeme (lexs.Number n) = is_small n
is_lexeme (lexs.Large n) = if is_small n then false else nat_lt n (2 ^ 64)
is_lexeme (lexs.At v) = is_small v
is_lexeme (lexs.Hecke n) = is_small n
is_lexeme (lexs.InSession s) = is_small s
is_lexeme (lexs.AtCommand c) = is_small c
is_lexeme (lexs.Symbol p) = is_small p.u && is_small p.v
is_lexeme (lexs.Pair t) = is_small t.0 && is_small t.1
is_lexeme lexs.Other = false

abbrev pub where_true : {A : Type 0} → Bool → A → Option A
where_true true x = Some x
where_true false x = None

abbrev pub then_option : {A B : Type 0} → Option A → (A → Option B) → Option B
then_option None next = None
then_option (Some x) next = next x

abbrev pub or_other : {A : Type 0} → Option A → (A → Lexeme) → Lexeme
or_other None make = lexs.Other
or_other (Some x) make = make x

unfoldable pub value_of : List ℕ → Option ℕ
value_of token = where_true (is_natural token && bytes_eq (decimal (natural_of token)) token && nat_lt (natural_of token) (2 ^ 64)) (natural_of token)

abbrev pub small_of : List ℕ → Option ℕ
small_of token = then_option (value_of token) (λ n. where_true (is_small n) n)

abbrev pub first_word : List Word → List ℕ → Option Word
first_word [] token = None
first_word (w ∷ ws) token = if bytes_eq (word_text w) token then Some w else first_word ws token

unfoldable pub word_of : List ℕ → Option Word
word_of token = first_word all_words token

abbrev pub two : List (List ℕ) → Option (List ℕ × List ℕ)
two [] = None
two (a ∷ []) = None
two (a ∷ b ∷ []) = Some (a, b)
two (a ∷ b ∷ c ∷ more) = None

abbrev pub both_small : List ℕ → List ℕ → Option (ℕ × ℕ)
both_small a b = then_option (small_of a) (λ m. then_option (small_of b) (λ n. Some (m, n)))

abbrev pub pair_of : List ℕ → Option (ℕ × ℕ)
pair_of token = then_option (two (parts 58 token)) (λ t. both_small t.0 t.1)

abbrev pub is_nothing : List ℕ → Bool
is_nothing [] = true
is_nothing (b ∷ bytes) = false

abbrev pub before_bracket : List ℕ → Option (List ℕ)
before_bracket token = then_option (two (parts 41 token)) (λ t. where_true (is_nothing t.1) t.0)

abbrev pub point : ℕ × ℕ → Point
point t = record { u = t.0; v = t.1 }

abbrev pub symbol_of : List ℕ → Option Point
symbol_of token =
    then_option (two (parts 58 token)) (λ t. then_option (before_bracket t.1) (λ v. then_option (both_small t.0 v) (λ n. Some (point n))))

abbrev pub number_lexeme : ℕ → Lexeme
number_lexeme n = if is_small n then lexs.Number n else lexs.Large n

abbrev pub or_pair : Option ℕ → List ℕ → Lexeme
or_pair (Some n) token = number_lexeme n
or_pair None token = or_other (pair_of token) (λ t. lexs.Pair t)

abbrev pub or_word : Option ℕ → (ℕ → Lexeme) → List ℕ → Lexeme
or_word (Some n) make token = make n
or_word None make token = or_other (word_of token) (λ w. lexs.Word w)

abbrev pub lexeme_by_mark : ℕ → List ℕ → Lexeme
lexeme_by_mark b rest = if b == 64 then or_other (small_of rest) (λ n. lexs.At n)
    else if b == 84 then or_other (small_of rest) (λ n. lexs.Hecke n)
    else if b == 40 then or_other (symbol_of rest) (λ p. lexs.Symbol p)
    else if b == 115 then or_word (small_of rest) (λ n. lexs.InSession n) (b ∷ rest)
    else if b == 99 then or_word (small_of rest) (λ n. lexs.AtCommand n) (b ∷ rest)
    else or_other (word_of (b ∷ rest)) (λ w. lexs.Word w)

unfoldable pub lexeme_of : List ℕ → Lexeme
lexeme_of [] = lexs.Other
lexeme_of (b ∷ rest) = if is_digit b then or_pair (value_of (b ∷ rest)) (b ∷ rest) else lexeme_by_mark b rest

abbrev pub pieces : Bool → List ℕ → List (List ℕ)
pieces false text = []
pieces true text = parts 32 text

abbrev pub lexemes : Bool → List ℕ → List Lexeme
lexemes more text = map lexeme_of (pieces more text)

abbrev pub pieces_left : Rest → List (List ℕ)
pieces_left rest = pieces rest.more rest.text.now

abbrev pub lexemes_left : Rest → List Lexeme
lexemes_left rest = lexemes rest.more rest.text.now
