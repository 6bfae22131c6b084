-- The lines of a transcript, read by themselves.
--   line_text l            the text of a line
--   is_reply r             the numbers of the reply's line have their ranges, and its rows are rows
--   is_line l              the numbers of the line have their ranges, and its lists are as long as they must be
--   smalls_of ts           the numbers below 2^32 whose decimals are these
--   coefficients_of t      the coefficients that stand in the text with commas between them
--   commas more t          the parts of the text between commas, where more is true, and none where it is false
--   commas_left rest       the parts between commas that are left of a text
--   large_item l           the number below 2^64 that a lexeme is; command_item l the number of a command
--   space_of ls            the line of the space, after its first word
--   word_line w ls         the line that begins with this word
--   numbered_reply n v r   a reply with its number and its version
--   entry_of w s ps        the line of the entry w of the session s, after these
--   numbered_by n l ps     the line that begins with this number and this lexeme
--   numbered_line n ps     the line that begins with this number
--   line_by_lexeme l ps    the line that begins with this lexeme
--   line_from ps           the line of these pieces
--   line_of t              the line that has this text
use Rattle.std.specs.Prelude.{ℕ, ◌^◌, Bool, true, false, List, [], ◌∷◌, ◌++◌, map, codes, decimal, Option, Some, None, ◌==◌, ◌&&◌, nat_lt}
use Rattle.std.specs.List.{list_all}
use Rattle.text_lines.specs.Lines.{parts}
use Rattle.script_text.specs.Draws.{operator_text}
use Rattle.reply_text.specs.Texts.{coefficients_text}
use Rattle.reply_text.specs.Transcripts.{reply_line}
use Rattle.reply_text.specs.declared.reply.Reply.{Reply}
use Rattle.reply_text.specs.declared.transcript.ReplyLine.{ReplyLine}
use Rattle.reply_text.specs.declared.word.Word.{Word}
use Rattle.reply_text.specs.declared.word.Word.TheVariants as words
use Rattle.reply_text.specs.declared.lexeme.Lexeme.{Lexeme}
use Rattle.reply_text.specs.declared.lexeme.Lexeme.TheVariants as lexs
use Rattle.reply_text.specs.declared.lexeme.Rest.{Rest}
use Rattle.reply_text.specs.declared.line.Line.{Line}
use Rattle.reply_text.specs.declared.line.Line.TheVariants as lines
use Rattle.reply_text.specs.Lexemes.{is_small, is_lexeme, where_true, then_option, small_of, lexeme_of}
use Rattle.reply_text.specs.Wordings.{operator_lexeme, reply_lexemes, is_some_row, has_rows, number_item, operator_item, where_none, first, only, after, reply_of}

abbrev pub line_text : Line → List ℕ
line_text lines.Heading = codes "transcript 1"
line_text (lines.Space n p m) = codes "space " ++ decimal n ++ codes " " ++ decimal p ++ codes " symbols " ++ decimal m
line_text (lines.Session k) = codes "session " ++ decimal k
line_text (lines.Reply r) = reply_line r
line_text (lines.History h) = codes "history " ++ decimal h
line_text (lines.Entry w s c o fs) =
    decimal w ++ codes " s" ++ decimal s ++ codes " c" ++ decimal c ++ codes " " ++ operator_text o ++ codes " " ++ coefficients_text fs
line_text (lines.Columns k) = codes "columns " ++ decimal k
line_text lines.End = codes "end"

-- the number of the reply, its version, and each number that stands in it
abbrev pub is_reply : ReplyLine → Bool
is_reply r = is_small r.number && is_small r.version && list_all is_lexeme (reply_lexemes r.reply) && has_rows r.reply

abbrev pub is_line : Line → Bool
is_line lines.Heading = true
is_line (lines.Space n p m) = is_small n && is_small p && is_small m
is_line (lines.Session k) = is_small k
is_line (lines.Reply r) = is_reply r
is_line (lines.History h) = is_small h
is_line (lines.Entry w s c o fs) = is_small w && is_small s && is_small c && is_lexeme (operator_lexeme o) && list_all is_small fs && is_some_row fs
is_line (lines.Columns k) = nat_lt k (2 ^ 64)
is_line lines.End = true

abbrev pub smalls_of : List (List ℕ) → Option (List ℕ)
smalls_of [] = Some []
smalls_of (t ∷ ts) = then_option (small_of t) (λ n. then_option (smalls_of ts) (λ ns. Some (n ∷ ns)))

abbrev pub coefficients_of : List ℕ → Option (List ℕ)
coefficients_of text = smalls_of (parts 44 text)

abbrev pub commas : Bool → List ℕ → List (List ℕ)
commas false text = []
commas true text = parts 44 text

abbrev pub commas_left : Rest → List (List ℕ)
commas_left rest = commas rest.more rest.text.now

abbrev pub large_item : Lexeme → Option ℕ
large_item (lexs.Number n) = Some n
large_item (lexs.Large n) = Some n
large_item l = None

abbrev pub command_item : Lexeme → Option ℕ
command_item (lexs.AtCommand c) = Some c
command_item l = None

abbrev pub space_of : List Lexeme → Option Line
space_of ls =
    then_option (first number_item ls)
    (λ n. then_option (first number_item n.1)
    (λ p. then_option (after words.Symbols p.1) (λ rest. then_option (only number_item rest) (λ m. Some (lines.Space n.0 p.0 m)))))

abbrev pub word_line : Word → List Lexeme → Option Line
word_line words.Transcript ls = then_option (only number_item ls) (λ n. where_true (n == 1) lines.Heading)
word_line words.Space ls = space_of ls
word_line words.Session ls = then_option (only number_item ls) (λ k. Some (lines.Session k))
word_line words.History ls = then_option (only number_item ls) (λ h. Some (lines.History h))
word_line words.Columns ls = then_option (only large_item ls) (λ k. Some (lines.Columns k))
word_line words.End ls = where_none ls lines.End
word_line w ls = None

abbrev pub numbered_reply : ℕ → ℕ → Reply → ReplyLine
numbered_reply n v r = record { number = n; version = v; reply = r }

abbrev pub entry_of : ℕ → ℕ → List (List ℕ) → Option Line
entry_of w s (c ∷ o ∷ f ∷ []) =
    then_option (command_item (lexeme_of c))
    (λ k. then_option (operator_item (lexeme_of o)) (λ op. then_option (coefficients_of f) (λ fs. Some (lines.Entry w s k op fs))))
entry_of w s ps = None

abbrev pub numbered_by : ℕ → Lexeme → List (List ℕ) → Option Line
numbered_by n (lexs.At v) ps = then_option (reply_of (map lexeme_of ps)) (λ r. Some (lines.Reply (numbered_reply n v r)))
numbered_by n (lexs.InSession s) ps = entry_of n s ps
numbered_by n l ps = None

abbrev pub numbered_line : ℕ → List (List ℕ) → Option Line
numbered_line n [] = None
numbered_line n (p ∷ ps) = numbered_by n (lexeme_of p) ps

abbrev pub line_by_lexeme : Lexeme → List (List ℕ) → Option Line
line_by_lexeme (lexs.Word w) ps = word_line w (map lexeme_of ps)
line_by_lexeme (lexs.Number n) ps = numbered_line n ps
line_by_lexeme l ps = None

abbrev pub line_from : List (List ℕ) → Option Line
line_from [] = None
line_from (p ∷ ps) = line_by_lexeme (lexeme_of p) ps

abbrev pub line_of : List ℕ → Option Line
line_of text = line_from (parts 32 text)
