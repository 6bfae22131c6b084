-- Texts as lists of bytes: their lines, the tokens of a line, and the parts between separators.
--   parts s text            the parts of the text between the bytes s, one more than there are such bytes
--   without_empty_last ps   the parts, but for the last where it is empty
--   lines text              the lines of a text: the parts between line feeds; what stands after the last of them is a line where it isn't empty
--   without_return line     a line without the one carriage return that may stand at its end
--   is_blank b              b is a space or a tab
--   is_token piece          the piece isn't empty
--   tokens line             the parts of a line between spaces and tabs that aren't empty
--   ended ls                the text of these lines, a line feed after each
--   joined s ps             the text of these parts, a byte s between each two
--   Lacks b bytes           b is none of the bytes
--   LinesOfEnded, PartsOfJoined, JoinedParts   laws: lines and parts can be written and read back
use Rattle.std.specs.Prelude.{◌≡◌, ◌≢◌, ℕ, Bool, true, false, List, [], ◌∷◌, ◌++◌, filter, flat_map, All, ◌==◌, ◌||◌}
use Rattle.std.specs.List.{slice_split, join_with_byte}
use Rattle.std.specs.Str.Lines.{strip_carriage_return}

abbrev pub parts : ℕ → List ℕ → List (List ℕ)
parts separator text = slice_split (λ b. b == separator) text

abbrev pub without_empty_last : List (List ℕ) → List (List ℕ)
without_empty_last [] = []
without_empty_last ([] ∷ []) = []
without_empty_last (piece ∷ pieces) = piece ∷ without_empty_last pieces

abbrev pub lines : List ℕ → List (List ℕ)
lines text = without_empty_last (parts 10 text)

abbrev pub without_return : List ℕ → List ℕ
without_return line = strip_carriage_return line

abbrev pub is_blank : ℕ → Bool
is_blank b = (b == 32) || (b == 9)

abbrev pub is_token : List ℕ → Bool
is_token [] = false
is_token (b ∷ piece) = true

abbrev pub tokens : List ℕ → List (List ℕ)
tokens line = filter is_token (slice_split is_blank line)

abbrev pub ended : List (List ℕ) → List ℕ
ended ls = flat_map (λ line. line ++ 10 ∷ []) ls

abbrev pub joined : ℕ → List (List ℕ) → List ℕ
joined separator pieces = join_with_byte separator pieces

abbrev pub Lacks : ℕ → List ℕ → Type 0
Lacks b bytes = All (λ other. other ≢ b) bytes

-- lines that hold no line feed are the lines of their text
abbrev pub LinesOfEnded : Type 0
LinesOfEnded = (ls : List (List ℕ)) → All (Lacks 10) ls → lines (ended ls) ≡ ls

-- parts that hold no separator, one at least, are the parts of their text
abbrev pub PartsOfJoined : Type 0
PartsOfJoined =
    (separator : ℕ) (piece : List ℕ) (pieces : List (List ℕ)) → All (Lacks separator) (piece ∷ pieces)
    → parts separator (joined separator (piece ∷ pieces)) ≡ piece ∷ pieces

-- no byte of a text is lost in its parts
abbrev pub JoinedParts : Type 0
JoinedParts = (separator : ℕ) (text : List ℕ) → joined separator (parts separator text) ≡ text
