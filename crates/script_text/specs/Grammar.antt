-- Which lines are commands, and where a line stops being one. A line is the list of its tokens.
--   next_kind ks r       the kind of the next token, where the kinds ks are still to come and then r any number of times
--   rest ks              the kinds that come after the next token
--   fits k t             the token is of the kind, if there is one
--   follows ks r ts      each token is of the kind that stands in its place
--   begins row line      the tokens are the first of some line of this form
--   is_form row line     the tokens are a line of this form
--   form_of line         the command of whose form the line is
--   begins_none ts       no form begins with these tokens
--   grammar_fault line   the least t of 1 or more such that no form begins with the first t tokens, or their number plus 1
--                        where all of them begin a form
--   add_kind k t g       what was given, with a token of the kind, if there is one
--   gives ks r ts g      what was given, with these tokens, one after the other
--   given_by w line      what the tokens after the word give
use Rattle.std.specs.Prelude.{ℕ, ◌+◌, Bool, true, false, not, List, [], ◌∷◌, length, take, Option, Some, None, ◌&&◌, nat_lt, find, unwrap_or}
use Rattle.std.specs.List.{list_any, range_with_len}
use Rattle.std.specs.Str.{bytes_eq}
use Rattle.script_text.specs.declared.kind.Kind.{Kind}
use Rattle.script_text.specs.declared.word.Word.{Word}
use Rattle.script_text.specs.Tokens.{is_kind, Given, nothing, add}
use Rattle.script_text.specs.Rows.{Row, row, every_word}

abbrev pub next_kind : List Kind → Option Kind → Option Kind
next_kind [] repeated = repeated
next_kind (kind ∷ kinds) repeated = Some kind

abbrev pub rest : List Kind → List Kind
rest [] = []
rest (kind ∷ kinds) = kinds

abbrev pub fits : Option Kind → List ℕ → Bool
fits None token = false
fits (Some kind) token = is_kind kind token

abbrev pub follows : List Kind → Option Kind → List (List ℕ) → Bool
follows kinds repeated [] = true
follows kinds repeated (token ∷ tokens) = fits (next_kind kinds repeated) token && follows (rest kinds) repeated tokens

abbrev pub begins : Row → List (List ℕ) → Bool
begins form [] = true
begins form (token ∷ tokens) = bytes_eq token form.word && follows form.kinds form.repeated tokens

abbrev pub is_form : Row → List (List ℕ) → Bool
is_form form line = begins form line && nat_lt (length form.kinds) (length line)

abbrev pub form_of : List (List ℕ) → Option Word
form_of line = find (λ word. is_form (row word) line) every_word

abbrev pub begins_none : List (List ℕ) → Bool
begins_none tokens = not (list_any (λ word. begins (row word) tokens) every_word)

abbrev pub grammar_fault : List (List ℕ) → ℕ
grammar_fault line = unwrap_or (find (λ t. begins_none (take t line)) (range_with_len 1 (length line))) (length line + 1)

abbrev pub add_kind : Option Kind → List ℕ → Given → Given
add_kind None token g = g
add_kind (Some kind) token g = add kind token g

abbrev pub gives : List Kind → Option Kind → List (List ℕ) → Given → Given
gives kinds repeated [] g = g
gives kinds repeated (token ∷ tokens) g = gives (rest kinds) repeated tokens (add_kind (next_kind kinds repeated) token g)

abbrev pub given_by : Word → List (List ℕ) → Given
given_by word [] = nothing
given_by word (token ∷ tokens) = gives (row word).kinds (row word).repeated tokens nothing
