-- The rules that a transcript keeps, and the first line at which a text is that of no transcript.
--   is_space n p m         n is a level, p a characteristic of the table, and m the number of symbols of level n
--   is_written r           each number that stands in the reply is below 2^32; rows are one at least, and none is empty
--   AreNumbered n rs       the replies are numbered from n, have versions up to MAX_VERSIONS, and are written
--   replies_of ss          the number of all replies of the sessions
--   is_polynomial p fs     there are 1 to MAX_COEFFICIENTS coefficients, each below p
--   is_entry p e           the entry's numbers are below 2^32, and its polynomial is one
--   IsTranscript t         the transcript keeps all rules
--   last_line t            what stands after the last line feed, where it isn't empty
--   with_ends ps           the parts between line feeds as lines, each with whether a line feed ends it
--   text_lines bytes       the lines of a text, each with whether a line feed ends it
--   whole ls               these lines, each with a line feed
--   IsFaultyLine bytes t   line t is the first that no transcript has after those before it
use Rattle.std.specs.Prelude.{◌≡◌, ℕ, suc, ◌^◌, ◌<◌, ◌≤◌, Bool, true, false, List, [], ◌∷◌, length, map, ◌==◌, ◌&&◌, nat_le, nat_lt}
use Rattle.std.specs.List.{sum_by, list_all, AllByRecursion}
use Rattle.text_lines.specs.Lines.{parts}
use Rattle.field_table.specs.Table.{is_listed}
use Rattle.p1_normal.specs.Points.{symbols}
use Rattle.p1_normal.specs.declared.level.TheConstants.{MAX_LEVEL}
use Rattle.script_text.specs.declared.limits.TheConstants.{MAX_SESSIONS, MAX_COMMANDS}
use Rattle.op_polynomials.specs.declared.poly.TheConstants.{MAX_COEFFICIENTS}
use Rattle.op_polynomials.specs.declared.entry.SplitEntry.{SplitEntry}
use Rattle.reply_text.specs.declared.reply.Reply.{Reply}
use Rattle.reply_text.specs.declared.limits.TheConstants.{MAX_VERSIONS}
use Rattle.reply_text.specs.declared.transcript.ReplyLine.{ReplyLine}
use Rattle.reply_text.specs.declared.transcript.Transcript.{Transcript}
use Rattle.reply_text.specs.Lexemes.{is_small, is_lexeme}
use Rattle.reply_text.specs.Wordings.{operator_lexeme, reply_lexemes, has_rows}
use Rattle.reply_text.specs.Transcripts.{transcript_lines}
use Rattle.reply_text.specs.FirstBad.{IsFirstBad}

abbrev pub is_space : ℕ → ℕ → ℕ → Bool
is_space n p m = nat_le 1 n && nat_le n MAX_LEVEL && is_listed p && (m == length (symbols n))

abbrev pub is_written : Reply → Bool
is_written reply = list_all is_lexeme (reply_lexemes reply) && has_rows reply

abbrev pub AreNumbered : ℕ → List ReplyLine → Type 0
AreNumbered n [] = Unit {0}
AreNumbered n (r ∷ rs) = (r.number ≡ n) × (r.version ≤ MAX_VERSIONS) × (is_written r.reply ≡ true) × AreNumbered (suc n) rs

abbrev pub replies_of : List (List ReplyLine) → ℕ
replies_of sessions = sum_by (λ replies. length replies) sessions

abbrev pub is_polynomial : ℕ → List ℕ → Bool
is_polynomial p poly = nat_le 1 (length poly) && nat_le (length poly) MAX_COEFFICIENTS && list_all (λ x. nat_lt x p) poly

abbrev pub is_entry : ℕ → SplitEntry → Bool
is_entry p e = is_small e.session && is_small e.command && is_lexeme (operator_lexeme e.op) && is_polynomial p e.poly

pub record IsTranscript (t : Transcript) : Type 0 where
  pub space : is_space t.modulus t.characteristic t.symbols ≡ true
  pub sessions : length t.sessions ≤ MAX_SESSIONS
  pub replies : replies_of t.sessions ≤ MAX_COMMANDS
  pub numbered : AllByRecursion (AreNumbered 1) t.sessions
  pub history : length t.history ≤ MAX_VERSIONS
  pub entries : AllByRecursion (λ e. is_entry t.characteristic e ≡ true) t.history
  pub columns : t.columns < 2 ^ 64

abbrev pub last_line : List ℕ → List (List ℕ × Bool)
last_line [] = []
last_line (b ∷ line) = (b ∷ line, false) ∷ []

abbrev pub with_ends : List (List ℕ) → List (List ℕ × Bool)
with_ends [] = []
with_ends (p ∷ []) = last_line p
with_ends (p ∷ q ∷ ps) = (p, true) ∷ with_ends (q ∷ ps)

abbrev pub text_lines : List ℕ → List (List ℕ × Bool)
text_lines bytes = with_ends (parts 10 bytes)

abbrev pub whole : List (List ℕ) → List (List ℕ × Bool)
whole ls = map (λ line. (line, true)) ls

abbrev pub IsFaultyLine : List ℕ → ℕ → Type 0
IsFaultyLine bytes t = IsFirstBad IsTranscript (λ x. whole (transcript_lines x)) (text_lines bytes) t
