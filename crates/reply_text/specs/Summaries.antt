-- The summary of a transcript of the script that is made from a number, as the list of its lines.
--   is_ok r                 the reply begins with ok
--   is_memory r             it is want of memory
--   count_replies test ss   how many replies of all sessions pass the test
--   coordinate_sum r        the sum of the coordinates that a reply gives; 0, where it gives none
--   image_coordinates d r   this sum for the reply to a drawn command that asks for an image; 0 for another command
--   answer_sum a            the same for the drawn command a.0, and its reply line a.1
--   session_sum s           the sum of these over a session of the drawn commands s.0 and the reply lines s.1, place by place
--   image_sum seed ss       the sum of these over the sessions of the drawing of the seed and those of a transcript, place by place
--   counts_line t           how many replies begin with ok and how many are want of memory, and how many versions and columns there are
--   summary_lines seed t    all lines
--   summary_text seed t     the text: a line feed ends each line
use Rattle.std.specs.Prelude.{ℕ, Bool, true, false, List, [], ◌∷◌, ◌++◌, length, sum, sum_by, count_by, codes, decimal}
use Rattle.std.specs.List.{zip}
use Rattle.text_lines.specs.Lines.{ended}
use Rattle.script_text.specs.declared.drawn.DrawnCommand.{DrawnCommand}
use Rattle.script_text.specs.declared.drawn.DrawnCommand.TheVariants as drawn
use Rattle.script_text.specs.Draws.{drawing}
use Rattle.reply_text.specs.declared.reply.Reply.{Reply}
use Rattle.reply_text.specs.declared.reply.Reply.TheVariants as replies
use Rattle.reply_text.specs.declared.transcript.ReplyLine.{ReplyLine}
use Rattle.reply_text.specs.declared.transcript.Transcript.{Transcript}
use Rattle.reply_text.specs.Rules.{replies_of}
use Rattle.reply_text.specs.Transcripts.{space_line}

abbrev pub is_ok : Reply → Bool
is_ok (replies.Refused refusal) = false
is_ok replies.Memory = false
is_ok reply = true

abbrev pub is_memory : Reply → Bool
is_memory replies.Memory = true
is_memory reply = false

abbrev pub count_replies : (Reply → Bool) → List (List ReplyLine) → ℕ
count_replies test sessions = sum_by (λ told. count_by (λ r. test r.reply) told) sessions

abbrev pub coordinate_sum : Reply → ℕ
coordinate_sum (replies.Coords values) = sum values
coordinate_sum reply = 0

abbrev pub image_coordinates : DrawnCommand → Reply → ℕ
image_coordinates (drawn.Image n first second) reply = coordinate_sum reply
image_coordinates command reply = 0

abbrev pub answer_sum : DrawnCommand × ReplyLine → ℕ
answer_sum answer = image_coordinates answer.0 answer.1.reply

abbrev pub session_sum : List DrawnCommand × List ReplyLine → ℕ
session_sum session = sum_by answer_sum (zip session.0 session.1)

abbrev pub image_sum : ℕ → List (List ReplyLine) → ℕ
image_sum seed sessions = sum_by session_sum (zip (drawing seed).sessions sessions)

abbrev pub counts_line : Transcript → List ℕ
counts_line t =
    codes "ok " ++ decimal (count_replies is_ok t.sessions) ++ codes " memory " ++ decimal (count_replies is_memory t.sessions)
    ++ codes " versions " ++ decimal (length t.history) ++ codes " columns " ++ decimal t.columns

abbrev pub summary_lines : ℕ → Transcript → List (List ℕ)
summary_lines seed t =
    (codes "generated " ++ decimal seed)
    ∷ (space_line t ++ codes " sessions " ++ decimal (length t.sessions) ++ codes " commands " ++ decimal (replies_of t.sessions))
    ∷ counts_line t
    ∷ (codes "sum " ++ decimal (image_sum seed t.sessions))
    ∷ codes "end"
    ∷ []

unfoldable pub summary_text : ℕ → Transcript → List ℕ
summary_text seed t = ended (summary_lines seed t)
