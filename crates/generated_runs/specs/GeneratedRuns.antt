-- The legal runs of a script that is made from a number.
--   is_split d              a drawn command is a split
--   drawn_splits d          how many commands of a drawing are splits
--   HasDrawnFigures d t     in a transcript of the script of a drawing all commands are answered, no reply is want of memory, there are as many
--                           versions as splits, and as many columns as distinct pairs that the commands demand
--   GeneratedScriptsFit     nothing refuses a command of a script that is made from a number
--   SumsAreFixed            the sum of the coordinates of its images is one, where no reply is want of memory
--   FiguresAreFixed         the counts are those of its drawing, where no reply is want of memory
--   SummariesAreFixed       so the summary is one: a function of the number
use Rattle.std.specs.Prelude.{◌≡◌, ℕ, Bool, true, false, length, sum_by, count_by}
use Rattle.std.specs.Set.{distinct_count}
use Rattle.script_text.specs.declared.drawn.DrawnCommand.{DrawnCommand}
use Rattle.script_text.specs.declared.drawn.DrawnCommand.TheVariants as drawn
use Rattle.script_text.specs.Draws.{Drawing, drawing, generated, script_of_drawing}
use Rattle.reply_text.specs.declared.transcript.Transcript.{Transcript}
use Rattle.reply_text.specs.Summaries.{count_replies, image_sum, is_memory, is_ok, summary_text}
use Rattle.session_core.specs.Demands.{is_pair, script_demand}
use Rattle.session_core.specs.Transcripts.{HasNoMemory, IsLegalRun, script_ground}
use Rattle.generated_runs.specs.Unrefused.{Fits}

abbrev pub is_split : DrawnCommand → Bool
is_split (drawn.Split op constant) = true
is_split command = false

abbrev pub drawn_splits : Drawing → ℕ
drawn_splits d = sum_by (λ session. count_by is_split session) d.sessions

pub record HasDrawnFigures (d : Drawing) (t : Transcript) : Type 0 where
  pub answers : count_replies is_ok t.sessions ≡ 160
  pub memory : count_replies is_memory t.sessions ≡ 0
  pub versions : length t.history ≡ drawn_splits d
  pub columns : t.columns ≡ distinct_count is_pair (script_demand (script_ground (script_of_drawing d)) (script_of_drawing d).sessions)

abbrev pub GeneratedScriptsFit : Type 0
GeneratedScriptsFit = (seed : ℕ) → Fits (generated seed)

abbrev pub SumsAreFixed : Type 0
SumsAreFixed = (seed : ℕ) (t u : Transcript) → IsLegalRun (generated seed) t → IsLegalRun (generated seed) u → HasNoMemory t → HasNoMemory u
    → image_sum seed t.sessions ≡ image_sum seed u.sessions

abbrev pub FiguresAreFixed : Type 0
FiguresAreFixed = (seed : ℕ) (t : Transcript) → IsLegalRun (generated seed) t → HasNoMemory t
    → HasDrawnFigures (drawing seed) t

abbrev pub SummariesAreFixed : Type 0
SummariesAreFixed = (seed : ℕ) (t u : Transcript) → IsLegalRun (generated seed) t → IsLegalRun (generated seed) u
    → HasNoMemory t → HasNoMemory u → summary_text seed t ≡ summary_text seed u
