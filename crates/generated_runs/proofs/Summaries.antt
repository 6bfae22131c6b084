-- The summary of a legal run of the script of a drawing: its sum is that of every other, and so are its counts.
use Rattle.std.proofs.Common.{◌≡◌, ◌≢◌, ℕ, Bool, false, cond, suc, List, [], ◌∷◌, length, All, Some, None, Ok, Result, slice_get, sum_by, count_by, zip, decimal, codes, ◌++◌, refl, sym, ◌∙◌, ap, subst, arith}
use Rattle.std.specs.List.{AllZip}
use Rattle.std.proofs.lemmas.List.Elements.{All-head, All-tail, All-weaker}
use Rattle.std.proofs.lemmas.List.Sums.{sum_by-cons}
use Rattle.std.proofs.lemmas.Option.{same_Some}
use Rattle.text_lines.specs.Lines.{ended}
use Rattle.quotient_coords.specs.Quotient.{Ground}
use Rattle.op_polynomials.specs.declared.entry.SplitEntry.{SplitEntry}
use Rattle.script_text.specs.declared.command.Command.{Command}
use Rattle.script_text.specs.declared.command_fault.CommandFault.{CommandFault}
use Rattle.script_text.specs.declared.drawn.DrawnCommand.{DrawnCommand}
use Rattle.script_text.specs.declared.drawn.DrawnCommand.TheVariants as drawn
use Rattle.script_text.specs.DrawnCommands.{command_of_drawn, drawn_term}
use Rattle.script_text.specs.Draws.{Drawing, drawing, generated, script_of_drawing}
use Rattle.script_text.specs.Commands.{command_of}
use Rattle.script_text.specs.Numbered.{NumberedLine}
use Rattle.script_text.specs.Valid.{ScriptText, command_count}
use Rattle.reply_text.specs.declared.reply.Reply.{Reply}
use Rattle.reply_text.specs.declared.reply.Reply.TheVariants as replies
use Rattle.reply_text.specs.declared.transcript.ReplyLine.{ReplyLine}
use Rattle.reply_text.specs.declared.transcript.Transcript.{Transcript}
use Rattle.reply_text.specs.Rules.{replies_of}
use Rattle.reply_text.specs.Summaries.{answer_sum, coordinate_sum, count_replies, image_coordinates, image_sum, is_memory, is_ok, session_sum, summary_text}
use Rattle.session_core.specs.Transcripts.{AreReplyLines, HasNoMemory, IsAnsweredBy, IsLegalRun, IsLegalTranscript, script_ground}
use Rattle.generated_runs.specs.GeneratedRuns.{HasDrawnFigures}
use Rattle.generated_runs.specs.Unrefused.{Fits}
use Rattle.generated_runs.proofs.Answering.{all_answered}
use Rattle.generated_runs.proofs.DrawnScripts.{IsDrawn, is_drawn, commands_counted, drawing_fits, drawn_line, reads_as, splits_counted}
use Rattle.generated_runs.proofs.FixedImages.{image_fixed}
use Rattle.generated_runs.proofs.LinesAnswered.{all_there, line_of, lines_beside, lines_counted}

-- sums over two lists beside one are the same where their terms are
zip_sums : {A B : Type 0} (f : A × B → ℕ) (xs : List A) (ys zs : List B) → length ys ≡ length zs
    → ((k : ℕ) (x : A) (y z : B) → slice_get xs k ≡ Some x → slice_get ys k ≡ Some y → slice_get zs k ≡ Some z → f (x, y) ≡ f (x, z))
    → sum_by f (zip xs ys) ≡ sum_by f (zip xs zs)
zip_sums f [] ys zs same each = refl
zip_sums f (x ∷ xs) [] [] same each = refl
zip_sums f (x ∷ xs) [] (z ∷ zs) same each = absurd (omega (arith, same))
zip_sums f (x ∷ xs) (y ∷ ys) [] same each = absurd (omega (arith, same))
zip_sums f (x ∷ xs) (y ∷ ys) (z ∷ zs) same each =
    let rest : sum_by f (zip xs ys) ≡ sum_by f (zip xs zs) =
    zip_sums f xs ys zs (omega (arith, same)) (λ k a b c at there here. each (suc k) a b c at there here) in
    omega (arith, sum_by-cons f (x, y) (zip xs ys), sum_by-cons f (x, z) (zip xs zs), each 0 x y z refl refl refl, rest)

-- two lists that stand beside each other are of one length
zip_length : {A B : Type 0} (R : A → B → Type 0) (xs : List A) (ys : List B) → AllZip R xs ys → length xs ≡ length ys
zip_length R [] [] h = refl
zip_length R [] (y ∷ ys) h = absurd h
zip_length R (x ∷ xs) [] h = absurd h
zip_length R (x ∷ xs) (y ∷ ys) h = ap suc (zip_length R xs ys h.1)

-- nothing passes a test that each fails
count_none : {A : Type 0} (test : A → Bool) (xs : List A) → All (λ x. test x ≡ false) xs → count_by test xs ≡ 0
count_none test [] h = refl
count_none {A} test (x ∷ xs) h =
    let first : cond (test x) 1 0 ≡ 0 = ap {B = ℕ} (λ (b : Bool). cond b 1 0) (All-head (λ (y : A). test y ≡ false) x xs h) in
    omega (arith, sum_by-cons (λ (y : A). cond (test y) 1 0) x xs, first, count_none test xs (All-tail (λ (y : A). test y ≡ false) x xs h))

-- what is not want of memory does not count as such
no_memory : (reply : Reply) → reply ≢ replies.Memory → is_memory reply ≡ false
no_memory replies.Memory some = absurd (some refl)
no_memory reply some = refl

none_counted : (all : List (List ReplyLine)) → All (λ (told : List ReplyLine). All (λ (r : ReplyLine). r.reply ≢ replies.Memory) told) all
    → count_replies is_memory all ≡ 0
none_counted [] some = refl
none_counted (told ∷ all) some =
    let first = All-head (λ (rs : List ReplyLine). All (λ (r : ReplyLine). r.reply ≢ replies.Memory) rs) told all some in
    let none : count_by (λ (r : ReplyLine). is_memory r.reply) told ≡ 0 =
    count_none (λ (r : ReplyLine). is_memory r.reply) told (All-weaker (λ (r : ReplyLine). r.reply ≢ replies.Memory)
    (λ (r : ReplyLine). is_memory r.reply ≡ false) (λ r. no_memory r.reply) told first) in
    omega (
      arith,
      sum_by-cons (λ (rs : List ReplyLine). count_by (λ (r : ReplyLine). is_memory r.reply) rs) told all,
      none,
      none_counted all (All-tail (λ (rs : List ReplyLine). All (λ (r : ReplyLine). r.reply ≢ replies.Memory) rs) told all some),
    )

module _ (d : Drawing) (h : IsDrawn d) (t u : Transcript) (legal : IsLegalTranscript (script_of_drawing d) t)
    (other : IsLegalTranscript (script_of_drawing d) u) (some : HasNoMemory t) (more : HasNoMemory u) where
  abbrev script : ScriptText
  script = script_of_drawing d

  -- the reply to a drawn image gives one sum
  image_same : (s c : ℕ) (line : NumberedLine) (r q : ReplyLine) (command : DrawnCommand) → IsAnsweredBy script t s c line r
      → IsAnsweredBy script u s c line q → command_of line.text ≡ Ok (command_of_drawn command) → r.reply ≢ replies.Memory → q.reply ≢ replies.Memory
      → image_coordinates command r.reply ≡ image_coordinates command q.reply
  image_same s c line r q (drawn.Image n a None) x y reads m o =
      ap coordinate_sum (image_fixed script t u h.listed (drawing_fits d h) legal other s c line r q n (drawn_term a ∷ []) x y reads m o)
  image_same s c line r q (drawn.Image n a (Some b)) x y reads m o =
      ap coordinate_sum
      (image_fixed script t u h.listed (drawing_fits d h) legal other s c line r q n (drawn_term a ∷ drawn_term b ∷ []) x y reads m o)
  image_same s c line r q command x y reads m o = refl

  -- so do the replies at one place
  place_same : (s c : ℕ) (commands : List DrawnCommand) (told again : List ReplyLine) (command : DrawnCommand) (r q : ReplyLine)
      → slice_get d.sessions s ≡ Some commands → slice_get t.sessions s ≡ Some told → slice_get u.sessions s ≡ Some again
      → slice_get commands c ≡ Some command → slice_get told c ≡ Some r → slice_get again c ≡ Some q
      → image_coordinates command r.reply ≡ image_coordinates command q.reply
  place_same s c commands told again command r q at there here command_at r_at q_at =
      let (line, x) = line_of script t legal s c told r there r_at in
      let y : IsAnsweredBy script u s c line q = record {
        lines = x.lines;
        told = again;
        session = x.session;
        session_told = here;
        command = x.command;
        command_told = q_at;
      } in
      let w = drawn_line d s c x.lines line x.session x.command in
      let session : w.drawn_session ≡ commands = same_Some w.drawn_session commands (sym w.session ∙ at) in
      let same : w.drawn_command ≡ command =
      same_Some w.drawn_command command (sym w.command ∙ ap (λ (ds : List DrawnCommand). slice_get ds c) session ∙ command_at) in
      image_same s c line r q command x y
      (reads_as d h s c line.text w ∙ ap {B = Result Command CommandFault} (λ (e : DrawnCommand). Ok (command_of_drawn e)) same)
      (all_there (λ (z : ReplyLine). z.reply ≢ replies.Memory) told c r
      (all_there (λ (rs : List ReplyLine). All (λ (z : ReplyLine). z.reply ≢ replies.Memory) rs) t.sessions s told some there) r_at)
      (all_there (λ (z : ReplyLine). z.reply ≢ replies.Memory) again c q
      (all_there (λ (rs : List ReplyLine). All (λ (z : ReplyLine). z.reply ≢ replies.Memory) rs) u.sessions s again more here) q_at)

  -- so the sums are the same
  told_same : (s : ℕ) (told again : List ReplyLine) → slice_get t.sessions s ≡ Some told → slice_get u.sessions s ≡ Some again
      → length told ≡ length again
  told_same s told again there here =
      let (lines, at, counted) = lines_beside script t legal s told there in
      let (others, also, others_counted) = lines_beside script u other s again here in
      let same : lines ≡ others = same_Some lines others (sym at ∙ also) in
      counted ∙ ap (λ (ls : List NumberedLine). length ls) same ∙ sym others_counted

  pub drawn_sums : sum_by session_sum (zip d.sessions t.sessions) ≡ sum_by session_sum (zip d.sessions u.sessions)
  drawn_sums =
      zip_sums session_sum d.sessions t.sessions u.sessions
      (sym (zip_length (AreReplyLines (script_ground script) t.history) script.sessions t.sessions legal.sessions)
      ∙ zip_length (AreReplyLines (script_ground script) u.history) script.sessions u.sessions other.sessions)
      (λ s commands told again at there here.
      zip_sums answer_sum commands told again (told_same s told again there here)
      (λ c command r q. place_same s c commands told again command r q at there here))

-- as many replies as commands
sessions_replied : (g : Ground) (history : List SplitEntry) (sessions : List (List NumberedLine)) (all : List (List ReplyLine))
    → AllZip (AreReplyLines g history) sessions all → replies_of all ≡ command_count sessions
sessions_replied g history [] [] h = refl
sessions_replied g history [] (told ∷ all) h = absurd h
sessions_replied g history (lines ∷ sessions) [] h = absurd h
sessions_replied g history (lines ∷ sessions) (told ∷ all) h = omega (
  arith,
  sum_by-cons (λ (rs : List ReplyLine). length rs) told all,
  sum_by-cons (λ (ls : List NumberedLine). length ls) lines sessions,
  lines_counted g history 1 lines told h.0,
  sessions_replied g history sessions all h.1,
)

-- the counts of a run are those of the drawing
drawn_figures : (d : Drawing) → IsDrawn d → (t : Transcript) → IsLegalRun (script_of_drawing d) t → HasNoMemory t → HasDrawnFigures d t
drawn_figures d h t run some =
    let x = all_answered (script_of_drawing d) t h.listed (drawing_fits d h) run some in
    record {
      answers = x.count ∙ commands_counted d h;
      memory = none_counted t.sessions some;
      versions = x.versions ∙ splits_counted d h;
      columns = x.columns;
    }

-- a summary by its numbers
pub record Figures : Type 0 where
  pub modulus : ℕ
  pub characteristic : ℕ
  pub symbol_count : ℕ
  pub sessions : ℕ
  pub commands : ℕ
  pub answers : ℕ
  pub memory : ℕ
  pub versions : ℕ
  pub columns : ℕ
  pub total : ℕ

abbrev summary_of : ℕ → Figures → List ℕ
summary_of seed f = ended (
    (codes "generated " ++ decimal seed)
    ∷ ((codes "space " ++ decimal f.modulus ++ codes " " ++ decimal f.characteristic ++ codes " symbols " ++ decimal f.symbol_count)
    ++ codes " sessions " ++ decimal f.sessions ++ codes " commands " ++ decimal f.commands)
    ∷ (codes "ok " ++ decimal f.answers ++ codes " memory " ++ decimal f.memory ++ codes " versions " ++ decimal f.versions
    ++ codes " columns " ++ decimal f.columns)
    ∷ (codes "sum " ++ decimal f.total)
    ∷ codes "end"
    ∷ []
    )

abbrev figures_of : ℕ → Transcript → Figures
figures_of seed t = record {
  modulus = t.modulus;
  characteristic = t.characteristic;
  symbol_count = t.symbols;
  sessions = length t.sessions;
  commands = replies_of t.sessions;
  answers = count_replies is_ok t.sessions;
  memory = count_replies is_memory t.sessions;
  versions = length t.history;
  columns = t.columns;
  total = image_sum seed t.sessions;
}

summary_is : (seed : ℕ) (t : Transcript) → summary_text seed t ≡ summary_of seed (figures_of seed t)
unfolding summary_text
summary_is seed t = refl

-- the script of a number is that of its drawing
generated_is : (seed : ℕ) → generated seed ≡ script_of_drawing (drawing seed)
unfolding generated
generated_is seed = refl

drawn_run : (seed : ℕ) (t : Transcript) → IsLegalRun (generated seed) t → IsLegalRun (script_of_drawing (drawing seed)) t
drawn_run seed t run = subst (λ script. IsLegalRun script t) (generated_is seed) run

-- nothing refuses its commands
pub generated_fits : (seed : ℕ) → Fits (generated seed)
generated_fits seed = subst Fits (sym (generated_is seed)) (drawing_fits (drawing seed) (is_drawn seed))

-- the sum is one
pub sums_fixed : (seed : ℕ) (t u : Transcript) → IsLegalRun (generated seed) t → IsLegalRun (generated seed) u → HasNoMemory t → HasNoMemory u
    → image_sum seed t.sessions ≡ image_sum seed u.sessions
sums_fixed seed t u run other some more =
    drawn_sums (drawing seed) (is_drawn seed) t u (drawn_run seed t run).legal (drawn_run seed u other).legal some more

-- and the counts are
pub figures_fixed : (seed : ℕ) (t : Transcript) → IsLegalRun (generated seed) t → HasNoMemory t → HasDrawnFigures (drawing seed) t
figures_fixed seed t run some = drawn_figures (drawing seed) (is_drawn seed) t (drawn_run seed t run) some

-- so the summary is
same_figures : (d : Drawing) (seed : ℕ) (t u : Transcript) → IsLegalTranscript (script_of_drawing d) t → IsLegalTranscript (script_of_drawing d) u
    → HasDrawnFigures d t → HasDrawnFigures d u → image_sum seed t.sessions ≡ image_sum seed u.sessions → figures_of seed t ≡ figures_of seed u
same_figures d seed t u legal other x y total = λ i. record {
  modulus = (legal.modulus ∙ sym other.modulus) i;
  characteristic = (legal.characteristic ∙ sym other.characteristic) i;
  symbol_count = (legal.symbol_count ∙ sym other.symbol_count) i;
  sessions = sessions i;
  commands = commands i;
  answers = (x.answers ∙ sym y.answers) i;
  memory = (x.memory ∙ sym y.memory) i;
  versions = (x.versions ∙ sym y.versions) i;
  columns = (x.columns ∙ sym y.columns) i;
  total = total i;
}
  where
    script : ScriptText
    script = script_of_drawing d

    sessions : length t.sessions ≡ length u.sessions
    sessions = sym (zip_length (AreReplyLines (script_ground script) t.history) script.sessions t.sessions legal.sessions)
        ∙ zip_length (AreReplyLines (script_ground script) u.history) script.sessions u.sessions other.sessions

    commands : replies_of t.sessions ≡ replies_of u.sessions
    commands = sessions_replied (script_ground script) t.history script.sessions t.sessions legal.sessions
        ∙ sym (sessions_replied (script_ground script) u.history script.sessions u.sessions other.sessions)

pub summaries_fixed : (seed : ℕ) (t u : Transcript) → IsLegalRun (generated seed) t → IsLegalRun (generated seed) u → HasNoMemory t
    → HasNoMemory u → summary_text seed t ≡ summary_text seed u
summaries_fixed seed t u run other some more =
    summary_is seed t
    ∙ ap (summary_of seed) (same_figures (drawing seed) seed t u (drawn_run seed t run).legal (drawn_run seed u other).legal
    (figures_fixed seed t run some) (figures_fixed seed u other more) (sums_fixed seed t u run other some more))
    ∙ sym (summary_is seed u)
