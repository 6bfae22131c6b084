-- The script of a drawing: each line is that of a drawn command, so nothing refuses it, and the splits are those that were drawn.
use Rattle.std.proofs.Common.{◌≡◌, ◌+◌, ◌*◌, ◌≤◌, ℕ, cond, zero, suc, List, [], ◌∷◌, length, length-append, get_or, map, All, Some, None, Ok, slice_get, sum_by, count_by, refl, sym, ◌∙◌, ap, subst, arith}
use Rattle.std.specs.List.{enumerate_from}
use Rattle.std.proofs.lemmas.List.{length-map}
use Rattle.std.proofs.lemmas.List.Elements.{All-head, All-tail}
use Rattle.std.proofs.lemmas.List.FromFn.{length-enumerate_from}
use Rattle.std.proofs.lemmas.List.Sums.{sum_by-cons}
use Rattle.std.proofs.lemmas.Option.{same_Some, slice_get-get_or}
use Rattle.field_table.specs.Table.{IsListed}
use Rattle.script_text.specs.declared.drawn.DrawnCommand.{DrawnCommand}
use Rattle.script_text.specs.declared.drawn.DrawnCommand.TheVariants as drawn
use Rattle.script_text.specs.Commands.{command_of}
use Rattle.script_text.specs.DrawnCommands.{IsDrawnAt, command_of_drawn}
use Rattle.script_text.specs.Draws.{Drawing, drawing, blocks_from, drawn_text, numbered_from, script_of_drawing}
use Rattle.script_text.specs.Numbered.{NumberedLine}
use Rattle.script_text.specs.Valid.{command_count}
use Rattle.script_text.proofs.DrawnFits.{drawings-drawn}
use Rattle.script_text.proofs.DrawnLines.{lines-read}
use Rattle.session_core.specs.Transcripts.{script_ground}
use Rattle.generated_runs.specs.GeneratedRuns.{drawn_splits, is_split}
use Rattle.generated_runs.specs.Splits.{read_operators, script_operators, session_operators, split_count, split_operator}
use Rattle.generated_runs.specs.Unrefused.{Fits, IsUnrefused}
use Rattle.generated_runs.proofs.DrawnRefusals.{unrefused_line}
use Rattle.generated_runs.proofs.LinesAnswered.{all_there}

-- what is known of the drawing of a number
pub record IsDrawn (d : Drawing) : Type 0 where
  pub least : 100 ≤ d.level
  pub most : d.level ≤ 200
  pub listed : IsListed d.characteristic
  pub four_sessions : length d.sessions ≡ 4
  pub forty_commands : All (λ (session : List DrawnCommand). length session ≡ 40) d.sessions
  pub drawn : All (λ (session : List DrawnCommand). All (IsDrawnAt d.level) session) d.sessions

pub is_drawn : (seed : ℕ) → IsDrawn (drawing seed)
is_drawn seed =
    let h = drawings-drawn seed in
    record {
      least = h.four_sessions.least;
      most = h.four_sessions.most;
      listed = h.four_sessions.listed;
      four_sessions = h.four_sessions.sessions;
      forty_commands = h.four_sessions.commands;
      drawn = h.drawn;
    }

-- the drawn command of a line
pub record DrawnLine (sessions : List (List DrawnCommand)) (s c : ℕ) (text : List ℕ) : Type 0 where
  pub drawn_session : List DrawnCommand
  pub drawn_command : DrawnCommand
  pub session : slice_get sessions s ≡ Some drawn_session
  pub command : slice_get drawn_session c ≡ Some drawn_command
  pub text_is : text ≡ drawn_text drawn_command

numbered_at : (n c : ℕ) (ds : List DrawnCommand) (line : NumberedLine) → slice_get (numbered_from n (map drawn_text ds)) c ≡ Some line
    → (d : DrawnCommand) × (slice_get ds c ≡ Some d) × (line.text ≡ drawn_text d)
numbered_at n c [] line at = absurd cc
numbered_at n zero (d ∷ ds) line at =
    (d, refl, sym (ap (λ (l : NumberedLine). l.text) (same_Some (record { line = n; text = drawn_text d }) line at)))
numbered_at n (suc c) (d ∷ ds) line at = numbered_at (n + 1) c ds line at

blocks_at : (n s : ℕ) (sessions : List (List DrawnCommand)) (lines : List NumberedLine)
    → slice_get (blocks_from n (map (map drawn_text) sessions)) s ≡ Some lines
    → (ds : List DrawnCommand) × (slice_get sessions s ≡ Some ds) × (m : ℕ) × (lines ≡ numbered_from m (map drawn_text ds))
blocks_at n s [] lines at = absurd cc
blocks_at n zero (ds ∷ sessions) lines at =
    (ds, refl, n + 1, sym (same_Some (numbered_from (n + 1) (map drawn_text ds)) lines at))
blocks_at n (suc s) (ds ∷ sessions) lines at = blocks_at (n + 1 + length (map drawn_text ds)) s sessions lines at

pub drawn_line : (d : Drawing) (s c : ℕ) (lines : List NumberedLine) (line : NumberedLine)
    → slice_get (blocks_from 2 (map (map drawn_text) d.sessions)) s ≡ Some lines → slice_get lines c ≡ Some line
    → DrawnLine d.sessions s c line.text
drawn_line d s c lines line session at =
    let (ds, there, m, is) = blocks_at 2 s d.sessions lines session in
    let (command, here, text) = numbered_at m c ds line (ap (λ (ls : List NumberedLine). slice_get ls c) (sym is) ∙ at) in
    record { drawn_session = ds; drawn_command = command; session = there; command = here; text_is = text }

-- each is drawn at the level, so its line is read
pub drawn_at : (d : Drawing) → IsDrawn d → (s c : ℕ) (text : List ℕ) → (x : DrawnLine d.sessions s c text) → IsDrawnAt d.level x.drawn_command
drawn_at d h s c text x =
    all_there (IsDrawnAt d.level) x.drawn_session c x.drawn_command
    (all_there (λ (session : List DrawnCommand). All (IsDrawnAt d.level) session) d.sessions s x.drawn_session h.drawn x.session) x.command

pub reads_as : (d : Drawing) → IsDrawn d → (s c : ℕ) (text : List ℕ) → (x : DrawnLine d.sessions s c text)
    → command_of text ≡ Ok (command_of_drawn x.drawn_command)
reads_as d h s c text x =
    ap command_of x.text_is ∙ lines-read d.level x.drawn_command (omega (arith, h.most)) (drawn_at d h s c text x)

-- as many lines as drawn commands
abbrev numbered : ℕ × List ℕ → NumberedLine
numbered line = record { line = line.0; text = line.1 }

block_length : (n : ℕ) (ds : List DrawnCommand) → length (numbered_from n (map drawn_text ds)) ≡ length ds
block_length n ds =
    length-map (enumerate_from n (map drawn_text ds)) numbered
    ∙ length-enumerate_from n (map drawn_text ds) ∙ length-map ds drawn_text

blocks_count : (n : ℕ) (sessions : List (List DrawnCommand)) → All (λ (session : List DrawnCommand). length session ≡ 40) sessions
    → command_count (blocks_from n (map (map drawn_text) sessions)) ≡ length sessions * 40
blocks_count n [] h = refl
blocks_count n (ds ∷ sessions) h = omega (
  arith,
  sum_by-cons (λ (session : List NumberedLine). length session) (numbered_from (n + 1) (map drawn_text ds))
      (blocks_from (n + 1 + length (map drawn_text ds)) (map (map drawn_text) sessions)),
  block_length (n + 1) ds,
  All-head (λ (session : List DrawnCommand). length session ≡ 40) ds sessions h,
  blocks_count (n + 1 + length (map drawn_text ds)) sessions (All-tail (λ (session : List DrawnCommand). length session ≡ 40) ds sessions h),
)

pub commands_counted : (d : Drawing) → IsDrawn d → command_count (script_of_drawing d).sessions ≡ 160
commands_counted d h = omega (arith, blocks_count 2 d.sessions h.forty_commands, h.four_sessions)

-- so the script fits
pub drawing_fits : (d : Drawing) → IsDrawn d → Fits (script_of_drawing d)
drawing_fits d h = record { few = omega (arith, commands_counted d h); unrefused = unrefused }
  where
    unrefused : All (All (λ (line : NumberedLine). IsUnrefused (script_ground (script_of_drawing d)) line.text)) (script_of_drawing d).sessions
    unrefused = λ s e within c f inside.
        let lines = get_or (script_of_drawing d).sessions s e in
        let line = get_or lines c f in
        let x = drawn_line d s c lines line (slice_get-get_or (script_of_drawing d).sessions s e within) (slice_get-get_or lines c f inside) in
        let here = drawn_at d h s c line.text x in
        subst (IsUnrefused (script_ground (script_of_drawing d))) (sym x.text_is)
        (unrefused_line (script_ground (script_of_drawing d)) x.drawn_command (omega (arith, h.least)) here
        (lines-read d.level x.drawn_command (omega (arith, h.most)) here))

-- the operators of the splits among drawn commands are as many as these
drawn_operator : (d : DrawnCommand) → length (split_operator (command_of_drawn d)) ≡ cond (is_split d) 1 0
drawn_operator (drawn.Normal v) = refl
drawn_operator (drawn.Reduce a b) = refl
drawn_operator (drawn.Image n a None) = refl
drawn_operator (drawn.Image n a (Some b)) = refl
drawn_operator (drawn.Star t) = refl
drawn_operator (drawn.Boundary a b) = refl
drawn_operator drawn.Show = refl
drawn_operator (drawn.Split op constant) = refl

line_splits : (N : ℕ) (d : DrawnCommand) → N ≤ 1000 → IsDrawnAt N d
    → length (read_operators split_operator (command_of (drawn_text d))) ≡ cond (is_split d) 1 0
line_splits N d most h = ap (λ reading. length (read_operators split_operator reading)) (lines-read N d most h) ∙ drawn_operator d

session_splits : (N n : ℕ) (ds : List DrawnCommand) → N ≤ 1000 → All (IsDrawnAt N) ds
    → length (session_operators split_operator (numbered_from n (map drawn_text ds))) ≡ count_by is_split ds
session_splits N n [] most h = refl
session_splits N n (d ∷ ds) most h = omega (
  arith,
  length-append (read_operators split_operator (command_of (drawn_text d)))
      (session_operators split_operator (numbered_from (n + 1) (map drawn_text ds))),
  sum_by-cons (λ (x : DrawnCommand). cond (is_split x) 1 0) d ds,
  line_splits N d most (All-head (IsDrawnAt N) d ds h),
  session_splits N (n + 1) ds most (All-tail (IsDrawnAt N) d ds h),
)

blocks_splits : (N n : ℕ) (sessions : List (List DrawnCommand)) → N ≤ 1000 → All (λ (session : List DrawnCommand). All (IsDrawnAt N) session) sessions
    → split_count (blocks_from n (map (map drawn_text) sessions)) ≡ sum_by (λ (session : List DrawnCommand). count_by is_split session) sessions
blocks_splits N n [] most h = refl
blocks_splits N n (ds ∷ sessions) most h =
    let rest = blocks_from (n + 1 + length (map drawn_text ds)) (map (map drawn_text) sessions) in
    omega (
      arith,
      length-append (session_operators split_operator (numbered_from (n + 1) (map drawn_text ds))) (script_operators split_operator rest),
      sum_by-cons (λ (session : List DrawnCommand). count_by is_split session) ds sessions,
      session_splits N (n + 1) ds most (All-head (λ (session : List DrawnCommand). All (IsDrawnAt N) session) ds sessions h),
      blocks_splits N (n + 1 + length (map drawn_text ds)) sessions most
          (All-tail (λ (session : List DrawnCommand). All (IsDrawnAt N) session) ds sessions h),
    )

pub splits_counted : (d : Drawing) → IsDrawn d
    → split_count (script_of_drawing d).sessions ≡ drawn_splits d
splits_counted d h = blocks_splits d.level 2 d.sessions (omega (arith, h.most)) h.drawn
