-- The text of the script of a number.
--   header_text d           the line that names the space of a drawing: `space N p`
--   session_texts s         the lines of a session: `session`, and that of each of its commands
--   drawing_texts d         the lines of a drawing: its header, and those of its sessions, one after another
--   generated_text seed     the text of the script of the seed: the lines of its drawing, a line feed after each
--   GeneratedTextsAreRead   this text is read as that script, to the number of each line
use Rattle.std.specs.Prelude.{◌≡◌, ℕ, List, ◌∷◌, ◌++◌, map, codes, decimal, Ok}
use Rattle.std.specs.List.{flat_map}
use Rattle.text_lines.specs.Lines.{ended}
use Rattle.script_text.specs.declared.drawn.DrawnCommand.{DrawnCommand}
use Rattle.script_text.specs.Draws.{Drawing, drawing, drawn_text, generated}
use Rattle.script_text.specs.Scripts.{script_of}

abbrev pub header_text : Drawing → List ℕ
header_text d = codes "space " ++ decimal d.level ++ codes " " ++ decimal d.characteristic

abbrev pub session_texts : List DrawnCommand → List (List ℕ)
session_texts session = codes "session" ∷ map drawn_text session

abbrev pub drawing_texts : Drawing → List (List ℕ)
drawing_texts d = header_text d ∷ flat_map session_texts d.sessions

abbrev pub generated_text : ℕ → List ℕ
generated_text seed = ended (drawing_texts (drawing seed))

abbrev pub GeneratedTextsAreRead : Type 0
GeneratedTextsAreRead = (seed : ℕ) → script_of (generated_text seed) ≡ Ok (generated seed)
