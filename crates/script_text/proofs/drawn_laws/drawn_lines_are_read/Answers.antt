use Rattle.script_text.proofs.DrawnLines.{lines-read}
use Rattle.script_text.proofs.drawn_laws.drawn_lines_are_read.Goals as goal

pub returns : goal.returns
returns c = record { law = lines-read }
