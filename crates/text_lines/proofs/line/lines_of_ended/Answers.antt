use Rattle.text_lines.proofs.LineLemmas.{lines-ended}
use Rattle.text_lines.proofs.line.lines_of_ended.Goals as goal

pub returns : goal.returns
returns c = record { law = lines-ended }
