use Rattle.text_lines.proofs.PartLemmas.{parts-joined}
use Rattle.text_lines.proofs.part.parts_of_joined.Goals as goal

pub returns : goal.returns
returns c = record { law = parts-joined }
