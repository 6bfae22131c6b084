use Rattle.std.proofs.lemmas.List.Splits.{join_with_byte-slice_split}
use Rattle.text_lines.proofs.part.joined_parts.Goals as goal

pub returns : goal.returns
returns c = record { law = join_with_byte-slice_split }
