use Rattle.reply_text.proofs.TextFormat.{one_text}
use Rattle.reply_text.proofs.transcript_reader.one_transcript_has_a_text.Goals as goal

pub returns : goal.returns
returns c = record { law = one_text }
