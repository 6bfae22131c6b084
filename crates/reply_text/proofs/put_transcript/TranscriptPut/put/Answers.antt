use Rattle.reply_text.proofs.LineLemmas.{transcript_text-sections}
use Rattle.reply_text.proofs.put_transcript.TranscriptPut.put.Goals as goal

pub returns-clause-puts : goal.returns-clause-puts
returns-clause-puts g c = rw transcript_text-sections (rw c.as_slice.ensures at c.put_all.ensures.puts)
