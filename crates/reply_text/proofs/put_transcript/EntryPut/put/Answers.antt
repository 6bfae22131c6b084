use Rattle.std.proofs.Common.{append_assoc, append-nil}
use Rattle.reply_text.proofs.put_transcript.EntryPut.put.Goals as goal

pub returns-clause-puts : goal.returns-clause-puts
returns-clause-puts g c =
    simp append_assoc (simp (append-nil, c.from.ensures, c.from-2.ensures, c.coefficients.ensures.list) at c.put_all.ensures.puts)
