use Rattle.std.proofs.Common.{append_assoc, append-nil}
use Rattle.reply_text.proofs.put_transcript.SectionPut.put.Goals as goal

pub returns-in-Heading-clause-puts : goal.returns-in-Heading-clause-puts
returns-in-Heading-clause-puts g c =
    rw c.in-Heading.is (simp append_assoc
    (simp (append-nil, c.from.ensures, c.from-in-Heading.ensures, c.from-in-Heading-2.ensures) at c.put_all.ensures.puts))

pub returns-in-Count-clause-puts : goal.returns-in-Count-clause-puts
returns-in-Count-clause-puts g c = rw c.in-Count.is (simp append_assoc c.put_all-in-Count.ensures.puts)

pub returns-in-Closing-clause-puts : goal.returns-in-Closing-clause-puts
returns-in-Closing-clause-puts g c = rw c.in-Closing.is (simp append_assoc c.put_all-in-Closing.ensures.puts)
