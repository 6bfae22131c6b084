use Rattle.std.proofs.Common.{append-nil}
use Rattle.reply_text.proofs.put_reply.RefusalPut.put.Goals as goal

pub returns-in-NotCoprime-clause-puts : goal.returns-in-NotCoprime-clause-puts
returns-in-NotCoprime-clause-puts g c =
    rw c.in-NotCoprime.is (simp (append-nil, c.from-in-NotCoprime.ensures) at c.put_all-in-NotCoprime.ensures.puts)

pub returns-in-NoPart-clause-puts : goal.returns-in-NoPart-clause-puts
returns-in-NoPart-clause-puts g c = rw c.in-NoPart.is (simp (append-nil, c.from-in-NoPart.ensures) at c.put_all-in-NoPart.ensures.puts)

pub returns-in-VersionsFull-clause-puts : goal.returns-in-VersionsFull-clause-puts
returns-in-VersionsFull-clause-puts g c = rw c.in-VersionsFull.is c.put.ensures.text

pub returns-in-Relation-clause-puts : goal.returns-in-Relation-clause-puts
returns-in-Relation-clause-puts g c =
    rw c.in-Relation.is (simp (append-nil, c.from-in-Relation.ensures, c.as_slice.ensures) at c.put_all-in-Relation.ensures.puts)
