use Rattle.std.proofs.Common.{append-nil}
use Rattle.reply_text.proofs.put_reply.ReplyPut.put.Goals as goal

pub returns-in-Boundary-clause-puts : goal.returns-in-Boundary-clause-puts
returns-in-Boundary-clause-puts g c = rw c.in-Boundary.is (simp (append-nil, c.as_slice-in-Boundary.ensures) at c.put_all-in-Boundary.ensures.puts)
