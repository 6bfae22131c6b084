use Rattle.sym_io.proofs.Buffers.{BuffersText-append}
use Rattle.reply_text.proofs.put.put_separated.Goals as goal

pub returns-in_ok-put-in-Some-clause-puts : goal.returns-in_ok-put-in-Some-clause-puts
returns-in_ok-put-in-Some-clause-puts g c =
    rw c.in-Some.ensures.cases.0 (BuffersText-append _ _ _ _ _ _ _ _ _ _ c.in_ok-put-in-Some.ensures.puts c.put_each.ensures.puts)
