use Rattle.std.proofs.Common.{append-nil}
use Rattle.sym_io.proofs.Buffers.{BuffersText-append, AppendsPart-put, Appends-put}
use Rattle.reply_text.proofs.summary.write_parts.Goals as goal

pub returns-in_err-put_all-clause-part : goal.returns-in_err-put_all-clause-part
returns-in_err-put_all-clause-part g c =
    let put = rw c.new-buffer.ensures at c.in_err-put_all.ensures.puts in AppendsPart-put _ _ _ _ _ put

pub returns-clause-whole : goal.returns-clause-whole
returns-clause-whole g c =
    let put = rw c.new-buffer.ensures at c.in_ok-put_all.ensures.puts in
    let all = rw append-nil at (BuffersText-append _ _ _ _ _ _ _ _ _ _ put c.flush.ensures.text) in
    Appends-put _ _ _ _ _ all c.flush.ensures.empty

pub returns-clause-part : goal.returns-clause-part
returns-clause-part g c =
    let put = rw c.new-buffer.ensures at c.in_ok-put_all.ensures.puts in
    let all = rw append-nil at (BuffersText-append _ _ _ _ _ _ _ _ _ _ put c.flush.ensures.text) in
    AppendsPart-put _ _ _ _ _ all
