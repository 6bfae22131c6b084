use Rattle.std.proofs.Common.{[], ◌∷◌, append_assoc}
use Rattle.sym_io.proofs.Buffers.{BuffersText-append, BuffersText-failed}
use Rattle.reply_text.specs.Texts.{reply_text}
use Rattle.reply_text.proofs.put_transcript.ReplyLinePut.put.Goals as goal

pub returns-in_err-put_all-clause-puts : goal.returns-in_err-put_all-clause-puts
returns-in_err-put_all-clause-puts g c =
    let failed = c.from_residual.ensures.0 in
    let line = BuffersText-failed _ _ _ _ [] _ (reply_text c.args.self.now.reply) _ c.from_residual.result failed c.in_err-put_all.ensures.puts in
    let all = BuffersText-failed _ _ _ _ c.put_all.new.buffer _ (10 ∷ []) _ c.from_residual.result failed line in
    simp append_assoc (simp (append_assoc, c.from.ensures, c.from-2.ensures) at all)

pub returns-in_err-put-clause-puts : goal.returns-in_err-put-clause-puts
returns-in_err-put-clause-puts g c =
    let line = BuffersText-append _ _ _ _ _ _ _ _ _ _ c.in_ok-put_all.ensures.puts c.in_err-put.ensures.puts in
    let failed = c.from_residual-in_err-put.ensures.0 in
    let all = BuffersText-failed _ _ _ _ c.put.new.buffer _ (10 ∷ []) _ c.from_residual-in_err-put.result failed line in
    simp append_assoc (simp (append_assoc, c.from.ensures, c.from-2.ensures) at all)

pub returns-clause-puts : goal.returns-clause-puts
returns-clause-puts g c =
    let line = BuffersText-append _ _ _ _ _ _ _ _ _ _ c.in_ok-put_all.ensures.puts c.in_ok-put.ensures.puts in
    let all = BuffersText-append _ _ _ _ _ _ _ _ _ _ line c.put-2.ensures.text in
    simp append_assoc (simp (append_assoc, c.from.ensures, c.from-2.ensures) at all)
