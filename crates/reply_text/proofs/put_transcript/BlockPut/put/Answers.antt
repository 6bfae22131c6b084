use Rattle.std.proofs.Common.{[], ◌∷◌, ◌++◌, map}
use Rattle.std.proofs.lemmas.List.Folds.{flat_map-map}
use Rattle.text_lines.specs.Lines.{ended}
use Rattle.sym_io.proofs.Buffers.{BuffersText-append, BuffersText-failed}
use Rattle.reply_text.specs.Transcripts.{reply_line}
use Rattle.reply_text.proofs.put_transcript.BlockPut.put.Goals as goal

pub returns-in_err-put_all-clause-puts : goal.returns-in_err-put_all-clause-puts
returns-in_err-put_all-clause-puts g c =
    BuffersText-failed _ _ _ _ c.put_all.new.buffer _ (ended (map reply_line c.args.self.now.replies.now)) _ c.from_residual.result
    c.from_residual.ensures.0 c.in_err-put_all.ensures.puts

pub returns-clause-puts : goal.returns-clause-puts
returns-clause-puts g c =
    let block = BuffersText-append _ _ _ _ _ _ _ _ _ _ c.in_ok-put_all.ensures.puts c.put_all-2.ensures.puts in
    rw (flat_map-map (λ line. line ++ 10 ∷ []) reply_line c.args.self.now.replies.now) block
