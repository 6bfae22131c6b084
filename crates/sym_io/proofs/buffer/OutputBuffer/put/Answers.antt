use Rattle.sym_io.proofs.Buffers.{BuffersText-passed}
use Rattle.sym_io.proofs.buffer.OutputBuffer.put.Goals as goal

pub returns-then-piece-gt-BUFFER_SIZE-clause-text : goal.returns-then-piece-gt-BUFFER_SIZE-clause-text
returns-then-piece-gt-BUFFER_SIZE-clause-text g c =
    BuffersText-passed _ _ _ _ _ _ _ _ c.in_ok-flush.ensures.text c.in_ok-flush.ensures.empty c.write_all.ensures.whole c.write_all.ensures.part
