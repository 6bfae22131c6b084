use Rattle.sym_io.proofs.Buffers.{BuffersText-flushed}
use Rattle.sym_io.proofs.buffer.OutputBuffer.flush.Goals as goal

pub returns-clause-text : goal.returns-clause-text
returns-clause-text g c =
    BuffersText-flushed _ _ _ _ _ c.self.view_is c.in_ok-write_all.ensures.whole c.in_ok-write_all.ensures.part
