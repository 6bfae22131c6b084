-- What a contract sees of the adapters over std's readers and writers.
--   source_inner, sink_inner     the reader or the writer that is wrapped
--   source_faults, sink_faults   how many of the adapter's calls have failed
use Rattle.std.specs.Prelude.{ℕ}
use Rattle.sym_io.specs.declared.source.ReaderSource.{ReaderSource}
use Rattle.sym_io.specs.declared.sink.WriterSink.{WriterSink}

abbrev pub source_inner : {R : Type 0} → ReaderSource R → R
source_inner source = source.inner

abbrev pub source_faults : {R : Type 0} → ReaderSource R → ℕ
source_faults source = source.faults

abbrev pub sink_inner : {W : Type 0} → WriterSink W → W
sink_inner sink = sink.inner

abbrev pub sink_faults : {W : Type 0} → WriterSink W → ℕ
sink_faults sink = sink.faults
