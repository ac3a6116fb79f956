-- What contracts see of a source over a reader of std, and of a sink over a writer of std.
use Rattle.std.specs.Prelude.{ℕ}
use Rattle.mp_edge.specs.declared.std_source.StdSource.{StdSource}
use Rattle.mp_edge.specs.declared.std_sink.StdSink.{StdSink}

-- the reader
abbrev pub reader_of : {R : Type 0} → StdSource R → R
reader_of source = source.reader.reader

-- how many of its answers were errors
abbrev pub error_count : {R : Type 0} → StdSource R → ℕ
error_count source = source.reader.errors

-- how many of these were no interruptions
abbrev pub hard_error_count : {R : Type 0} → StdSource R → ℕ
hard_error_count source = source.reader.hard_errors

-- how many reads answered `Failed`
abbrev pub failed_read_count : {R : Type 0} → StdSource R → ℕ
failed_read_count source = source.failures

-- the writer
abbrev pub writer_of : {W : Type 0} → StdSink W → W
writer_of sink = sink.writer.writer

-- how many of its answers were errors, or took no byte of a piece that was not empty
abbrev pub fault_count : {W : Type 0} → StdSink W → ℕ
fault_count sink = sink.writer.faults

-- how many of these were no interruptions
abbrev pub hard_fault_count : {W : Type 0} → StdSink W → ℕ
hard_fault_count sink = sink.writer.hard_faults

-- how many writes answered `Failed`
abbrev pub failure_count : {W : Type 0} → StdSink W → ℕ
failure_count sink = sink.failures
