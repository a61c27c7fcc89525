-- What contracts see of a source over a reader, of a sink over a writer and of the files of the system.
use Rattle.std.specs.Prelude.{ℕ}
use Rattle.reg_base.specs.declared.disk.DiskFiles.{DiskFiles}
use Rattle.reg_base.specs.declared.streams.StdSink.{StdSink}
use Rattle.reg_base.specs.declared.streams.StdSource.{StdSource}

-- the reader below a source, and how many of its reads failed
abbrev pub reader_of : {R : Type 0} → StdSource R → R
reader_of s = s.reader

-- how often reading failed so far
abbrev pub failed_reads : {R : Type 0} → StdSource R → ℕ
failed_reads s = s.faults

-- the writer below a sink, and how many writes failed
abbrev pub writer_of : {W : Type 0} → StdSink W → W
writer_of s = s.writer

-- how often writing failed so far
abbrev pub failed_writes : {W : Type 0} → StdSink W → ℕ
failed_writes s = s.faults

-- how often a file of the system could not be read
abbrev pub failed_files : {R : Type 0} → DiskFiles R → ℕ
failed_files s = s.faults
