-- What a source and a sink over std's readers and writers rest on.
use Rattle.std.specs.Prelude.{Bool}
use Rattle.byte_io.specs.declared.std_io.FromReader.{FromReader}
use Rattle.byte_io.specs.declared.std_io.ToWriter.{ToWriter}

abbrev pub reader_of : {R : Type 0} → FromReader R → R
reader_of s = s.reader

abbrev pub reader_failed : {R : Type 0} → FromReader R → Bool
reader_failed s = s.failed

abbrev pub writer_of : {W : Type 0} → ToWriter W → W
writer_of s = s.writer

abbrev pub writer_failed : {W : Type 0} → ToWriter W → Bool
writer_failed s = s.failed
